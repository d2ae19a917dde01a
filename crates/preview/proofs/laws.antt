pub mod Outcomes
pub mod Claim
pub mod Read
pub mod Most
pub mod Samples
