pub mod Follow
pub mod Chain
pub mod Step
pub mod Claim
pub mod Uses
pub mod Samples
