pub mod Schedule
pub mod Samples
pub mod Allowed
pub mod Banks
pub mod Parts
