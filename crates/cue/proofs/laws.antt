pub mod Record
pub mod Copies
pub mod Rule
pub mod Refusals
pub mod Calls
pub mod Follow
pub mod Claims
pub mod Samples
