pub mod Ends
pub mod Parts
