pub mod laws
pub mod Ends
pub mod Runs
pub mod Standing
pub mod Starts
pub mod Taken
pub mod Bytes
pub mod Record
