pub mod Turns
pub mod Call
