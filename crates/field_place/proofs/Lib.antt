pub mod Words
pub mod Copies
pub mod Puts
pub mod Turns
