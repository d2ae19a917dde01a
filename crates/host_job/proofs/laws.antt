pub mod Wakes
pub mod Job
pub mod Held
pub mod Outcome
pub mod Agrees
