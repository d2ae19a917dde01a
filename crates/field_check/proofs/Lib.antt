pub mod Words
pub mod Degrees
pub mod Outcomes
pub mod Admitted
pub mod Ready
