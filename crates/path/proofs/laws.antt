pub mod Equations
pub mod Outcomes
pub mod Steps
pub mod Marks
pub mod Claims
pub mod Uses
pub mod Calls
pub mod Samples
