pub mod Reach
pub mod FirstLinks
pub mod Branch
pub mod Passes
pub mod Levels
