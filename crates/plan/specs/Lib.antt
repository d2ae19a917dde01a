pub mod Links
pub mod Keys
pub mod Weights
pub mod Refusal
pub mod Same
pub mod Trimmed
