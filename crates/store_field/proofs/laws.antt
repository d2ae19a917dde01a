pub mod Cut
pub mod Sizes
