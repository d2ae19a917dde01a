pub mod Text
pub mod Fits
pub mod Samples
