pub mod Total
pub mod Text
pub mod Fits
