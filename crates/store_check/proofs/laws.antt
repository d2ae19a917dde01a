pub mod Fitting
pub mod Zeros
