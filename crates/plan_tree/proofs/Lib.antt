pub mod laws
pub mod Offers
pub mod Joins
