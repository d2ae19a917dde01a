-- Laws of a store's records: the walk, where a record stands, names, and what a store that passes is.
pub mod Walk
pub mod Spots
pub mod Named
pub mod Fit
