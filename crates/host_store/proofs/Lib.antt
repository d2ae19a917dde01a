pub mod Saves
pub mod Finds
pub mod Restores
