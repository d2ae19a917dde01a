pub mod Laid
pub mod Hands
