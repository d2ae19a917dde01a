pub mod laws
pub mod Lemmas
