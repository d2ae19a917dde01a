-- A preview of a step, as a definition, and what is claimed of it.
pub mod Preview
pub mod Claim
