-- What a delivery answers, as C has it.
pub mod Answered
