pub mod Holds
pub mod Words
pub mod Ready
pub mod CarriedOut
pub mod Turns
pub mod Going
pub mod Call
