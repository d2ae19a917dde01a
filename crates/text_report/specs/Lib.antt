pub mod Total
pub mod Text
