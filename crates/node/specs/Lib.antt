pub mod Work
pub mod Rules
