pub mod Checked
pub mod Ready
