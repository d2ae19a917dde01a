pub mod Dispatch
pub mod Alone
