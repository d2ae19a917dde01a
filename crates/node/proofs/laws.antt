pub mod Values
pub mod Table
pub mod Samples
pub mod Rules
pub mod First
pub mod Count
pub mod Sends
pub mod Waking
