pub mod Layout
pub mod Reading
pub mod Writing
pub mod laws
