pub mod Forest
pub mod Phase
