pub mod Shows
pub mod Steps
