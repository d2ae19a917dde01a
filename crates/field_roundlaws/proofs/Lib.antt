pub mod Steady
pub mod Progress
pub mod Calm
pub mod Handing
pub mod Serving
pub mod Rest
pub mod Awake
pub mod Reduce
