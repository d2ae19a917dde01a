pub mod Six
pub mod Frame
pub mod RoundTrip
pub mod Samples
