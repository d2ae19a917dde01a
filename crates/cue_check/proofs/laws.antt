pub mod Bytes
pub mod Right
pub mod Within
pub mod Pass
