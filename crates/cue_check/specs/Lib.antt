-- 71 and 73 as code decides them.
pub mod Bytes
