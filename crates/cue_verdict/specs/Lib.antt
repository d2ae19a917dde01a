-- The verdict of a start and of a delivery, before a record is written.
pub mod Verdict
