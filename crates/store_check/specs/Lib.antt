-- What has been seen of a record while it is read and checked, and laws of records that pass.
pub mod Seen
