-- A record's layout read back, both ways: the places of a field's numbers, pouring, a field, its words, a record; a field from setup stays tidy.
pub mod Pour
pub mod Places
pub mod Alike
pub mod Words
pub mod FieldBytes
pub mod Written
pub mod Fitting
pub mod ReadBack
pub mod Tidy
