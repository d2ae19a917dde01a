-- The list that a loop over the records has written so far.
pub mod Written
