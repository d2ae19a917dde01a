-- Cues over the finished tree, as definitions: the records, which copies wait, the two calls with 71 to 73, what is claimed of them.
pub mod Record
pub mod Copies
pub mod Calls
pub mod Follow
pub mod Claims
pub mod Delivery
