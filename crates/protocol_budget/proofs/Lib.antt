-- The message budget: every small step pays for what it sends, and so no more is sent than the ceiling. Main results: `paid-step`, `lone-step`;
-- `paid-low`, `sent-ceiling`.
pub mod Paid
pub mod Height
pub mod Still
pub mod AcceptTest
pub mod RejectTest
pub mod Again
pub mod TestNext
pub mod Report
pub mod Half
pub mod Raise
pub mod Absorb
pub mod Pick
pub mod Tell
pub mod Steps
pub mod Ceiling
