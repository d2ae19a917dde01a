-- What is claimed of stores, proved: one layout, what a taken save leaves, any sequence of saves, what a restore comes back to, a console's rehearsals; what the
-- claims alone tell.
pub mod OneLayout
pub mod Saves
pub mod Needed
pub mod Sequence
pub mod Outcomes
pub mod Back
pub mod Rehearsed
pub mod Uses
