-- The protocol as a transition system: its state with ghosts, 24 small steps, the invariant clause by clause, and what the crates of the steps share.
-- Main results: the invariant holds at setup (`inv-setup`); what a step of the search carries over (`inv-search`, `flow-take`, `flow-post`, `inv-weighed`).
pub mod Network
pub mod State
pub mod Step
pub mod Run
pub mod Kind
pub mod Chan
pub mod Notion
pub mod Fragments
pub mod Decisions
pub mod Search
pub mod Traffic
pub mod Inv
