-- The bridge: a wakeup and a response to a channel's first message are sequences of small steps, or a put-back. Main results: `wakes-bridge`,
-- `respond-bridge`; so 32 and 33 never come (`never-32`, `after-fits`).
pub mod Real
pub mod Place
pub mod Own
pub mod Copies
pub mod Fin
pub mod Finish
pub mod Wake
pub mod ConnectCases
pub mod Connect
pub mod Initiate
pub mod TestCases
pub mod Test
pub mod Report
pub mod Bridge
pub mod Reached
