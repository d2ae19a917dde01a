-- A field as a state of the protocol. Main results: its tables (`view`), what a hand-over and a put-back do to its channels (`chans-hand`,
-- `chans-back`), a response placed (`view-woken`, `view-taken`, `view-back`), and setup (`view-start`).
pub mod Net
pub mod View
pub mod Chans
pub mod Placed
pub mod Start
