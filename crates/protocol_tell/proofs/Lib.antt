-- The steps that send or take an Initiate, which keep the invariant. Main results: `inv-absorb`, `inv-core-reply`, `inv-tell`.
pub mod Laws
pub mod Reply
pub mod CoreMarks
pub mod CoreReply
pub mod AbsorbGuards
pub mod Sunk
pub mod AbsorbTables
pub mod Absorb
pub mod Heard
pub mod TellTables
pub mod TellReports
pub mod Tell
