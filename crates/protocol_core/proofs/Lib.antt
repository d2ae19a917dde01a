-- The steps of a Report or Change-root that is taken, which keep the invariant. Main results: `inv-child-report`, `inv-core-nothing`, `inv-core-halt`,
-- `inv-decide`, `inv-change-root`; the earlier of the core's two best weights bounds the fragment (`bound`).
pub mod Late
pub mod Core
pub mod CoreNothing
pub mod ChildReport
pub mod Ruling
pub mod Rule
pub mod Ready
pub mod Rooted
pub mod CoreLater
pub mod Decide
pub mod ChangeRoot
pub mod CoreHalt
