-- The steps of a wakeup and of procedure change-root, which keep the invariant. Main results: `inv-wake-half`, `inv-wake-merge`, `inv-root-branch`,
-- `inv-root-half`, `inv-root-merge`; an edge that becomes a Branch is in the tree (`leave-tree`).
pub mod Turn
pub mod Move
pub mod Pass
pub mod Leave
pub mod Half
pub mod RootBranch
pub mod Unite
pub mod MergeTables
pub mod MergeTraffic
pub mod Merge
pub mod WakeRoot
