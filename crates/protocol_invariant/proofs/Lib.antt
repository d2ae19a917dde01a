-- All small steps together: the invariant and the budget after every sequence of them from setup. Main results: `inv-step`, `from-setup`; what is sent
-- stays within the ceiling (`reach-ceiling`), a Branch is in the tree (`reach-tree`), no condition of 32 is met (`unrefused`).
pub mod Step
pub mod Safe
pub mod Within
pub mod Reach
