-- Demand 3 proved. Main results: `demand3`; a step keeps a field good and is not refused by 32 or 33 (`step-fine`), where all is blocked nothing waits
-- (`stuck-none`), branches are tree links (`branch-tree`); at rest each part with a module awake agrees (`agreed`), and a part
-- with nobody awake is as at setup (`as-at-setup`).
pub mod Good
pub mod Fine
pub mod Steps
pub mod Back
pub mod Rest
pub mod Core
pub mod Agree
pub mod Sleeping
pub mod Asleep
pub mod Demand
pub mod OnePart
