-- A stuck state is finished: where every message would be put back, none waits and each part with an awake node has its tree. Main results:
-- `stuck-finished`, `rest-finished`.
pub mod Stuck
pub mod Informed
pub mod Waiting
pub mod Finished
pub mod Rest
pub mod Outcome
pub mod Parts
