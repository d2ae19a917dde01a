-- Theorems about cues over the finished tree. Main results: `cue-claim` and `exact-73` (Cue). On the way: no module hears twice (Once), the rule of 73 (Rule,
-- GoodLeft, Exact), hops (HopsBelow, Paths), counts and liveness (AllHeard, Counts, Part, Trail, Spread), copies followed one by one (Follow).
pub mod Net
pub mod NetOf
pub mod Good
pub mod Once
pub mod Rule
pub mod GoodHops
pub mod HopsBelow
pub mod Told
pub mod Route
pub mod Paths
pub mod Joined
pub mod AllHeard
pub mod Counts
pub mod Part
pub mod Trail
pub mod Order
pub mod Spread
pub mod Restrict
pub mod GoodLeft
pub mod Deliveries
pub mod Waiting
pub mod Follow
pub mod Exact
pub mod Cue
pub mod ByPath
pub mod NearHops
