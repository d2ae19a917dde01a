-- The tree path between two modules and its worst link, modules within some branches of one: definitions, claims, laws. Main results: `path-claim`,
-- `turned-claim`, `room-claim`, `near-claim` (laws/Claims), what they are good for (laws/Uses, laws/Calls), paths link by link (laws/Steps).
pub mod Between
pub mod Near
pub mod Claims
