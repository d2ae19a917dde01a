-- What the calls on a store answer, as results.
pub mod Found
