-- What the search keeps in its arrays: branches, hops, links; the laws of its passes.
pub mod Spread
