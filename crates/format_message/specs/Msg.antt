-- A message between neighbours, one constructor for each kind of document 01.
use Rattle.std.specs.Prelude.{ℕ}
pub use Rattle.base.specs.None.{none}

pub data Msg : Type 0 where
  -- level
  connect : ℕ → Msg
  -- level, identity (the fragment's core edge), 1 for Find or 0 for Found
  initiate : ℕ → ℕ → ℕ → Msg
  -- level, identity
  test : ℕ → ℕ → Msg
  accept : Msg
  reject : Msg
  -- best weight: an edge or none
  report : ℕ → Msg
  -- Change-root
  change : Msg
