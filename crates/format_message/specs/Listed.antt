-- The listed messages: the header bytes and carried numbers that document 01 admits, and the messages that they mean.
use Rattle.std.specs.Prelude.{ℕ, ◌<◌, ◌≡◌, ◌⊎◌, Bool, false, cond, ◌&&◌, ◌||◌, eqb, ltb}
use Rattle.base.specs.Limits.{max_links}
use Rattle.format_message.specs.Msg.{none, Msg, connect, initiate, test, accept, reject, report, change}
use Rattle.format_message.specs.Header.{kind_at, level_at, find_at}

-- "Carried numbers are below 600"
abbrev pub is_link : ℕ → Bool
is_link carried = ltb carried max_links

-- "unused parts are 0, an unused carried number none": a message that is its kind alone
unfoldable pub bare : ℕ → ℕ → ℕ → Bool
bare level carried find = eqb level 0 && eqb find 0 && eqb carried none

-- "Kinds: 1 Connect (any level), 2 Initiate (level 1 to 7, identity, Find bit), 3 Test (level 1 to 7, identity), 4 Accept, 5 Reject,
-- 6 Report (a link or none), 7 Change-root."
unfoldable pub listed_as : ℕ → ℕ → ℕ → ℕ → Bool
listed_as kind level carried find =
    cond (eqb kind 1) (eqb find 0 && eqb carried none)
    (cond (eqb kind 2) (ltb 0 level && is_link carried)
    (cond (eqb kind 3) (ltb 0 level && eqb find 0 && is_link carried)
    (cond (eqb kind 4) (bare level carried find)
    (cond (eqb kind 5) (bare level carried find)
    (cond (eqb kind 6) (eqb level 0 && eqb find 0 && (is_link carried || eqb carried none))
    (cond (eqb kind 7) (bare level carried find) false))))))

-- a header byte (bit 7 is 0) and a carried number that are listed
unfoldable pub listed : ℕ → ℕ → Bool
listed header carried = ltb header 128 && listed_as (kind_at header) (level_at header) carried (find_at header)

-- the same list, told of messages: their parts are within document 01's ranges
abbrev pub Listed : Msg → Type 0
Listed (connect l) = l < 8
Listed (initiate l i f) = (0 < l) × (l < 8) × (i < max_links) × (f < 2)
Listed (test l i) = (0 < l) × (l < 8) × (i < max_links)
Listed accept = Unit {0}
Listed reject = Unit {0}
Listed (report w) = (w < max_links) ⊎ (w ≡ none)
Listed change = Unit {0}
