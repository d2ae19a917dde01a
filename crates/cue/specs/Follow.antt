-- Copies followed one by one: a channel for each directed link, in which the copies under way stand in the order of their sending. A copy
-- carries its sender's record. Here a module that gets a copy hears it, whether or not it has heard before: that none does twice is a theorem.
use Rattle.std.specs.Prelude.{ℕ, ◌*◌, cond, not, ◌&&◌, List, [], ◌∷◌, ◌++◌, set, eqb, ltb}
use Rattle.base.specs.None.{none}
use Rattle.base.specs.Cond.{upd}
use Rattle.plan.specs.Links.{Plan, modules_of, links_of}
use Rattle.plan_tree.specs.Tree.{tree_link}
use Rattle.field.specs.Edges.{link_of, from, dest}
use Rattle.cue.specs.declared.Cue.{Cue}
use Rattle.cue.specs.Record.{sender_record, heard_record, begun_cues}

pub record Followed : Type 0 where
  pub cues : List Cue
  pub channel : ℕ → List Cue

-- "a module passes a copy to each branch but the one it came by": module v, by link k, its record c
unfoldable pub passes_on : Plan → ℕ → ℕ → Cue → (ℕ → List Cue) → ℕ → List Cue
passes_on p v k c channel d =
    cond (ltb d (2 * links_of p) && (eqb (from p d) v && (tree_link p (link_of d) && not (eqb (link_of d) k))))
    (channel d ++ (c ∷ []))
    (channel d)

-- module v hears: its record becomes c, and it passes copies on
abbrev pub heard_at : Plan → ℕ → Cue → Followed → Followed
heard_at p v c x = record { cues = set x.cues v c; channel = passes_on p v c.link c x.channel }

-- a start: nothing is under way but what the sender passes
abbrev pub follow_start : Plan → List Cue → ℕ → ℕ → Followed
follow_start p lent sender cue =
    record { cues = begun_cues (modules_of p) sender cue lent; channel = passes_on p sender none (sender_record cue) (λ d. []) }

-- the first copy of channel d arrives, if there is one: l is what the channel holds
unfoldable pub arrives : Plan → ℕ → Followed → List Cue → Followed
arrives p d x [] = x
arrives p d x (c ∷ l) =
    heard_at p (dest p d) (heard_record c (link_of d)) (record { cues = x.cues; channel = upd x.channel d l })

-- deliveries, one after the other
unfoldable pub follow : Plan → List ℕ → Followed → Followed
follow p [] x = x
follow p (d ∷ ds) x = follow p ds (arrives p d x (x.channel d))
