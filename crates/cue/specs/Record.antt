-- The cue records: "one for each module: heard or not, the cue, the link it came by (none at the sender), the hops from the sender".
use Rattle.std.specs.Prelude.{ℕ, ◌+◌, Bool, ◌&&◌, List, ◌++◌, get_or, set, replicate, drop, eqb}
use Rattle.base.specs.None.{none}
use Rattle.cue.specs.declared.Cue.{Cue}

-- "a module that has not heard has zeros and none"
abbrev pub unheard : Cue
unheard = record { heard = 0; cue = 0; link = none; hops = 0 }

-- module v's record
abbrev pub record_of : List Cue → ℕ → Cue
record_of cues v = get_or cues v unheard

-- "heard or not", as 1 or 0
abbrev pub has_heard : Cue → Bool
has_heard c = eqb c.heard 1

-- the sender's record
abbrev pub sender_record : ℕ → Cue
sender_record cue = record { heard = 1; cue = cue; link = none; hops = 0 }

-- the record of a module that hears over link k, from a module with record u
abbrev pub heard_record : Cue → ℕ → Cue
heard_record u k = record { heard = 1; cue = u.cue; link = k; hops = u.hops + 1 }

-- the four values are the same
abbrev pub alike : Cue → Cue → Bool
alike a b = eqb a.heard b.heard && eqb a.cue b.cue && eqb a.link b.link && eqb a.hops b.hops

-- "Starting a cue writes the first N records afresh; records past N always keep."
abbrev pub begun_cues : ℕ → ℕ → ℕ → List Cue → List Cue
begun_cues n sender cue cues = set (replicate n unheard ++ drop n cues) sender (sender_record cue)
