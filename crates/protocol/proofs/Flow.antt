-- Eight clauses on channels together: those that read neither test edges, nor best edges, nor what is open.
-- A step of the search carries them over as a whole, by what it does to the channels and tables (`flow-take`, `flow-post`, `flow-open`), and so keeps the
-- invariant (`inv-search`, `inv-asking`, `inv-passing`).
use Rattle.std.specs.Prelude.{ℕ, List}
use Rattle.format_message.specs.Msg.{Msg}
use Rattle.protocol.specs.Network.{Network}
use Rattle.protocol.specs.State.{ProtocolState, set-te, set-mark, set-ch, set-ot, set-op}
use Rattle.protocol.specs.Fragments.{Ranges, Cores, Sleepers, Markings, Inbounds}
use Rattle.protocol.specs.Decisions.{Halves, ChangeRoots, Rootings, Finishes}
use Rattle.protocol.specs.Search.{Kids, Pending, Tests}
use Rattle.protocol.specs.Traffic.{Hush, Tokens, Connects, Initiates, Telling, Testing, Answers, Reports, Owing, Bests, Ordered}
use Rattle.protocol.specs.Inv.{Inv}

pub record Flow (p : Network) (s : ProtocolState) : Type 0 where
  pub hush : Hush p s
  pub tokens : Tokens p s
  pub connects : Connects p s
  pub initiates : Initiates p s
  pub telling : Telling p s
  pub reports : Reports p s
  pub owing : Owing p s
  pub ordered : Ordered p s

-- the clauses on tables that read marks, but for that on test edges: of s with marks m
pub record MarkClauses (p : Network) (s : ProtocolState) (m : ℕ → ℕ → ℕ) : Type 0 where
  pub ranges : Ranges s.st s.halt s.due s.dk m
  pub cores : Cores p s.fr s.gl s.gc m
  pub sleepers : Sleepers p s.st s.fr s.gl s.dk s.due s.bw s.be s.ub s.halt m
  pub markings : Markings p s.fr m
  pub inbounds : Inbounds p s.ub s.ib m
  pub halves : Halves p s.dk s.dn s.de s.fr s.gl s.lev s.ub m
  pub change_roots : ChangeRoots p s.dk s.dn s.de s.fr s.gl s.gc s.lev s.ib s.ub s.bw m
  pub rootings : Rootings p s.dk s.dn s.fr s.gl s.lev s.ib s.ub s.bw m s.oo
  pub finishes : Finishes p s.dk s.fr s.gl s.gc s.lev s.bw s.halt s.due m
  pub kids : Kids p s.lev s.fr s.gl s.gc s.ib s.ub s.due m

module _ {p : Network} {s : ProtocolState} (i : Inv p s) where
  pub flow : Flow p s
  flow = record { hush = i.hush; tokens = i.tokens; connects = i.connects; initiates = i.initiates; telling = i.telling; reports = i.reports; owing = i.owing; ordered = i.ordered }

  mark-clauses : MarkClauses p s s.mark
  mark-clauses = record { ranges = i.ranges; cores = i.cores; sleepers = i.sleepers; markings = i.markings; inbounds = i.inbounds; halves = i.halves; change_roots = i.change_roots; rootings = i.rootings; finishes = i.finishes; kids = i.kids }

  -- ONE LAW for the steps of the search: marks, test edges, open procedures and channels change, and no other table
  module _ (m : ℕ → ℕ → ℕ) (te : ℕ → ℕ) (ot op : ℕ) (c : ℕ → ℕ → List Msg) where
    abbrev searching : ProtocolState
    searching = set-op (set-ot (set-te (set-mark (set-ch s c) m) te) ot) op

    pub inv-search : MarkClauses p s m → Pending s.st te s.fc ot op → Tests p te s.ib m ot → Flow p searching → Testing p searching → Answers p searching
        → Bests p searching → Inv p searching
    inv-search k f2 e2 f e1 a1 b2 = record {
      ranges = k.ranges;
      values = i.values;
      levels = i.levels;
      sizes = i.sizes;
      cores = k.cores;
      sleepers = k.sleepers;
      markings = k.markings;
      inbounds = k.inbounds;
      halves = k.halves;
      change_roots = k.change_roots;
      rootings = k.rootings;
      finishes = k.finishes;
      parents = i.parents;
      kids = k.kids;
      finds = i.finds;
      pending = f2;
      find_counts = i.find_counts;
      tests = e2;
      weights = i.weights;
      hush = f.hush;
      tokens = f.tokens;
      connects = f.connects;
      initiates = f.initiates;
      telling = f.telling;
      testing = e1;
      answers = a1;
      reports = f.reports;
      owing = f.owing;
      bests = b2;
      ordered = f.ordered;
    }

  -- no mark changes
  module _ (te : ℕ → ℕ) (ot op : ℕ) (c : ℕ → ℕ → List Msg) where
    abbrev asking : ProtocolState
    asking = set-op (set-ot (set-te (set-ch s c) te) ot) op

    pub inv-asking : Pending s.st te s.fc ot op → Tests p te s.ib s.mark ot → Flow p asking → Testing p asking → Answers p asking → Bests p asking → Inv p asking
    inv-asking = inv-search s.mark te ot op c mark-clauses

  -- the channels change, and no table
  pub inv-passing : (c : ℕ → ℕ → List Msg) → Flow p (set-ch s c) → Testing p (set-ch s c) → Answers p (set-ch s c) → Bests p (set-ch s c) → Inv p (set-ch s c)
  inv-passing c f e1 a1 b2 = inv-asking s.te s.ot s.op c i.pending i.tests f e1 a1 b2
