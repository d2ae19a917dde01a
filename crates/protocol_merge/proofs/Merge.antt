-- Merge, for waking and for procedure change-root (`inv-merge`).
use Rattle.protocol.proofs.Prelude.{ℕ, Network, ProtocolState, upd, halved, merged, set-st, set-oo, Inv}
use Rattle.protocol_merge.proofs.Move as M
use Rattle.protocol_merge.proofs.Unite.{MergeReady, move-merge}
use Rattle.protocol_merge.proofs.MergeTables as A
use Rattle.protocol_merge.proofs.MergeTraffic as C

pub inv-merge : {p : Network} {s : ProtocolState} {v k y l : ℕ} → MergeReady p s v k y l → Inv p (set-oo (set-st (merged (halved s v k l) v y k) (upd s.st v 2)) 0)
inv-merge r = record {
  ranges = A.ranges-merge r;
  values = r.inv.values;
  levels = A.levels-merge r;
  sizes = A.sizes-merge r;
  cores = A.cores-merge r;
  sleepers = A.sleepers-merge r;
  markings = A.markings-merge r;
  inbounds = A.inbounds-merge r;
  halves = A.halves-merge r;
  change_roots = A.change_roots-merge r;
  rootings = A.rootings-merge r;
  finishes = A.finishes-merge r;
  parents = A.parents-merge r;
  kids = A.kids-merge r;
  finds = A.finds-merge r;
  pending = M.pending-move (r.inv) (r.turn) (move-merge r);
  find_counts = r.inv.find_counts;
  tests = A.tests-merge r;
  weights = A.weights-merge r;
  hush = record { g6o = M.hush (r.inv) (r.turn) (move-merge r); g6i = M.hush-in (r.inv) (r.turn) (move-merge r) };
  tokens = C.tokens-merge r;
  connects = C.connects-merge r;
  initiates = C.initiates-merge r;
  telling = C.telling-merge r;
  testing = C.testing-merge r;
  answers = C.answers-merge r;
  reports = C.reports-merge r;
  owing = C.owing-merge r;
  bests = C.bests-merge r;
  ordered = record { q1 = M.order-move (r.inv) (r.turn) (move-merge r) };
}
