-- The state of the protocol: one table for each variable of the nodes, the marks and channels, the ghost tables of the proof, and what the
-- response in progress still has to do.
-- An edge that may be missing is a number, 65535 (`none`) for none.
use Rattle.std.specs.Prelude.{ℕ, List, []}
use Rattle.base.specs.Names.{ASLEEP, BASIC}
use Rattle.format_message.specs.Msg.{Msg, none}

pub record ProtocolState : Type 0 where
  -- status: ASLEEP, FIND or FOUND
  pub st : ℕ → ℕ
  -- level
  pub lev : ℕ → ℕ
  -- identity: the core of the fragment as far as the node knows, or none
  pub id : ℕ → ℕ
  -- best weight: an edge or none
  pub bw : ℕ → ℕ
  -- best edge: an own edge or none
  pub be : ℕ → ℕ
  -- test edge: an own edge or none
  pub te : ℕ → ℕ
  -- in-branch: an own edge or none
  pub ib : ℕ → ℕ
  -- find-count
  pub fc : ℕ → ℕ
  -- 1 for halted
  pub halt : ℕ → ℕ
  -- mark of node v for edge k: BASIC, BRANCH or REJECTED
  pub mark : ℕ → ℕ → ℕ
  -- channel: what node v has sent over edge k and is not consumed, the oldest first
  pub ch : ℕ → ℕ → List Msg
  -- ghost, from here to `owe`: carried along by the proof, never read by a step's real part
  -- label of the node's fragment
  pub fr : ℕ → ℕ
  -- of a label: the fragment's level
  pub gl : ℕ → ℕ
  -- of a label: the fragment's core edge, none at level 0
  pub gc : ℕ → ℕ
  -- of a label: the decision. 0 undecided, 1 node dn executes change-root, 2 node dn has sent Change-root over de, 3 node dn has sent Connect over de, which is not a branch at its other end, 4 finished
  pub dk : ℕ → ℕ
  -- of a label: the node of the decision
  pub dn : ℕ → ℕ
  -- of a label: the edge of the decision
  pub de : ℕ → ℕ
  -- 1 where the node has still to be searched at its fragment's level
  pub due : ℕ → ℕ
  -- depth below the core, for informed nodes
  pub dep : ℕ → ℕ
  -- the core end above it, for informed nodes
  pub side : ℕ → ℕ
  -- inbound edge: the next Initiate comes by it; none before waking
  pub ub : ℕ → ℕ
  -- 1 where node v waits for a Report over edge k
  pub owe : ℕ → ℕ → ℕ
  -- control: what the response in progress still has to do. The guards read it; between responses all three are 0
  -- suc v while procedure test is to be executed at v, else 0
  pub ot : ℕ
  -- suc v while procedure report is to be executed at v, else 0
  pub op : ℕ
  -- suc v while procedure change-root is to be executed at v, else 0
  pub oo : ℕ

-- one setter for each table
abbrev pub set-st : ProtocolState → (ℕ → ℕ) → ProtocolState
set-st s x = record { st = x; lev = s.lev; id = s.id; bw = s.bw; be = s.be; te = s.te; ib = s.ib; fc = s.fc; halt = s.halt; mark = s.mark; ch = s.ch; fr = s.fr; gl = s.gl; gc = s.gc; dk = s.dk; dn = s.dn; de = s.de; due = s.due; dep = s.dep; side = s.side; ub = s.ub; owe = s.owe; ot = s.ot; op = s.op; oo = s.oo }

abbrev pub set-lev : ProtocolState → (ℕ → ℕ) → ProtocolState
set-lev s x = record { st = s.st; lev = x; id = s.id; bw = s.bw; be = s.be; te = s.te; ib = s.ib; fc = s.fc; halt = s.halt; mark = s.mark; ch = s.ch; fr = s.fr; gl = s.gl; gc = s.gc; dk = s.dk; dn = s.dn; de = s.de; due = s.due; dep = s.dep; side = s.side; ub = s.ub; owe = s.owe; ot = s.ot; op = s.op; oo = s.oo }

abbrev pub set-id : ProtocolState → (ℕ → ℕ) → ProtocolState
set-id s x = record { st = s.st; lev = s.lev; id = x; bw = s.bw; be = s.be; te = s.te; ib = s.ib; fc = s.fc; halt = s.halt; mark = s.mark; ch = s.ch; fr = s.fr; gl = s.gl; gc = s.gc; dk = s.dk; dn = s.dn; de = s.de; due = s.due; dep = s.dep; side = s.side; ub = s.ub; owe = s.owe; ot = s.ot; op = s.op; oo = s.oo }

abbrev pub set-bw : ProtocolState → (ℕ → ℕ) → ProtocolState
set-bw s x = record { st = s.st; lev = s.lev; id = s.id; bw = x; be = s.be; te = s.te; ib = s.ib; fc = s.fc; halt = s.halt; mark = s.mark; ch = s.ch; fr = s.fr; gl = s.gl; gc = s.gc; dk = s.dk; dn = s.dn; de = s.de; due = s.due; dep = s.dep; side = s.side; ub = s.ub; owe = s.owe; ot = s.ot; op = s.op; oo = s.oo }

abbrev pub set-be : ProtocolState → (ℕ → ℕ) → ProtocolState
set-be s x = record { st = s.st; lev = s.lev; id = s.id; bw = s.bw; be = x; te = s.te; ib = s.ib; fc = s.fc; halt = s.halt; mark = s.mark; ch = s.ch; fr = s.fr; gl = s.gl; gc = s.gc; dk = s.dk; dn = s.dn; de = s.de; due = s.due; dep = s.dep; side = s.side; ub = s.ub; owe = s.owe; ot = s.ot; op = s.op; oo = s.oo }

abbrev pub set-te : ProtocolState → (ℕ → ℕ) → ProtocolState
set-te s x = record { st = s.st; lev = s.lev; id = s.id; bw = s.bw; be = s.be; te = x; ib = s.ib; fc = s.fc; halt = s.halt; mark = s.mark; ch = s.ch; fr = s.fr; gl = s.gl; gc = s.gc; dk = s.dk; dn = s.dn; de = s.de; due = s.due; dep = s.dep; side = s.side; ub = s.ub; owe = s.owe; ot = s.ot; op = s.op; oo = s.oo }

abbrev pub set-ib : ProtocolState → (ℕ → ℕ) → ProtocolState
set-ib s x = record { st = s.st; lev = s.lev; id = s.id; bw = s.bw; be = s.be; te = s.te; ib = x; fc = s.fc; halt = s.halt; mark = s.mark; ch = s.ch; fr = s.fr; gl = s.gl; gc = s.gc; dk = s.dk; dn = s.dn; de = s.de; due = s.due; dep = s.dep; side = s.side; ub = s.ub; owe = s.owe; ot = s.ot; op = s.op; oo = s.oo }

abbrev pub set-fc : ProtocolState → (ℕ → ℕ) → ProtocolState
set-fc s x = record { st = s.st; lev = s.lev; id = s.id; bw = s.bw; be = s.be; te = s.te; ib = s.ib; fc = x; halt = s.halt; mark = s.mark; ch = s.ch; fr = s.fr; gl = s.gl; gc = s.gc; dk = s.dk; dn = s.dn; de = s.de; due = s.due; dep = s.dep; side = s.side; ub = s.ub; owe = s.owe; ot = s.ot; op = s.op; oo = s.oo }

abbrev pub set-halt : ProtocolState → (ℕ → ℕ) → ProtocolState
set-halt s x = record { st = s.st; lev = s.lev; id = s.id; bw = s.bw; be = s.be; te = s.te; ib = s.ib; fc = s.fc; halt = x; mark = s.mark; ch = s.ch; fr = s.fr; gl = s.gl; gc = s.gc; dk = s.dk; dn = s.dn; de = s.de; due = s.due; dep = s.dep; side = s.side; ub = s.ub; owe = s.owe; ot = s.ot; op = s.op; oo = s.oo }

abbrev pub set-mark : ProtocolState → (ℕ → ℕ → ℕ) → ProtocolState
set-mark s x = record { st = s.st; lev = s.lev; id = s.id; bw = s.bw; be = s.be; te = s.te; ib = s.ib; fc = s.fc; halt = s.halt; mark = x; ch = s.ch; fr = s.fr; gl = s.gl; gc = s.gc; dk = s.dk; dn = s.dn; de = s.de; due = s.due; dep = s.dep; side = s.side; ub = s.ub; owe = s.owe; ot = s.ot; op = s.op; oo = s.oo }

abbrev pub set-ch : ProtocolState → (ℕ → ℕ → List Msg) → ProtocolState
set-ch s x = record { st = s.st; lev = s.lev; id = s.id; bw = s.bw; be = s.be; te = s.te; ib = s.ib; fc = s.fc; halt = s.halt; mark = s.mark; ch = x; fr = s.fr; gl = s.gl; gc = s.gc; dk = s.dk; dn = s.dn; de = s.de; due = s.due; dep = s.dep; side = s.side; ub = s.ub; owe = s.owe; ot = s.ot; op = s.op; oo = s.oo }

abbrev pub set-fr : ProtocolState → (ℕ → ℕ) → ProtocolState
set-fr s x = record { st = s.st; lev = s.lev; id = s.id; bw = s.bw; be = s.be; te = s.te; ib = s.ib; fc = s.fc; halt = s.halt; mark = s.mark; ch = s.ch; fr = x; gl = s.gl; gc = s.gc; dk = s.dk; dn = s.dn; de = s.de; due = s.due; dep = s.dep; side = s.side; ub = s.ub; owe = s.owe; ot = s.ot; op = s.op; oo = s.oo }

abbrev pub set-gl : ProtocolState → (ℕ → ℕ) → ProtocolState
set-gl s x = record { st = s.st; lev = s.lev; id = s.id; bw = s.bw; be = s.be; te = s.te; ib = s.ib; fc = s.fc; halt = s.halt; mark = s.mark; ch = s.ch; fr = s.fr; gl = x; gc = s.gc; dk = s.dk; dn = s.dn; de = s.de; due = s.due; dep = s.dep; side = s.side; ub = s.ub; owe = s.owe; ot = s.ot; op = s.op; oo = s.oo }

abbrev pub set-gc : ProtocolState → (ℕ → ℕ) → ProtocolState
set-gc s x = record { st = s.st; lev = s.lev; id = s.id; bw = s.bw; be = s.be; te = s.te; ib = s.ib; fc = s.fc; halt = s.halt; mark = s.mark; ch = s.ch; fr = s.fr; gl = s.gl; gc = x; dk = s.dk; dn = s.dn; de = s.de; due = s.due; dep = s.dep; side = s.side; ub = s.ub; owe = s.owe; ot = s.ot; op = s.op; oo = s.oo }

abbrev pub set-dk : ProtocolState → (ℕ → ℕ) → ProtocolState
set-dk s x = record { st = s.st; lev = s.lev; id = s.id; bw = s.bw; be = s.be; te = s.te; ib = s.ib; fc = s.fc; halt = s.halt; mark = s.mark; ch = s.ch; fr = s.fr; gl = s.gl; gc = s.gc; dk = x; dn = s.dn; de = s.de; due = s.due; dep = s.dep; side = s.side; ub = s.ub; owe = s.owe; ot = s.ot; op = s.op; oo = s.oo }

abbrev pub set-dn : ProtocolState → (ℕ → ℕ) → ProtocolState
set-dn s x = record { st = s.st; lev = s.lev; id = s.id; bw = s.bw; be = s.be; te = s.te; ib = s.ib; fc = s.fc; halt = s.halt; mark = s.mark; ch = s.ch; fr = s.fr; gl = s.gl; gc = s.gc; dk = s.dk; dn = x; de = s.de; due = s.due; dep = s.dep; side = s.side; ub = s.ub; owe = s.owe; ot = s.ot; op = s.op; oo = s.oo }

abbrev pub set-de : ProtocolState → (ℕ → ℕ) → ProtocolState
set-de s x = record { st = s.st; lev = s.lev; id = s.id; bw = s.bw; be = s.be; te = s.te; ib = s.ib; fc = s.fc; halt = s.halt; mark = s.mark; ch = s.ch; fr = s.fr; gl = s.gl; gc = s.gc; dk = s.dk; dn = s.dn; de = x; due = s.due; dep = s.dep; side = s.side; ub = s.ub; owe = s.owe; ot = s.ot; op = s.op; oo = s.oo }

abbrev pub set-due : ProtocolState → (ℕ → ℕ) → ProtocolState
set-due s x = record { st = s.st; lev = s.lev; id = s.id; bw = s.bw; be = s.be; te = s.te; ib = s.ib; fc = s.fc; halt = s.halt; mark = s.mark; ch = s.ch; fr = s.fr; gl = s.gl; gc = s.gc; dk = s.dk; dn = s.dn; de = s.de; due = x; dep = s.dep; side = s.side; ub = s.ub; owe = s.owe; ot = s.ot; op = s.op; oo = s.oo }

abbrev pub set-dep : ProtocolState → (ℕ → ℕ) → ProtocolState
set-dep s x = record { st = s.st; lev = s.lev; id = s.id; bw = s.bw; be = s.be; te = s.te; ib = s.ib; fc = s.fc; halt = s.halt; mark = s.mark; ch = s.ch; fr = s.fr; gl = s.gl; gc = s.gc; dk = s.dk; dn = s.dn; de = s.de; due = s.due; dep = x; side = s.side; ub = s.ub; owe = s.owe; ot = s.ot; op = s.op; oo = s.oo }

abbrev pub set-side : ProtocolState → (ℕ → ℕ) → ProtocolState
set-side s x = record { st = s.st; lev = s.lev; id = s.id; bw = s.bw; be = s.be; te = s.te; ib = s.ib; fc = s.fc; halt = s.halt; mark = s.mark; ch = s.ch; fr = s.fr; gl = s.gl; gc = s.gc; dk = s.dk; dn = s.dn; de = s.de; due = s.due; dep = s.dep; side = x; ub = s.ub; owe = s.owe; ot = s.ot; op = s.op; oo = s.oo }

abbrev pub set-ub : ProtocolState → (ℕ → ℕ) → ProtocolState
set-ub s x = record { st = s.st; lev = s.lev; id = s.id; bw = s.bw; be = s.be; te = s.te; ib = s.ib; fc = s.fc; halt = s.halt; mark = s.mark; ch = s.ch; fr = s.fr; gl = s.gl; gc = s.gc; dk = s.dk; dn = s.dn; de = s.de; due = s.due; dep = s.dep; side = s.side; ub = x; owe = s.owe; ot = s.ot; op = s.op; oo = s.oo }

abbrev pub set-owe : ProtocolState → (ℕ → ℕ → ℕ) → ProtocolState
set-owe s x = record { st = s.st; lev = s.lev; id = s.id; bw = s.bw; be = s.be; te = s.te; ib = s.ib; fc = s.fc; halt = s.halt; mark = s.mark; ch = s.ch; fr = s.fr; gl = s.gl; gc = s.gc; dk = s.dk; dn = s.dn; de = s.de; due = s.due; dep = s.dep; side = s.side; ub = s.ub; owe = x; ot = s.ot; op = s.op; oo = s.oo }

abbrev pub set-ot : ProtocolState → ℕ → ProtocolState
set-ot s x = record { st = s.st; lev = s.lev; id = s.id; bw = s.bw; be = s.be; te = s.te; ib = s.ib; fc = s.fc; halt = s.halt; mark = s.mark; ch = s.ch; fr = s.fr; gl = s.gl; gc = s.gc; dk = s.dk; dn = s.dn; de = s.de; due = s.due; dep = s.dep; side = s.side; ub = s.ub; owe = s.owe; ot = x; op = s.op; oo = s.oo }

abbrev pub set-op : ProtocolState → ℕ → ProtocolState
set-op s x = record { st = s.st; lev = s.lev; id = s.id; bw = s.bw; be = s.be; te = s.te; ib = s.ib; fc = s.fc; halt = s.halt; mark = s.mark; ch = s.ch; fr = s.fr; gl = s.gl; gc = s.gc; dk = s.dk; dn = s.dn; de = s.de; due = s.due; dep = s.dep; side = s.side; ub = s.ub; owe = s.owe; ot = s.ot; op = x; oo = s.oo }

abbrev pub set-oo : ProtocolState → ℕ → ProtocolState
set-oo s x = record { st = s.st; lev = s.lev; id = s.id; bw = s.bw; be = s.be; te = s.te; ib = s.ib; fc = s.fc; halt = s.halt; mark = s.mark; ch = s.ch; fr = s.fr; gl = s.gl; gc = s.gc; dk = s.dk; dn = s.dn; de = s.de; due = s.due; dep = s.dep; side = s.side; ub = s.ub; owe = s.owe; ot = s.ot; op = s.op; oo = x }

-- everybody asleep, no message under way, each node a fragment of its own
abbrev pub setup_state : ProtocolState
setup_state = record { st = λ v. ASLEEP; lev = λ v. 0; id = λ v. none; bw = λ v. none; be = λ v. none; te = λ v. none; ib = λ v. none; fc = λ v. 0; halt = λ v. 0; mark = λ v k. BASIC; ch = λ v k. []; fr = λ v. v; gl = λ a. 0; gc = λ a. none; dk = λ a. 0; dn = λ a. 0; de = λ a. 0; due = λ v. 0; dep = λ v. 0; side = λ v. v; ub = λ v. none; owe = λ v k. 0; ot = 0; op = 0; oo = 0 }
