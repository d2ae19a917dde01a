-- The tables of a state that modules and channels really have, without the ghosts; and a response placed in them.
use Rattle.std.specs.Prelude.{ℕ, ◌&&◌, ◌||◌, List, [], ◌∷◌, ◌++◌, eqb, ltb}
use Rattle.base.specs.Cond.{upd, upd2}
use Rattle.format_message.specs.Msg.{Msg}
use Rattle.node.specs.Work.{Own, Work, Send}
use Rattle.protocol.specs.Network.{Network}
use Rattle.protocol.specs.State.{ProtocolState}

-- one table for each of a module's values that the protocol knows, the marks, and the channels
pub record Real : Type 0 where
  pub st : ℕ → ℕ
  pub lev : ℕ → ℕ
  pub id : ℕ → ℕ
  pub bw : ℕ → ℕ
  pub be : ℕ → ℕ
  pub te : ℕ → ℕ
  pub ib : ℕ → ℕ
  pub fc : ℕ → ℕ
  pub halt : ℕ → ℕ
  pub mark : ℕ → ℕ → ℕ
  pub ch : ℕ → ℕ → List Msg

abbrev pub real : ProtocolState → Real
real s = record { st = s.st; lev = s.lev; id = s.id; bw = s.bw; be = s.be; te = s.te; ib = s.ib; fc = s.fc; halt = s.halt; mark = s.mark; ch = s.ch }

-- v's edges as its rules see them
abbrev pub own_p : Network → ℕ → Own
own_p p v = record { edges = p.g.L; own = λ k. ltb k p.g.L && (eqb (p.g.lo k) v || eqb (p.g.hi k) v); earlier = p.order.earlier }

-- v's messages at the ends of its channels, one after the other
unfoldable pub post : (ℕ → ℕ → List Msg) → ℕ → List Send → ℕ → ℕ → List Msg
post c v [] = c
post c v (x ∷ l) = post (upd2 c v x.edge (c v x.edge ++ (x.msg ∷ []))) v l

-- r with v's values and marks as the response w leaves them, and w's messages sent
abbrev pub place_in : Real → ℕ → Work → Real
place_in r v w =
    record {
      st = upd r.st v w.node.status;
      lev = upd r.lev v w.node.level;
      id = upd r.id v w.node.identity;
      bw = upd r.bw v w.node.weight;
      be = upd r.be v w.node.best;
      te = upd r.te v w.node.test;
      ib = upd r.ib v w.node.branch;
      fc = upd r.fc v w.node.count;
      halt = upd r.halt v w.node.halted;
      mark = upd r.mark v w.mark;
      ch = post r.ch v w.sends;
    }
