-- v sends Connect over k, which is no branch at its other end y: half, for waking and for procedure change-root (`inv-half`).
use Rattle.protocol.proofs.Prelude.{ℕ, arith, ◌≡◌, refl, subst, ◌∙◌, ◌≢◌, inr, by-eq}
use Rattle.protocol.proofs.Prelude.{upd, connect, Network, ProtocolState, halved, set-st, set-oo, In, in_all, in-new, snoc-all, GL, Inv}
use Rattle.protocol_merge.proofs.Turn.{Turn}
use Rattle.protocol_merge.proofs.Move as M
use Rattle.protocol_merge.proofs.Pass.{PassCase, inv-pass}
use Rattle.protocol_merge.proofs.Leave.{Leave, leave-tree, leave-only, leave-move}

module _ {p : Network} {s : ProtocolState} (i : Inv p s) {v k y l : ℕ} (t : Turn p s v) (h : Leave p s v k y) (level : l ≡ GL s v) (half : s.mark y k ≢ 1) where
  half-own : PassCase p s v y k 3 (connect l)
  half-own = record {
    low = omega arith;
    high = omega arith;
    joins = inr half;
    tree = leave-tree i t h;
    half = λ n. refl;
    changing = λ z. absurd (omega arith);
    half-ok = λ z. record {
      d1m = M.mark-new i t (leave-move i t h l);
      d1y = M.mark-off-move i t (leave-move i t h l) y k (M.y≢v i t (leave-move i t h l)) ∙ basic;
      d1o = h.out;
      d1g = h.level;
      d1l = t.even;
      d1u = M.ub-new i t (leave-move i t h l);
      d1b = λ u j w q e m. h.bound u j w q e (M.dn0-move i t (leave-move i t h l) u j m);
    };
    half_in = λ z. subst (λ n. In (connect n) (M.c' i t (leave-move i t h l) v k)) level (in-new s.ch v k (connect l));
    half-all = λ z. snoc-all s.ch v k (connect l) v k (λ a b. level) (in_all (s.ch v k) (leave-only i t h (GL s v)));
    changing-ok = λ z. absurd (omega arith);
    changing-in = λ z. absurd (omega arith);
  }
    where
      basic : s.mark y k ≡ 0
      basic = by-eq (s.mark y k) 2 (λ z. absurd ((leave-move i t h l).mark-y z)) (λ z. omega (arith, i.ranges.mark-le y k))

  pub inv-half : Inv p (set-oo (set-st (halved s v k l) (upd s.st v 2)) 0)
  inv-half = inv-pass i t (leave-move i t h l) half-own
