-- (4) The response to Initiate, as small steps (`initiate-fin`).
use Prim.Native.Nat.{ℕ, suc, ◌+◌, ◌*◌, ◌≤◌}
use Rattle.std.proofs.Common.{arith, sym, subst, ◌∙◌, inl, inr, length-append}
use Rattle.std.specs.Prelude.{◌≡◌, refl, ◌≢◌, true, cond, List, length, eqb}
use Rattle.std.proofs.Math.Path.{ap}
use Rattle.base.specs.Cond.{bit}
use Rattle.base.proofs.laws.Cond.{by-eq, upd_same}
use Rattle.base.specs.Sum.{sum}
use Rattle.format_message.specs.Msg.{Msg, initiate}
use Rattle.node.specs.Work.{Work, FIND, FOUND, branches, number, on_each, with_node, set_count, degree}
use Rattle.node.specs.Work as W
use Rattle.node.specs.Rules.{told, copies, on_initiate, informed}
use Rattle.node.proofs.laws.Rules.{seek-tests, initiate-find, initiate-found}
use Rattle.protocol.proofs.Prelude.{Network, ProtocolState, SmallStep, Mode, Place, GC, pop-head, pop, copy, fan, initiated, copy-yes}
use Rattle.protocol.specs.Step.{tell}
use Rattle.protocol_invariant.proofs.Safe.{initiate-ok}
use Rattle.protocol_bridge.proofs.Real.{Real, real, own_p, post}
use Rattle.protocol_bridge.proofs.Place.{to_chans, to_count, to_told}
use Rattle.protocol_bridge.proofs.Own.{ends-own, fc-degree}
use Rattle.protocol_bridge.proofs.Copies.{copies-fan, copies-number, copies_length}
use Rattle.protocol_bridge.proofs.Fin.{At, Fin, Keeps, Serving, fin-step, fin-last, fin-same, fc-is, mark-is, at_count, at_told, at-copied}
use Rattle.protocol_bridge.proofs.Finish.{test-fin}

module _ {p : Network} (keeps : Keeps p) {s : ProtocolState} {r : Real} {u v k l f x : ℕ} {rest : List Msg} {w : Work} (sv : Serving p s r u v k (initiate l f x) rest w) where
  abbrev o : W.Own
  o = own_p p v

  abbrev s₀ : ProtocolState
  s₀ = pop s u k rest

  -- the edges that get a copy, as the small step and as the rules have them
  same_copy : copy s₀ v k ≡ branches k w.mark
  unfolding copy
  same_copy = ap (λ (t : ℕ → ℕ). λ j. branches k t j) (mark-is sv.at)

  -- they are own edges: only these are marked
  mine : (j : ℕ) → copy s₀ v k j ≡ true → o.own j ≡ true
  mine j h = ends-own p v (sv.inv.markings.own v j (marked j h)).1
    where
      marked : (j : ℕ) → copy s₀ v k j ≡ true → s.mark v j ≢ 0
      marked j h e = omega (arith, (copy-yes s₀ v k j h).1)

  -- how many there are
  abbrev many : ℕ
  many = sum p.g.L (λ j. bit (copy s₀ v k j))

  abbrev m : Msg
  m = initiate l f x

  number_is : number o (branches k w.mark) p.g.L ≡ many
  number_is = ap (λ g. number o g p.g.L) (sym same_copy) ∙ copies-number p v (copy s₀ v k) mine m

  length-is : length w.sends + many ≡ length (told o l f x k w).sends
  length-is = omega (
    arith,
    length-append w.sends (copies o k m w),
    ap (λ g. length (on_each o g m p.g.L)) same_copy,
    copies_length p v (copy s₀ v k) mine m,
  )

  chans : fan (s₀.ch) v (copy s₀ v k) m ≡ post (s₀.ch) v (copies o k m w)
  chans = copies-fan p v (copy s₀ v k) mine m (s₀.ch) ∙ ap (λ g. post (s₀.ch) v (on_each o g m p.g.L)) same_copy

  -- the state after the step; d, e are the ghosts depth and side, b the open test
  abbrev next : ℕ → ℕ → ℕ → ProtocolState
  next d e b = initiated p s₀ v k l f x (cond (eqb x 1) FIND FOUND) d e b

  told-at : (c d e b : ℕ) → s.fc v + x * many ≡ c → At r v (with_node (set_count c (told o l f x k w).node) (told o l f x k w)) (real (next d e b))
  told-at c d e b h =
      subst (λ n. At r v (with_node (set_count n (told o l f x k w).node) (told o l f x k w)) (real (next d e b))) h
      (subst (λ t. At r v (with_node (set_count (s.fc v + x * many) (told o l f x k w).node) (told o l f x k w)) (to_count v (s.fc v + x * many) (to_chans t (to_told v (informed l f x k w.node) (real s₀)))))
      (sym chans) (at_count (at-copied (at_told sv.at l f x k) (copies o k m w)) (s.fc v + x * many)))

  -- depth and side of v
  placed : (d : ℕ) × (e : ℕ) × Place s u v k d e
  placed = by-eq k (GC s v) (λ h. (0, v, inl (h, refl, refl))) (λ h. (suc (s.dep u), s.side u, inr (h, refl, refl)))

  -- Find: the find-count that results is at most the number of own edges (f4)
  find-fin : x ≡ 1 → Fin p r v 0 (length w.sends) (on_initiate o l f x k w) s
  find-fin h =
      let d = placed.0 in
      let e = placed.1 in
      let c = w.node.count + number o (branches k w.mark) p.g.L in
      let mode : Mode v x (cond (eqb x 1) FIND FOUND) (suc v) = inl (h, rw h, refl) in
      let step : SmallStep p s (next d e (suc v)) = tell sv.idle sv.ends sv.head mode placed.2 in
      let i' = keeps s (next d e (suc v)) step sv.inv in
      let is : s.fc v + x * many ≡ c = omega (arith, fc-is sv.at, number_is, ap (λ n. n * many) h) in
      let fits : c ≤ degree o = omega (arith, fc-degree p v i', upd_same s.fc v (s.fc v + x * many)) in
      fin-same (initiate-find o l f x k w h ∙ seek-tests o c (told o l f x k w) fits)
      (fin-step step length-is (test-fin keeps i' (told-at c d e (suc v) is) sv.fresh refl (sv.idle).1 (sv.idle).2))

  found-fin : x ≡ 0 → Fin p r v 0 (length w.sends) (on_initiate o l f x k w) s
  found-fin h =
      let mode : Mode v x (cond (eqb x 1) FIND FOUND) 0 = inr (h, rw h, refl) in
      let is : s.fc v + x * many ≡ w.node.count = omega (arith, fc-is sv.at, ap (λ n. n * many) h) in
      fin-same (initiate-found o l f x k w (λ e. omega arith))
      (fin-last (tell sv.idle sv.ends sv.head mode placed.2) length-is (refl, (sv.idle).1, (sv.idle).2) sv.fresh (told-at w.node.count placed.0 placed.1 0 is))

  -- the Find bit is 1 or 0
  pub initiate-fin : Fin p r v 0 (length w.sends) (on_initiate o l f x k w) s
  initiate-fin = by-eq x 1 find-fin (λ n. found-fin (omega (arith, (initiate-ok sv.inv k u v l f x sv.ends (pop-head s.ch u k sv.head)).3)))
