-- Report w from u at v over v's in-branch k, v not Find, w later than v's best: v is to execute procedure change-root (`inv-decide`).
use Rattle.protocol.proofs.Prelude.{ℕ, ◌<◌, arith, ◌≡◌, sym, ap, subst, ◌≢◌, inl, ⊎_elim}
use Rattle.protocol.proofs.Prelude.{List, ◌∷◌, upd2, Msg, report}
use Rattle.protocol.proofs.Prelude.{Network, Edge, key, ProtocolState, Idle, pop, rooted, In, pop-in}
use Rattle.protocol.proofs.Prelude.{Bounds, CoreEnds, Spent, Inv}
use Rattle.protocol_core.proofs.Late.{late-report}
use Rattle.protocol_core.proofs.Core as C
use Rattle.protocol_core.proofs.CoreLater as L
use Rattle.protocol_core.proofs.Rooted.{RootReady, inv-rooted}

module _ {p : Network} {s : ProtocolState} (i : Inv p s) {u v k w : ℕ} {r : List Msg} (idle : Idle s) (ends : Edge p k u v) (q : s.ch u k ≡ report w ∷ r)
    (ib : s.ib v ≡ k) (found : s.st v ≢ 1) (later : key p (s.bw v) < key p w) where
  abbrev core : CoreEnds s u v k w
  core = L.core-later i idle ends q ib found later

  -- v's best weight bounds what is Basic in the fragment
  bounds : Bounds p s (key p (s.bw v)) v
  bounds a j b f e m =
      let t = C.basic-bound i ends q idle found core a j b f e m in
      ⊎_elim
      (λ z. omega (arith, t.3, ap (λ x. key p (s.bw x)) z, ap (key p) (C.best-u i ends q idle found core)))
      (λ z. omega (arith, t.3, ap (λ x. key p (s.bw x)) z))
      t.1

  spent : (j a b n : ℕ) → Edge p j a b → s.fr a ≡ s.fr v → In (report n) (upd2 s.ch u k r a j) → Spent p s a b j n
  spent j a b n e f o = ⊎_elim
      (λ t. subst (λ x. Spent p s x b j n) (sym t.0) (subst (λ x. Spent p s v x j n) (sym t.1) (subst (λ x. Spent p s v u x n) (sym t.2) (own n t.3))))
      (λ t. t)
      (C.report-left i ends q idle found core j a b n e f o)
    where
      -- v's own Report, on its way to u
      own : (n : ℕ) → s.bw v ≡ n → Spent p s v u k n
      own n z = C.own-spent i ends q idle found core s.dk n (inl (omega (arith, ap (key p) z, ap (key p) (C.best-u i ends q idle found core))))

  ready : RootReady p s u v k r
  ready = record {
    ends = ends;
    inside = C.report-inside i ends q;
    inf = C.inf-v i ends q idle found core;
    ib = ib;
    ub-v = C.ub-v i ends q idle found core;
    ub-u = C.ub-u i ends q idle found core;
    some = L.some-later i idle ends q ib found later;
    bounds = bounds;
    fresh = λ z. omega (arith, C.core-undecided i ends q idle found core);
    unfinished = λ z. omega (arith, C.core-undecided i ends q idle found core);
    no-find = C.none-find i ends q idle found core;
    no_due = C.none-due i ends q idle found core;
    silent = C.silent i ends q;
    no-token = λ j x y e f o. omega (arith, (i.tokens.k1 j x y e (pop-in s.ch u k q x j o)).0, ap s.dk f, C.core-undecided i ends q idle found core);
    spent = spent;
  }

  pub inv-decide : Inv p (rooted (pop s u k r) v)
  inv-decide = inv-rooted i idle q (late-report w) ready
