-- v absorbs the fragment D of u over k, answering the Connect (l) of u, l below its own level: what holds before (`half`, `level-absorb`, `rise`) and after
-- (`inf-out-absorb`, `inf-old-absorb`, `inf-new-absorb`, `bounds-absorb`).
use Rattle.protocol.proofs.Prelude.{ℕ, ◌≤◌, ◌<◌, arith, ◌≡◌, refl, sym, ap, subst, ◌∙◌, ◌≢◌, ◌⊎◌, inl, inr, ⊎_elim}
use Rattle.protocol.proofs.Prelude.{List, upd2-elim, by-eq}
use Rattle.protocol.proofs.Prelude.{Msg, connect, initiate}
use Rattle.protocol.proofs.Prelude.{Network, Edge, flip, same-edge, ProtocolState, absorbed, pop}
use Rattle.protocol.proofs.Prelude.{bulk-elim, bulk-in, bulk-out, relabel-keep, relabel-cases}
use Rattle.protocol.proofs.Prelude.{In, at2, here-new, else_same, all_in, pop-head}
use Rattle.protocol.proofs.Prelude.{Bounding, Decision, GL, GC, DK, Inf, Jn, Half, Changing, Inv}
use Rattle.protocol.proofs.Prelude.{half_at, no-root, no-connect-decided}
use Rattle.protocol.specs.Decisions.{HalfOk}
pub use Rattle.protocol_tell.proofs.AbsorbGuards.{Absorbs}

module _ {p : Network} {s : ProtocolState} (i : Inv p s) {u v k l x : ℕ} {r : List Msg} (act : Absorbs p s u v k l x r) where
  abbrev S' : ProtocolState
  S' = absorbed (pop s u k r) u v k x

  head : In (connect l) (s.ch u k)
  head = pop-head s.ch u k act.q

  -- ---- k is half at u

  pub mark-u : s.mark u k ≡ 1
  mark-u = i.connects.c1m k u v l act.ends head

  pub mark-v : s.mark v k ≡ 0
  mark-v = by-eq (s.mark v k) 0 (λ e. e)
      (λ n. by-eq (s.mark v k) 1
      (λ e. absurd (omega (arith, (i.connects.c1 k u v l act.ends head e).2)))
      (λ m. absurd ((i.markings.m1 k v u (flip act.ends) (omega (arith, i.ranges.mark-le v k))).1 mark-u)))

  pub half : Half s u k
  half = half_at i k u v act.ends mark-u mark-v

  pub ok : HalfOk p s.fr s.gl s.lev s.ub s.mark k u v
  ok = i.halves.d1 k u v act.ends half

  pub level-absorb : l ≡ GL s u
  level-absorb = all_in (i.tokens.d1a k u v act.ends half) head

  pub rise : GL s u < GL s v
  rise = omega (arith, level-absorb, i.levels.g2 v)

  pub apart-absorb : s.fr v ≢ s.fr u
  apart-absorb = ok.d1o

  -- ---- labels: D, the fragment of u, gets v's

  pub fr-in-absorb : (w : ℕ) → s.fr w ≡ s.fr u → S'.fr w ≡ s.fr v
  fr-in-absorb w e = bulk-in s.fr (s.fr u) (s.fr v) s.fr w e

  pub fr-out-absorb : (w : ℕ) → s.fr w ≢ s.fr u → S'.fr w ≡ s.fr w
  fr-out-absorb w n = bulk-out s.fr (s.fr u) (s.fr v) s.fr w n

  pub due-in-absorb : (w : ℕ) → s.fr w ≡ s.fr u → S'.due w ≡ s.due v
  due-in-absorb w e = bulk-in s.fr (s.fr u) (s.due v) s.due w e

  pub due-out-absorb : (w : ℕ) → s.fr w ≢ s.fr u → S'.due w ≡ s.due w
  due-out-absorb w n = bulk-out s.fr (s.fr u) (s.due v) s.due w n

  pub fr-keep : (a b : ℕ) → s.fr a ≡ s.fr b → S'.fr a ≡ S'.fr b
  fr-keep a b e = relabel-keep s.fr (s.fr u) (s.fr v) a b e

  -- a label now is the label before of one who is not in D
  pub lab {κ} : (P : ℕ → Type κ) (w : ℕ) → ((z : ℕ) → s.fr z ≢ s.fr u → P (s.fr z)) → P (S'.fr w)
  lab P w h = bulk-elim P s.fr (s.fr u) (s.fr v) s.fr w (λ e. h v apart-absorb) (λ n. h w n)

  -- who belongs together now did, or one was in D and the other in v's fragment
  pub fr-cases {κ} : {C : Type κ} (a b : ℕ) → S'.fr a ≡ S'.fr b
      → (s.fr a ≡ s.fr b → C) → (s.fr a ≡ s.fr u → s.fr b ≡ s.fr v → C) → (s.fr a ≡ s.fr v → s.fr b ≡ s.fr u → C) → C
  fr-cases a b = relabel-cases s.fr (s.fr u) (s.fr v) a b

  pub low : (w : ℕ) → s.fr w ≡ s.fr u → s.lev w < GL S' w
  low w e = omega (arith, i.levels.g2 w, ap s.gl e, ap s.gl (fr-in-absorb w e), rise)

  -- nobody in D is informed now; the others are as before
  pub inf-out-absorb : (w : ℕ) → Inf S' w → s.fr w ≢ s.fr u
  inf-out-absorb w h e = omega (arith, h.1, low w e)

  pub inf-old-absorb : (w : ℕ) → Inf S' w → Inf s w
  inf-old-absorb w h = subst (λ a. (1 ≤ s.gl a) × (s.lev w ≡ s.gl a)) (fr-out-absorb w (inf-out-absorb w h)) h

  pub inf-new-absorb : (w : ℕ) → s.fr w ≢ s.fr u → Inf s w → Inf S' w
  inf-new-absorb w n h = subst (λ a. (1 ≤ s.gl a) × (s.lev w ≡ s.gl a)) (sym (fr-out-absorb w n)) h

  pub dk-out-absorb : (w : ℕ) → DK s w ≢ 3 → s.fr w ≢ s.fr u
  dk-out-absorb w n e = n (ap s.dk e ∙ half.0)

  pub find-out-absorb : (w : ℕ) → s.st w ≡ 1 → s.fr w ≢ s.fr u
  find-out-absorb w f = dk-out-absorb w (λ d. omega (arith, (i.finds.f1 w f).f1k))

  -- v's fragment is not finished: k is Basic there
  pub unfinished : DK s v ≢ 4
  unfinished d = i.finishes.d4 k v u (flip act.ends) d mark-v

  pub no-four : (w : ℕ) → DK S' w ≡ 4 → s.fr w ≢ s.fr u
  no-four w d e = unfinished (sym (ap s.dk (fr-in-absorb w e)) ∙ d)

  -- ---- marks

  pub up1-absorb : (w j : ℕ) → s.mark w j ≡ 1 → S'.mark w j ≡ 1
  up1-absorb w j h = upd2-elim (λ y. y ≡ 1) s.mark v k 1 w j (λ a b. refl) (λ n. h)

  pub dn0-absorb : (w j : ℕ) → S'.mark w j ≡ 0 → s.mark w j ≡ 0
  dn0-absorb w j = upd2-elim (λ y. y ≡ 0 → s.mark w j ≡ 0) s.mark v k 1 w j (λ a b h. absurd (omega arith)) (λ n h. h)

  pub dn2-absorb : (w j : ℕ) → S'.mark w j ≡ 2 → s.mark w j ≡ 2
  dn2-absorb w j = upd2-elim (λ y. y ≡ 2 → s.mark w j ≡ 2) s.mark v k 1 w j (λ a b h. absurd (omega arith)) (λ n h. h)

  pub rejected : (w j : ℕ) → s.mark w j ≡ 2 → (v ≢ w) ⊎ (k ≢ j)
  rejected w j h = by-eq v w (λ a. inr (λ b. omega (arith, mark-v, at2 s.mark a b))) (λ a. inl a)

  pub mark-off-absorb : (w j : ℕ) → (v ≢ w) ⊎ (k ≢ j) → S'.mark w j ≡ s.mark w j
  mark-off-absorb w j n = else_same s.mark v k 1 w j n

  pub up-both-absorb : (j a b : ℕ) → Jn s j a b → Jn S' j a b
  up-both-absorb j a b h = (up1-absorb a j h.0, up1-absorb b j h.1)

  -- a joined edge: k, from either end, or one that was joined
  pub jn-absorb {κ} : {C : Type κ} (j a b : ℕ) → Edge p j a b → Jn S' j a b → (v ≡ a → u ≡ b → k ≡ j → C) → (u ≡ a → v ≡ b → k ≡ j → C) → (k ≢ j → Jn s j a b → C) → C
  jn-absorb j a b e h f g o = by-eq k j
      (λ z. ⊎_elim (λ t. g t.0 t.1 z) (λ t. f t.1 t.0 z) (same-edge act.ends e z))
      (λ n. o n (sym (mark-off-absorb a j (inr n)) ∙ h.0, sym (mark-off-absorb b j (inr n)) ∙ h.1))

  pub joined-absorb : Jn S' k v u
  joined-absorb = (here-new s.mark v k 1, up1-absorb u k mark-u)

  -- a bound of a fragment other than D stays one
  pub bounds-absorb : (n z : ℕ) → s.fr z ≢ s.fr u → Bounding p s.fr s.mark n z → Bounding p S'.fr S'.mark n z
  bounds-absorb n z m h a j w e f g = fr-cases a z e
      (λ y. h a j w y f (dn0-absorb a j g))
      (λ y y'. omega (arith, h v k u (sym y') (flip act.ends) mark-v, ok.d1b a j w y f (dn0-absorb a j g)))
      (λ y y'. absurd (m y'))

  -- ---- v's Find bit

  pub bit-find : x ≢ 0 → s.st v ≡ 1
  bit-find n = ⊎_elim (λ t. t.0) (λ t. absurd (n t.1)) act.flag

  pub find-bit : s.st v ≡ 1 → x ≡ 1
  find-bit f = ⊎_elim (λ t. t.1) (λ t. absurd (t.0 f)) act.flag

  -- where v is informed it says whether v is due
  pub bit-due : Inf s v → x ≡ s.due v
  bit-due h = ⊎_elim (λ t. t.1 ∙ sym (i.finds.f1 v t.0).f1u)
      (λ t. by-eq (s.due v) 1 (λ d. absurd (t.0 (i.finds.f1d v h d))) (λ n. omega (arith, t.1, i.ranges.due-le v))) act.flag

  pub find-due : s.due v ≢ 1 → s.st v ≢ 1
  find-due n f = n (i.finds.f1 v f).f1u

  -- ---- decisions

  -- a decision now is one of a fragment other than D, and was there
  dec-out : (d z j : ℕ) → (DK s v ≡ d → s.fr (s.dn (s.fr v)) ≡ s.fr v) → Decision d s.dk s.dn s.de S'.fr z j → s.fr z ≢ s.fr u
  dec-out d z j f h e = apart-absorb (sym (f (sym (ap s.dk (fr-in-absorb z e)) ∙ h.0)) ∙ ap s.fr (sym (ap s.dn (fr-in-absorb z e)) ∙ h.1) ∙ e)

  dec-old : (d z j : ℕ) → s.fr z ≢ s.fr u → Decision d s.dk s.dn s.de S'.fr z j → Decision d s.dk s.dn s.de s.fr z j
  dec-old d z j n h = subst (λ a. (s.dk a ≡ d) × (s.dn a ≡ z) × (s.de a ≡ j)) (fr-out-absorb z n) h

  pub dec-new : (d z j : ℕ) → s.fr z ≢ s.fr u → Decision d s.dk s.dn s.de s.fr z j → Decision d s.dk s.dn s.de S'.fr z j
  dec-new d z j n h = subst (λ a. (s.dk a ≡ d) × (s.dn a ≡ z) × (s.de a ≡ j)) (sym (fr-out-absorb z n)) h

  pub half_out : (z j : ℕ) → Half S' z j → s.fr z ≢ s.fr u
  half_out z j h = dec-out 3 z j (i.halves.d1f v) h

  pub half-old : (z j : ℕ) → Half S' z j → Half s z j
  half-old z j h = dec-old 3 z j (half_out z j h) h

  pub changing-out : (z j : ℕ) → Changing S' z j → s.fr z ≢ s.fr u
  changing-out z j h = dec-out 2 z j (i.change_roots.d2f v) h

  pub changing-old : (z j : ℕ) → Changing S' z j → Changing s z j
  changing-old z j h = dec-old 2 z j (changing-out z j h) h

  pub no-roots : (w : ℕ) → DK S' w ≢ 1
  no-roots w = lab (λ a. s.dk a ≢ 1) w (λ z n. no-root i z (act.idle).2)

  -- ---- the core, k, and what is under way

  -- a core end now was one, and k is not the core
  pub core-out : (j a b : ℕ) → Edge p j a b → Jn S' j a b → GC S' a ≡ j → (s.fr a ≢ s.fr u) × (k ≢ j) × Jn s j a b
  core-out j a b e h g = jn-absorb j a b e h
      (λ y z o. absurd (not-core y o))
      (λ y z o. absurd (in-d (sym (ap s.fr y))))
      (λ n o. (in-d, n, o))
    where
      not-core : v ≡ a → k ≡ j → ⊥
      not-core y o =
          let c : GC s v ≡ k = ap s.gc (sym (fr-out-absorb v apart-absorb)) ∙ ap (λ w. GC S' w) y ∙ g ∙ sym o in
          let t = i.cores.g5 v v u (omega (arith, rise)) (subst (λ n. Edge p n v u) (sym c) (flip act.ends)) in
          omega (arith, mark-v, t.0.0, ap (s.mark v) c)

      in-d : s.fr a ≢ s.fr u
      in-d d =
          let c : GC s v ≡ j = ap s.gc (sym (fr-in-absorb a d)) ∙ g in
          let t = i.cores.g5 v a b (omega (arith, rise)) (subst (λ n. Edge p n a b) (sym c) e) in
          apart-absorb (sym t.1 ∙ d)

  -- nothing was owed over k
  pub owe-v : s.owe v k ≡ 0
  owe-v = by-eq (s.owe v k) 0 (λ e. e) (λ n. absurd (omega (arith, (i.owing.f4y k v u (flip act.ends) n).1.0, mark-v)))

  pub bit-le-absorb : x ≤ 1
  bit-le-absorb = ⊎_elim (λ t. omega (arith, t.1)) (λ t. omega (arith, t.1)) act.flag

  pub no-ib : s.ib v ≢ k
  no-ib z = omega (arith, mark-v, (i.inbounds.u1i k v u (flip act.ends) z).0)

  -- k was joined from neither end
  pub not-joined : (j a b : ℕ) → Edge p j a b → Jn s j a b → k ≢ j
  not-joined j a b e h z = ⊎_elim (λ t. omega (arith, mark-v, h.1, at2 s.mark t.1 z)) (λ t. omega (arith, mark-v, h.0, at2 s.mark t.1 z))
      (same-edge act.ends e z)

  -- no Initiate was on its way to u
  pub no-init : (n g y : ℕ) → ¬ In (initiate n g y) (s.ch v k)
  no-init n g y h = omega (arith, mark-v, (i.initiates.i1 k v u n g y (flip act.ends) h).i1j.0)

  -- a Connect that is left over a joined edge is in another fragment than D
  pub call-out : (j w y n : ℕ) → Edge p j w y → In (connect n) (s.ch w j) → Jn s j w y → s.fr w ≢ s.fr u
  call-out j w y n e h b d = no-connect-decided i j w y n e b (λ z. omega (arith, half.0, ap s.dk d)) h
