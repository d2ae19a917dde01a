-- v serves Initiate (l, f, x) from u over k, takes its values and sends the copies: what holds before (`low`, `te-none`, `fc-none`; of who gets a copy `kid-`,
-- of the core `core-`) and after (`inf-tell`, `kept-tell`, `same-tell`).
use Rattle.protocol.proofs.Prelude.{ℕ, suc, ◌≤◌, ◌<◌, arith, ◌≡◌, refl, sym, ap, subst, ◌∙◌, ◌≢◌, ◌⊎◌, inl, inr, ⊎_elim, List, ◌∷◌, Bool, true, upd2, upd_same}
use Rattle.protocol.proofs.Prelude.{upd_other, upd-elim, by-eq, sum_l, Msg, none, initiate, report, Network, Edge, flip, other-end, ends-irr, edge-some, ProtocolState, Idle, Mode}
use Rattle.protocol.proofs.Prelude.{Place, initiated, pop, copy, top, top_in, top-max, kinds, Fits, In, Bef, heads, in-cons, else_same, here-new, head_at}
use Rattle.protocol.proofs.Prelude.{pop-head, pop-in, in-pop, pop-sum, copy-yes, copy-on, fan-in, in-fan, fan-sum, fan-else, GL, GC, DK, Inf, Jn, Waits}
use Rattle.protocol.proofs.Prelude.{CoreEnds, Spent, Inv, inf-cases, low-find, mark-awake}
use Rattle.protocol.specs.Search.{LowOk}
use Rattle.protocol.specs.Traffic.{InitOk}

-- the guards of the step
pub record Tells (p : Network) (s : ProtocolState) (u v k l f x a b d e : ℕ) (r : List Msg) : Type 0 where
  pub idle : Idle s
  pub ends : Edge p k u v
  pub q : s.ch u k ≡ initiate l f x ∷ r
  pub mode : Mode v x a b
  pub place : Place s u v k d e

-- names that the files on this step open: the state after it, what is known of the Initiate, the message, the channels without it, the
-- edges that get a copy. And two laws of other messages: a channel has as many as before, and none that is new.
pub record TellNames (p : Network) (s : ProtocolState) (u v k l f x : ℕ) : Type 0 where
  pub S' : ProtocolState
  pub ok : InitOk p s.lev s.fr s.gl s.gc s.ub s.due s.mark k u v l f x
  pub m : Msg
  pub c₁ : ℕ → ℕ → List Msg
  pub kid : ℕ → Bool
  pub same : (g : Msg → ℕ) → g m ≡ 0 → (w j : ℕ) → sum_l g (S'.ch w j) ≡ sum_l g (s.ch w j)
  pub old : {y : Msg} (g : Msg → ℕ) → g m ≡ 0 → 1 ≤ g y → (w j : ℕ) → In y (S'.ch w j) → In y (s.ch w j)

module _ {p : Network} {s : ProtocolState} (i : Inv p s) {u v k l f x a b d e : ℕ} {r : List Msg} (act : Tells p s u v k l f x a b d e r) where
  abbrev S' : ProtocolState
  S' = initiated p (pop s u k r) v k l f x a d e b

  pub initiate-in : In (initiate l f x) (s.ch u k)
  initiate-in = pop-head s.ch u k act.q

  pub ok : InitOk p s.lev s.fr s.gl s.gc s.ub s.due s.mark k u v l f x
  ok = i.initiates.i1 k u v l f x act.ends initiate-in

  -- ---- v before: not informed, Found, not waiting

  pub low : s.lev v < GL s v
  low = omega (arith, ok.i1l, ok.i1g)

  pub not-find : s.st v ≢ 1
  not-find = low-find i v low

  awake : s.st v ≢ 0
  awake = mark-awake i v k (λ z. omega (arith, (ok.i1j).1))

  pub te-none : s.te v ≡ none
  te-none = i.pending.f3t v not-find

  pub fc-none : s.fc v ≡ 0
  fc-none = i.pending.f3c v not-find

  pub u≢v : u ≢ v
  u≢v = ends-irr p act.ends

  pub inf-else : (w : ℕ) → Inf s w → v ≢ w
  inf-else w h z = omega (arith, h.1, low, ap s.lev z, ap (λ n. GL s n) z)

  -- ---- the Find bit: Find only at the fragment's level, and then v is due

  pub bit-le-tell : x ≤ 1
  bit-le-tell = ⊎_elim (λ t. omega (arith, t.0)) (λ t. omega (arith, t.0)) act.mode

  pub find-of : x ≢ 0 → (a ≡ 1) × (b ≡ suc v)
  find-of n = ⊎_elim (λ t. (t.1, t.2)) (λ t. absurd (n t.0)) act.mode

  pub found_of : x ≡ 0 → (a ≡ 2) × (b ≡ 0)
  found_of z = ⊎_elim (λ t. absurd (omega (arith, t.0))) (λ t. (t.1, t.2)) act.mode

  pub full : x ≢ 0 → l ≡ GL s v
  full n = by-eq l (GL s v) (λ z. z) (λ m. absurd (n (ok.i1z (omega (arith, ok.i1g)))))

  pub due-v : x ≢ 0 → s.due v ≡ 1
  due-v n = sym (ok.i1d (full n)) ∙ omega (arith, bit-le-tell)

  pub undecided : x ≢ 0 → DK s v ≡ 0
  undecided n = by-eq (DK s v) 0 (λ z. z) (λ m. absurd (omega (arith, i.finishes.d5 v m, due-v n)))

  -- ---- an end of the core is told by the core, of the fragment's level

  pub core-low : (j y : ℕ) → Edge p j v y → GC s v ≡ j → LowOk s.lev s.fr s.gl s.ib s.ub s.due j v
  core-low j y g c = i.kids.t4u j v y g (subst (λ n. Jn s n v y) c (i.cores.g5 v v y (omega (arith, low)) (subst (λ n. Edge p n v y) (sym c) g)).0) c low

  pub core-k : (j y : ℕ) → Edge p j v y → GC s v ≡ j → (k ≡ j) × (u ≡ y)
  core-k j y g c = let z : k ≡ j = sym (ok.i1u) ∙ (core-low j y g c).t4b in (z, other-end (flip act.ends) g refl z)

  pub core-full : (j y : ℕ) → Edge p j v y → GC s v ≡ j → l ≡ GL s v
  core-full j y g c = omega (arith, ok.i1l, ok.i1g, (core-low j y g c).t4l)

  pub core-find : (j y : ℕ) → Edge p j v y → GC s v ≡ j → x ≡ 1
  core-find j y g c = ok.i1d (core-full j y g c) ∙ (core-low j y g c).t4d

  -- ---- the copies: c, beyond another branch j of v, is below v, and told by v

  module _ (j c : ℕ) (g : Edge p j v c) (n : k ≢ j) (m : s.mark v j ≡ 1) where
    pub kid-joined : Jn s j v c
    kid-joined = (m, by-eq (s.mark c j) 1 (λ z. z) (λ z. absurd (omega (arith, low, (i.halves.d1 j v c g (i.halves.m2 j v c g m z)).d1l))))

    pub kid-fr : s.fr v ≡ s.fr c
    kid-fr = i.markings.m3 j v c g kid-joined

    pub kid-core : GC s v ≢ j
    kid-core z = n (core-k j c g z).0

    pub kid-low : s.lev c < GL s c
    kid-low = inf-cases i c
        (λ h. absurd (by-eq (s.ib c) j
        (λ z. omega (arith, low, (i.parents.t1p j c v (flip g) h z (λ o. kid-core (ap s.gc kid-fr ∙ o))).0.1))
        (λ z. n (sym (ok.i1u) ∙ (i.initiates.i1 j c v (GL s c) (GC s c) (s.due v) (flip g) (i.telling.t2i j c v (flip g) (kid-joined.1, m) h z low)).i1u))))
        (λ h. h)
        (λ z. absurd (omega (arith, low, ap s.gl kid-fr)))

    pub kid-ub : s.ub c ≡ j
    kid-ub = ⊎_elim (λ z. absurd (n (sym (ok.i1u) ∙ z))) (λ z. z) (i.inbounds.m3u j v c g kid-joined)

    kid-top : s.lev v ≡ top (s.lev c) (s.ch v j)
    kid-top = i.telling.u2 j v c g kid-joined (λ z. n (sym (ok.i1u) ∙ z))

    pub kid-lev : s.lev c < l
    kid-lev = ⊎_elim (λ z. omega (arith, ok.i1l, kid-top))
        (λ t. omega (arith, ok.i1l, kid-top, (i.initiates.i1 j v c (top (s.lev c) (s.ch v j)) t.0 t.1 g t.2).i1l)) (top_in (s.lev c) (s.ch v j))

    pub kid-inits : (a b y : ℕ) → In (initiate a b y) (s.ch v j) → a < l
    kid-inits a b y h = omega (arith, ok.i1l, kid-top, top-max (s.lev c) (s.ch v j) (λ m n z. i.ordered.q1 j v c m n g z) a b y h)

    pub kid-due : s.due v ≡ s.due c
    kid-due = i.kids.t3 j v c g kid-joined low kid-low

  -- ---- Reports to v are of a core end, over k; those from v are spent, and go to nobody informed

  pub report-to : (j w n : ℕ) → Edge p j w v → In (report n) (s.ch w j) → (k ≡ j) × (u ≡ w) × (GC s v ≡ j) × CoreEnds s w v j n
  report-to j w n g h = ⊎_elim (λ t. absurd (not-find t.6))
      (⊎_elim
      (λ t. let c : GC s v ≡ j = ap s.gc (sym (i.markings.m3 j w v g (i.reports.r1j j w v n g h))) ∙ t.0 in
      let y = core-k j w (flip g) c in
      (y.0, y.1, c, t))
      (λ t. let z : k ≡ j = sym (ok.i1u) ∙ t.2 in
      let y : u ≡ w = other-end (flip act.ends) (flip g) refl z in
      absurd (omega (
        arith,
        t.4 (initiate l f x) (subst (λ m. Bef (initiate l f x) (report n) m) (sym (head_at s.ch u k act.q w j y z)) (heads
            (⊎_elim (λ o. absurd (kinds (λ n. omega arith) o)) (λ o. o) (in-cons (subst (λ m. In (report n) m) (head_at s.ch u k act.q w j y z) h))))),
      ))))
      (i.reports.r1 j w v n g h)

  pub report-from : (j y n : ℕ) → Edge p j v y → In (report n) (s.ch v j) → Spent p s v y j n × (¬ Inf s y)
  report-from j y n g h = ⊎_elim (λ t. absurd (omega (arith, low, t.0.1)))
      (⊎_elim (λ t. absurd (omega (arith, low, t.2.1)))
      (λ t. (
        t,
        λ o.
            let z = i.markings.m3 j v y g (i.reports.r1j j v y n g h) in
            let c : GC s y ≡ j = sym (i.levels.g2i y o) ∙ t.1 in
            let w = core-low j y g (ap s.gc z ∙ c) in
            let m : DK s v ≡ 0 = by-eq (DK s v) 0 (λ m. m) (λ m. absurd (omega (arith, i.finishes.d5 v m, w.t4d))) in
            omega (arith, low, (i.reports.r1c j v y n g h o (ap s.dk (sym z) ∙ m) c).2.1),
      )))
      (i.reports.r1 j v y n g h)

  -- ---- v after

  pub lev-v : S'.lev v ≡ l
  lev-v = upd_same s.lev v l

  pub lev-else : (w : ℕ) → v ≢ w → S'.lev w ≡ s.lev w
  lev-else w n = upd_other s.lev v l w n

  pub lev-up : (w : ℕ) → s.lev w ≤ S'.lev w
  lev-up w = upd-elim (λ y. s.lev w ≤ y) s.lev v l w (λ z. omega (arith, ok.i1l, ap s.lev z)) (λ n. omega arith)

  pub st-v : S'.st v ≡ a
  st-v = upd_same s.st v a

  pub st-else : (w : ℕ) → v ≢ w → S'.st w ≡ s.st w
  st-else w n = upd_other s.st v a w n

  pub ib-v-tell : S'.ib v ≡ k
  ib-v-tell = upd_same s.ib v k

  pub ib-else : (w : ℕ) → v ≢ w → S'.ib w ≡ s.ib w
  ib-else w n = upd_other s.ib v k w n

  pub bw-v : S'.bw v ≡ none
  bw-v = upd_same s.bw v none

  pub bw-else : (w : ℕ) → v ≢ w → S'.bw w ≡ s.bw w
  bw-else w n = upd_other s.bw v none w n

  pub be-else : (w : ℕ) → v ≢ w → S'.be w ≡ s.be w
  be-else w n = upd_other s.be v none w n

  -- a sleeper slept, and is not v
  pub asleep-tell : (w : ℕ) → S'.st w ≡ 0 → (v ≢ w) × (s.st w ≡ 0)
  asleep-tell w = upd-elim (λ y. y ≡ 0 → (v ≢ w) × (s.st w ≡ 0)) s.st v a w
      (λ z h. absurd (⊎_elim (λ t. omega (arith, t.1)) (λ t. omega (arith, t.1)) act.mode)) (λ n h. (n, h))

  pub rouse : (w : ℕ) → S'.st w ≢ 0 → s.st w ≢ 0
  rouse w n z = n (st-else w (λ e. awake (ap s.st e ∙ z)) ∙ z)

  -- who is informed: v, told at the fragment's level, or one who was
  pub inf-tell {κ} : {C : Type κ} (w : ℕ) → Inf S' w → (v ≡ w → l ≡ GL s v → C) → (v ≢ w → Inf s w → C) → C
  inf-tell w h y n = by-eq v w
      (λ z. y z (sym lev-v ∙ ap S'.lev z ∙ h.1 ∙ ap (λ m. GL s m) (sym z)))
      (λ z. n z (h.0, sym (lev-else w z) ∙ h.1))

  pub inf-stay : (w : ℕ) → Inf s w → Inf S' w
  inf-stay w h = (h.0, lev-else w (inf-else w h) ∙ h.1)

  pub inf-v-tell : l ≡ GL s v → Inf S' v
  inf-v-tell z = (omega (arith, low), lev-v ∙ z)

  pub was-low : (w : ℕ) → S'.lev w < GL s w → s.lev w < GL s w
  was-low w h = omega (arith, lev-up w)

  pub is-low : (w : ℕ) → v ≢ w → s.lev w < GL s w → S'.lev w < GL s w
  is-low w n h = omega (arith, lev-else w n)

  -- who waits for an answer is not v, and did
  pub waits-old : (j w : ℕ) → Waits S' w j → Waits s w j
  waits-old j w h = (h.0, λ z. omega (arith, (act.idle).0))

  pub waits-else : (j w y : ℕ) → Edge p j w y → Waits s w j → v ≢ w
  waits-else j w y g h z = edge-some p g (sym h.0 ∙ ap s.te (sym z) ∙ te-none)

  pub waits-new : (j w y : ℕ) → Edge p j w y → Waits s w j → Waits S' w j
  waits-new j w y g h = (h.0, λ z. ⊎_elim (λ t. waits-else j w y g h (omega (arith, t.2))) (λ t. omega (arith, t.2)) act.mode)

  -- ---- channels

  abbrev m : Msg
  m = initiate l f x

  abbrev c₁ : ℕ → ℕ → List Msg
  c₁ = upd2 s.ch u k r

  abbrev kid : ℕ → Bool
  kid = copy (pop s u k r) v k

  pub kid-yes : (j : ℕ) → kid j ≡ true → (k ≢ j) × (s.mark v j ≡ 1)
  kid-yes j h = let t = copy-yes (pop s u k r) v k j h in (λ z. t.0 (sym z), t.1)

  pub kid-on : (j : ℕ) → k ≢ j → s.mark v j ≡ 1 → kid j ≡ true
  kid-on j n o = copy-on (pop s u k r) v k j (λ z. n (sym z)) o

  -- what is there now was there, or is a copy
  pub was : {y : Msg} (w j : ℕ) → In y (S'.ch w j) → In y (c₁ w j) ⊎ ((v ≡ w) × (kid j ≡ true) × (y ≡ m))
  was w j h = fan-in c₁ v kid m w j h

  pub old-tell : {y : Msg} (g : Msg → ℕ) → g m ≡ 0 → 1 ≤ g y → (w j : ℕ) → In y (S'.ch w j) → In y (s.ch w j)
  old-tell g z o w j h = ⊎_elim (λ t. pop-in s.ch u k act.q w j t) (λ t. absurd (omega (arith, ap g t.2))) (was w j h)

  pub kept-tell : {y : Msg} (g : Msg → ℕ) → g m ≡ 0 → 1 ≤ g y → (w j : ℕ) → In y (s.ch w j) → In y (S'.ch w j)
  kept-tell g z o w j h = in-fan c₁ v kid m w j (in-pop s.ch u k act.q w j (λ t. omega (arith, ap g t)) h)

  -- not the channel from u over k
  pub elsewhere : (j w z : ℕ) → Edge p j w z → v ≢ z → (u ≢ w) ⊎ (k ≢ j)
  elsewhere j w z g n = by-eq u w (λ y. inr (λ o. n (other-end act.ends g y o))) (λ y. inl y)

  -- those to others than v stay
  pub hold : {y : Msg} (j w z : ℕ) → Edge p j w z → v ≢ z → In y (s.ch w j) → In y (S'.ch w j)
  hold {y} j w z g n h = in-fan c₁ v kid m w j (subst (λ t. In y t) (sym (else_same s.ch u k r w j (elsewhere j w z g n))) h)

  pub same-tell : (g : Msg → ℕ) → g m ≡ 0 → (w j : ℕ) → sum_l g (S'.ch w j) ≡ sum_l g (s.ch w j)
  same-tell g z w j = fan-sum c₁ v kid m g z w j ∙ pop-sum s.ch u k act.q g z w j

  -- a channel of which v is at neither end
  pub off-tell : (j w z : ℕ) → Edge p j w z → v ≢ w → v ≢ z → S'.ch w j ≡ s.ch w j
  off-tell j w z g n o = fan-else c₁ v kid m w j (inl n) ∙ else_same s.ch u k r w j (elsewhere j w z g o)

  -- the rest of the channel from u over k
  pub rest-tell : S'.ch u k ≡ r
  rest-tell = fan-else c₁ v kid m u k (inl (λ z. u≢v (sym z))) ∙ here-new s.ch u k r

  -- what is left there stood behind the Initiate
  pub behind-tell : (y : Msg) → In y (S'.ch u k) → Fits m y
  behind-tell y h = i.ordered.q1 k u v m y act.ends (subst (λ t. Bef m y t) (sym act.q) (heads (subst (λ t. In y t) rest-tell h)))

  abbrev pub tell-names : TellNames p s u v k l f x
  tell-names = record { S' = S'; ok = ok; m = m; c₁ = c₁; kid = kid; same = same-tell; old = old-tell }
