-- The Report w of u, the head of the channel over k, at v: a child's (`child-case`), a core end's or spent (`core-or-spent`). Where it is a core end's: both ends are
-- informed and, if v is not Find, the fragment is quiet (`none-find`, `none-due`), and only the best weights of the two ends still count (`basic-bound`).
use Rattle.protocol.proofs.Prelude.{ℕ, ◌≤◌, ◌<◌, arith, ◌≡◌, refl, sym, ap, subst, ◌∙◌, ◌≢◌, ◌⊎◌, inl, inr, ⊎_elim, by-eq}
use Rattle.protocol.proofs.Prelude.{List, ◌∷◌, sum_l, Msg, none, initiate, report}
use Rattle.protocol.proofs.Prelude.{Network, Edge, key, rank, flip, same-edge, ProtocolState, Idle, key-none, key-edge, rank_lt}
use Rattle.protocol.proofs.Prelude.{is_ci, is_r, kinds, In, in_sum, le-sum, joins-lt, Bef, bef-before, in-cons, heads, upd2, at2, here-new, pop-head, pop-in, none_in, no-calls, some-report, set-dk}
use Rattle.protocol.proofs.Prelude.{GL, GC, DK, Inf, Jn, Counting, Child, CoreEnds, Spent, Inv, inf-found, te-find, up-other, no-find, no_due, rest-none, no-connect, no-initiate}

module _ {p : Network} {s : ProtocolState} (i : Inv p s) {u v k w : ℕ} {r : List Msg} (ends : Edge p k u v) (q : s.ch u k ≡ report w ∷ r) where
  pub report-in : In (report w) (s.ch u k)
  report-in = pop-head s.ch u k q

  pub report-joined : Jn s k u v
  report-joined = i.reports.r1j k u v w ends report-in

  pub report-inside : s.fr u ≡ s.fr v
  report-inside = i.markings.m3 k u v ends report-joined

  -- the receiver of a core end's Report is informed: its Initiate would stand ahead
  core-inf : CoreEnds s u v k w → Inf s v
  core-inf c = ⊎_elim (λ t. t.0) (λ t. absurd (behind t.1)) c.6
    where
      behind : ¬ In (initiate (GL s v) k 1) (s.ch u k)
      behind n = ⊎_elim (λ e. kinds (λ z. omega arith) e)
          (λ o. omega (arith, c.5 (initiate (GL s v) k 1) (subst (λ l. Bef (report w) (initiate (GL s v) k 1) l) (sym q) (heads o))))
          (in-cons (subst (λ l. In (initiate (GL s v) k 1) l) q n))

  -- it was the only one on its channel
  pub silent : sum_l is_r (upd2 s.ch u k r u k) ≡ 0
  silent = ap (sum_l is_r) (here-new s.ch u k r) ∙ rest-none i is_r ends q (λ n f. f)

  -- v is not Find: it is no child's
  pub core-or-spent : s.st v ≢ 1 → CoreEnds s u v k w ⊎ Spent p s u v k w
  core-or-spent n = ⊎_elim (λ t. absurd (n t.6)) (λ t. t) (i.reports.r1 k u v w ends report-in)

  -- over another edge than v's in-branch it is a child's, and is counted
  module _ (away : s.ib v ≢ k) where
    pub child-case : Child s u v k w
    child-case = ⊎_elim (λ t. t)
        (⊎_elim
        (λ t. absurd (away (i.parents.t1e k v u (flip ends) (core-inf t) (sym (ap s.gc report-inside) ∙ t.0))))
        (λ t. absurd (away t.0)))
        (i.reports.r1 k u v w ends report-in)

    pub report-owed : s.owe v k ≡ 1
    report-owed = i.owing.f4n k v u (flip ends) child-case.5 (report-joined.1, report-joined.0) away (inl (child-case.0, inr (in_sum is_r report-in)))

    pub count-pos : 1 ≤ s.fc v
    count-pos = omega (arith, report-owed, i.find_counts.f4 v, le-sum p.g.L k (s.owe v) (joins-lt ends))

  -- a weight that is no edge is the latest
  pub weight-le : key p w ≤ p.g.L
  weight-le = by-eq w none (λ z. omega (arith, ap (key p) z, key-none p))
      (λ n. let l = i.reports.r1r k u v w ends report-in n in omega (arith, key-edge p w l, rank_lt p w l))

  module _ (idle : Idle s) (found : s.st v ≢ 1) (core : CoreEnds s u v k w) where
    pub inf-u : Inf s u
    inf-u = core.2

    pub inf-v : Inf s v
    inf-v = core-inf core

    pub found-u : s.st u ≡ 2
    found-u = core.3

    pub found-v : s.st v ≡ 2
    found-v = inf-found i v inf-v found

    pub best-u : s.bw u ≡ w
    best-u = core.4

    pub core-u : GC s u ≡ k
    core-u = core.0

    pub core-v : GC s v ≡ k
    core-v = sym (ap s.gc report-inside) ∙ core-u

    pub core-undecided : DK s v ≡ 0
    core-undecided = sym (ap s.dk report-inside) ∙ core.1

    pub ib-u : s.ib u ≡ k
    ib-u = i.parents.t1e k u v ends inf-u core-u

    pub ib-v : s.ib v ≡ k
    ib-v = i.parents.t1e k v u (flip ends) inf-v core-v

    pub ub-u : s.ub u ≡ k
    ub-u = i.parents.t1u u inf-u core.1 ∙ ib-u

    pub ub-v : s.ub v ≡ k
    ub-v = i.parents.t1u v inf-v core-undecided ∙ ib-v

    -- quiet: nobody is Find or due
    pub none-find : (x : ℕ) → s.fr x ≡ s.fr v → s.st x ≢ 1
    none-find = no-find i (flip ends) core-v inf-v inf-u found (λ z. omega (arith, found-u))

    pub none-due : (x : ℕ) → s.fr x ≡ s.fr v → s.due x ≡ 0
    none-due x e = let n = no_due i (flip ends) core-v inf-v inf-u found (λ z. omega (arith, found-u)) x e in omega (arith, i.ranges.due-le x)

    -- a Report within the fragment: between the two ends, or spent
    report-core : (j a b n : ℕ) → Edge p j a b → s.fr a ≡ s.fr v → In (report n) (s.ch a j)
        → ((((a ≡ u) × (b ≡ v)) ⊎ ((a ≡ v) × (b ≡ u))) × (j ≡ k) × (s.bw a ≡ n)) ⊎ Spent p s a b j n
    report-core j a b n e f o = ⊎_elim
        (λ t. absurd (none-find b (sym (i.markings.m3 j a b e (i.reports.r1j j a b n e o)) ∙ f) t.6))
        (⊎_elim
        (λ t. let z : j ≡ k = sym t.0 ∙ ap s.gc f ∙ core-v in inl (same-edge e ends z, z, t.4))
        (λ t. inr t))
        (i.reports.r1 j a b n e o)

    -- once this one is taken: v's own, or spent
    pub report-left : (j a b n : ℕ) → Edge p j a b → s.fr a ≡ s.fr v → In (report n) (upd2 s.ch u k r a j)
        → ((a ≡ v) × (b ≡ u) × (j ≡ k) × (s.bw v ≡ n)) ⊎ Spent p s a b j n
    report-left j a b n e f o = ⊎_elim
        (λ t. ⊎_elim
        (λ z. absurd (omega (arith, none_in is_r silent (subst (λ l. In (report n) l) (at2 (upd2 s.ch u k r) z.0 t.1) o))))
        (λ z. inl (z.0, z.1, t.1, sym (ap s.bw z.0) ∙ t.2))
        t.0)
        (λ t. inr t)
        (report-core j a b n e f (pop-in s.ch u k q a j o))

    -- v's own is spent once the fragment is decided, if u's best is later, or the fragment is finished: dk are the new decisions
    pub own-spent : (dk : ℕ → ℕ) (n : ℕ) → (key p n < key p (s.bw u)) ⊎ ((n ≡ none) × (s.bw u ≡ none) × (dk (s.fr u) ≡ 4) × (GC s u ≡ k)) → Spent p (set-dk s dk) v u k n
    own-spent dk n l = (ib-u, i.levels.g2i u inf-u ∙ core-u, ub-u, found-u, λ m b. none_in is_ci calls (bef-before b), l)
      where
        calls : sum_l is_ci (s.ch v k) ≡ 0
        calls = no-calls (s.ch v k) (λ l. no-connect i k v u l (flip ends) (report-joined.1, report-joined.0) inf-v) (λ l f x. no-initiate i k v u l f x (flip ends) inf-u)

    -- whose best weight counts is a core end
    live_end : (x : ℕ) → s.fr x ≡ s.fr v → Inf s x → Counting s x → (x ≡ u) ⊎ (x ≡ v)
    live_end x f h (inl t) = absurd (none-find x f t)
    live_end x f h (inr t) = at-core (by-eq (s.ib x) (GC s x) (λ z. z) (λ n. absurd (⊎_elim n (sent n) t)))
      where
        up-edge : (y : ℕ) × Edge p (s.ib x) x y
        up-edge = i.inbounds.u1r x (i.parents.t1 x h)

        at-core : s.ib x ≡ GC s x → (x ≡ u) ⊎ (x ≡ v)
        at-core z = ⊎_elim (λ t. inl t.0) (λ t. inr t.0)
            (same-edge up-edge.1 ends (z ∙ ap s.gc f ∙ core-v))

        sent : s.ib x ≢ GC s x → ¬ (1 ≤ sum_l is_r (s.ch x (s.ib x)))
        sent n l =
            let o = some-report (s.ch x (s.ib x)) l in
            ⊎_elim
            (λ t. n (t.1 ∙ sym core-v ∙ sym (ap s.gc f)))
            (λ t. up-other i (s.ib x) x up-edge.0 up-edge.1 h refl (λ z. n (sym z)) t.0)
            (report-core (s.ib x) x up-edge.0 o.0 up-edge.1 f o.1)

    -- an edge that is Basic in the fragment is not earlier than the best weight of one of the ends
    pub basic-bound : (a j b : ℕ) → s.fr a ≡ s.fr v → Edge p j a b → s.mark a j ≡ 0
        → (x : ℕ) × ((x ≡ u) ⊎ (x ≡ v)) × (s.bw x ≢ none) × (key p (s.bw x) ≤ rank p j)
    basic-bound a j b f e m = ⊎_elim
        (λ t. absurd (omega (arith, t.1, none-due a f)))
        (⊎_elim
        (λ t. absurd (omega (arith, idle.0)))
        (⊎_elim
        (λ t. absurd (none-find a f (te-find i a t.0)))
        (λ t. (t.0, live_end t.0 (t.1 ∙ f) t.2 t.4, t.3, t.5))))
        (i.bests.b2 j a b e m (ap s.dk f ∙ core-undecided) (omega (arith, ap s.gl f, inf-v.0)))
