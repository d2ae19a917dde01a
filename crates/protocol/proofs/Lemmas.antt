-- Laws of the relabelling (`bulk-`, `relabel-`), of the copies of an Initiate (`fan-`), of levels at the far end (`top-`), and from counts to messages
-- (`some-`, `no-`).
use Rattle.std.specs.Prelude.{ℕ, zero, suc, ◌+◌, ◌*◌, ◌≤◌, ◌<◌, ◌≡◌, refl, ◌≢◌, ◌⊎◌, Bool, true, false, not, cond, ◌&&◌, List, [], ◌∷◌, ◌++◌, eqb}
use Rattle.std.proofs.Common.{arith, sym, ap, subst, ◌∙◌, inl, inr, ⊎_elim}
use Rattle.base.specs.Cond.{bit, upd, upd2}
use Rattle.base.proofs.laws.Cond.{eqb-cases, eqb_same, eqb-diff, by-eq, upd_same, upd_other, upd2-elim}
use Rattle.base.specs.Pool.{sum_l}
use Rattle.base.proofs.laws.Pool.{sum_l-app}
use Rattle.base.specs.Sum.{sum}
use Rattle.base.proofs.laws.Sum.{sum-change, sum-eq, le-sum}
use Rattle.graph.specs.Graph.{Graph, Joins, up, down}
use Rattle.graph.proofs.laws.Ways.{ends_same, ends-two}
use Rattle.format_message.specs.Msg.{Msg, connect, initiate, test, accept, reject, report, change}
use Rattle.protocol.specs.Network.{Network, Edge}
use Rattle.protocol.specs.State.{ProtocolState}
use Rattle.protocol.specs.Step.{bulk, fan, fill_edges, copy}
use Rattle.protocol.specs.Kind.{is_c, is_i, is_ci, is_t, is_a, is_r, is_k, Fits, level_after, raise-in, top}
use Rattle.protocol.specs.Chan.{In, first, next, Bef, heads, tails, in-nil, in-cons, in-snoc, bef-snoc, in_left, in_right, in_sum, some_of, head_at, snoc, snoc-elim}
use Rattle.protocol.specs.Notion.{Both, JoinedEdge}

-- ---- labels: those of label a get x

pub bulk-elim {κ} : {A : Type 0} (P : A → Type κ) (fr : ℕ → ℕ) (a : ℕ) (x : A) (f : ℕ → A) (w : ℕ) → (fr w ≡ a → P x) → (fr w ≢ a → P (f w)) → P (bulk fr a x f w)
unfolding bulk
bulk-elim P fr a x f w y n = eqb-cases (fr w) a (λ b. P (cond b x (f w))) y n

pub bulk-in : {A : Type 0} (fr : ℕ → ℕ) (a : ℕ) (x : A) (f : ℕ → A) (w : ℕ) → fr w ≡ a → bulk fr a x f w ≡ x
bulk-in fr a x f w e = bulk-elim (λ y. y ≡ x) fr a x f w (λ q. refl) (λ n. absurd (n e))

pub bulk-out : {A : Type 0} (fr : ℕ → ℕ) (a : ℕ) (x : A) (f : ℕ → A) (w : ℕ) → fr w ≢ a → bulk fr a x f w ≡ f w
bulk-out fr a x f w n = bulk-elim (λ y. y ≡ f w) fr a x f w (λ q. absurd (n q)) (λ m. refl)

-- equal labels stay equal
pub relabel-keep : (fr : ℕ → ℕ) (a c x y : ℕ) → fr x ≡ fr y → bulk fr a c fr x ≡ bulk fr a c fr y
unfolding bulk
relabel-keep fr a c x y e = ap (λ z. cond (eqb z a) c z) e

-- equal labels after it: they were equal, or one was a and the other c
pub relabel-cases {κ} : {C : Type κ} (fr : ℕ → ℕ) (a c x y : ℕ) → bulk fr a c fr x ≡ bulk fr a c fr y
    → (fr x ≡ fr y → C) → (fr x ≡ a → fr y ≡ c → C) → (fr x ≡ c → fr y ≡ a → C) → C
relabel-cases {C} fr a c x y = bulk-elim (λ z. z ≡ bulk fr a c fr y → (fr x ≡ fr y → C) → (fr x ≡ a → fr y ≡ c → C) → (fr x ≡ c → fr y ≡ a → C) → C) fr a c fr x
    (λ p. bulk-elim (λ z. c ≡ z → (fr x ≡ fr y → C) → (fr x ≡ a → fr y ≡ c → C) → (fr x ≡ c → fr y ≡ a → C) → C) fr a c fr y
    (λ q e f g h. f (p ∙ sym q)) (λ q e f g h. g p (sym e)))
    (λ p. bulk-elim (λ z. fr x ≡ z → (fr x ≡ fr y → C) → (fr x ≡ a → fr y ≡ c → C) → (fr x ≡ c → fr y ≡ a → C) → C) fr a c fr y
    (λ q e f g h. h e q) (λ q e f g h. f e))

-- ---- copies of an Initiate

pub both_true : (a b : Bool) → (a && b) ≡ true → (a ≡ true) × (b ≡ true)
both_true true b e = (refl, e)
both_true false b e = absurd (mathlib-false e)
  where
    mathlib-false : false ≡ true → ⊥
    mathlib-false q = let z : ◌≡◌ {A = ℕ} 0 1 = cc in omega arith

pub eqb-true : (a b : ℕ) → eqb a b ≡ true → a ≡ b
eqb-true a b = eqb-cases a b (λ x. x ≡ true → a ≡ b) (λ e h. e) (λ n h. absurd (let z : ◌≡◌ {A = ℕ} 0 1 = cc in omega arith))

-- who gets a copy from v, told over k
pub copy-yes : (s : ProtocolState) (v k j : ℕ) → copy s v k j ≡ true → (j ≢ k) × (s.mark v j ≡ 1)
unfolding copy
copy-yes s v k j e = let t = both_true (not (eqb j k)) (eqb (s.mark v j) 1) e in (λ q. no_true (rw (q, eqb_same) at t.0), eqb-true (s.mark v j) 1 t.1)
  where
    no_true : not true ≡ true → ⊥
    no_true q = let z : ◌≡◌ {A = ℕ} 0 1 = cc in omega arith

pub copy-on : (s : ProtocolState) (v k j : ℕ) → j ≢ k → s.mark v j ≡ 1 → copy s v k j ≡ true
unfolding copy
copy-on s v k j n e = rw (eqb-diff j k n, e) refl

-- a channel after the copies have been sent
pub fan-elim {κ} : (P : List Msg → Type κ) (c : ℕ → ℕ → List Msg) (v : ℕ) (f : ℕ → Bool) (m : Msg) (w j : ℕ)
    → (v ≡ w → f j ≡ true → P (c w j ++ (m ∷ []))) → ((v ≢ w) ⊎ (f j ≡ false) → P (c w j)) → P (fan c v f m w j)
unfolding fan
fan-elim P c v f m w j y n = eqb-cases v w (λ b. P (cond (b && f j) (c w j ++ (m ∷ [])) (c w j)))
    (λ e. go (f j) (λ h. y e h) (λ h. n (inr h))) (λ d. n (inl d))
  where
    go : (b : Bool) → (b ≡ true → P (c w j ++ (m ∷ []))) → (b ≡ false → P (c w j)) → P (cond (true && b) (c w j ++ (m ∷ [])) (c w j))
    go true h g = h refl
    go false h g = g refl

pub fill-elim {κ} : (P : ℕ → Type κ) (t : ℕ → ℕ → ℕ) (v : ℕ) (f : ℕ → Bool) (x w j : ℕ)
    → (v ≡ w → f j ≡ true → P x) → ((v ≢ w) ⊎ (f j ≡ false) → P (t w j)) → P (fill_edges t v f x w j)
unfolding fill_edges
fill-elim P t v f x w j y n = eqb-cases v w (λ b. P (cond (b && f j) x (t w j)))
    (λ e. go (f j) (λ h. y e h) (λ h. n (inr h))) (λ d. n (inl d))
  where
    go : (b : Bool) → (b ≡ true → P x) → (b ≡ false → P (t w j)) → P (cond (true && b) x (t w j))
    go true h g = h refl
    go false h g = g refl

module _ (c : ℕ → ℕ → List Msg) (v : ℕ) (f : ℕ → Bool) (m : Msg) where
  pub fan-in : {x : Msg} (w j : ℕ) → In x (fan c v f m w j) → In x (c w j) ⊎ ((v ≡ w) × (f j ≡ true) × (x ≡ m))
  fan-in {x} w j = fan-elim (λ l. In x l → In x (c w j) ⊎ ((v ≡ w) × (f j ≡ true) × (x ≡ m))) c v f m w j
      (λ a b h. ⊎_elim (λ t. inl t) (λ e. inr (a, b, e)) (in-snoc (c w j) h)) (λ n h. inl h)

  pub in-fan : {x : Msg} (w j : ℕ) → In x (c w j) → In x (fan c v f m w j)
  in-fan {x} w j h = fan-elim (λ l. In x l) c v f m w j (λ a b. in_left (m ∷ []) h) (λ n. h)

  pub fan-new : (j : ℕ) → f j ≡ true → In m (fan c v f m v j)
  fan-new j e = fan-elim (λ l. In m l) c v f m v j (λ a b. in_right (c v j) first)
      (λ n. absurd (⊎_elim (λ h. h refl) (λ h. let z : ◌≡◌ {A = ℕ} 0 1 = clash (sym e ∙ h) in omega arith) n))
    where
      clash : true ≡ false → ◌≡◌ {A = ℕ} 0 1
      clash q = cc

  pub fan-bef : {x y : Msg} (w j : ℕ) → Bef x y (fan c v f m w j) → Bef x y (c w j) ⊎ ((v ≡ w) × (f j ≡ true) × (y ≡ m) × In x (c w j))
  fan-bef {x} {y} w j = fan-elim (λ l. Bef x y l → Bef x y (c w j) ⊎ ((v ≡ w) × (f j ≡ true) × (y ≡ m) × In x (c w j))) c v f m w j
      (λ a b h. ⊎_elim (λ t. inl t) (λ e. inr (a, b, e.0, e.1)) (bef-snoc (c w j) h)) (λ n h. inl h)

  pub fan-sum : (g : Msg → ℕ) → g m ≡ 0 → (w j : ℕ) → sum_l g (fan c v f m w j) ≡ sum_l g (c w j)
  fan-sum g z w j = fan-elim (λ l. sum_l g l ≡ sum_l g (c w j)) c v f m w j (λ a b. omega (arith, sum_l-app g (c w j) (m ∷ []))) (λ n. refl)

  pub fan-else : (w j : ℕ) → (v ≢ w) ⊎ (f j ≡ false) → fan c v f m w j ≡ c w j
  fan-else w j n = fan-elim (λ l. l ≡ c w j) c v f m w j
      (λ a b. absurd (⊎_elim (λ h. h a) (λ h. let z : ◌≡◌ {A = ℕ} 0 1 = clash (sym b ∙ h) in omega arith) n)) (λ q. refl)
    where
      clash : true ≡ false → ◌≡◌ {A = ℕ} 0 1
      clash q = cc

-- ---- the level at the far end

pub top-app : (a l f x : ℕ) (c : List Msg) → top a (c ++ (initiate l f x ∷ [])) ≡ l
top-app a l f x [] = refl
top-app a l f x (m ∷ r) = top-app (level_after a m) l f x r

-- another kind at the head, at the end, put from the head to the middle, changes nothing
pub top-cons : (a : ℕ) (m : Msg) (c : List Msg) → is_i m ≡ 0 → top a (m ∷ c) ≡ top a c
top-cons a m c h = ap (λ n. top n c) (⊎_elim (λ e. e) (λ t. absurd (omega (arith, ap is_i t.2))) (raise-in a m))

pub top-snoc : (a : ℕ) (m : Msg) (c : List Msg) → is_i m ≡ 0 → top a (c ++ (m ∷ [])) ≡ top a c
top-snoc a m [] h = top-cons a m [] h
top-snoc a m (n ∷ r) h = top-snoc (level_after a n) m r h

top-mid : (a : ℕ) (m : Msg) (b c : List Msg) → is_i m ≡ 0 → top a (b ++ (m ∷ c)) ≡ top a (b ++ c)
top-mid a m [] c h = top-cons a m c h
top-mid a m (n ∷ r) c h = top-mid (level_after a n) m r c h

-- so it is the same where such a message is taken, sent, put back
module _ (c : ℕ → ℕ → List Msg) (u k : ℕ) (m : Msg) (h : is_i m ≡ 0) where
  pub pop-top : {r : List Msg} → c u k ≡ m ∷ r → (n w j : ℕ) → top n (upd2 c u k r w j) ≡ top n (c w j)
  pop-top {r} q n w j = upd2-elim (λ l. top n l ≡ top n (c w j)) c u k r w j
      (λ e f. sym (top-cons n m r h) ∙ ap (top n) (sym (head_at c u k q w j e f))) (λ d. refl)

  pub snoc-top : (n w j : ℕ) → top n (snoc c u k m w j) ≡ top n (c w j)
  snoc-top n w j = snoc-elim c u k m (λ l. top n l ≡ top n (c w j)) w j (λ e f. top-snoc n m (c w j) h) (λ d. refl)

  pub rot-top : (a b : List Msg) → c u k ≡ m ∷ (a ++ b) → (n w j : ℕ) → top n (upd2 c u k (a ++ (m ∷ b)) w j) ≡ top n (c w j)
  rot-top a b q n w j = upd2-elim (λ l. top n l ≡ top n (c w j)) c u k (a ++ (m ∷ b)) w j
      (λ e f. top-mid n m a b h ∙ sym (top-cons n m (a ++ b) h) ∙ ap (top n) (sym (head_at c u k q w j e f))) (λ d. refl)

-- it is a, or the level of an Initiate that is there
pub top_in : (a : ℕ) (c : List Msg) → (top a c ≡ a) ⊎ ((f : ℕ) × (x : ℕ) × In (initiate (top a c) f x) c)
top_in a [] = inl refl
top_in a (m ∷ r) = ⊎_elim
    (λ e. ⊎_elim (λ q. inl (e ∙ q))
    (λ t. inr (t.0, t.1, subst (λ n. In (initiate n t.0 t.1) (m ∷ r)) (sym e) (subst (λ n. In n (m ∷ r)) (sym t.2) first))) (raise-in a m))
    (λ h. inr (h.0, h.1, next h.2)) (top_in (level_after a m) r)

-- no Initiate there
pub top-none : (a : ℕ) (c : List Msg) → ((l f x : ℕ) → ¬ In (initiate l f x) c) → top a c ≡ a
top-none a c h = ⊎_elim (λ e. e) (λ t. absurd (h (top a c) t.0 t.1 t.2)) (top_in a c)

-- where levels rise along the channel it is the highest
pub top-max : (a : ℕ) (c : List Msg) → ((m n : Msg) → Bef m n c → Fits m n) → (l f x : ℕ) → In (initiate l f x) c → l ≤ top a c
top-max a [] q l f x h = absurd (in-nil h)
top-max a (m ∷ r) q l f x h = ⊎_elim
    (λ e. ⊎_elim (λ z. omega (arith, ap (level_after a) e))
    (λ z. let n = initiate (top (level_after a m) r) z.0 z.1 in omega (arith, subst (λ y. Fits y n) (sym e) (q m n (heads z.2)))) (top_in (level_after a m) r))
    (λ t. top-max (level_after a m) r (λ n n' b. q n n' (tails b)) l f x t)
    (in-cons h)

-- ---- from counts to messages

-- one that counts for f, by its kind
some {κ} : {C : Type κ} (f : Msg → ℕ) (c : List Msg) → 1 ≤ sum_l f c
    → ((l : ℕ) → In (connect l) c → 1 ≤ f (connect l) → C) → ((l g x : ℕ) → In (initiate l g x) c → 1 ≤ f (initiate l g x) → C)
    → ((l g : ℕ) → In (test l g) c → 1 ≤ f (test l g) → C) → (In accept c → 1 ≤ f accept → C) → (In reject c → 1 ≤ f reject → C)
    → ((w : ℕ) → In (report w) c → 1 ≤ f (report w) → C) → (In change c → 1 ≤ f change → C) → C
some {C} f c h a b d e g i j = let t = some_of f c h in which t.0 t.1 t.2
  where
    which : (m : Msg) → In m c → 1 ≤ f m → C
    which (connect l) = a l
    which (initiate l y x) = b l y x
    which (test l y) = d l y
    which accept = e
    which reject = g
    which (report w) = i w
    which change = j

no {κ} : {C : Type κ} → 1 ≤ 0 → C
no h = absurd (omega arith)

pub some-connect : (c : List Msg) → 1 ≤ sum_l is_c c → (l : ℕ) × In (connect l) c
some-connect c h = some is_c c h (λ l i o. (l, i)) (λ l f x i. no) (λ l f i. no) (λ i. no) (λ i. no) (λ w i. no) (λ i. no)

pub some-test : (c : List Msg) → 1 ≤ sum_l is_t c → (l : ℕ) × (f : ℕ) × In (test l f) c
some-test c h = some is_t c h (λ l i. no) (λ l f x i. no) (λ l f i o. (l, f, i)) (λ i. no) (λ i. no) (λ w i. no) (λ i. no)

pub some-report : (c : List Msg) → 1 ≤ sum_l is_r c → (w : ℕ) × In (report w) c
some-report c h = some is_r c h (λ l i. no) (λ l f x i. no) (λ l f i. no) (λ i. no) (λ i. no) (λ w i o. (w, i)) (λ i. no)

pub some-change : (c : List Msg) → 1 ≤ sum_l is_k c → In change c
some-change c h = some is_k c h (λ l i. no) (λ l f x i. no) (λ l f i. no) (λ i. no) (λ i. no) (λ w i. no) (λ i o. i)

pub some-answer : (c : List Msg) → 1 ≤ sum_l is_a c → In accept c ⊎ In reject c
some-answer c h = some is_a c h (λ l i. no) (λ l f x i. no) (λ l f i. no) (λ i o. inl i) (λ i o. inr i) (λ w i. no) (λ i. no)

pub some-call : (c : List Msg) → 1 ≤ sum_l is_ci c → ((l : ℕ) × In (connect l) c) ⊎ ((l : ℕ) × (f : ℕ) × (x : ℕ) × In (initiate l f x) c)
some-call c h = some is_ci c h (λ l i o. inl (l, i)) (λ l f x i o. inr (l, f, x, i)) (λ l f i. no) (λ i. no) (λ i. no) (λ w i. no) (λ i. no)

pub no-tests : (c : List Msg) → ((l f : ℕ) → ¬ In (test l f) c) → sum_l is_t c ≡ 0
no-tests c h = by-eq (sum_l is_t c) 0 (λ e. e) (λ n. let t = some-test c (omega arith) in absurd (h t.0 t.1 t.2))

pub no-reports : (c : List Msg) → ((w : ℕ) → ¬ In (report w) c) → sum_l is_r c ≡ 0
no-reports c h = by-eq (sum_l is_r c) 0 (λ e. e) (λ n. let t = some-report c (omega arith) in absurd (h t.0 t.1))

pub no-answers : (c : List Msg) → ¬ In accept c → ¬ In reject c → sum_l is_a c ≡ 0
no-answers c h g = by-eq (sum_l is_a c) 0 (λ e. e) (λ n. absurd (⊎_elim h g (some-answer c (omega arith))))

pub no-calls : (c : List Msg) → ((l : ℕ) → ¬ In (connect l) c) → ((l f x : ℕ) → ¬ In (initiate l f x) c) → sum_l is_ci c ≡ 0
no-calls c h g = by-eq (sum_l is_ci c) 0 (λ e. e)
    (λ n. absurd (⊎_elim (λ t. h t.0 t.1) (λ t. g t.0 t.1 t.2 t.3) (some-call c (omega arith))))

-- a count that is 0 has none of its kind
pub none_in : (f : Msg → ℕ) {m : Msg} {c : List Msg} → sum_l f c ≡ 0 → In m c → f m ≡ 0
none_in f z i = omega (arith, in_sum f i)

-- ---- ends of an edge

-- the other end of an edge, met twice
pub other-end : {g : Graph} {k j u w v z : ℕ} → Joins g k u v → Joins g j w z → u ≡ w → k ≡ j → v ≡ z
other-end {g} {j} {u} {z} a b e f = ends_same a (subst (λ d. Joins g d u z) (sym f) (subst (λ d. Joins g j d z) (sym e) b))

-- the ends of one edge, in either order
pub same-edge : {g : Graph} {k j u v a b : ℕ} → Joins g k u v → Joins g j a b → k ≡ j → ((u ≡ a) × (v ≡ b)) ⊎ ((u ≡ b) × (v ≡ a))
same-edge {g} {u} {v} d e q = ends-two (subst (λ n. Joins g n u v) q d) e

-- joined, of an edge and of its ends

pub joined-both : (p : Network) (mark : ℕ → ℕ → ℕ) {k a b : ℕ} → Edge p k a b → JoinedEdge p mark k → Both mark k a b
joined-both p mark {k} (up l e f) j = (sym (ap (λ x. mark x k) e) ∙ j.0, sym (ap (λ x. mark x k) f) ∙ j.1)
joined-both p mark {k} (down l e f) j = (sym (ap (λ x. mark x k) e) ∙ j.1, sym (ap (λ x. mark x k) f) ∙ j.0)

pub both-joined : (p : Network) (mark : ℕ → ℕ → ℕ) {k a b : ℕ} → Edge p k a b → Both mark k a b → JoinedEdge p mark k
both-joined p mark {k} (up l e f) j = (ap (λ x. mark x k) e ∙ j.0, ap (λ x. mark x k) f ∙ j.1)
both-joined p mark {k} (down l e f) j = (ap (λ x. mark x k) f ∙ j.1, ap (λ x. mark x k) e ∙ j.0)

-- ---- sums over a row

pub sum-upd : (n v a : ℕ) (f : ℕ → ℕ) → v < n → sum n (upd f v a) + f v ≡ sum n f + a
sum-upd n v a f l = omega (arith, sum-change n v (upd f v a) f l (λ k d. upd_other f v a k d), upd_same f v a)

-- one entry of v's row changes
pub sum_row : (n v k x : ℕ) (t : ℕ → ℕ → ℕ) → k < n → sum n (upd2 t v k x v) + t v k ≡ sum n (t v) + x
unfolding upd2
sum_row n v k x t l = subst (λ r. sum n r + t v k ≡ sum n (t v) + x) (sym (upd_same t v (upd (t v) k x))) (sum-upd n k x (t v) l)

-- another row is as it was
pub row-else : (v k x : ℕ) (t : ℕ → ℕ → ℕ) (w : ℕ) → v ≢ w → upd2 t v k x w ≡ t w
unfolding upd2
row-else v k x t w n = upd_other t v (upd (t v) k x) w n

-- an empty row is filled
pub sum-fill : (n v x : ℕ) (t : ℕ → ℕ → ℕ) (f : ℕ → Bool) → sum n (t v) ≡ 0 → sum n (fill_edges t v f x v) ≡ x * sum n (λ j. bit (f j))
sum-fill n v x t f z = sum-eq n (fill_edges t v f x v) (λ j. x * bit (f j)) each ∙ times n
  where
    each : (j : ℕ) → j < n → fill_edges t v f x v j ≡ x * bit (f j)
    each j l = fill-elim (λ y. y ≡ x * bit (f j)) t v f x v j
        (λ a b. rw b (omega arith))
        (λ d. ⊎_elim (λ q. absurd (q refl)) (λ q. rw q (omega (arith, le-sum n j (t v) l))) d)

    times : (m : ℕ) → sum m (λ j. x * bit (f j)) ≡ x * sum m (λ j. bit (f j))
    times zero = omega arith
    times (suc m) = omega (arith, times m)

pub fill-else : (t : ℕ → ℕ → ℕ) (v : ℕ) (f : ℕ → Bool) (x w j : ℕ) → v ≢ w → fill_edges t v f x w j ≡ t w j
fill-else t v f x w j n = fill-elim (λ y. y ≡ t w j) t v f x w j (λ a b. absurd (n a)) (λ d. refl)
