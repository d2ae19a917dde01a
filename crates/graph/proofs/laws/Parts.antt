-- Parts: the test decides (`together-part`, `part-together`, `two-parts`, `apart-together`), from either end alike (`together-turned`); how many nodes a part has
-- (`part_filled`, `part-whole`, `part-alone`, `part-more`, `part-other`); each node has a lowest in its part (`lowest-of`), one only (`lowest-one`), and the list has
-- exactly these (`lowests-are`, `in-lowests`), whose parts have no node in common (`parts_share`); a table of the labels has all of it (`labels-part`,
-- `labels-lowest`, `labels-nodes`).
use Prim.Native.Nat.{ℕ, zero, suc, ◌+◌, ◌≤◌, ◌<◌}
use native.Mathlib.Omega.{arith}
use Rattle.std.proofs.Math.Decide.{dec_le}
use Rattle.std.specs.Prelude.{◌≡◌, ◌≢◌, ◌⊎◌, Bool, ◌&&◌}
use Rattle.std.proofs.Math.Path.{refl, sym, ap, ap₂}
use Rattle.std.proofs.Common.{◌∙◌, inl, inr, true≢false, length-append}
use Rattle.std.proofs.Math.Logic.{by_cases}
use Rattle.std.proofs.Math.Bool.{true, false, not, cond, and-eq-true_iff}
use mathlib.Core.List.Memᴰ
use mathlib.Core.List.{List, [], ◌∷◌, ◌++◌, append-nil, append_assoc, flat_map, Memᴰ}
use Rattle.std.proofs.Math.ListN.{length, get_or}
use Rattle.std.proofs.Math.Dec.{eqb}
use Rattle.std.proofs.lemmas.Bool.{not-true}
use Rattle.base.specs.Cond.{bit}
use Rattle.base.proofs.laws.Cond.{bool_cases, by-eq, eqb-cases, eqb_same, eqb-diff}
use Rattle.base.proofs.laws.Loop.{by-test}
use Rattle.base.proofs.laws.Search.{lt-suc-cases, Least, least}
use Rattle.base.specs.Test.{every}
use Rattle.base.proofs.laws.Test.{every-all, all-every, every-ext, dec-test}
use Rattle.base.specs.Sum.{sum}
use Rattle.base.proofs.laws.Sum.{sum-eq, sum-le, le-sum, sum-const, sum-swap, sum-zero, sum_one, sum-two, sum-at-most-one}
use Rattle.base.specs.Table.{tabulate}
use Rattle.base.proofs.laws.Table.{get_d_tabulate}
use Rattle.base.specs.Pool.{All, nil, con}
use Rattle.base.proofs.laws.Pool.{All-map, All-app}
use Rattle.graph.specs.Graph.{Graph, stop}
use Rattle.graph.specs.Decide.{label, joined_over}
use Rattle.graph.specs.Parts.{SamePart, together, lowest, lowests, part_nodes}
use Rattle.graph.proofs.laws.Ways.{way-append, way-reverse, wider}
use Rattle.graph.proofs.laws.Decide.{joined-way, way-joined}

module _ (g : Graph) where
  -- THE TEST

  pub together-part : (u v : ℕ) → together g u v ≡ true → SamePart g u v
  unfolding together
  together-part u v h = wider (λ e l t. tt) (joined-way g (λ e. true) u v h)

  pub part-together : (u v : ℕ) → SamePart g u v → together g u v ≡ true
  unfolding together
  part-together u v w = way-joined g (λ e. true) u v (wider (λ e l t. refl) w)

  pub two-parts : (u v : ℕ) → together g u v ≡ false → ¬ SamePart g u v
  two-parts u v h w = true≢false (sym (part-together u v w) ∙ h)

  pub apart-together : (u v : ℕ) → ¬ SamePart g u v → together g u v ≡ false
  apart-together u v n = bool_cases (together g u v) (λ t. absurd (n (together-part u v t))) (λ f. f)

  pub part? : (u v : ℕ) → SamePart g u v ⊎ (¬ SamePart g u v)
  part? u v = bool_cases (together g u v) (λ t. inl (together-part u v t)) (λ f. inr (two-parts u v f))

  pub together-self : (u : ℕ) → together g u u ≡ true
  together-self u = part-together u u stop

  pub together-turned : (u v : ℕ) → together g u v ≡ together g v u
  together-turned u v = bool_cases (together g v u)
      (λ t. part-together u v (way-reverse (together-part v u t)) ∙ sym t)
      (λ f. apart-together u v (λ w. two-parts v u f (way-reverse w)) ∙ sym f)

  -- HOW MANY NODES IT HAS

  pub part_filled : (n u : ℕ) → u < n → 0 < part_nodes g n u
  unfolding part_nodes
  part_filled n u l = omega (arith, le-sum n u (λ v. bit (together g u v)) l, ap bit (together-self u))

  pub part-whole : (n u : ℕ) → ((v : ℕ) → v < n → SamePart g u v) → part_nodes g n u ≡ n
  unfolding part_nodes
  part-whole n u all = sum-eq n (λ v. bit (together g u v)) (λ v. 1) (λ v l. ap bit (part-together u v (all v l))) ∙ (sum-const n 1 ∙ omega arith)

  -- THE LOWEST OF A PART

  pub lowest-none : (v : ℕ) → lowest g v ≡ true → (u : ℕ) → u < v → ¬ SamePart g u v
  unfolding lowest
  lowest-none v h u l = two-parts u v (not-true _ (every-all v (λ u. not (together g u v)) h u l))

  pub none-lowest : (v : ℕ) → ((u : ℕ) → u < v → ¬ SamePart g u v) → lowest g v ≡ true
  unfolding lowest
  none-lowest v h = all-every v (λ u. not (together g u v)) (λ u l. bool_cases (together g u v) (λ t. absurd (h u l (together-part u v t))) (λ f. ap not f))

  -- v's part has a lowest node, no later than v
  pub record LowestOf (v : ℕ) : Type 0 where
    pub node : ℕ
    pub low : node ≤ v
    pub lowly : lowest g node ≡ true
    pub joins : SamePart g node v

  pub lowest-of : (v : ℕ) → LowestOf v
  lowest-of v = go (least (λ u. SamePart g u v) (λ u. dec-test (together g u v) (together-part u v) (part-together u v)) v)
    where
      go : ((k : ℕ) → k < v → ¬ SamePart g k v) ⊎ Least (λ u. SamePart g u v) v → LowestOf v
      go (inl f) = record { node = v; low = omega arith; lowly = none-lowest v f; joins = stop }
      go (inr m) = record {
        node = m.at;
        low = omega (arith, m.below);
        lowly = none-lowest (m.at) (λ u l w. m.first u l (way-append w (m.holds)));
        joins = m.holds;
      }

  pub lowest-one : (u v : ℕ) → lowest g u ≡ true → lowest g v ≡ true → SamePart g u v → u ≡ v
  lowest-one u v a b w = by-eq u v (λ e. e)
      (λ d. absurd (by_cases (dec_le (suc u) v) (λ l. lowest-none v b u l w) (λ n. lowest-none u a v (omega arith) (way-reverse w))))

  -- THE LIST OF THEM

  pub lowests-are : (n : ℕ) → All (λ u. (u < n) × (lowest g u ≡ true)) (lowests g n)
  unfolding lowests
  lowests-are zero = nil
  lowests-are (suc n) = All-app (All-map (λ u h. (omega (arith, h.0), h.1)) (lowests-are n)) (last (lowest g n) refl)
    where
      last : (b : Bool) → lowest g n ≡ b → All (λ u. (u < suc n) × (lowest g u ≡ true)) (cond b (n ∷ []) [])
      last true e = con {x = n} (omega arith, e) nil
      last false e = nil

  pub in-lowests : (n v : ℕ) → v < n → lowest g v ≡ true → Memᴰ v (lowests g n)
  unfolding lowests
  in-lowests zero v l h = absurd (omega arith)
  in-lowests (suc n) v l h = lt-suc-cases v n l
      (λ e. Memᴰ.append_right (lowests g n) (rw (← e, h) (Memᴰ.head refl)))
      (λ lt. Memᴰ.append_left _ (in-lowests n v lt h))

  pub lowests-many : (n : ℕ) → length (lowests g n) ≤ n
  unfolding lowests
  lowests-many zero = omega arith
  lowests-many (suc n) = rw (length-append (lowests g n) (cond (lowest g n) (n ∷ []) []))
      (by-test (lowest g n) (λ b. length (lowests g n) + length (cond b (n ∷ []) []) ≤ suc n) (omega (arith, lowests-many n)) (omega (arith, lowests-many n)))

  -- one node further, where each of them gives a list
  pub lowests-flat : {A : Type 0} (f : ℕ → List A) (n : ℕ) → flat_map f (lowests g n) ++ cond (lowest g n) (f n) [] ≡ flat_map f (lowests g (suc n))
  unfolding lowests flat_map
  lowests-flat {A} f n = by-test (lowest g n) (λ b. flat_map f (lowests g n) ++ cond b (f n) [] ≡ flat_map f (lowests g n ++ cond b (n ∷ []) []))
      (ap (λ t. flat_map f (lowests g n) ++ t) (sym (append-nil (f n))) ∙ sym (on (lowests g n) (n ∷ [])))
      (sym (on (lowests g n) []))
    where
      on : (l m : List ℕ) → flat_map f (l ++ m) ≡ flat_map f l ++ flat_map f m
      on [] m = refl
      on (x ∷ l) m = ap (λ r. f x ++ r) (on l m) ∙ sym (append_assoc (f x) (flat_map f l) (flat_map f m))

  -- each node is in the part of one lowest at the most
  pub parts_share : (n : ℕ) → sum n (λ u. cond (lowest g u) (part_nodes g n u) 0) ≤ n
  unfolding part_nodes
  parts_share n = omega (
    arith,
    sum-eq n (λ u. cond (lowest g u) (part_nodes g n u) 0) (λ u. sum n (λ v. bit (lowest g u && together g u v))) (λ u l. spread u),
    sum-swap n n (λ u v. bit (lowest g u && together g u v)),
    sum-le n (λ v. sum n (λ u. bit (lowest g u && together g u v))) (λ v. 1) (λ v l. sum-at-most-one n (λ u. lowest g u && together g u v) (λ j k lj lk a b. same v j k a b)),
    sum-const n 1,
  )
    where
      spread : (u : ℕ) → cond (lowest g u) (sum n (λ v. bit (together g u v))) 0 ≡ sum n (λ v. bit (lowest g u && together g u v))
      spread u = by-test (lowest g u) (λ b. cond b (sum n (λ v. bit (together g u v))) 0 ≡ sum n (λ v. bit (b && together g u v))) refl (sym (sum-zero n (λ v. 0) (λ k l. refl)))

      same : (v j k : ℕ) → (lowest g j && together g j v) ≡ true → (lowest g k && together g k v) ≡ true → j ≡ k
      same v j k a b = let x = (and-eq-true_iff _ _).0 a in let y = (and-eq-true_iff _ _).0 b in
          lowest-one j k x.0 y.0 (way-append (together-part j v x.1) (way-reverse (together-part k v y.1)))

  -- ONE NODE, where nobody else is in the part, or more

  pub part-alone : (n u : ℕ) → u < n → ((v : ℕ) → v < n → SamePart g u v → u ≡ v) → part_nodes g n u ≡ 1
  unfolding part_nodes
  part-alone n u l h = sum-eq n (λ v. bit (together g u v)) (λ v. bit (eqb u v)) (λ v k. ap bit (is v k)) ∙ sum_one n u l
    where
      is : (v : ℕ) → v < n → together g u v ≡ eqb u v
      is v k = eqb-cases u v (λ b. together g u v ≡ b) (λ e. rw (← e) (together-self u))
          (λ d. bool_cases (together g u v) (λ t. absurd (d (h v k (together-part u v t)))) (λ f. f))

  pub part-more : (n u v : ℕ) → u < n → v < n → u ≢ v → SamePart g u v → 2 ≤ part_nodes g n u
  unfolding part_nodes
  part-more n u v lu lv d w = sum-two n u v (λ v. bit (together g u v)) lu lv d (ap bit (together-self u)) (ap bit (part-together u v w))

  -- somebody else in u's part
  pub record OtherOf (n u : ℕ) : Type 0 where
    pub node : ℕ
    pub below : node < n
    pub joins : SamePart g u node
    pub differs : u ≢ node

  pub part-other : (n u : ℕ) → u < n → part_nodes g n u ≢ 1 → OtherOf n u
  part-other n u l d = go (least (λ v. other v ≡ true) (λ v. dec-test (other v) (λ e. e) (λ e. e)) n)
    where
      other : ℕ → Bool
      other v = together g u v && not (eqb u v)

      go : ((k : ℕ) → k < n → ¬ (other k ≡ true)) ⊎ Least (λ v. other v ≡ true) n → OtherOf n u
      go (inl f) = absurd (d (part-alone n u l (λ v k w. by-eq u v (λ e. e) (λ ne. absurd (f v k ((and-eq-true_iff _ _).1 (part-together u v w, ap not (eqb-diff u v ne))))))))
      go (inr m) = let both = (and-eq-true_iff _ _).0 (m.holds) in record {
        node = m.at;
        below = m.below;
        joins = together-part u (m.at) both.0;
        differs = λ e. true≢false (sym both.1 ∙ ap not (ap (λ v. eqb u v) (sym e) ∙ eqb_same u));
      }

  -- FOR CODE: a table of the labels of m nodes, once all edges are merged

  module _ (m : ℕ) (s : List ℕ) (e : s ≡ tabulate m (label g (λ _. true) (g.L))) where
    pub labels-part : (u v : ℕ) → u < m → v < m → eqb (get_or s u 0) (get_or s v 0) ≡ together g u v
    unfolding together joined_over
    labels-part u v lu lv = ap₂ eqb (at u lu) (at v lv)
      where
        at : (v : ℕ) → v < m → get_or s v 0 ≡ label g (λ _. true) (g.L) v
        at v l = rw e (get_d_tabulate m (label g (λ _. true) (g.L)) v l)

    pub labels-lowest : (v : ℕ) → v < m → every v (λ u. not (eqb (get_or s u 0) (get_or s v 0))) ≡ lowest g v
    unfolding lowest
    labels-lowest v l = every-ext v (λ u. not (eqb (get_or s u 0) (get_or s v 0))) (λ u. not (together g u v)) (λ u k. ap not (labels-part u v (omega arith) l))

    pub labels-nodes : (n u : ℕ) → n ≤ m → u < m → sum n (λ v. bit (eqb (get_or s u 0) (get_or s v 0))) ≡ part_nodes g n u
    unfolding part_nodes
    labels-nodes n u ln lu = sum-eq n (λ v. bit (eqb (get_or s u 0) (get_or s v 0))) (λ v. bit (together g u v)) (λ v k. ap bit (labels-part u v lu (omega arith)))
