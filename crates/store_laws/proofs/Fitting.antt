-- A record of a field that passes 31, under a good name: it passes the record's check (`saved-fits`), and it is bytes (`saved-bytes`).
use Prim.Native.Nat.{ℕ, zero, suc, ◌-◌, ◌*◌, ◌/◌, ◌%◌, ◌^◌, ◌≤◌, ◌<◌}
use native.Mathlib.Omega.{arith}
use Rattle.std.specs.Prelude.{◌≡◌, true, List, [], ◌∷◌, map, eqb, leb}
use Rattle.std.proofs.Math.Path.{refl, sym, ap, ap₂}
use Rattle.std.proofs.Common.{subst, ◌∙◌, inl, inr, ⊎_elim, eqb-true, leb-true, eq-eqb, ne_eqb, le-leb}
use Rattle.std.proofs.Math.Bool.{not, ◌&&◌, and-eq-true_iff}
use Rattle.std.proofs.Math.ListN.{length, get_or, length-append}
use Rattle.base.specs.Ceiling.{ceiling}
use Rattle.base.specs.Limits.{max_modules, max_ends, AllBytes}
use Rattle.base.specs.Pool.{All, nil, con}
use Rattle.base.proofs.laws.Pool.{All-map, All-app}
use Rattle.base.specs.Table.{upto}
use Rattle.base.proofs.laws.Table.{get_d_tabulate, upto-in}
use Rattle.format_wide.specs.Wide.{bytes32}
use Rattle.format_wide.proofs.laws.Wide.{four_bytes}
use Rattle.plan.specs.Links.{Plan, modules_of, links_of}
use Rattle.plan.specs.Refusal.{plan_refusal}
use Rattle.plan.proofs.laws.Accepted.{Accepted, accepted}
use Rattle.plan.proofs.laws.Ceiling.{level-small, ceiling-small}
use Rattle.plan.proofs.laws.Same.{same_taken}
use Rattle.plan.specs.Trimmed.{trimmed}
use Rattle.plan_file.specs.Layout.{bytes_of, encode}
use Rattle.plan_file.specs.Reading.{read_refusal}
use Rattle.plan_file.proofs.laws.Numbers.{bytes-of, all-bytes}
use Rattle.plan.proofs.laws.Trimmed.{trimmed-same}
use Rattle.plan_file.proofs.laws.RoundTrip.{written-taken, written-bytes}
use Rattle.node.specs.declared.Node.{Node}
use Rattle.node.proofs.laws.Values.{node-by, values-by}
use Rattle.field.specs.Edges.{own_of, limit_of, ceiling_of}
use Rattle.field.proofs.laws.Edges.{own_below}
use Rattle.field.specs.State.{State, WIDTH, CELLS, values, cell_of, node_in}
use Rattle.field.specs.Valid.{all_of, waiting_in, fits}
use Rattle.field.specs.Held.{Held, layout, state_of, valid, fresh_cells}
use Rattle.field_laws.proofs.Degree.{degree-below}
use Rattle.field_laws.proofs.Fits.{FieldFits, fits-facts, all-of, of-all, word-shaped}
use Rattle.field_laws.proofs.Laid.{valid-parts, waited-back, waiting-nonzero, laid-length, layout-zeros}
use Rattle.field_laws.proofs.Lists.{NodeOk, OwnOrNone}
use Rattle.store.specs.Names.{is_letter, longest_name, name_fits}
use Rattle.store.specs.Layout.{mark_place, entry_at, field_bytes, word_bytes, following, record_bytes, record_with}
use Rattle.store.specs.Reading.{numbers_size, behind_plan, words_part, filled_up, record_fits}
use Rattle.store.specs.Tidied.{tidied, saved_of}
use Rattle.store_laws.proofs.Alike.{alike-fits}
use Rattle.store_laws.proofs.Places.{IsPlace, places-inside}
use Rattle.store_laws.proofs.Words.{length-words, words-bytes}
use Rattle.store_laws.proofs.FieldBytes.{numbers_of, entry-cell, entry-mark}
use Rattle.store_laws.proofs.Written.{saved-name, saved-plan, saved-behind, saved-numbers, saved-words, saved_read, record-length}

-- ---- the name

name-facts : (name : List ℕ) → name_fits name ≡ true → (length name ≤ longest_name) × All (λ b. b < 256) name
unfolding name_fits
name-facts name e =
    let x = (and-eq-true_iff (leb 1 (length name) && leb (length name) longest_name) (all_of is_letter name)).0 e in
    let y = (and-eq-true_iff (leb 1 (length name)) (leb (length name) longest_name)).0 x.0 in
    (leb-true _ _ y.1, All-map (λ b t. omega (arith, leb-true b 122 ((and-eq-true_iff (leb 97 b) (leb b 122)).0 t).1)) (all-of is_letter name x.1))

-- ---- a module's values have 16 bits

module _ (p : Plan) (a : Accepted p) (v : ℕ) (l : v < modules_of p) (n : Node) (o : NodeOk (own_of p v) (limit_of p) n) where
  values-fit : All (λ x. x < 65536) (values n)
  values-fit =
      con {x = n.status} (omega (arith, o.status))
      (con {x = n.level} (omega (arith, o.level, level-small p a))
      (con {x = n.identity} (⊎_elim (λ e. omega arith) (λ m. omega (arith, a.links_ok)) o.identity)
      (con {x = n.weight} (⊎_elim (λ e. omega arith) (λ m. omega (arith, a.links_ok)) o.weight)
      (con {x = n.best} (owned n.best o.best)
      (con {x = n.test} (owned n.test o.test)
      (con {x = n.branch} (owned n.branch o.branch)
      (con {x = n.count} (omega (arith, o.count, degree-below p a v l, a.modules_ok))
      (con {x = n.halted} (omega (arith, o.halted))
      (con {x = n.waking} (owned n.waking o.waking) nil)))))))))
    where
      owned : (x : ℕ) → OwnOrNone (own_of p v) x → x < 65536
      owned x h = ⊎_elim (λ e. omega arith) (λ m. omega (arith, own_below p v x m, a.links_ok)) h

-- ---- lists of which all members have something

all-at : {P : ℕ → Type 0} {l : List ℕ} → All P l → (j : ℕ) → j < length l → P (get_or l j 0)
all-at nil j b = absurd (omega arith)
all-at (con h t) zero b = h
all-at (con h t) (suc j) b = all-at t j (omega arith)

all-mapped : {Q : ℕ → Type 0} (g : ℕ → ℕ) {l : List ℕ} → All (λ i. Q (g i)) l → All Q (map g l)
all-mapped g nil = nil
all-mapped g (con h t) = con h (all-mapped g t)

bytes-all : (s : List ℕ) → AllBytes s → All (λ b. b < 256) s
bytes-all [] h = nil
bytes-all (x ∷ s) h = con {x = x} (omega (arith, h 0)) (bytes-all s (λ i. h (suc i)))

-- ---- a field that passes 31

module _ (h : Held) (v : valid h ≡ true) where
  abbrev p : Plan
  p = h.field.plan

  abbrev ws : List ℕ
  ws = waiting_in h.words

  taken : plan_refusal p ≡ 0
  taken = (valid-parts h v).0

  a : Accepted p
  a = accepted p taken

  facts : FieldFits p (state_of h)
  facts = fits-facts p (state_of h) (valid-parts h v).3

  -- its numbers have 16 bits
  cell-fits : (i : ℕ) → i < modules_of p * WIDTH → get_or h.field.cells i 0 < 65536
  cell-fits i l =
      let u = i / WIDTH in
      let j = i % WIDTH in
      let e : cell_of u j ≡ i = omega arith in
      let w = values-by (λ k. get_or h.field.cells (cell_of u k) 0) j (omega arith) ∙ ap (λ k. get_or h.field.cells k 0) e in
      let m : u < modules_of p = omega arith in
      subst (λ x. x < 65536) w (all-at (values-fit p a u m (node_in h.field.cells u) (facts.nodes u m)) j (omega arith))

  entry-fits : (i : ℕ) → IsPlace p i → entry_at h.field i < 65536
  entry-fits i (inl l) = subst (λ x. x < 65536) (sym (entry-cell h.field i (omega (arith, a.modules_ok)))) (cell-fits i l)
  entry-fits i (inr l) =
      let d = i - CELLS in
      let e : mark_place d ≡ i = omega (arith, l.0) in
      let m : d < 2 * links_of p = omega (arith, l.0, l.1) in
      subst (λ k. entry_at h.field k < 65536) e (omega (arith, entry-mark h.field d, facts.marks d m))

  pub saved-fit-16 : All (λ x. x < 65536) (numbers_of h.field)
  saved-fit-16 = con {x = h.field.sent} (omega (arith, facts.ceiling, ceiling-small p taken)) (all-mapped (entry_at h.field) (All-map entry-fits (places-inside p)))

  word-fits-64 : All (λ w. w < 18446744073709551616) ws
  word-fits-64 = All-map (λ w e. omega (arith, eqb-true (w / 2 ^ 41) 1 (word-shaped p w e))) facts.words

  -- what a record keeps of it passes 31 too
  q-short : length ws ≤ ceiling_of (trimmed p)
  q-short = omega (arith, facts.waiting, facts.ceiling, ap₂ ceiling (trimmed-same p).modules (trimmed-same p).links)

  abbrev kept-state : State
  kept-state = state_of (filled_up (saved_of h))

  kept-fits : fits (trimmed p) kept-state ≡ true
  unfolding saved_of tidied
  kept-fits = sym (alike-fits (trimmed-same p) (state_of h) kept-state (sym (waited-back (ceiling_of (trimmed p) - length ws) (waiting-nonzero h.words))) refl
      (λ u l. node-by (λ j. get_or h.field.cells (cell_of u j) 0) (λ j. get_or (tidied h.field).cells (cell_of u j) 0)
      (λ j m. sym (get_d_tabulate CELLS rule (cell_of u j) (omega (arith, a.modules_ok)) ∙ upto-in (modules_of p * WIDTH) (λ i. get_or h.field.cells i 0) (λ i. get_or (fresh_cells max_modules) i 0) (cell_of u j) (omega arith))))
      (λ d l. sym (get_d_tabulate max_ends (upto (2 * links_of p) (λ k. get_or h.field.marks k 0) (λ k. 0)) d (omega (arith, a.links_ok))
      ∙ upto-in (2 * links_of p) (λ k. get_or h.field.marks k 0) (λ k. 0) d l)))
      ∙ (valid-parts h v).3
    where
      rule : ℕ → ℕ
      rule = upto (modules_of p * WIDTH) (λ i. get_or h.field.cells i 0) (λ i. get_or (fresh_cells max_modules) i 0)

  pub saved-valid : valid (filled_up (saved_of h)) ≡ true
  unfolding valid saved_of tidied
  saved-valid =
      let c = ceiling_of (trimmed p) in
      ap₂ ◌&&◌
      (ap₂ ◌&&◌ (ap₂ ◌&&◌ (eq-eqb _ _ (same_taken (trimmed-same p) taken)) (le-leb c (length (layout c ws)) (omega (arith, laid-length c ws q-short))))
      (layout-zeros c ws q-short (waiting-nonzero h.words)))
      kept-fits

  module _ (name : List ℕ) (n : name_fits name ≡ true) where
    abbrev r : List ℕ
    r = record_bytes name h

    nonzero-words : all_of (λ w. not (eqb w 0)) ws ≡ true
    nonzero-words = of-all (λ w. not (eqb w 0)) (All-map (λ w d. ap not (ne_eqb w 0 d)) (waiting-nonzero h.words))

    pub saved-fits : record_fits (record_bytes name h) ≡ true
    unfolding record_fits saved_of
    saved-fits =
        let numbers = bytes_of (numbers_of h.field) in
        ap₂ ◌&&◌
        (ap₂ ◌&&◌
        (ap₂ ◌&&◌
        (ap₂ ◌&&◌
        (ap₂ ◌&&◌ (ap name_fits (saved-name name h) ∙ n) (eq-eqb _ _ (ap read_refusal (saved-plan name h) ∙ written-taken p taken)))
        (le-leb (numbers_size r) (length (behind_plan r)) (omega (arith, saved-numbers name h, ap length (saved-behind name h), length-append numbers (word_bytes ws)))))
        (eq-eqb (length (words_part r) % 8) 0 (omega (arith, ap length (saved-words name h), length-words ws))))
        (ap (λ (g : Held). all_of (λ w. not (eqb w 0)) g.words) (saved_read name h a) ∙ nonzero-words))
        (ap (λ g. valid (filled_up g)) (saved_read name h a) ∙ saved-valid)

    length-fits : length (following name h.field (waiting_in h.words)) < 4294967296
    unfolding record_bytes record_with
    length-fits =
        omega (
          arith,
          record-length name h a,
          length-append (bytes32 (length (following name h.field (waiting_in h.words)))) (following name h.field (waiting_in h.words)),
          (name-facts name n).0,
          a.modules_ok,
          a.links_ok,
          facts.waiting,
          facts.ceiling,
          ceiling-small p taken,
        )

    pub saved-bytes : AllBytes (record_bytes name h)
    unfolding record_bytes record_with field_bytes
    saved-bytes = all-bytes r (con {x = 1} (omega arith)
        (All-app (four_bytes (length (following name h.field (waiting_in h.words))) length-fits) (con {x = length name} (omega (arith, (name-facts name n).0))
        (All-app (name-facts name n).1 (All-app (All-app (bytes-all (encode p) (written-bytes p a)) (bytes-of (numbers_of h.field) saved-fit-16)) (words-bytes word-fits-64))))))
