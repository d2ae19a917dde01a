-- One field has one layout (`one-layout`): what is written reads back to the same field and words, and what is read is written as the same bytes.
use Rattle.std.specs.Prelude.{ℕ, zero, suc, ◌+◌, ◌*◌, ◌-◌, ◌/◌, ◌%◌, ◌<◌, ◌≡◌, refl, true, List, ◌++◌, get_or, replicate}
use Rattle.std.proofs.Common.{arith, sym, ap, ap₂, ◌∙◌}
use Rattle.base.specs.Limits.{max_modules, max_ends}
use Rattle.base.specs.Table.{tabulate, upto}
use Rattle.base.proofs.laws.Cond.{ltb-cases}
use Rattle.base.proofs.laws.Table.{get_d_tabulate, tabulate-ext, upto-in, upto-out}
use Rattle.plan.specs.Links.{Plan, modules_of, links_of, plan_numbers, plan_size}
use Rattle.plan.specs.Same.{Same}
use Rattle.plan.specs.Trimmed.{padded, trimmed}
use Rattle.plan.proofs.laws.Accepted.{Accepted, accepted}
use Rattle.plan.proofs.laws.Trimmed.{trimmed-same}
use Rattle.field.specs.declared.Field.{Field}
use Rattle.field.specs.State.{WIDTH, CELLS}
use Rattle.field.specs.Valid.{waiting_in}
use Rattle.field.specs.Held.{Held, valid, fresh_cells}
use Rattle.field_laws.proofs.Laid.{valid-parts}
use Rattle.store.specs.Names.{name_fits}
use Rattle.store.specs.Layout.{record_bytes}
use Rattle.store.specs.Tidied.{tidied, saved_of}
use Rattle.store.specs.Claims.{SameField, ReadsBack, OneLayout}
use Rattle.store_laws.proofs.Written.{saved-version, saved-size, saved-name, saved_read, record-length}
use Rattle.store_laws.proofs.Fitting.{saved-fits, saved-bytes}
use Rattle.store_laws.proofs.ReadBack.{read-saved}
use Rattle.store_laws.proofs.Tidy.{tidy-kept}

-- what a record keeps differs only past the plan's modules and links
tidied-alike : (f : Field) → Accepted f.plan → SameField f (tidied f)
unfolding tidied
tidied-alike f a = record {
  plan = trimmed-same f.plan;
  values = λ i l. sym (get_d_tabulate CELLS (upto (modules_of f.plan * WIDTH) cell_at fresh_at) i (omega (arith, a.modules_ok)) ∙ upto-in (modules_of f.plan * WIDTH) cell_at fresh_at i l);
  marks = λ d l. sym (get_d_tabulate max_ends (upto (2 * links_of f.plan) mark_at (λ k. 0)) d (omega (arith, a.links_ok)) ∙ upto-in (2 * links_of f.plan) mark_at (λ k. 0) d l);
  sent = refl;
}
  where
    cell_at : ℕ → ℕ
    cell_at i = get_or f.cells i 0

    fresh_at : ℕ → ℕ
    fresh_at i = get_or (fresh_cells max_modules) i 0

    mark_at : ℕ → ℕ
    mark_at d = get_or f.marks d 0

held-accepted : (h : Held) → valid h ≡ true → Accepted h.field.plan
held-accepted h v = accepted h.field.plan (valid-parts h v).0

pub reads-back : (name : List ℕ) (h : Held) → name_fits name ≡ true → valid h ≡ true → ReadsBack name h
unfolding saved_of
reads-back name h n v = record {
  fits = saved-fits h v name n;
  named = saved-name name h;
  held = saved_read name h (held-accepted h v);
  same = tidied-alike h.field (held-accepted h v);
  size = omega (arith, record-length name h (held-accepted h v));
}

-- ---- what 31 does not look at

-- plans that mean the same have the same numbers up to their links
same-entry : {p q : Plan} → Same p q → (i : ℕ) → i < plan_numbers (links_of p) → get_or p i 0 ≡ get_or q i 0
same-entry e zero l = e.modules
same-entry e (suc zero) l = e.links
same-entry {p} {q} e (suc (suc i)) l = link (suc (suc i)) (i / 4) (i % 4) (omega arith) (omega arith) (omega arith)
  where
    link : (i k j : ℕ) → k < links_of p → j < 4 → i ≡ 2 + 4 * k + j → get_or p i 0 ≡ get_or q i 0
    link i k zero l m o = rw (let n : i ≡ 2 + 4 * k = omega arith in n) (e.lows k l)
    link i k (suc zero) l m o = rw (let n : i ≡ 3 + 4 * k = omega arith in n) (e.highs k l)
    link i k (suc (suc zero)) l m o = rw (let n : i ≡ 4 + 4 * k = omega arith in n) (e.nears k l)
    link i k (suc (suc (suc zero))) l m o = rw (let n : i ≡ 5 + 4 * k = omega arith in n) (e.fars k l)
    link i k (suc (suc (suc (suc j)))) l m o = absurd (omega arith)

same-trimmed : {p q : Plan} → Same p q → trimmed p ≡ trimmed q
unfolding trimmed padded
same-trimmed {p} {q} e = rw (← e.links) (ap (λ xs. xs ++ replicate (plan_size - plan_numbers (links_of p)) 0) (tabulate-ext (plan_numbers (links_of p)) (λ i. get_or p i 0) (λ i. get_or q i 0) (same-entry e)))

-- entries that agree below n, and by one rule from there on
same-upto : (size n : ℕ) (f g past : ℕ → ℕ) → ((i : ℕ) → i < n → f i ≡ g i) → tabulate size (upto n f past) ≡ tabulate size (upto n g past)
same-upto size n f g past h = tabulate-ext size (upto n f past) (upto n g past) (λ i l. ltb-cases i n (λ b. upto n f past i ≡ upto n g past i)
    (λ m. upto-in n f past i m ∙ h i m ∙ sym (upto-in n g past i m))
    (λ m. upto-out n f past i m ∙ sym (upto-out n g past i m)))

same-tidied : {f g : Field} → SameField f g → tidied f ≡ tidied g
unfolding tidied
same-tidied {f} {g} e =
    let m = e.plan.modules in
    let l = e.plan.links in
    rw (
      same-trimmed e.plan,
      ← m,
      ← l,
      e.sent,
      same-upto CELLS (modules_of f.plan * WIDTH) (λ i. get_or f.cells i 0) (λ i. get_or g.cells i 0) (λ i. get_or (fresh_cells max_modules) i 0) e.values,
      same-upto max_ends (2 * links_of f.plan) (λ d. get_or f.marks d 0) (λ d. get_or g.marks d 0) (λ d. 0) e.marks,
    ) refl

-- a record is of what it keeps
kept_record : (name : List ℕ) (h : Held) → name_fits name ≡ true → valid h ≡ true → record_bytes name (saved_of h) ≡ record_bytes name h
kept_record name h n v =
    ap₂ record_bytes (sym (saved-name name h)) (sym (saved_read name h (held-accepted h v)))
    ∙ read-saved (record_bytes name h) (saved-fits h v name n) (saved-bytes h v name n) (saved-version name h) (saved-size name h)

unseen : (name : List ℕ) (h g : Held) → name_fits name ≡ true → valid h ≡ true → valid g ≡ true → SameField h.field g.field
    → waiting_in h.words ≡ waiting_in g.words → record_bytes name h ≡ record_bytes name g
unfolding saved_of
unseen name h g n v w e l =
    sym (kept_record name h n v) ∙ ap₂ (λ f ws. record_bytes name (record { field = f; words = ws })) (same-tidied e) l ∙ kept_record name g n w

pub one-layout : OneLayout
one-layout = record {
  written = reads-back;
  whole = tidy-kept;
  unseen = unseen;
  again = λ r b v z f. read-saved r f b v z;
}
