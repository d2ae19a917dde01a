-- A store that passes 76's check is its records with zeros after (`fit-stored`, `fit-records`), and back (`stored-fits`); a name that is held shows a
-- record that fits (`held_fits`). Records that fit, no name twice (`AllFit`), stay so when one leaves and another one comes (`fit-without`, `fit-saved`).
use Rattle.std.specs.Prelude.{ℕ, ◌-◌, ◌≡◌, refl, Bool, true, not, ◌&&◌, List, [], ◌∷◌, ◌++◌, length, drop, replicate}
use Rattle.std.proofs.Common.{sym, ap, subst, ◌∙◌, length-drop, drop_at}
use Rattle.std.proofs.Math.Bool.{and-eq-true_iff}
use Rattle.std.proofs.Math.Dec.{eqb}
use Rattle.std.proofs.lemmas.Bool.{not-true}
use Rattle.base.specs.Pool.{All, nil, con}
use Rattle.base.proofs.laws.Pool.{All-app, All-one}
use Rattle.base.proofs.laws.Cond.{bool_cases}
use Rattle.field.specs.Valid.{all_of}
use Rattle.field_laws.proofs.Laid.{all-zeros, zeros-all}
use Rattle.store.specs.Records.{records_in, joined, stored}
use Rattle.store.specs.Names.{name_in, is_named, without_first, held_among, holds, shown_part}
use Rattle.store.specs.Reading.{record_fits}
use Rattle.store.specs.Calls.{records_fit, store_fits}
use Rattle.store_records.specs.Walk.{IsRecord, all-records, front-is, laid-back}
use Rattle.store_records.specs.Spots.{NonePass, without-keeps}
use Rattle.store_records.specs.Named.{same-equal, same-swap, first-has, held-there, shown-first, unheld-none, none-unheld}

-- each record fits, and none behind it has its name
pub data AllFit : List (List ℕ) → Type 0 where
  fit_none : AllFit []
  fit-more : {r : List ℕ} {rs : List (List ℕ)} → record_fits r ≡ true → NonePass (is_named (name_in r)) rs → AllFit rs → AllFit (r ∷ rs)

pub fit-facts : {rs : List (List ℕ)} → All IsRecord rs → records_fit rs ≡ true → AllFit rs
unfolding records_fit
fit-facts nil e = fit_none
fit-facts (con {x} {xs} h t) e =
    let b = (and-eq-true_iff (record_fits x && not (held_among (name_in x) xs)) (records_fit xs)).0 e in
    let a = (and-eq-true_iff (record_fits x) (not (held_among (name_in x) xs))).0 b.0 in
    fit-more a.0 (unheld-none (name_in x) t (not-true (held_among (name_in x) xs) a.1)) (fit-facts t b.1)

pub facts-fit : {rs : List (List ℕ)} → AllFit rs → records_fit rs ≡ true
unfolding records_fit
facts-fit fit_none = refl
facts-fit (fit-more {r} {rs} f d t) = rw (f, none-unheld (name_in r) d) (facts-fit t)

pub fit-each : {rs : List (List ℕ)} → AllFit rs → All (λ r. record_fits r ≡ true) rs
fit-each fit_none = nil
fit-each (fit-more f d t) = con f (fit-each t)

-- one that passes leaves
fit-left : (q : List ℕ → Bool) {rs : List (List ℕ)} → AllFit rs → AllFit (without_first q rs)
unfolding without_first
fit-left q fit_none = fit_none
fit-left q (fit-more {r} {rs} f d t) = bool_cases (q r) (λ e. rw e t) (λ e. rw e (fit-more f (without-keeps q d) (fit-left q t)))

-- the one of a name leaves: none has it any more
pub fit-without : (name : List ℕ) {rs : List (List ℕ)} → AllFit rs → NonePass (is_named name) (without_first (is_named name) rs)
unfolding without_first
fit-without name fit_none = nil
fit-without name (fit-more {r} {rs} f d t) = bool_cases (is_named name r)
    (λ e. rw e (subst (λ n. NonePass (is_named n) rs) (sym (same-equal name (name_in r) e)) d))
    (λ e. rw e (con e (fit-without name t)))

-- a record of a name that none has comes behind
fit-behind : (r : List ℕ) {rs : List (List ℕ)} → record_fits r ≡ true → NonePass (is_named (name_in r)) rs → AllFit rs → AllFit (rs ++ (r ∷ []))
fit-behind r f nil fit_none = fit-more f nil fit_none
fit-behind r f (con e n) (fit-more {r = x} g d t) = fit-more g (All-app d (All-one (same-swap (name_in r) (name_in x) e))) (fit-behind r f n t)

pub fit-saved : (name r : List ℕ) {rs : List (List ℕ)} → record_fits r ≡ true → name_in r ≡ name → AllFit rs → AllFit (without_first (is_named name) rs ++ (r ∷ []))
fit-saved name r {rs} f e t = fit-behind r f (subst (λ n. NonePass (is_named n) (without_first (is_named name) rs)) (sym e) (fit-without name t)) (fit-left (is_named name) t)

-- THE STORE

module _ (s : List ℕ) (e : store_fits s ≡ true) where
  pub fit_parts : (records_fit (records_in s) ≡ true) × (all_of (λ x. eqb x 0) (drop (length (joined (records_in s))) s) ≡ true)
  unfolding store_fits
  fit_parts = let h = (and-eq-true_iff (records_fit (records_in s)) (all_of (λ x. eqb x 0) (drop (length (joined (records_in s))) s))).0 e in (h.0, h.1)

  pub fit-records : AllFit (records_in s)
  fit-records = fit-facts (all-records s) fit_parts.0

  pub fit-stored : s ≡ stored (length s) (records_in s)
  fit-stored = sym (front-is s) ∙ ap (λ z. joined (records_in s) ++ z)
      (all-zeros rest fit_parts.1 ∙ ap (λ k. replicate k 0) (length-drop (length (joined (records_in s))) s))
    where
      rest : List ℕ
      rest = drop (length (joined (records_in s))) s

  -- a name that is held: what is shown is a record of this name that fits
  pub held_fits : (name : List ℕ) → holds name s ≡ true → IsRecord (shown_part name s) × (record_fits (shown_part name s) ≡ true) × (name_in (shown_part name s) ≡ name)
  held_fits name h =
      let d = held-there name (records_in s) h in
      let i = first-has (is_named name) (all-records s) d in
      rw (shown-first name s) (i.0, (first-has (is_named name) (fit-each fit-records) d).0, sym (same-equal name _ i.1))

pub stored-fits : (n : ℕ) {rs : List (List ℕ)} → All IsRecord rs → AllFit rs → store_fits (stored n rs) ≡ true
unfolding store_fits
stored-fits n {rs} h f = rw (laid-back n h, facts-fit f, drop_at (joined rs) (replicate (n - length (joined rs)) 0) (length (joined rs)) refl) (zeros-all (n - length (joined rs)))
