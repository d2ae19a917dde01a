-- A plan with nobody in it: its ceiling, its bytes, its tree (`blank-ceiling`, `blank-written`, `blank-tree`), no path (`blank-paths`, `blank-near`);
-- only its own seven bytes mean it (`read-blank`). 14 is for more than 192 modules alone (`above-192`), and a link of nobody meets 16
-- (`link-meets-16`), or 15 before it (`links-meet-15`).
use Prim.Native.Nat.{ℕ, zero, suc, ◌-◌, ◌≤◌, ◌<◌}
use native.Mathlib.Omega.{arith}
use Rattle.std.specs.Prelude.{◌≡◌, ◌≢◌, ◌↔◌, Bool, false, not, cond, ◌||◌, List, [], ◌∷◌, ◌++◌, length, drop}
use Rattle.std.proofs.Math.Path.{refl, ap}
use Rattle.std.proofs.Common.{sym, ap₂, subst, ◌∙◌}
use Rattle.std.proofs.Math.Bool.{true, or-true}
use Rattle.std.proofs.Math.Dec.{ltb, leb}
use borrow.Author.Tests.{lt-ltb, le-ltb, le-leb, ne_eqb, ltb-true}
use Rattle.base.proofs.laws.Cond.{eqb-cases, bool_cases}
use Rattle.base.specs.Limits.{max_modules, max_links, max_reading, AllBytes}
use Rattle.base.specs.Log.{log2-to, log2}
use Rattle.base.specs.Loop.{taken_to, refused_by}
use Rattle.base.specs.Refuse.{or_else, first_refusal}
use Rattle.base.specs.Table.{tabulate}
use Rattle.plan.specs.Links.{Plan, modules_of, links_of, lower_of, higher_of, near_of, far_of}
use Rattle.plan.specs.Refusal.{counts_refusal, in_order, link_verdict, link_refusal, links_refusal, plan_refusal}
use Rattle.plan.proofs.laws.Accepted.{counted_back}
use Rattle.plan_file.specs.Reading.{Outcome}
use Rattle.plan.specs.Trimmed.{trimmed}
use Rattle.plan.proofs.laws.Trimmed.{trimmed-same}
use Rattle.plan_file.specs.Layout.{bytes_of, encode, decode, blank}
use Rattle.plan_file.specs.Reading.{read_refusal, read_plan}
use Rattle.plan_file.specs.Writing.{write_refusal, write_plan}
use Rattle.plan_file.proofs.laws.RoundTrip.{written_read, read-written, read-refusal, read-plan}
use Rattle.plan_tree.specs.Tree.{tree_bytes, tree_refusal, central_tree}
use Rattle.path.specs.Between.{no_path, path_between}
use Rattle.path.specs.Near.{mark_near}
use Rattle.path.proofs.laws.Outcomes.{path-refused-from, near-refused-module}
use Rattle.field.specs.Edges.{limit_of, ceiling_of}
use Rattle.blank.specs.Claim.{Blank, blank_bytes}
use Rattle.blank.proofs.laws.Taken.{blank-taken}

module _ (p : Plan) (b : Blank p) where
  pub blank-ceiling : ceiling_of p ≡ 0
  unfolding log2 log2-to
  blank-ceiling = rw (b.nobody, b.unlinked) refl

  pub blank-limit : limit_of p ≡ 0
  unfolding log2 log2-to
  blank-limit = rw b.nobody refl

  pub blank-bytes : encode p ≡ blank_bytes
  unfolding encode bytes_of tabulate
  blank-bytes = rw b.unlinked (ap₂ (λ n l. 1 ∷ bytes_of (4 ∷ n ∷ l ∷ [])) b.nobody b.unlinked)

  pub blank-written : (out : List ℕ) → 7 ≤ length out → write_plan p out ≡ taken_to (blank_bytes ++ drop 7 out)
  unfolding write_plan write_refusal
  blank-written out l = rw (blank-taken p b, b.unlinked, le-ltb (length out) 7 l, blank-bytes) refl

  pub blank-short : (out : List ℕ) → length out < 7 → write_plan p out ≡ refused_by 22 out
  unfolding write_plan write_refusal
  blank-short out l = rw (blank-taken p b, b.unlinked, lt-ltb (length out) 7 l) refl

  pub blank-tree : central_tree p [] ≡ taken_to []
  unfolding central_tree tree_refusal tree_bytes tabulate
  blank-tree = rw (blank-taken p b, b.unlinked) refl

  pub blank-tree-20 : (x : ℕ) (out : List ℕ) → central_tree p (x ∷ out) ≡ refused_by 20 (x ∷ out)
  unfolding central_tree tree_refusal
  blank-tree-20 x out = rw (blank-taken p b, b.unlinked, ne_eqb (length (x ∷ out)) 0 (λ e. omega arith)) refl

  pub blank-paths : (u v : ℕ) (out : List ℕ) → path_between p u v out ≡ no_path 41 out
  blank-paths u v out = sym (path-refused-from p u v out (blank-taken p b) (omega (arith, b.nobody)))

  pub blank-near : (m h : ℕ) (out : List ℕ) → mark_near p m h out ≡ refused_by 41 out
  blank-near m h out = sym (near-refused-module p m h out (blank-taken p b) (omega (arith, b.nobody)))

-- THE BYTES

-- the plan of zeros
zeros-blank : Blank blank
zeros-blank = record { nobody = refl; unlinked = refl }

pub blank-read : read_plan blank_bytes ≡ record { refusal = 0; plan = trimmed blank }
blank-read = ap read_plan (sym (blank-bytes blank zeros-blank)) ∙ written_read blank (blank-taken blank zeros-blank)

pub trimmed-blank : (p : Plan) → Blank p → Blank (trimmed p)
trimmed-blank p b = record { nobody = sym (trimmed-same p).modules ∙ b.nobody; unlinked = sym (trimmed-same p).links ∙ b.unlinked }

pub zeros-trimmed : Blank (trimmed blank)
zeros-trimmed = trimmed-blank blank zeros-blank

pub read-blank : (s : List ℕ) → AllBytes s → (((read_plan s).refusal ≡ 0) × Blank (read_plan s).plan) ↔ (s ≡ blank_bytes)
read-blank s b = (
  (λ t.
      let z : read_refusal s ≡ 0 = sym (read-refusal s) ∙ t.0 in
      let d : Blank (decode s) = subst Blank (read-plan s z) t.1 in
      sym (read-written s z b) ∙ blank-bytes (decode s) d),
  (λ e.
      let r : read_plan s ≡ record { refusal = 0; plan = trimmed blank } = ap read_plan e ∙ blank-read in
      (ap (λ (o : Outcome). o.refusal) r, subst Blank (sym (ap (λ (o : Outcome). o.plan) r)) zeros-trimmed)),
)

-- 14 AND 16

-- a number that no test has
pub not-or_else : (b : Bool) (n : ℕ) {r m : ℕ} → n ≢ m → r ≢ m → or_else b n r ≢ m
not-or_else true n a z = a
not-or_else false n a z = z

pub not_first : (r : ℕ) {s m : ℕ} → r ≢ m → s ≢ m → first_refusal r s ≢ m
not_first r {s} {m} a z = eqb-cases r 0 (λ c. cond c s r ≢ m) (λ e. z) (λ d. a)

pub nobody-15 : (n l : ℕ) (fits : Bool) → n ≡ 0 → (ltb max_links l || not fits) ≡ true → counts_refusal n l fits ≡ 15
nobody-15 n l fits z e = rw (z, e) refl

pub counts-never : (n l : ℕ) (fits : Bool) → ltb max_modules n ≡ false → counts_refusal n l fits ≢ 14
counts-never n l fits f = rw f (not-or_else (ltb max_links l || not fits) 15 (λ e. omega arith) (λ e. omega arith))

module _ (p : Plan) where
  link-not : (k : ℕ) → link_refusal p k ≢ 14
  unfolding link_verdict
  link-not k = not-or_else (leb (higher_of p k) (lower_of p k) || leb (modules_of p) (higher_of p k)) 16 (λ e. omega arith)
      (not-or_else (not (in_order p k)) 17 (λ e. omega arith)
      (not-or_else (ltb max_reading (near_of p k) || ltb max_reading (far_of p k)) 18 (λ e. omega arith) (λ e. omega arith)))

  links-not : (n k : ℕ) → links_refusal p n k ≢ 14
  unfolding links_refusal
  links-not zero k = λ e. omega arith
  links-not (suc n) k = not_first (link_refusal p k) (link-not k) (links-not n (suc k))

  pub above-192 : (plan_refusal p ≡ 14) ↔ (max_modules < modules_of p)
  unfolding plan_refusal
  above-192 = (
    (λ e. bool_cases (ltb max_modules (modules_of p)) (λ t. ltb-true _ _ t)
        (λ f. absurd (not_first (counts_refusal (modules_of p) (links_of p) true) (counts-never (modules_of p) (links_of p) true f)
        (links-not (links_of p) 0) e))),
    (λ l. rw (lt-ltb max_modules (modules_of p) l) refl),
  )

  first-16 : modules_of p ≡ 0 → link_refusal p 0 ≡ 16
  unfolding link_verdict
  first-16 z = rw (le-leb (modules_of p) (higher_of p 0) (omega arith), or-true (leb (higher_of p 0) (lower_of p 0))) refl

  pub link-meets-16 : modules_of p ≡ 0 → 0 < links_of p → links_of p ≤ max_links → plan_refusal p ≡ 16
  unfolding plan_refusal links_refusal
  link-meets-16 z m l =
      let links : links_refusal p (links_of p) 0 ≡ 16 =
      (let e : links_of p ≡ suc (links_of p - 1) = omega arith in ap (λ n. links_refusal p n 0) e) ∙ rw (first-16 z) refl in
      let c : counts_refusal (modules_of p) (links_of p) true ≡ 0 = counted_back (modules_of p) (links_of p) (record { modules_ok = omega arith; links_ok = l }) in
      rw (c, links) refl

  pub links-meet-15 : modules_of p ≡ 0 → max_links < links_of p → plan_refusal p ≡ 15
  unfolding plan_refusal
  links-meet-15 z l = rw (nobody-15 (modules_of p) (links_of p) true z (ap (λ b. b || false) (lt-ltb max_links (links_of p) l))) refl
