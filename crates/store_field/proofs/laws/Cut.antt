-- Marks cut to 8 bits: one by one (`entry-cut`), with the same answer about the state (`fits_cut`), which leaves them as they are (`cut-valid`, `cut-tidy`).
use Prim.Native.Nat.{ℕ, ◌*◌, ◌≤◌}
use Rattle.std.proofs.Common.{arith, sym, ◌∙◌, le-ltb}
use Rattle.std.specs.Prelude.{◌≡◌, refl, true, cond, List, map, leb}
use Rattle.std.proofs.Math.Path.{ap}
use Rattle.std.proofs.lemmas.List.{length-map}
use Rattle.std.proofs.Math.ListN.{get_or-map, get_or-eq_default}
use Rattle.std.proofs.Math.Seq.{ext_get_or}
use Rattle.std.proofs.lemmas.Bool.{lt-leb}
use Rattle.base.specs.Limits.{max_ends}
use Rattle.base.specs.Table.{tabulate, upto}
use Rattle.base.proofs.laws.Cond.{ltb-cases}
use Rattle.base.proofs.laws.Table.{length-tabulate, get_d_tabulate, upto-out}
use Rattle.base.proofs.laws.Test.{every-ext}
use Rattle.plan.specs.Links.{Plan, links_of}
use Rattle.node.specs.Work.{REJECTED}
use Rattle.field.specs.Valid.{fits}
use Rattle.field.specs.Held.{Held, state_of, valid}
use Rattle.field_laws.proofs.Laid.{valid-parts}
use Rattle.field_laws.proofs.Fits.{fits-facts}
use Rattle.store.specs.Tidied.{tidied}
use Rattle.store_field.specs.Ends.{entry}
use Rattle.store_field.specs.Parts.{cut_mark}

pub entry-cut : (m : List ℕ) (d : ℕ) → entry (map cut_mark m) d ≡ cut_mark (entry m d)
unfolding cut_mark
entry-cut m d = get_or-map cut_mark m d 0

-- a bad mark stays bad, a good one stays
cut_fits : (x : ℕ) → leb (cut_mark x) REJECTED ≡ leb x REJECTED
unfolding cut_mark
cut_fits x = ltb-cases 255 x (λ b. leb (cond b 255 x) REJECTED ≡ leb x REJECTED) (λ l. sym (lt-leb x REJECTED (omega arith))) (λ l. refl)

pub fits_cut : (p : Plan) (cells m words : List ℕ) (sent : ℕ)
    → fits p (record { cells = cells; marks = map cut_mark m; words = words; sent = sent }) ≡ fits p (record { cells = cells; marks = m; words = words; sent = sent })
unfolding fits
fits_cut p cells m words sent = rw (every-ext (2 * links_of p) (λ d. leb (entry (map cut_mark m) d) REJECTED) (λ d. leb (entry m d) REJECTED)
    (λ d l. ap (λ (x : ℕ). leb x REJECTED) (entry-cut m d) ∙ cut_fits (entry m d))) refl

-- so 31 leaves all of them as they are, where nothing but 0 stands behind the plan's marks
module _ (h : Held) (v : valid h ≡ true) where
  abbrev m : List ℕ
  m = h.field.marks

  pub cut-valid : ((d : ℕ) → 2 * links_of h.field.plan ≤ d → entry m d ≡ 0) → map cut_mark m ≡ m
  unfolding cut_mark
  cut-valid z = ext_get_or 0 (map cut_mark m) m (length-map m cut_mark) (λ d l. entry-cut m d ∙ rw (le-ltb 255 (entry m d) (small d)))
    where
      small : (d : ℕ) → entry m d ≤ 255
      small d = ltb-cases d (2 * links_of h.field.plan) (λ b. entry m d ≤ 255)
          (λ l. omega (arith, (fits-facts h.field.plan (state_of h) (valid-parts h v).3).marks d l))
          (λ l. omega (arith, z d l))

  pub cut-tidy : tidied h.field ≡ h.field → map cut_mark m ≡ m
  unfolding tidied
  cut-tidy t = cut-valid (λ d l. ap (λ f. entry f.marks d) (sym t) ∙ past d l)
    where
      n : ℕ
      n = 2 * links_of h.field.plan

      past : (d : ℕ) → n ≤ d → entry (tabulate max_ends (upto n (entry m) (λ d. 0))) d ≡ 0
      past d l = ltb-cases d max_ends (λ b. entry (tabulate max_ends (upto n (entry m) (λ d. 0))) d ≡ 0)
          (λ k. get_d_tabulate max_ends (upto n (entry m) (λ d. 0)) d k ∙ upto-out n (entry m) (λ d. 0) d l)
          (λ k. get_or-eq_default (tabulate max_ends (upto n (entry m) (λ d. 0))) 0 {n = d} (omega (arith, length-tabulate max_ends (upto n (entry m) (λ d. 0)))))
