-- 73 record by record: one law for each outcome of a record (`right-silent`, `right-sender`, `right-heard`) and of a turn of the pass over them
-- (`passed_on`, `passed-stops`, `passed_over`). A copy by two records (`waits-read`).
use Prim.Native.Nat.{ℕ, zero, suc, ◌+◌, ◌-◌, ◌≤◌, ◌<◌}
use native.Mathlib.Omega.{arith}
use Rattle.std.proofs.Common.{not-suc-le-zero, sym, ap, ◌∙◌}
use Rattle.std.specs.Prelude.{◌≡◌, refl, ◌≢◌, Bool, true, false, not, ◌&&◌, List, [], ◌∷◌, length, get_or}
use Rattle.std.proofs.Math.Dec.{eqb}
use borrow.Author.Tests.{ne_eqb}
use Rattle.base.specs.None.{none}
use Rattle.base.specs.Cond.{bit}
use Rattle.base.specs.Test.{every}
use Rattle.base.proofs.laws.Cond.{bool_cases, eqb_same, bit_le}
use Rattle.base.proofs.laws.Test.{every-goes-on, every-stops, every-of-none}
use Rattle.plan.specs.Links.{Plan, modules_of}
use Rattle.plan_tree.specs.Tree.{tree_link}
use Rattle.field.specs.Edges.{is_own, end_of, link_of, from, dest}
use Rattle.cue.specs.declared.Cue.{Cue}
use Rattle.cue.specs.Record.{unheard, record_of, has_heard, sender_record, heard_record, alike}
use Rattle.cue.specs.Copies.{sent_over, arrived_over, waits_on}
use Rattle.cue.specs.Calls.{right_of, right_at, is_sender, senders, left_by_sending}
use Rattle.cue_check.proofs.laws.Within.{right_by, right-apart}

-- A RECORD

-- a test that always passes may be left out
second-passes : (a b c d : Bool) → b ≡ true → (a && c && d) ≡ (a && b && c && d)
second-passes true b c d e = rw e
second-passes false b c d e = refl

third-passes : (n a b c d : Bool) → c ≡ true → (n && a && b && d) ≡ (n && (a && b && c && d))
third-passes true true true c d e = rw e
third-passes true true false c d e = refl
third-passes true false b c d e = refl
third-passes false a b c d e = refl

and-nested : (a b c : Bool) → ((a && b) && c) ≡ (a && (b && c))
and-nested true b c = refl
and-nested false b c = refl

pub sender-alike : (c : Cue) → (eqb c.heard 1 && eqb c.link none && eqb c.hops 0) ≡ alike c (sender_record c.cue)
sender-alike c = second-passes (eqb c.heard 1) (eqb c.cue c.cue) (eqb c.link none) (eqb c.hops 0) (eqb_same c.cue)

pub heard-alike : (c near : Cue)
    → (eqb near.heard 1 && eqb c.heard 1 && eqb c.cue near.cue && eqb c.hops (near.hops + 1)) ≡ (has_heard near && alike c (heard_record near c.link))
heard-alike c near =
    third-passes (has_heard near) (eqb c.heard 1) (eqb c.cue near.cue) (eqb c.link c.link) (eqb c.hops (near.hops + 1)) (eqb_same c.link)

module _ (p : Plan) (v : ℕ) (c near : Cue) where
  pub right-silent : c.heard ≡ 0 → alike c unheard ≡ right_of p v c near
  unfolding right_of
  right-silent h = rw h

  module _ (h : c.heard ≢ 0) where
    pub right-sender : c.link ≡ none → alike c (sender_record c.cue) ≡ right_of p v c near
    unfolding right_of
    right-sender e = rw (ne_eqb c.heard 0 h, e)

    pub right-heard : c.link ≢ none
        → ((is_own p v c.link && tree_link p c.link) && (has_heard near && alike c (heard_record near c.link))) ≡ right_of p v c near
    unfolding right_of
    right-heard d = rw (ne_eqb c.heard 0 h, ne_eqb c.link none d) (and-nested (is_own p v c.link) (tree_link p c.link) (has_heard near && alike c (heard_record near c.link)))

-- A ROW, read by its place and the place u of the other end. Within the list it does not matter what stands behind it.
any-default : {A : Type 0} (l : List A) (i : ℕ) (d e : A) → i < length l → get_or l i d ≡ get_or l i e
any-default [] i d e h = absurd (not-suc-le-zero h)
any-default (x ∷ l) zero d e h = refl
any-default (x ∷ l) (suc i) d e h = any-default l i d e (omega arith)

pub record-read : (row : List Cue) (i : ℕ) (d : Cue) → i < length row → get_or row i d ≡ record_of row i
record-read row i d h = any-default row i d unheard h

pub right-read : (p : Plan) (row : List Cue) (d : Cue) (v u : ℕ) → v < length row → u < length row
    → (is_own p v (get_or row v d).link ≡ true → u ≡ dest p (end_of p v (get_or row v d).link)) → right_of p v (get_or row v d) (get_or row u d) ≡ right_at p row v
right-read p row d v u lv lu at =
    bool_cases (is_own p v (get_or row v d).link)
    (λ own. ap (right_of p v (get_or row v d)) (record-read row u d lu ∙ ap (record_of row) (at own)))
    (λ f. right-apart p v (get_or row v d) _ _ f)
    ∙ ap (λ c. right_of p v c (record_of row (dest p (end_of p v c.link)))) (record-read row v d lv)
    ∙ sym (right_by p row v)

-- A COPY, by the records at its directed link's two ends
pub waits-read : (p : Plan) (row : List Cue) (d : ℕ) (near far : Cue) (t s c : Bool)
    → near ≡ record_of row (from p d) → far ≡ record_of row (dest p d)
    → t ≡ tree_link p (link_of d) → s ≡ (has_heard near && not (eqb near.link (link_of d))) → c ≡ (has_heard far && eqb far.link (link_of d))
    → (t && s && not c) ≡ waits_on p row d
unfolding sent_over arrived_over
waits-read p row d near far t s c en ef et es ec = rw (et, es, ec, en, ef)

-- A PASS, from the last record down: those from v on are right, and n of them are senders'

module _ (p : Plan) (row : List Cue) where
  abbrev pub Passed : ℕ → ℕ → Type 0
  Passed v n = (n + v ≤ modules_of p) × (every (modules_of p) (right_at p row) ≡ every v (right_at p row)) × (senders (modules_of p) row ≡ n + senders v row)

  pub passed_start : (v : ℕ) → v ≡ modules_of p → Passed v 0
  passed_start v e =
      let z : senders v row ≡ 0 + senders v row = omega arith in
      (omega arith, ap (λ m. every m (right_at p row)) (sym e), ap (λ m. senders m row) (sym e) ∙ z)

  pub passed_over : (v n : ℕ) → Passed v n → v ≤ 0 → eqb n 1 ≡ left_by_sending p row
  unfolding left_by_sending
  passed_over zero n h l = let e : n ≡ n + 0 = omega arith in rw (h.1, every-of-none (right_at p row) 0 l, h.2) (ap (λ m. eqb m 1) e)
  passed_over (suc v) n h l = absurd (not-suc-le-zero l)

  module _ (v n : ℕ) (h : Passed v n) (l : 0 < v) where
    pub passed-stops : right_at p row (v - 1) ≡ false → false ≡ left_by_sending p row
    unfolding left_by_sending
    passed-stops f = rw (h.1, every-stops (right_at p row) v l f)

    pub passed_on : (s : ℕ) → right_at p row (v - 1) ≡ true → s ≡ bit (is_sender (record_of row (v - 1))) → Passed (v - 1) (n + s)
    passed_on s r e =
        let k : v ≡ suc (v - 1) = omega arith in
        (omega (arith, bit_le (is_sender (record_of row (v - 1)))), h.1 ∙ every-goes-on (right_at p row) v l r, omega (arith, h.2, ap (λ m. senders m row) k))
