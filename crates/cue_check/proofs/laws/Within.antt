-- 73 and the copies read records of the plan's modules only: lists that agree there are decided alike (`left-agrees`, `waits-agrees`).
use Rattle.std.specs.Prelude.{ℕ, ◌*◌, ◌<◌, ◌≡◌, refl, false, List}
use Rattle.std.proofs.Common.{arith, sym, ◌∙◌}
use Rattle.std.proofs.Math.Path.{ap}
use Rattle.base.specs.Cond.{bit}
use Rattle.base.proofs.laws.Cond.{bool_cases, by-eq}
use Rattle.base.proofs.laws.Test.{every-ext}
use Rattle.base.proofs.laws.Sum.{sum-eq}
use Rattle.plan.specs.Links.{Plan, modules_of, links_of, lower_of}
use Rattle.plan.proofs.laws.Accepted.{Accepted}
use Rattle.field.specs.Edges.{is_own, end_of, from, dest}
use Rattle.field.proofs.laws.Edges.{end-lower, end-higher}
use Rattle.field_laws.proofs.Places.{over_below, from-below, dest-below}
use Rattle.cue.specs.declared.Cue.{Cue}
use Rattle.cue.specs.Record.{record_of}
use Rattle.cue.specs.Copies.{sent_over, arrived_over, waits_on}
use Rattle.cue.specs.Calls.{right_of, right_at, is_sender, left_by_sending}

pub right_by : (p : Plan) (cues : List Cue) (v : ℕ)
    → right_at p cues v ≡ right_of p v (record_of cues v) (record_of cues (dest p (end_of p v (record_of cues v).link)))
unfolding right_at
right_by p cues v = refl

-- where its link is no own link, what stands at the other end plays no part
pub right-apart : (p : Plan) (v : ℕ) (c x y : Cue) → is_own p v c.link ≡ false → right_of p v c x ≡ right_of p v c y
unfolding right_of
right-apart p v c x y h = rw h

pub end-within : (p : Plan) (v k : ℕ) → k < links_of p → end_of p v k < 2 * links_of p
end-within p v k l = by-eq (lower_of p k) v
    (λ e. rw (end-lower p v k e) (omega arith))
    (λ n. rw (end-higher p v k n) (omega arith))

module _ (p : Plan) (ok : Accepted p) (a b : List Cue) (same : (v : ℕ) → v < modules_of p → record_of a v ≡ record_of b v) where
  right-agrees : (v : ℕ) → v < modules_of p → right_at p a v ≡ right_at p b v
  right-agrees v l =
      right_by p a v ∙ ap (λ c. right_of p v c (record_of a (dest p (end_of p v c.link)))) (same v l) ∙ at-end ∙ sym (right_by p b v)
    where
      c : Cue
      c = record_of b v

      at-end : right_of p v c (record_of a (dest p (end_of p v c.link))) ≡ right_of p v c (record_of b (dest p (end_of p v c.link)))
      at-end = bool_cases (is_own p v c.link)
          (λ own. ap (right_of p v c) (same (dest p (end_of p v c.link)) (dest-below p ok (end_of p v c.link) (over_below p v c.link own))))
          (λ f. right-apart p v c _ _ f)

  pub left-agrees : left_by_sending p a ≡ left_by_sending p b
  unfolding left_by_sending
  left-agrees = rw (
    every-ext (modules_of p) (right_at p a) (right_at p b) right-agrees,
    sum-eq (modules_of p) (λ v. bit (is_sender (record_of a v))) (λ v. bit (is_sender (record_of b v))) (λ v l. ap (λ c. bit (is_sender c)) (same v l)),
  )

  pub waits-agrees : (d : ℕ) → d < 2 * links_of p → waits_on p a d ≡ waits_on p b d
  unfolding sent_over arrived_over
  waits-agrees d l = rw (same (from p d) (from-below p ok d l), same (dest p d) (dest-below p ok d l))
