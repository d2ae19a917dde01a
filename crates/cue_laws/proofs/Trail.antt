-- Arrivals one after the other (`Trail`), and what they keep and count: good records (`trail-good`), the record of who has heard (`trail-kept`), records past N
-- (`trail-past`), one module more for each (`trail-heads`, `trail-arrivals`), all of them different (`trail-once`).
use Rattle.std.specs.Prelude.{ℕ, ◌+◌, ◌*◌, ◌≤◌, ◌<◌, ◌≡◌, refl, ◌≢◌, true, List, [], ◌∷◌, map, length}
use Rattle.std.proofs.Common.{arith, sym, ap, ◌∙◌, length-set}
use Rattle.base.specs.Pool.{All, nil, con}
use Rattle.base.specs.Twice.{NoTwice, nobody, another}
use Rattle.base.proofs.laws.Pool.{All-map}
use Rattle.plan.specs.Links.{Plan, modules_of, links_of}
use Rattle.field.specs.Edges.{link_of, from, dest}
use Rattle.cue.specs.declared.Cue.{Cue}
use Rattle.cue.specs.Record.{record_of, heard_record}
use Rattle.cue.specs.Copies.{waits_on, arrival}
use Rattle.cue_laws.proofs.Net.{Net}
use Rattle.cue_laws.proofs.Good.{GoodCues}
use Rattle.cue_laws.proofs.Once.{hears-once, arrival-there, arrival-elsewhere, arrival-kept, arrival-good}
use Rattle.cue_laws.proofs.Counts.{heads, arrivals, arrival-heads, arrival-arrivals}

-- from records to records, by arrivals over these directed links
pub data Trail (p : Plan) : List Cue → List ℕ → List Cue → Type 0 where
  rests : {cues : List Cue} → Trail p cues [] cues
  goes-on : {cues end : List Cue} {ds : List ℕ} (d : ℕ) → d < 2 * links_of p → waits_on p cues d ≡ true → Trail p (arrival p cues d) ds end → Trail p cues (d ∷ ds) end

module _ (p : Plan) (n : Net p) where
  pub trail-good : {cues end : List Cue} {ds : List ℕ} → GoodCues p cues → Trail p cues ds end → GoodCues p end
  trail-good good rests = good
  trail-good {cues} good (goes-on d l w t) = trail-good (arrival-good p n cues good d l w) t

  -- what a module that has heard holds never changes again
  pub trail-kept : {cues end : List Cue} {ds : List ℕ} → GoodCues p cues → Trail p cues ds end → (v : ℕ) → (record_of cues v).heard ≡ 1 → record_of end v ≡ record_of cues v
  trail-kept good rests v h = refl
  trail-kept {cues} good (goes-on d l w t) v h =
      let same = arrival-kept p n cues good d l w v h in
      trail-kept (arrival-good p n cues good d l w) t v (ap (λ c. c.heard) same ∙ h) ∙ same

  pub trail-past : {cues end : List Cue} {ds : List ℕ} → GoodCues p cues → Trail p cues ds end → (i : ℕ) → modules_of p ≤ i → record_of end i ≡ record_of cues i
  trail-past good rests i m = refl
  trail-past {cues} good (goes-on d l w t) i m =
      trail-past (arrival-good p n cues good d l w) t i m
      ∙ arrival-elsewhere p n cues good d l w i (λ e. omega (arith, n.inside (link_of d) (from p d) (dest p d) (n.leads d l)))

  pub trail-length : {cues end : List Cue} {ds : List ℕ} → Trail p cues ds end → length end ≡ length cues
  trail-length rests = refl
  trail-length {cues} (goes-on d l w t) = trail-length t ∙ length-set cues (dest p d) (heard_record (record_of cues (from p d)) (link_of d))

  -- COUNTS

  pub trail-heads : {cues end : List Cue} {ds : List ℕ} → GoodCues p cues → Trail p cues ds end → heads p end ≡ heads p cues + length ds
  trail-heads good rests = omega arith
  trail-heads {cues} good (goes-on d l w t) = omega (arith, trail-heads (arrival-good p n cues good d l w) t, arrival-heads p n cues good d l w)

  pub trail-arrivals : {cues end : List Cue} {ds : List ℕ} → GoodCues p cues → Trail p cues ds end → arrivals p end ≡ arrivals p cues + length ds
  trail-arrivals good rests = omega arith
  trail-arrivals {cues} good (goes-on d l w t) = omega (arith, trail-arrivals (arrival-good p n cues good d l w) t, arrival-arrivals p n cues good d l w)

  -- NONE TWICE

  -- who hears had not heard
  trail-fresh : {cues end : List Cue} {ds : List ℕ} → GoodCues p cues → Trail p cues ds end → All (λ v. (record_of cues v).heard ≢ 1) (map (dest p) ds)
  trail-fresh good rests = nil
  trail-fresh {cues} good (goes-on d l w t) =
      let now : (record_of cues (dest p d)).heard ≢ 1 = λ e. omega (arith, ap (λ c. c.heard) (hears-once p n cues good d l w)) in
      con now (All-map (λ v f e. f (ap (λ c. c.heard) (arrival-kept p n cues good d l w v e) ∙ e)) (trail-fresh (arrival-good p n cues good d l w) t))

  -- and is none of those that have
  pub trail-others : {cues end : List Cue} {ds : List ℕ} → GoodCues p cues → Trail p cues ds end → (v : ℕ) → (record_of cues v).heard ≡ 1 → All (λ w. v ≢ w) (map (dest p) ds)
  trail-others {cues} good t v h = All-map (λ w f e. f (ap (λ x. (record_of cues x).heard) (sym e) ∙ h)) (trail-fresh good t)

  pub trail-once : {cues end : List Cue} {ds : List ℕ} → GoodCues p cues → Trail p cues ds end → NoTwice (map (dest p) ds)
  trail-once good rests = nobody
  trail-once {cues} good (goes-on d l w t) =
      let next = arrival-good p n cues good d l w in
      another (trail-others next t (dest p d) (ap (λ c. c.heard) (arrival-there p n cues good d l w))) (trail-once next t)
