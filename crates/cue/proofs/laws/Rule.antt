-- The rule of 73 for one record, as facts: what passes (`right-facts`), and that each of the three kinds does (`blank-right`, `sender-right`, `told-right`).
use Rattle.std.specs.Prelude.{ℕ, ◌≡◌, ◌≢◌, ◌&&◌, List, eqb}
use Rattle.std.proofs.Common.{ap, ◌∙◌, eqb-true}
use Rattle.std.proofs.Math.Bool.{true, cond, and-eq-true_iff}
use Rattle.base.specs.None.{none}
use Rattle.base.proofs.laws.Cond.{eqb-cases, eqb_same, eqb-diff}
use Rattle.plan.specs.Links.{Plan}
use Rattle.plan_tree.specs.Tree.{tree_link}
use Rattle.field.specs.Edges.{is_own, end_of, dest}
use Rattle.cue.specs.declared.Cue.{Cue}
use Rattle.cue.specs.Record.{unheard, record_of, has_heard, sender_record, heard_record, alike}
use Rattle.cue.specs.Calls.{right_of, right_at}

module _ (a b : Cue) where
  pub alike_same : alike a b ≡ true → a ≡ b
  alike_same h =
      let x = (and-eq-true_iff (eqb a.heard b.heard && eqb a.cue b.cue && eqb a.link b.link) (eqb a.hops b.hops)).0 h in
      let y = (and-eq-true_iff (eqb a.heard b.heard && eqb a.cue b.cue) (eqb a.link b.link)).0 x.0 in
      let z = (and-eq-true_iff (eqb a.heard b.heard) (eqb a.cue b.cue)).0 y.0 in
      ap (λ v. record { heard = v; cue = a.cue; link = a.link; hops = a.hops }) (eqb-true _ _ z.0)
      ∙ ap (λ v. record { heard = b.heard; cue = v; link = a.link; hops = a.hops }) (eqb-true _ _ z.1)
      ∙ ap (λ v. record { heard = b.heard; cue = b.cue; link = v; hops = a.hops }) (eqb-true _ _ y.1)
      ∙ ap (λ v. record { heard = b.heard; cue = b.cue; link = b.link; hops = v }) (eqb-true _ _ x.1)

pub alike-itself : (a : Cue) → alike a a ≡ true
alike-itself a = rw (eqb_same a.heard, eqb_same a.cue, eqb_same a.link, eqb_same a.hops)

module _ (p : Plan) (cues : List Cue) (v : ℕ) where
  -- the module at the other end of the link that v's record names
  abbrev pub teller : ℕ
  teller = dest p (end_of p v (record_of cues v).link)

  -- what passes
  pub data RecordAt : Type 0 where
    blank_at : record_of cues v ≡ unheard → RecordAt
    sender_at : record_of cues v ≡ sender_record (record_of cues v).cue → RecordAt
    told_at : is_own p v (record_of cues v).link ≡ true → tree_link p (record_of cues v).link ≡ true → (record_of cues teller).heard ≡ 1
        → record_of cues v ≡ heard_record (record_of cues teller) (record_of cues v).link → RecordAt

  pub right-facts : right_at p cues v ≡ true → RecordAt
  unfolding right_at right_of
  right-facts =
      let c = record_of cues v in
      let near = record_of cues teller in
      let told = is_own p v c.link && (tree_link p c.link && (has_heard near && alike c (heard_record near c.link))) in
      eqb-cases c.heard 0 (λ b. cond b (alike c unheard) (cond (eqb c.link none) (alike c (sender_record c.cue)) told) ≡ true → RecordAt)
      (λ e h. blank_at (alike_same c unheard h))
      (λ d. eqb-cases c.link none (λ b. cond b (alike c (sender_record c.cue)) told ≡ true → RecordAt)
      (λ e h. sender_at (alike_same c (sender_record c.cue) h))
      (λ e h.
      let x = (and-eq-true_iff (is_own p v c.link) _).0 h in
      let y = (and-eq-true_iff (tree_link p c.link) _).0 x.1 in
      let z = (and-eq-true_iff (has_heard near) _).0 y.1 in
      told_at x.0 y.0 (eqb-true _ _ z.0) (alike_same c (heard_record near c.link) z.1)))

  pub blank-right : record_of cues v ≡ unheard → right_at p cues v ≡ true
  unfolding right_at right_of
  blank-right e = rw e

  pub sender-right : (cue : ℕ) → record_of cues v ≡ sender_record cue → right_at p cues v ≡ true
  unfolding right_at right_of
  sender-right cue e = rw (e, eqb_same cue)

  pub told-right : (k u : ℕ) → k ≢ none → is_own p v k ≡ true → tree_link p k ≡ true → dest p (end_of p v k) ≡ u
      → (record_of cues u).heard ≡ 1 → record_of cues v ≡ heard_record (record_of cues u) k → right_at p cues v ≡ true
  unfolding right_at right_of
  told-right k u d o t q h e = rw (e, eqb-diff k none d, o, t, q, h, alike-itself (heard_record (record_of cues u) k))
