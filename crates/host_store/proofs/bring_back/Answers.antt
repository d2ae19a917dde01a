-- host_store::bring_back: all words become zero, so that those of the record lie before zeros (`zeros-set`).
use Prim.Native.Nat.{ℕ, ◌≤◌}
use native.Mathlib.Omega.{arith}
use mathlib.Core.Path.{◌≡◌, refl, ap, ◌∙◌}
use mathlib.Core.Bool.{true}
use mathlib.Core.List.{List}
use lib.ListN.{length, length-replicate}
use lib.Seq.{sets}
use Rattle.field.specs.declared.Field.{Field}
use Rattle.field.specs.Edges.{ceiling_of}
use Rattle.store.specs.Reading.{held_in, record_fits}
use Rattle.store_check.proofs.laws.Fitting.{words-room}
use Rattle.store_check.proofs.laws.Zeros.{zeros-set}
use Rattle.host_store.proofs.bring_back.Goals as goal

-- the words of the record have room among the lent ones
room : (r p words : List ℕ) → record_fits r ≡ true → p ≡ (held_in r).field.plan → ceiling_of p ≤ length words → length (held_in r).words ≤ length words
room r p words fit e l = omega (arith, words-room r fit, l, ap ceiling_of e)

-- a field by its parts
whole : {p c m : List ℕ} {n : ℕ} (f : Field) → p ≡ f.plan → c ≡ f.cells → m ≡ f.marks → n ≡ f.sent → record { plan = p; cells = c; marks = m; sent = n } ≡ f
whole f a b d e = rw (a, b, d, e) refl

pub take_record-sent-requires : goal.take_record-sent-requires
take_record-sent-requires c =
    let p = c.requires in
    (p.0, p.1, refl, refl, omega (arith, room c.args.r.now _ c.args.words.now p.0 p.1 p.2, ap length (c.fill.ensures.after (λ y e. e)), length-replicate {A = ℕ} (length c.args.words.now) 0))

pub returns : goal.returns
returns c =
    let e = c.take_record-sent.ensures in
    let r = c.args.r.now in (
      whole (held_in r).field c.requires.1 e.0 e.1 e.2,
      e.3 ∙ ap (λ (l : List ℕ). sets l 0 (held_in r).words) (c.fill.ensures.after (λ y e. e)) ∙ zeros-set (length c.args.words.now) (held_in r).words (room r _ c.args.words.now c.requires.0 c.requires.1 c.requires.2),
    )
