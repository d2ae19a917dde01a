-- host_cue::deliver: The verdict works on the row that `load` makes, `mark` writes. That what it leaves is the call is `hearing-delivers`, that the row is what
-- the verdict is to have is `written-within`.
use Rattle.std.specs.Prelude.{min, Err}
use Rattle.std.proofs.Common.{ℕ, ◌≡◌, ◌∙◌, ap, sym, rules, arith, List, length, set, replicate}
use Rattle.std.proofs.Math.Seq.{set_out}
use Rattle.base.specs.Limits.{max_modules}
use Rattle.cue.specs.declared.Cue.{Cue}
use Rattle.cue.specs.Record.{unheard}
use Rattle.cue.specs.Calls.{Delivered, deliver_cue}
use Rattle.cue.specs.Delivery.{Refused, Idle, Heard}
use Rattle.refusal.specs.Number.{numbered}
use Rattle.field.specs.Held.{Held}
use Rattle.cue_records.specs.Written.{written}
use Rattle.cue_records.proofs.laws.Written.{written-within}
use Rattle.cue_verdict.specs.Verdict.{Hearing, hearing, loaded}
use Rattle.cue_verdict.proofs.laws.Verdict.{hearing-delivers}
use Rattle.host_cue.proofs.deliver.Goals as goal

-- what is written, where the verdict on the loaded row is x
left : (h : Held) (cues row : List Cue) (d : ℕ) → row ≡ loaded cues → (x : Hearing) → x ≡ hearing h (length cues) row d
    → ◌≡◌ {A = Delivered} (record { answer = x.answer; cues = set cues x.at x.found }) (deliver_cue h cues d)
left h cues row d e x q =
    let told : Hearing → Delivered = λ y. record { answer = y.answer; cues = set cues y.at y.found } in
    ap told (q ∙ ap (λ (l : List Cue). hearing h (length cues) l d) e) ∙ hearing-delivers h cues d

-- the row is the first records
row-is : (cues row : List Cue) (k : ℕ) → row ≡ written cues k (replicate max_modules unheard) → k ≡ min (length cues) max_modules → row ≡ loaded cues
row-is cues row k e f = e ∙ ap (λ (n : ℕ). written cues n (replicate max_modules unheard)) f ∙ written-within max_modules unheard cues

-- nothing is written past the last record
kept : (cues : List Cue) → set cues (length cues) unheard ≡ cues
kept cues = set_out cues (length cues) unheard (omega arith)

pub returns-in_err-h : goal.returns-in_err-h
returns-in_err-h c =
    let cues = c.args.cues.now in
    let h : Held = record { field = c.args.f.now; words = c.args.words.now } in
    let r = c.in_err-h.field-0.0 in
    let x : Hearing = record { answer = Refused (numbered r); at = length cues; found = unheard } in
    let q : x ≡ hearing h (length cues) c.load-row.result c.args.d = grind rules in
    let a : c.from_residual.result ≡ Err r = grind rules in
    rw (a, c.load-row.ensures.1) (ap (λ (l : List Cue). record { answer = Refused (numbered r); cues = l }) (sym (kept cues))
    ∙ left h cues c.load-row.result c.args.d (row-is cues c.load-row.result c.within-k.result c.load-row.ensures.0 c.within-k.ensures) x q)

pub returns-in-Some : goal.returns-in-Some
returns-in-Some c =
    let cues = c.args.cues.now in
    let h : Held = record { field = c.args.f.now; words = c.args.words.now } in
    let x : Hearing = record { answer = Heard; at = c.in-Some.h.at; found = c.in-Some.h.found } in
    let q : x ≡ hearing h (length cues) c.load-row.result c.args.d = grind rules in
    ap (λ (l : List Cue). record { answer = Heard; cues = l }) (c.mark.ensures ∙ ap (λ (l : List Cue). set l c.in-Some.h.at c.in-Some.h.found) c.load-row.ensures.1)
    ∙ left h cues c.load-row.result c.args.d (row-is cues c.load-row.result c.within-k.result c.load-row.ensures.0 c.within-k.ensures) x q

pub returns-in-None : goal.returns-in-None
returns-in-None c =
    let cues = c.args.cues.now in
    let h : Held = record { field = c.args.f.now; words = c.args.words.now } in
    let x : Hearing = record { answer = Idle; at = length cues; found = unheard } in
    let q : x ≡ hearing h (length cues) c.load-row.result c.args.d = grind rules in
    ap (λ (l : List Cue). record { answer = Idle; cues = l }) (c.load-row.ensures.1 ∙ sym (kept cues))
    ∙ left h cues c.load-row.result c.args.d (row-is cues c.load-row.result c.within-k.result c.load-row.ensures.0 c.within-k.ensures) x q
