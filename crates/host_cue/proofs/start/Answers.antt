-- host_cue::start: `open` decides, `fill` and `mark` write. That what they leave is the call is `opening-starts`, that `fill` may be called `count_fits`.
use Rattle.std.proofs.Common.{◌≤◌, ◌++◌, ◌∙◌, ◌≡◌, ap, sym, subst, arith, rules, List, length, set, drop, replicate}
use Rattle.std.proofs.lemmas.Bool.Decides.{nat_tests}
use Rattle.refusal.proofs.laws.Number.{positive}
use Rattle.base.specs.Loop.{After}
use Rattle.cue.specs.declared.Cue.{Cue}
use Rattle.cue.specs.Record.{unheard}
use Rattle.cue.specs.Calls.{start_cue}
use Rattle.field.specs.Held.{Held}
use Rattle.cue_verdict.specs.Verdict.{Opening, opening}
use Rattle.cue_verdict.proofs.laws.Verdict.{opening-starts, count_fits}
use Rattle.host_cue.proofs.start.Goals as goal

pub returns-in_err-o : goal.returns-in_err-o
unfolding opening start_cue
returns-in_err-o c = grind (arith, nat_tests, positive)

pub fill-requires : goal.fill-requires
fill-requires c =
    let a = c.args in
    let o = c.in_ok-o.o in
    let h : Held = record { field = a.f.now; words = a.words.now } in
    let e : record { refusal = 0; count = o.count; at = o.at; found = o.found } ≡ opening h (length a.cues.now) a.sender a.cue = grind rules in
    let P : Opening → Type 0 = λ (p : Opening). p.count ≤ length a.cues.now in
    subst P (sym e) (count_fits h a.cues.now a.sender a.cue)

pub returns : goal.returns
returns c =
    let a = c.args in
    let o = c.in_ok-o.o in
    let h : Held = record { field = a.f.now; words = a.words.now } in
    let e : record { refusal = 0; count = o.count; at = o.at; found = o.found } ≡ opening h (length a.cues.now) a.sender a.cue = grind rules in
    let answered : List Cue → After (List Cue) = λ l. record { refusal = 0; state = l } in
    let written : Opening → Cue → List Cue = λ p u. set (replicate p.count u ++ drop p.count a.cues.now) p.at p.found in
    let left : Opening → After (List Cue) = λ p. record { refusal = p.refusal; state = written p unheard } in
    ap answered (c.mark.ensures ∙ ap (λ (l : List Cue). set l o.at o.found) c.fill.ensures
    ∙ ap (λ (u : Cue). set (replicate o.count u ++ drop o.count a.cues.now) o.at o.found) c.unheard.ensures)
    ∙ ap left e
    ∙ opening-starts h a.cues.now a.sender a.cue
