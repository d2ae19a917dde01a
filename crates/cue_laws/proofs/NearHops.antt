-- The marks that the call writes for the sender, on the field's plan, beside the records when none waits (`near-hops`).
use Rattle.std.specs.Prelude.{ℕ, ◌<◌, ◌≡◌, ◌&&◌, List, get_or, leb}
use Rattle.base.specs.Cond.{bit}
use Rattle.plan.specs.Links.{modules_of}
use Rattle.path.specs.Near.{mark_near}
use Rattle.path.proofs.laws.Claims.{near-claim}
use Rattle.field.specs.Held.{Held}
use Rattle.cue.specs.declared.Cue.{Cue}
use Rattle.cue.specs.Record.{record_of, has_heard}
use Rattle.cue.specs.Copies.{copies_waiting}
use Rattle.cue.specs.Calls.{start_cue}
use Rattle.cue.specs.Claims.{deliveries}
use Rattle.cue_laws.proofs.Cue.{cue-claim}
use Rattle.cue_laws.proofs.ByPath.{hops-marked}

pub near-hops : (h : Held) (lent : List Cue) (sender cue : ℕ) → (start_cue h lent sender cue).refusal ≡ 0 → (ds : List ℕ)
    → copies_waiting h.field.plan (deliveries h ds (start_cue h lent sender cue).state) ≡ 0
    → (near : ℕ) (buffer : List ℕ) → (mark_near h.field.plan sender near buffer).refusal ≡ 0 → (v : ℕ) → v < modules_of h.field.plan
    → let c = record_of (deliveries h ds (start_cue h lent sender cue).state) v in
    get_or (mark_near h.field.plan sender near buffer).state v 0 ≡ bit (has_heard c && leb c.hops near)
near-hops h lent sender cue taken ds z near buffer written v l =
    let p = h.field.plan in
    hops-marked h p lent sender cue ds (deliveries h ds (start_cue h lent sender cue).state) (cue-claim h lent sender cue taken ds) z v l
    (near-claim p sender near buffer written)
