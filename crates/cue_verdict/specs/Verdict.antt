-- What the two calls on cue records decide before a record is written: which one is, and what it becomes.
use Rattle.std.specs.Prelude.{ℕ, Result, Ok, Err, Option, Some, None, cond, not, List, ◌++◌, length, take, drop, replicate, eqb}
use Rattle.base.specs.Limits.{max_modules}
use Rattle.plan.specs.Links.{Plan, modules_of}
use Rattle.field.specs.Edges.{link_of, from, dest}
use Rattle.field.specs.Held.{Held}
use Rattle.cue.specs.declared.Cue.{Cue}
use Rattle.cue.specs.Delivery.{Delivery, Refused, Idle, Heard}
use Rattle.cue.specs.Record.{unheard, record_of, sender_record, heard_record}
use Rattle.cue.specs.Copies.{waits_on}
use Rattle.cue.specs.Calls.{start_refusal, delivery_refusal}
use Rattle.refusal.specs.declared.Refusal.{Refusal}
use Rattle.refusal.specs.Number.{numbered}
use Rattle.cue_verdict.specs.declared.Opened as S
use Rattle.cue_verdict.specs.declared.Hearing as H

-- A start: the first `count` records become unheard, then record `at` becomes `found`. Where it is refused, count is 0 and at the number of records.
pub record Opening : Type 0 where
  pub refusal : ℕ
  pub count : ℕ
  pub at : ℕ
  pub found : Cue

-- the same from the code's answer, where so many records are lent
abbrev pub opened_of : ℕ → ℕ → Result S.Opened Refusal → Opening
opened_of lent cue (Ok s) = record { refusal = 0; count = s.count; at = s.at; found = s.found }
opened_of lent cue (Err r) = record { refusal = numbered r; count = 0; at = lent; found = sender_record cue }

-- A delivery: record `at` becomes `found`. Where none changes, at is the number of records.
pub record Hearing : Type 0 where
  pub answer : Delivery
  pub at : ℕ
  pub found : Cue

abbrev pub heard_of : ℕ → Result (Option H.Hearing) Refusal → Hearing
heard_of lent (Ok (Some x)) = record { answer = Heard; at = x.at; found = x.found }
heard_of lent (Ok None) = record { answer = Idle; at = lent; found = unheard }
heard_of lent (Err r) = record { answer = Refused (numbered r); at = lent; found = unheard }

-- a start, where so many records are lent: the first `count` become blank, then record `at` the sender's; none where it is refused
unfoldable pub opening : Held → ℕ → ℕ → ℕ → Opening
opening h lent sender cue =
    let r = start_refusal h lent sender in
    cond (eqb r 0)
    (record { refusal = 0; count = modules_of h.field.plan; at = sender; found = sender_record cue })
    (record { refusal = r; count = 0; at = lent; found = sender_record cue })

-- a delivery that is not refused, where so many records are lent and `row` are the first of them: record `at` becomes `found`, none where `at` is
-- behind the last
unfoldable pub arriving : Plan → ℕ → List Cue → ℕ → Hearing
arriving p lent row d =
    cond (waits_on p row d)
    (record { answer = Heard; at = dest p d; found = heard_record (record_of row (from p d)) (link_of d) })
    (record { answer = Idle; at = lent; found = unheard })

unfoldable pub hearing : Held → ℕ → List Cue → ℕ → Hearing
hearing h lent row d =
    let r = delivery_refusal h lent row d in
    cond (not (eqb r 0)) (record { answer = Refused r; at = lent; found = unheard }) (arriving h.field.plan lent row d)

-- the records as a row of fixed length: those lent, as far as there is room, and unheard ones behind them
abbrev pub loaded : List Cue → List Cue
loaded cues = take max_modules cues ++ drop (length cues) (replicate max_modules unheard)
