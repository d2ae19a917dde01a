-- Document 02's request 04, "A plan with nobody in it", as one type (`BlankClaim`).
use Rattle.std.specs.Prelude.{ℕ, ◌+◌, ◌*◌, ◌≤◌, ◌<◌, ◌≡◌, ◌≢◌, ◌↔◌, ◌⊎◌, true, cond, List, [], ◌∷◌, ◌++◌, length, get_or, drop, replicate, eqb}
use Rattle.base.specs.Limits.{AllBytes}
use Rattle.base.specs.Loop.{taken_to, refused_by}
use Rattle.base.specs.Refuse.{first_refusal}
use Rattle.format_text.specs.Ascii.{ascii}
use Rattle.plan.specs.Links.{Plan, modules_of, links_of}
use Rattle.plan.specs.Trimmed.{trimmed}
use Rattle.plan.specs.Refusal.{plan_refusal}
use Rattle.plan_file.specs.Layout.{number_at}
use Rattle.plan_file.specs.Reading.{head_verdict, read_refusal, read_plan}
use Rattle.plan_file.specs.Writing.{write_plan}
use Rattle.plan_tree.specs.Tree.{central_tree}
use Rattle.path.specs.Between.{no_path, path_between}
use Rattle.path.specs.Near.{mark_near}
use Rattle.field.specs.Edges.{limit_of, ceiling_of}
use Rattle.field.specs.Step.{WAKE, HAND, SERVE}
use Rattle.field.specs.Held.{Held, fresh, state_of, valid, set_up, step_alone}
use Rattle.field_calls.specs.Schedule.{schedule_refusal, steps_in, kind_of}
use Rattle.field_calls.specs.Rounds.{at_rest}
use Rattle.field_calls.specs.Call.{Call, after, refused_run, run_bytes, run_rounds}
use Rattle.field_calls.specs.Trail.{trail}
use Rattle.preview.specs.Preview.{preview, not_shown}
use Rattle.cue.specs.declared.Cue.{Cue}
use Rattle.cue.specs.Delivery.{Refused}
use Rattle.cue.specs.Calls.{start_cue, deliver_cue}
use Rattle.host_job.specs.Job.{job_run}
use Rattle.text_trace.specs.Text.{summary_text}
use Rattle.text_owed.specs.Reported.{reported}
use Rattle.text_owed.specs.Traced.{traced}

-- "A plan with N = 0 and L = 0": whatever stands behind these two numbers
pub record Blank (p : Plan) : Type 0 where
  pub nobody : modules_of p ≡ 0
  pub unlinked : links_of p ≡ 0

-- its bytes: version, length, N, L
abbrev pub blank_bytes : List ℕ
blank_bytes = 0x01 ∷ 0x00 ∷ 0x04 ∷ 0x00 ∷ 0x00 ∷ 0x00 ∷ 0x00 ∷ []

-- so many words, all 0
abbrev pub zero_words : ℕ → List ℕ
zero_words n = replicate n 0

-- what it prints: "zero modules, links and total, no branch lines, "core none", "messages 0 of 0" and "rounds 0""
abbrev pub blank_report : List ℕ
blank_report = ascii "modules 0\nlinks 0\ntotal 0\ncore none\nmessages 0 of 0\nrounds 0\n"

-- what a step meets, by its kind: "waking anything meets 41", and so does serving; a hand-over meets 42; other kinds 54 as ever
abbrev pub blank_step : ℕ → ℕ
blank_step kind = cond (eqb kind WAKE) 41 (cond (eqb kind HAND) 42 (cond (eqb kind SERVE) 41 54))

-- what a run of a schedule meets: its own refusals, then that of its first step, where it has one
abbrev pub blank_run : List ℕ → ℕ
blank_run bytes = first_refusal (schedule_refusal bytes) (cond (eqb (steps_in bytes) 0) 0 (blank_step (kind_of bytes 0)))

-- bytes that meet none of 11 to 13, and the length that so many links take
abbrev pub HeadTaken : List ℕ → Type 0
HeadTaken s = head_verdict (length s) (get_or s 0 0) (number_at s 0) 0 ≡ 0

abbrev pub links_length : ℕ → ℕ
links_length links = 4 + 8 * links

-- a field of such a plan, however made, that 31 lets pass
pub record OnBlankField (h : Held) : Type 0 where
  -- "waking anything meets 41"
  pub steps : (kind number : ℕ) → step_alone kind number h ≡ refused_by (blank_step kind) h
  pub previews : (kind number : ℕ) (buffer : List ℕ) → preview kind number h buffer ≡ not_shown (blank_step kind) buffer
  -- no step is done, whatever the schedule
  pub runs : (bytes : List ℕ) → run_bytes bytes h ≡ refused_run (blank_run bytes) h
  -- "its field is at rest", so no round is needed
  pub rest : at_rest (state_of h) ≡ true
  pub rounds : (limit : ℕ) → run_rounds limit h ≡ record { done = 0; refusal = 0; state = h }
  -- no list of calls takes a step, so nobody is ever woken, and field and words are as they were
  -- ("What is claimed about finished fields still begins with a woken module.")
  pub still : (calls : List Call) → trail calls h ≡ []
  pub same : (calls : List Call) → after calls h ≡ h
  -- a cue is not started, whatever its sender and the records; none is delivered, since no sending left these
  pub start : (cues : List Cue) (sender cue : ℕ) → start_cue h cues sender cue ≡ refused_by 72 cues
  pub deliver : (cues : List Cue) (d : ℕ) → deliver_cue h cues d ≡ record { answer = Refused 73; cues = cues }

pub record BlankPlan (p : Plan) : Type 0 where
  -- "is accepted"
  pub accepted : plan_refusal p ≡ 0
  pub written : (out : List ℕ) → 7 ≤ length out → write_plan p out ≡ taken_to (blank_bytes ++ drop 7 out)
  pub short : (out : List ℕ) → length out < 7 → write_plan p out ≡ refused_by 22 out
  -- "Its ceiling is 0", and so is its highest level, the logarithm of 0: however few words are lent, they are enough
  pub ceiling : ceiling_of p ≡ 0
  pub limit : limit_of p ≡ 0
  pub set : (lent : List ℕ) → set_up p lent ≡ taken_to (record { field = fresh (trimmed p); words = zero_words (length lent) })
  -- 31 lets pass whatever has nothing sent and nothing waiting
  pub field : (h : Held) → h.field.plan ≡ p → (valid h ≡ true) ↔ ((h.field.sent ≡ 0) × (h.words ≡ zero_words (length h.words)))
  pub calls : (h : Held) → h.field.plan ≡ p → valid h ≡ true → OnBlankField h
  -- "its tree is empty"
  pub tree : central_tree p [] ≡ taken_to []
  pub others : (x : ℕ) (out : List ℕ) → central_tree p (x ∷ out) ≡ refused_by 20 (x ∷ out)
  -- no module to go from: 41, whatever the numbers and the buffer (request 07)
  pub paths : (u v : ℕ) (out : List ℕ) → path_between p u v out ≡ no_path 41 out
  pub near : (m h : ℕ) (out : List ℕ) → mark_near p m h out ≡ refused_by 41 out
  -- "The program skips the wake": the job leaves what setup leaves
  pub job : (lent : List ℕ) → job_run p lent ≡ record { done = 0; refusal = 0; state = (set_up p lent).state }

pub record BlankClaim : Type 0 where
  pub blank : (p : Plan) → Blank p → BlankPlan p
  -- of all bytes these are read as such a plan; the check answers what the reader does
  pub read : (s : List ℕ) → AllBytes s → (((read_plan s).refusal ≡ 0) × Blank (read_plan s).plan) ↔ (s ≡ blank_bytes)
  pub check : (s : List ℕ) → read_refusal s ≡ (read_plan s).refusal
  -- "The program .. prints"; that which traces takes it too, and does no step, whatever bytes follow
  pub prints : reported blank_bytes ≡ blank_report
  pub traces : (s : List ℕ) → traced (blank_bytes ++ s) ≡ summary_text 0 (blank_run s) 0 0
  -- "Refusal 14 is now only for N above 192": of plan values, and of bytes
  pub above : (p : Plan) → (plan_refusal p ≡ 14) ↔ (192 < modules_of p)
  pub bytes_above : (s : List ℕ) → (read_plan s).refusal ≡ 14 → 192 < number_at s 1
  -- "a link in such a plan meets 16": of plan values, and of bytes
  pub link : (p : Plan) → modules_of p ≡ 0 → 0 < links_of p → links_of p ≤ 600 → plan_refusal p ≡ 16
  pub bytes_link : (s : List ℕ) → HeadTaken s → number_at s 1 ≡ 0 → 0 < number_at s 2 → number_at s 2 ≤ 600 → number_at s 0 ≡ links_length (number_at s 2)
      → (read_plan s).refusal ≡ 16
  -- and before it 15, "L above 600 or not fitting the length"
  pub links : (p : Plan) → modules_of p ≡ 0 → 600 < links_of p → plan_refusal p ≡ 15
  pub bytes_links : (s : List ℕ) → HeadTaken s → number_at s 1 ≡ 0 → (600 < number_at s 2) ⊎ (number_at s 0 ≢ links_length (number_at s 2))
      → (read_plan s).refusal ≡ 15
