-- A field that a record keeps whole stays so over every list of calls (`tidy-after`), one from setup among them (`tidy-kept`).
use Rattle.std.specs.Prelude.{ℕ, ◌*◌, ◌≤◌, ◌<◌, ◌≡◌, refl, replicate}
use Rattle.std.proofs.Common.{arith, subst, ◌∙◌, inr, le-ltb}
use Rattle.std.proofs.Math.Path.{sym, ap, ap₂}
use mathlib.Core.List.{List}
use Rattle.std.proofs.Math.ListN.{length, get_or}
use Rattle.std.proofs.lemmas.List.{length-replicate, get_or-replicate}
use Rattle.base.proofs.laws.Cond.{ltb-cases}
use Rattle.base.specs.Limits.{max_modules, max_ends}
use Rattle.base.specs.Loop.{After}
use Rattle.base.specs.Table.{tabulate, upto}
use Rattle.base.proofs.laws.Table.{length-tabulate, get_d_tabulate, tabulated, upto-in, upto-out}
use Rattle.plan.specs.Links.{Plan, modules_of, links_of}
use Rattle.plan.specs.Trimmed.{trimmed}
use Rattle.plan.proofs.laws.Trimmed.{trimmed-again}
use Rattle.node.specs.Work.{Work}
use Rattle.field.specs.declared.Field.{Field}
use Rattle.field.specs.State.{State, WIDTH, CELLS, values, put_node, new_mark, put_marks}
use Rattle.field.specs.Step.{wake_work, serve_work, step}
use Rattle.field.specs.Held.{Held, fresh_cells, fresh, set_up, field_from}
use Rattle.field.proofs.laws.Held.{fresh-length}
use Rattle.field_calls.specs.Call.{Call, after}
use Rattle.field_laws.proofs.Places.{sets-out, length-put, length-new, put_marks-at}
use Rattle.field_laws.proofs.Cases.{StepOutcome, took, kept, FieldStep, wake-step, hand-step, serve-step, step-outcome}
use Rattle.field_laws.proofs.Laid.{Live}
use Rattle.field_laws.proofs.After.{started, begun-live, after-plan, list-keeps}
use Rattle.store.specs.Tidied.{tidied}

-- cells and marks as a record keeps them: setup's past the plan's modules and links
pub record TidyParts (p : Plan) (cells marks : List ℕ) : Type 0 where
  pub cells_size : length cells ≡ CELLS
  pub marks_size : length marks ≡ max_ends
  pub past_cells : (i : ℕ) → modules_of p * WIDTH ≤ i → i < CELLS → get_or cells i 0 ≡ get_or (fresh_cells max_modules) i 0
  pub past_marks : (d : ℕ) → 2 * links_of p ≤ d → d < max_ends → get_or marks d 0 ≡ 0

-- ---- of a field: it is what a record keeps of it

module _ (f : Field) where
  abbrev n : ℕ
  n = modules_of f.plan * WIDTH

  abbrev cell_at : ℕ → ℕ
  cell_at i = get_or f.cells i 0

  abbrev fresh_at : ℕ → ℕ
  fresh_at i = get_or (fresh_cells max_modules) i 0

  abbrev ends : ℕ
  ends = 2 * links_of f.plan

  abbrev mark_of : ℕ → ℕ
  mark_of d = get_or f.marks d 0

  pub parts-tidied : trimmed f.plan ≡ f.plan → TidyParts f.plan f.cells f.marks → tidied f ≡ f
  unfolding tidied
  parts-tidied e t =
      ap (λ p. field_from p (tabulate CELLS (upto n cell_at fresh_at)) (tabulate max_ends (upto ends mark_of (λ d. 0))) f.sent) e
      ∙ ap₂ (λ c m. field_from f.plan c m f.sent)
      (sym (tabulated CELLS (upto n cell_at fresh_at) f.cells t.cells_size (λ i l. ltb-cases i n (λ b. cell_at i ≡ upto n cell_at fresh_at i)
      (λ m. sym (upto-in n cell_at fresh_at i m)) (λ m. t.past_cells i m l ∙ sym (upto-out n cell_at fresh_at i m)))))
      (sym (tabulated max_ends (upto ends mark_of (λ d. 0)) f.marks t.marks_size (λ d l. ltb-cases d ends (λ b. mark_of d ≡ upto ends mark_of (λ k. 0) d)
      (λ m. sym (upto-in ends mark_of (λ k. 0) d m)) (λ m. t.past_marks d m l ∙ sym (upto-out ends mark_of (λ k. 0) d m)))))

  pub tidied-trimmed : tidied f ≡ f → trimmed f.plan ≡ f.plan
  unfolding tidied
  tidied-trimmed e = ap (λ (g : Field). g.plan) e

  pub tidied-parts : tidied f ≡ f → TidyParts f.plan f.cells f.marks
  unfolding tidied
  tidied-parts e =
      let c : tabulate CELLS (upto n cell_at fresh_at) ≡ f.cells = ap (λ (g : Field). g.cells) e in
      let m : tabulate max_ends (upto ends mark_of (λ d. 0)) ≡ f.marks = ap (λ (g : Field). g.marks) e in
      record {
        cells_size = sym (ap length c) ∙ length-tabulate CELLS (upto n cell_at fresh_at);
        marks_size = sym (ap length m) ∙ length-tabulate max_ends (upto ends mark_of (λ d. 0));
        past_cells = λ i l b. sym (ap (λ (s : List ℕ). get_or s i 0) c) ∙ get_d_tabulate CELLS (upto n cell_at fresh_at) i b ∙ upto-out n cell_at fresh_at i l;
        past_marks = λ d l b. sym (ap (λ (s : List ℕ). get_or s d 0) m) ∙ get_d_tabulate max_ends (upto ends mark_of (λ k. 0)) d b ∙ upto-out ends mark_of (λ k. 0) d l;
      }

-- ---- of a state: each step keeps it

module _ (p : Plan) where
  abbrev TidyState : State → Type 0
  TidyState s = TidyParts p s.cells s.marks

  tidy-placed : (v : ℕ) (w : Work) (s : State) → v < modules_of p → TidyState s → TidyParts p (put_node s.cells v w.node) (put_marks p s.marks v w.mark)
  tidy-placed v w s l t = record {
    cells_size = length-put s.cells v w.node ∙ t.cells_size;
    marks_size = length-new p v w.mark 0 s.marks ∙ t.marks_size;
    past_cells = λ i m b. sets-out 0 (values w.node) s.cells (v * WIDTH) i (inr (omega arith)) ∙ t.past_cells i m b;
    past_marks = λ d m b. put_marks-at p v w.mark s.marks d (omega (arith, t.marks_size)) ∙ past d m ∙ t.past_marks d m b;
  }
    where
      past : (d : ℕ) → 2 * links_of p ≤ d → new_mark p v w.mark d (get_or s.marks d 0) ≡ get_or s.marks d 0
      past d m = rw (le-ltb d (2 * links_of p) m)

  tidy-took : (s : State) {kind number : ℕ} {s' : State} → FieldStep p s kind number s' → TidyState s → TidyState s'
  tidy-took s (wake-step {v} h) t = rw h.responds.is (tidy-placed v (wake_work p v s) s h.within t)
  tidy-took s (hand-step h) t = rw h.is t
  tidy-took s (serve-step {v} h) t = rw h.responds.is (tidy-placed v (serve_work p v h.word s) s h.within t)

  tidy-step : (kind number : ℕ) (s : State) → TidyState s → TidyState (step p kind number s).state
  tidy-step kind number s t = left (step-outcome p s kind number)
    where
      left : {a : After State} → StepOutcome s (FieldStep p s kind number) a → TidyState a.state
      left (took h) = tidy-took s h t
      left (kept r h) = t

-- ---- over every list of calls

pub tidy-after : (cs : List Call) (h : Held) → Live h → tidied h.field ≡ h.field → tidied (after cs h).field ≡ (after cs h).field
tidy-after cs h i e =
    let p = h.field.plan in
    let q = after-plan cs h i in
    parts-tidied (after cs h).field (ap trimmed q ∙ tidied-trimmed h.field e ∙ sym q)
    (subst (λ x. TidyParts x (after cs h).field.cells (after cs h).field.marks) (sym q)
    (list-keeps p (TidyState p) (λ kind number s sound t. tidy-step p kind number s t) cs h i refl (tidied-parts h.field e)))

fresh-tidy : (p : Plan) → TidyParts p (fresh_cells max_modules) (replicate max_ends 0)
fresh-tidy p = record {
  cells_size = fresh-length max_modules;
  marks_size = length-replicate {A = ℕ} max_ends 0;
  past_cells = λ i l b. refl;
  past_marks = λ d l b. get_or-replicate {A = ℕ} max_ends d 0 0 b;
}

module _ (p : Plan) (lent : List ℕ) (z : (set_up p lent).refusal ≡ 0) where
  abbrev start : Held
  start = (set_up p lent).state

  pub setup-live : Live start
  setup-live = let s = started p lent z in subst Live (sym s.is) (begun-live (trimmed p) lent s.plan s.room)

  setup-tidy : tidied start.field ≡ start.field
  setup-tidy = subst (λ (g : Held). tidied g.field ≡ g.field) (sym (started p lent z).is) (parts-tidied (fresh (trimmed p)) (trimmed-again p) (fresh-tidy (trimmed p)))

  -- "where that field came from setup": a record keeps all of it
  pub tidy-kept : (cs : List Call) → tidied (after cs start).field ≡ (after cs start).field
  tidy-kept cs = tidy-after cs start setup-live setup-tidy
