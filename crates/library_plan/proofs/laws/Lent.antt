-- A plan read into lent memory: taken, what the reader gives (`plan-read-into`); refused, the plan that was there (`plan-alters-nothing`). A link's
-- cost for any number: `cost-of-link`; none where it is no link of the plan (`cost-no-link`) or there is no room for it (`cost-no-room`).
use Rattle.std.specs.Prelude.{ℕ, ◌<◌, ◌≤◌, ◌≡◌, ◌≢◌, List}
use Rattle.std.proofs.Math.Path.{refl}
use Rattle.std.proofs.Common.{sym}
use borrow.Author.Tests.{eq-eqb, le-leb, lt-leb}
use Rattle.base.proofs.laws.Cond.{eqb-diff}
use Rattle.base.specs.Limits.{max_links}
use Rattle.base.specs.None.{none}
use Rattle.plan.specs.Links.{Plan, links_of}
use Rattle.plan.specs.Weights.{cost}
use Rattle.plan_file.specs.Reading.{Outcome}
use Rattle.plan_file.specs.Reading.{read_plan}
use Rattle.library_plan.specs.Lent.{plan_into, cost_or_none}

module _ (s : List ℕ) (old : Plan) (o : Outcome) (e : o ≡ read_plan s) where
  pub plan-read-into : o.refusal ≡ 0 → record { refusal = o.refusal; state = o.plan } ≡ plan_into s old
  unfolding plan_into
  plan-read-into z = rw (sym e, eq-eqb o.refusal 0 z)

  pub plan-alters-nothing : o.refusal ≢ 0 → record { refusal = o.refusal; state = old } ≡ plan_into s old
  unfolding plan_into
  plan-alters-nothing n = rw (sym e, eqb-diff o.refusal 0 n)

module _ (p : Plan) (k : ℕ) where
  pub cost-no-link : links_of p ≤ k → none ≡ cost_or_none p k
  unfolding cost_or_none
  cost-no-link h = rw (le-leb (links_of p) k h) refl

  pub cost-no-room : k < links_of p → max_links ≤ k → none ≡ cost_or_none p k
  unfolding cost_or_none
  cost-no-room l h = rw (lt-leb (links_of p) k l, le-leb max_links k h) refl

  pub cost-of-link : k < links_of p → k < max_links → cost p k ≡ cost_or_none p k
  unfolding cost_or_none
  cost-of-link l h = rw (lt-leb (links_of p) k l, lt-leb max_links k h) refl
