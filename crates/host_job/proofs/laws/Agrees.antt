-- What the whole job leaves, by demand 3: not refused, the lowest module of each part woken, at rest within M + N rounds (`job-outcome`), and every module marks
-- exactly the tree that the central builder writes (`same-tree`, `same-others`).
use Rattle.std.specs.Prelude.{ℕ, ◌+◌, ◌≤◌, ◌<◌, ◌≡◌, length, get_or}
use Rattle.std.proofs.Common.{arith, sym, ap₂, subst, ◌∙◌}
use Rattle.std.proofs.Math.Path.{refl, ap}
use mathlib.Core.List.Memᴰ
use mathlib.Core.List.{List, [], ◌∷◌, ◌++◌, map, head-eq_of_cons-eq, tail-eq_of_cons-eq, Memᴰ}
use Rattle.graph.specs.Graph.{stop}
use Rattle.graph.specs.Parts.{lowests}
use Rattle.graph.proofs.laws.Parts.{lowest-of, in-lowests}
use Rattle.graph.proofs.laws.Ways.{way-append, way-reverse}
use Rattle.plan.specs.Links.{Plan, modules_of, links_of, lower_of, graph_of}
use Rattle.plan.specs.Trimmed.{trimmed}
use Rattle.plan.specs.Same.{Same}
use Rattle.plan.proofs.laws.Accepted.{accepted}
use Rattle.plan.proofs.laws.Same.{same-sym, same_way}
use Rattle.plan.proofs.laws.Trimmed.{trimmed-same}
use Rattle.plan.proofs.laws.Ceiling.{ceiling-small}
use Rattle.node.specs.Work.{BRANCH, REJECTED}
use Rattle.field.specs.Edges.{ceiling_of}
use Rattle.field.specs.Held.{Held, state_of, set_up}
use Rattle.field_calls.specs.declared.Step.{Step}
use Rattle.field_calls.specs.Call.{run, rounds, after, does}
use Rattle.field_calls.specs.Trail.{Taken, trail, woken_in, wakes_one}
use Rattle.field_calls.specs.Demand.{BothSay, InPart, Agreed, Claim}
use Rattle.field_laws.proofs.After.{started, trimmed-ceiling}
use Rattle.field_roundlaws.proofs.Awake.{woken-app, all-member}
use Rattle.demand.proofs.Demand.{demand3}
use Rattle.plan_tree.specs.Tree.{central_tree}
use Rattle.plan_tree.proofs.laws.Theorems.{written-tree, tree-written}
use Rattle.host_job.specs.Job.{job_wakes, max_rounds, job_run}
use Rattle.host_job.proofs.laws.Wakes.{wake_of, step_in}
use Rattle.host_job.proofs.laws.Job.{set-taken}
use Rattle.host_job.proofs.laws.Held.{same-agreed}
use Rattle.host_job.proofs.laws.Outcome.{trail-on, live, first-claim, JobOutcome, woken-lowest}
pub use Rattle.host_job.proofs.laws.Outcome.{calls, job_is}

-- steps that are wakes wake these modules
woken-these : (q : Plan) (t : List Taken) (l : List ℕ) → map step_in t ≡ map wake_of l → woken_in q t ≡ l
unfolding woken_in wakes_one
woken-these q [] [] e = refl
woken-these q [] (v ∷ l) e = absurd (omega (arith, ap length e))
woken-these q (x ∷ t) [] e = absurd (omega (arith, ap length e))
woken-these q (x ∷ t) (v ∷ l) e =
    let s = head-eq_of_cons-eq e in
    rw (ap (λ (y : Step). y.kind) s) (ap₂ ◌∷◌ (ap (λ (y : Step). y.number) s) (woken-these q t l (tail-eq_of_cons-eq e)))

module _ (p : Plan) (lent : List ℕ) (ok : (set_up p lent).refusal ≡ 0) where
  abbrev start : Held
  start = (set_up p lent).state

  -- the plan as the field holds it
  abbrev held : Plan
  held = trimmed p

  same : Same p held
  same = trimmed-same p

  whole : Claim held start (calls p)
  whole = demand3 p lent ok (calls p)

  -- M + N is below the limit
  room : ceiling_of held + modules_of held ≤ max_rounds
  room = let k = (started p lent ok).plan in omega (arith, ceiling-small held k, (accepted held k).modules_ok)

  abbrev low : List ℕ
  low = lowests (graph_of p) (modules_of p)

  -- the lowest modules are the first that are woken
  woken : woken_in held (trail (calls p) start) ≡ low ++ woken_in held (trail (rounds max_rounds ∷ []) (does (run (job_wakes p)) start).state)
  woken = ap (woken_in held) (trail-on low start (live p lent ok).valid (rounds max_rounds ∷ []))
      ∙ woken-app held (trail (run (job_wakes p) ∷ []) start) _
      ∙ ap (λ t. t ++ woken_in held (trail (rounds max_rounds ∷ []) (does (run (job_wakes p)) start).state)) (woken-these held _ low (woken-lowest p lent ok))

  -- a module's part is that of its lowest module
  part-agreed : (w : ℕ) → w < modules_of p → Agreed p (state_of (after (calls p) start)) (InPart p w)
  unfolding after does
  part-agreed w l =
      let m = lowest-of (graph_of p) w in
      same-agreed (same-sym same) _
      (λ v i. (omega (arith, i.0, same.modules), way-append (way-reverse m.joins) (same_way (same-sym same) (λ k h t. t) i.1)))
      (λ v i. (omega (arith, i.0, same.modules), same_way same (λ k h t. t) (way-append m.joins i.1)))
      (all-member (whole.agreed ((first-claim p lent ok).rests max_rounds room).rest)
      (subst (Memᴰ m.node) (sym woken) (Memᴰ.append_left _ (in-lowests (graph_of p) (modules_of p) m.node (omega (arith, m.low)) m.lowly))))

  pub job-outcome : JobOutcome p lent ok
  unfolding after does
  job-outcome =
      let is = job_is p lent ok in
      record {
        is = is;
        wakes = woken-lowest p lent ok;
        rests =
            let r = (first-claim p lent ok).rests max_rounds room in
            rw is (record { rest = r.rest; unrefused = r.unrefused; within = omega (arith, r.within, trimmed-ceiling p, same.modules) });
        exact = rw is whole.exact;
        ceiling = rw is (omega (arith, whole.ceiling, trimmed-ceiling p));
        agreed = λ w l. rw is (part-agreed w l);
      }

  -- THE TREE OF THE CENTRAL BUILDER: both ends of a link say branch where its byte is 1, rejected where it is 0
  module _ (out : List ℕ) (built : (central_tree p out).refusal ≡ 0) (k : ℕ) (l : k < links_of p) where
    -- the part of its lower end
    low-in : lower_of p k < modules_of p
    low-in = let o = (accepted p (set-taken p lent (set_up p lent) refl ok)).each k l in omega (arith, o.ordered, o.inside)

    own-part : Agreed p (state_of (job_run p lent).state) (InPart p (lower_of p k))
    own-part = job-outcome.agreed (lower_of p k) low-in

    pub same-tree : get_or (central_tree p out).state k 0 ≡ 1 → BothSay p (state_of (job_run p lent).state) BRANCH k
    same-tree e = own-part.tree k l (low-in, stop) (tree-written p out built k l e)

    pub same-others : get_or (central_tree p out).state k 0 ≡ 0 → BothSay p (state_of (job_run p lent).state) REJECTED k
    same-others e = own-part.others k l (low-in, stop) (λ t. omega (arith, written-tree p out built k l t))
