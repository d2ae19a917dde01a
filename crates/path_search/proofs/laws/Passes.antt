-- The whole pass, branch by branch (`PassTo`: `pass-none`, `pass-next`, `pass-or`), is one level more (`passed`).
use Rattle.std.specs.Prelude.{ℕ, suc, ◌+◌, ◌<◌, ◌≡◌, refl, ◌≢◌, Bool, false, ◌||◌, List, get_or}
use Rattle.std.proofs.Common.{arith, add-one, not-suc-le-zero, sym, ap, ◌∙◌}
use Rattle.base.proofs.laws.Cond.{by-eq}
use Rattle.base.proofs.laws.Refuse.{or-false}
use Rattle.graph.specs.Parts.{SamePart}
use Rattle.graph.proofs.laws.Ways.{joins-lt}
use Rattle.plan.specs.Links.{graph_of, Plan, modules_of}
use Rattle.path.proofs.laws.Steps.{PathSteps}
use Rattle.path_search.specs.Spread.{far, hops_to, link_to, Branches, BothSized, Entry, known, unknown, Level, Passing, Pass, BranchDone, LevelDone}
use Rattle.path_search.proofs.laws.FirstLinks.{nearer}

module _ (p : Plan) (v : ℕ) (list : List ℕ) (h : ℕ) where
  pass-start : (hops by : List ℕ) → Level p v h hops by → Pass p v list h 0 hops by
  pass-start hops by level = record { sized = level.sized; each = λ w l. go w (level.each w l) }
    where
      go : (w : ℕ) {hop link : ℕ} → Entry p v h w hop link → Passing p v list h 0 w hop link
      go w (known d e f) = known (record { part = d.part; near = omega (arith, d.near) }) e f
      go w (unknown d e) = unknown d (λ s q j l. absurd (not-suc-le-zero l)) e

  -- with all branches done no node at the next level is left
  pass-end : PathSteps p v → (n : ℕ) (hops by : List ℕ) → Branches p list n → Pass p v list h n hops by → Level p v (suc h) hops by
  pass-end steps n hops by branches q = record { sized = q.sized; each = λ w l. go w (q.each w l) }
    where
      left : (w : ℕ) → SamePart (graph_of p) w v → hops_to p v w ≡ suc h → ((j : ℕ) → j < n → get_or list j 0 ≢ link_to p v w) → ⊥
      left w s e f =
          let m = nearer p v steps w h s e in
          let x = branches.all m.0.link (joins-lt m.0.joins) m.0.tree in
          f x.place x.below (x.holds ∙ sym m.2)

      go : (w : ℕ) {hop link : ℕ} → Passing p v list h n w hop link → Entry p v (suc h) w hop link
      go w (known d e f) = known d e f
      go w (unknown d f e) = unknown (λ s. by-eq (hops_to p v w) (suc h) (λ q. absurd (left w s q (f s q))) (λ q. omega (arith, d s))) e

  -- none became known: none is at the next level
  none_left : (hops by hops' by' : List ℕ) → suc h < far → hops' ≡ hops → Level p v h hops by → Level p v (suc h) hops' by'
      → (w : ℕ) → w < modules_of p → SamePart (graph_of p) w v → hops_to p v w ≢ suc h
  none_left hops by hops' by' lf e old new w l part s = go (old.each w l) (new.each w l)
    where
      go : {link link' : ℕ} → Entry p v h w (get_or hops w 0) link → Entry p v (suc h) w (get_or hops' w 0) link' → ⊥
      go (known d f g) y = omega (arith, d.near)
      go (unknown d f) (known d' f' g') = omega (arith, ap (λ x. get_or x w 0) e)
      go (unknown d f) (unknown d' f') = omega (arith, d' part)

-- the first i branches are done, for any goal
pub record PassTo (p : Plan) (list : List ℕ) (h i : ℕ) (hops₀ by₀ hops by : List ℕ) (any : Bool) : Type 0 where
  pub goes : (v : ℕ) → Level p v h hops₀ by₀ → Pass p v list h i hops by
  pub none-new : any ≡ false → hops ≡ hops₀
  pub sized : BothSized hops by

module _ (p : Plan) (list : List ℕ) (h : ℕ) (hops₀ by₀ : List ℕ) where
  pub pass-none : BothSized hops₀ by₀ → PassTo p list h 0 hops₀ by₀ hops₀ by₀ false
  pass-none s = record { goes = λ v. pass-start p v list h hops₀ by₀; none-new = λ e. refl; sized = s }

  -- one branch more; with nothing new there was nothing new before
  pub pass-next : (i : ℕ) (hops by hops' by' : List ℕ) (any new any' : Bool) → PassTo p list h i hops₀ by₀ hops by any → BranchDone p (get_or list i 0) h hops by hops' by' new
      → (any' ≡ false → (new ≡ false) × (any ≡ false)) → PassTo p list h (i + 1) hops₀ by₀ hops' by' any'
  pass-next i hops by hops' by' any new any' before b nothing = record {
    goes = λ v q. rw (add-one i) (b.done v list i refl (before.goes v q));
    none-new = λ e. let f = nothing e in b.none-new f.0 ∙ before.none-new f.1;
    sized = b.sized;
  }

  -- the same where the code keeps whether any was new
  pub pass-or : (i : ℕ) (hops by hops' by' : List ℕ) (any new : Bool) → PassTo p list h i hops₀ by₀ hops by any → BranchDone p (get_or list i 0) h hops by hops' by' new
      → PassTo p list h (i + 1) hops₀ by₀ hops' by' (any || new)
  pass-or i hops by hops' by' any new before b =
      pass-next i hops by hops' by' any new (any || new) before b (λ e. let f = or-false any new e in (f.1, f.0))

  -- all of them
  pub passed : ((v : ℕ) → PathSteps p v) → (n : ℕ) (hops by : List ℕ) (any : Bool) → suc h < far → Branches p list n
      → PassTo p list h n hops₀ by₀ hops by any → LevelDone p h hops₀ by₀ hops by any
  passed steps n hops by any lf branches q = record {
    next = next;
    last = λ e v z. none_left p v list h hops₀ by₀ hops by lf (q.none-new e) z (next v z);
    sized = q.sized;
  }
    where
      next : (v : ℕ) → Level p v h hops₀ by₀ → Level p v (suc h) hops by
      next v z = pass-end p v list h (steps v) n hops by branches (q.goes v z)
