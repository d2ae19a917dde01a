-- Walking a path by the links to go first: part of it is written (`Walked`), none at first (`walked_none`), one link more (`walked_on`), all of it at the goal
-- (`walked_all`).
use Prim.Native.Nat.{ℕ, suc, ◌+◌, ◌≤◌, ◌<◌}
use native.Mathlib.Omega.{arith}
use native.Mathlib.Numerals.{add-one}
use mathlib.Core.Path.{◌≡◌, refl, sym, ap, ap₂, ◌∙◌}
use mathlib.Core.Logic.{◌≢◌, ◌⊎◌, inl, inr}
use mathlib.Core.Bool.{cond}
use mathlib.Core.List.{List, [], ◌∷◌, ◌++◌, append-nil}
use lib.ListN.{length, get_or, drop, set, length-append}
use lib.Dec.{eqb}
use lib.Seq.{append_snoc}
use Rattle.base.proofs.laws.Cond.{cond_has}
use Rattle.base.proofs.laws.Sets.{front-set}
use Rattle.base.specs.None.{none}
use Rattle.base.specs.Limits.{max_modules, max_links}
use Rattle.graph.specs.Between.{across, later_of, latest_from}
use Rattle.graph.specs.Parts.{SamePart}
use Rattle.graph.proofs.laws.Ways.{joins-lt}
use Rattle.graph.proofs.laws.Between.{across-joins}
use Rattle.plan.specs.Links.{graph_of, Plan, modules_of}
use Rattle.plan.specs.Weights.{earlier}
use Rattle.plan.proofs.laws.Accepted.{Accepted}
use Rattle.path.specs.Between.{tree_path, worst_on}
use Rattle.path.proofs.laws.Steps.{Next, path_steps}
use Rattle.path_search.specs.Spread.{hops_to, head_or, LinksTo}

-- a latest link so far, or none yet
abbrev pub WorstSoFar : ℕ → Type 0
WorstSoFar k = (k ≡ none) ⊎ (k < max_links)

-- i links are written, `at` is where they lead, worst is the latest of them
pub record Walked (p : Plan) (u v : ℕ) (out₀ out : List ℕ) (worst at i : ℕ) : Type 0 where
  pub done : List ℕ
  pub count : length done ≡ i
  pub path : tree_path p u v ≡ done ++ tree_path p at v
  pub written : out ≡ done ++ drop i out₀
  pub inside : at < modules_of p
  pub part : SamePart (graph_of p) at v
  pub held : WorstSoFar worst
  pub latest : latest_from (earlier p) worst (tree_path p at v) ≡ worst_on p (tree_path p u v)

pub walked_none : (p : Plan) (u v : ℕ) (out : List ℕ) → u < modules_of p → SamePart (graph_of p) u v → Walked p u v out out none u 0
walked_none p u v out l s = record { done = []; count = refl; path = refl; written = refl; inside = l; part = s; held = inl refl; latest = refl }

-- the first link of a path that begins with link k
head-is : {l r : List ℕ} {k : ℕ} → l ≡ k ∷ r → head_or none l ≡ k
head-is e = ap (head_or none) e

-- what holds on the way, and of one link more: k is the link to go
pub record Goes (p : Plan) (u v : ℕ) (out₀ out : List ℕ) (worst at i k : ℕ) : Type 0 where
  pub node : at < max_modules
  pub link : k < max_links
  pub room : i < length out₀
  pub less : length (tree_path p (across (graph_of p) k at) v) < length (tree_path p at v)
  pub walked : Walked p u v out₀ (set out i k) (later_of (earlier p) worst k) (across (graph_of p) k at) (i + 1)

module _ (p : Plan) (u v : ℕ) (out₀ out : List ℕ) (worst at i : ℕ) (ok : Accepted p) (w : Walked p u v out₀ out worst at i) where
  -- what is written and what is left make the path
  walked-length : i + length (tree_path p at v) ≡ length (tree_path p u v)
  walked-length = omega (arith, ap length (w.path), length-append (w.done) (tree_path p at v), w.count)

  -- the link to go is the one that the search knows
  module _ (by : List ℕ) (known : LinksTo p v u by) (d : at ≢ v) where
    abbrev n : Next p at v
    n = (path_steps p ok v).next at (w.part) d

    link-is : get_or by at 0 ≡ n.link
    link-is = known.each at (w.inside) (w.part) (omega (arith, walked-length)) ∙ head-is (n.rest)

    length-next : length (tree_path p at v) ≡ suc (length (tree_path p (n.to) v))
    length-next = ap length (n.rest)

    link-below : n.link < max_links
    link-below = omega (arith, joins-lt (n.joins), ok.links_ok)

    in-room : length (tree_path p u v) ≤ length out₀ → i < length out₀
    in-room r = omega (arith, walked-length, length-next)

    walked_next : length (tree_path p u v) ≤ length out₀ → Walked p u v out₀ (set out i (n.link)) (later_of (earlier p) worst (n.link)) (n.to) (i + 1)
    unfolding latest_from
    walked_next r = record {
      done = w.done ++ (n.link ∷ []);
      count = length-append (w.done) (n.link ∷ []) ∙ ap (λ x. x + 1) (w.count);
      path = w.path ∙ ap (λ l. w.done ++ l) (n.rest) ∙ sym (append_snoc (w.done) (n.link) (tree_path p (n.to) v));
      written = ap (λ l. set l i (n.link)) (w.written) ∙ stored;
      inside = n.inside;
      part = n.part;
      held = cond_has WorstSoFar (eqb worst none) (n.link) (cond (earlier p worst (n.link)) (n.link) worst) (inr link-below)
          (cond_has WorstSoFar (earlier p worst (n.link)) (n.link) worst (inr link-below) (w.held));
      latest = sym (ap (latest_from (earlier p) worst) (n.rest)) ∙ w.latest;
    }
      where
        stored : set (w.done ++ drop i out₀) i (n.link) ≡ (w.done ++ (n.link ∷ [])) ++ drop (i + 1) out₀
        stored = rw (add-one i) (front-set (w.done) out₀ i (n.link) 0 (w.count) (in-room r))

    pub walked_on : length (tree_path p u v) ≤ length out₀ → Goes p u v out₀ out worst at i (get_or by at 0)
    walked_on r = rw link-is (record {
      node = omega (arith, w.inside, ok.modules_ok);
      link = link-below;
      room = in-room r;
      less = rw (across-joins (graph_of p) (n.joins)) (omega (arith, length-next));
      walked = rw (across-joins (graph_of p) (n.joins)) (walked_next r);
    })

  -- at the goal
  pub walked_all : at ≡ v → (worst ≡ worst_on p (tree_path p u v)) × (out ≡ tree_path p u v ++ drop (hops_to p v u) out₀)
  unfolding latest_from
  walked_all e = (sym (ap (latest_from (earlier p) worst) left) ∙ w.latest, w.written ∙ ap₂ (λ l n. l ++ drop n out₀) (sym all) (sym length-all))
    where
      left : tree_path p at v ≡ []
      left = ap (λ x. tree_path p x v) e ∙ (path_steps p ok v).here

      all : tree_path p u v ≡ w.done
      all = w.path ∙ ap (λ l. w.done ++ l) left ∙ append-nil (w.done)

      length-all : length (tree_path p u v) ≡ i
      length-all = ap length all ∙ w.count
