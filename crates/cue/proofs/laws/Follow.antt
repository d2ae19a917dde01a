-- What a module passes on, channel by channel: a copy where `Passes` holds (`passes-adds`), nothing elsewhere (`passes-keeps`).
use Rattle.std.specs.Prelude.{ℕ, ◌*◌, ◌<◌, ◌≡◌, ◌≢◌, Bool, true, not, ◌&&◌, List, [], ◌∷◌, ◌++◌, eqb, ltb}
use Rattle.std.proofs.Math.Bool.{and-eq-true_iff}
use borrow.Author.Tests.{eqb-true, eqb-false, ne_eqb, eq-eqb, not-true, ltb-true, lt-ltb}
use Rattle.base.proofs.laws.Cond.{bool_cases}
use Rattle.plan.specs.Links.{Plan, links_of}
use Rattle.plan_tree.specs.Tree.{tree_link}
use Rattle.field.specs.Edges.{link_of, from}
use Rattle.cue.specs.declared.Cue.{Cue}
use Rattle.cue.specs.Follow.{passes_on}

-- module v, by link k, passes a copy over directed link d
pub record Passes (p : Plan) (v k d : ℕ) : Type 0 where
  pub below : d < 2 * links_of p
  pub near : from p d ≡ v
  pub tree : tree_link p (link_of d) ≡ true
  pub onward : link_of d ≢ k

module _ (p : Plan) (v k : ℕ) (c : Cue) (channel : ℕ → List Cue) (d : ℕ) where
  pub passes-adds : Passes p v k d → passes_on p v k c channel d ≡ channel d ++ (c ∷ [])
  unfolding passes_on
  passes-adds x = rw (lt-ltb d (2 * links_of p) x.below, eq-eqb (from p d) v x.near, x.tree, ne_eqb (link_of d) k x.onward)

  -- the test
  abbrev onwards : Bool
  onwards = tree_link p (link_of d) && not (eqb (link_of d) k)

  abbrev test : Bool
  test = ltb d (2 * links_of p) && (eqb (from p d) v && onwards)

  test-facts : test ≡ true → Passes p v k d
  test-facts t =
      let a = (and-eq-true_iff (ltb d (2 * links_of p)) (eqb (from p d) v && onwards)).0 t in
      let b = (and-eq-true_iff (eqb (from p d) v) onwards).0 a.1 in
      let o = (and-eq-true_iff (tree_link p (link_of d)) (not (eqb (link_of d) k))).0 b.1 in
      record {
        below = ltb-true d (2 * links_of p) a.0;
        near = eqb-true (from p d) v b.0;
        tree = o.0;
        onward = eqb-false (link_of d) k (not-true (eqb (link_of d) k) o.1);
      }

  pub passes-keeps : ¬ Passes p v k d → passes_on p v k c channel d ≡ channel d
  unfolding passes_on
  passes-keeps n = bool_cases test (λ t. absurd (n (test-facts t))) (λ f. rw f)
