-- Two plan values of the same plan, as `trimmed` makes them: a field's numbers have the same places (`alike-places`), and 31 says the same (`alike-fits`).
use Prim.Native.Nat.{ℕ, zero, suc, ◌*◌, ◌<◌}
use Rattle.std.proofs.Common.{arith, ◌∙◌}
use Rattle.std.specs.Prelude.{◌≡◌, length, get_or}
use Rattle.std.proofs.Math.Path.{refl, ap, ap₂, fun_ext}
use Rattle.std.proofs.Math.Bool.{◌&&◌}
use mathlib.Core.List.{List, ◌++◌}
use Rattle.std.proofs.Math.Dec.{leb}
use borrow.Author.Tests.{le-ltb}
use Rattle.base.specs.Test.{every}
use Rattle.base.proofs.laws.Cond.{bool_cases, ltb-cases}
use Rattle.base.proofs.laws.Test.{every-ext}
use Rattle.plan.specs.Links.{Plan, modules_of, links_of}
use Rattle.plan.specs.Same.{Same}
use Rattle.node.specs.declared.Node.{Node}
use Rattle.node.specs.Work.{REJECTED, number, any_edge, degree}
use Rattle.field.specs.Edges.{is_own, end_of, own_of}
use Rattle.field.specs.State.{State, node_at}
use Rattle.field.specs.Valid.{all_of, word_fits, node_fits, fits}
use Rattle.field.proofs.laws.Edges.{own_below}
use Rattle.store.specs.Layout.{value_places, mark_places, places_below, places}

module _ {p q : Plan} (e : Same p q) where
  alike-own : (v k : ℕ) → is_own p v k ≡ is_own q v k
  unfolding is_own
  alike-own v k = ltb-cases k (links_of p) (λ b. is_own p v k ≡ is_own q v k)
      (λ l. rw (e.links, e.lows k l, e.highs k l))
      (λ l. rw (le-ltb k (links_of p) l, le-ltb k (links_of q) (omega (arith, e.links))))

  alike_end : (v k : ℕ) → k < links_of p → end_of p v k ≡ end_of q v k
  unfolding end_of
  alike_end v k l = rw (e.lows k l)

  alike-marks : (v k : ℕ) → mark_places p v k ≡ mark_places q v k
  unfolding mark_places
  alike-marks v zero = refl
  alike-marks v (suc k) = ap₂ (λ (a b : List ℕ). a ++ b) (alike-marks v k) (bool_cases (is_own p v k)
      (λ o. rw (← alike-own v k, o, alike_end v k (own_below p v k o)))
      (λ o. rw (← alike-own v k, o)))

  alike-below : (n : ℕ) → places_below p n ≡ places_below q n
  unfolding places_below
  alike-below zero = refl
  alike-below (suc n) = ap₂ (λ (a b : List ℕ). a ++ b) (alike-below n) (ap (λ (m : List ℕ). value_places n ++ m) (alike-marks n (links_of p) ∙ ap (mark_places q n) e.links))

  pub alike-places : places p ≡ places q
  alike-places = alike-below (modules_of p) ∙ ap (places_below q) e.modules

  alike-word : (w : ℕ) → word_fits p w ≡ word_fits q w
  unfolding word_fits
  alike-word w = rw (e.links, e.modules)

  alike-number : (v n : ℕ) → number (own_of p v) any_edge n ≡ number (own_of q v) any_edge n
  unfolding number
  alike-number v zero = refl
  alike-number v (suc n) = rw (alike-number v n, alike-own v n)

  alike-degree : (v : ℕ) → degree (own_of p v) ≡ degree (own_of q v)
  alike-degree v = alike-number v (links_of p) ∙ ap (number (own_of q v) any_edge) e.links

  alike-node : (v : ℕ) (n : Node) → node_fits p v n ≡ node_fits q v n
  unfolding node_fits
  alike-node v n = rw (alike-degree v, fun_ext (alike-own v), e.links, e.modules)

  -- two states with the same words, count, modules and marks
  module _ (s t : State) (words : s.words ≡ t.words) (sent : s.sent ≡ t.sent)
      (nodes : (v : ℕ) → v < modules_of p → node_at s v ≡ node_at t v)
      (marks : (d : ℕ) → d < 2 * links_of p → get_or s.marks d 0 ≡ get_or t.marks d 0) where
    pub alike-fits : fits p s ≡ fits q t
    unfolding fits
    alike-fits =
        ap₂ ◌&&◌
        (ap₂ ◌&&◌
        (ap₂ ◌&&◌
        (ap₂ ◌&&◌ (ap₂ all_of (fun_ext alike-word) words)
        (every-ext (modules_of p) (λ v. node_fits p v (node_at s v)) (λ v. node_fits q v (node_at t v)) (λ v l. alike-node v (node_at s v) ∙ ap (node_fits q v) (nodes v l))
        ∙ ap (λ n. every n (λ v. node_fits q v (node_at t v))) e.modules))
        (every-ext (2 * links_of p) (λ d. leb (get_or s.marks d 0) REJECTED) (λ d. leb (get_or t.marks d 0) REJECTED) (λ d l. ap (λ x. leb x REJECTED) (marks d l))
        ∙ ap (λ n. every (2 * n) (λ d. leb (get_or t.marks d 0) REJECTED)) e.links))
        (ap₂ (λ (a : List ℕ) b. leb (length a) b) words sent))
        (ap₂ leb sent (rw (e.links, e.modules) refl))
