-- What looking at one edge does to the table of earliest edges (`skipped`, `offered`).
use Prim.Native.Nat.{ℕ, ◌+◌, ◌<◌}
use native.Mathlib.Omega.{arith}
use mathlib.Core.Path.{◌≡◌, sym, ◌∙◌}
use mathlib.Core.Logic.{◌≢◌, ◌⊎◌, inl, inr, ⊎_elim}
use mathlib.Core.List.{List}
use lib.ListN.{length, set, replicate, length-set, length-replicate, get_or-replicate}
use lib.Seq.{get_or-set_same, get_or-set_other}
use Rattle.base.proofs.laws.Cond.{by-eq}
use Rattle.base.specs.None.{none}
use Rattle.base.specs.Limits.{max_modules, max_links}
use Rattle.plan.specs.Links.{Plan, lower_of, higher_of, graph_of}
use Rattle.plan.specs.Weights.{earlier}
use Rattle.plan.proofs.laws.Weights.{order_of}
use Rattle.plan_tree.specs.laws.Phase.{Leaves, First, sooner, first-bound, first-none, first-skip, first-offer}
use Rattle.plan_tree.specs.Lent.{at, Firsts}

-- before the scan no part has an edge
pub firsts-none : (plan : Plan) (label : List ℕ) → Firsts plan label 0 (replicate max_modules none)
firsts-none plan label = record {
  size = length-replicate max_modules none;
  first = λ a l. first-none (order_of plan) (Leaves (graph_of plan) (at label) a) (at (replicate max_modules none) a) (get_or-replicate max_modules a none 0 l);
}

module _ (plan : Plan) (label best : List ℕ) (k : ℕ) (few : k < max_links) (f : Firsts plan label k best) where
  -- what a part has may be compared
  pub held : (a : ℕ) → a < max_modules → (at best a ≡ none) ⊎ (at best a < max_links)
  held a l = ⊎_elim (λ e. inl e) (λ h. inr (omega arith)) (first-bound (f.first a l))

  -- an edge inside a part
  pub skipped : at label (lower_of plan k) ≡ at label (higher_of plan k) → Firsts plan label (k + 1) best
  skipped i = record {
    size = f.size;
    first = λ a l. first-skip (order_of plan) (Leaves (graph_of plan) (at label) a) k (at best a) (λ v. v.0 i) (f.first a l);
  }

  -- an edge between parts a and b
  module _ (a b : ℕ) (la : a < max_modules) (lb : b < max_modules) (p : a ≡ at label (lower_of plan k)) (q : b ≡ at label (higher_of plan k)) (d : a ≢ b) where
    abbrev pub once : List ℕ
    once = set best a (sooner (earlier plan) (at best a) k)

    pub once-other : (c : ℕ) → a ≢ c → at once c ≡ at best c
    once-other c n = get_or-set_other best a c (sooner (earlier plan) (at best a) k) 0 (λ e. n (sym e))

    pub held-once : (at once b ≡ none) ⊎ (at once b < max_links)
    held-once = rw (once-other b d) (held b lb)

    apart : at label (lower_of plan k) ≢ at label (higher_of plan k)
    apart e = d (p ∙ e ∙ sym q)

    offer-at : (c : ℕ) → c < max_modules → (at label (lower_of plan k) ≡ c) ⊎ (at label (higher_of plan k) ≡ c) → First (Leaves (graph_of plan) (at label) c) (earlier plan) (k + 1) (sooner (earlier plan) (at best c) k)
    offer-at c l s = first-offer (order_of plan) (Leaves (graph_of plan) (at label) c) k (at best c) (omega arith) (apart, s) (f.first c l)

    skip_at : (c : ℕ) → c < max_modules → a ≢ c → b ≢ c → First (Leaves (graph_of plan) (at label) c) (earlier plan) (k + 1) (at best c)
    skip_at c l na nb = first-skip (order_of plan) (Leaves (graph_of plan) (at label) c) k (at best c) (λ v. ⊎_elim (λ e. na (p ∙ e)) (λ e. nb (q ∙ e)) v.1) (f.first c l)

    pub offered : Firsts plan label (k + 1) (set once b (sooner (earlier plan) (at once b) k))
    offered = record { size = simp length-set (f.size); first = λ c l. first c l }
      where
        in-range : b < length once
        in-range = simp length-set (omega (arith, f.size))

        first : (c : ℕ) → c < max_modules → First (Leaves (graph_of plan) (at label) c) (earlier plan) (k + 1) (at (set once b (sooner (earlier plan) (at once b) k)) c)
        first c l = by-eq b c
            (λ e. rw (← e, get_or-set_same once b (sooner (earlier plan) (at once b) k) 0 in-range, once-other b d) (offer-at b lb (inr (sym q))))
            (λ n. rw (get_or-set_other once b c (sooner (earlier plan) (at once b) k) 0 (λ e. n (sym e)))
            (by-eq a c
            (λ e. rw (← e, get_or-set_same best a (sooner (earlier plan) (at best a) k) 0 (omega (arith, f.size))) (offer-at a la (inl (sym p))))
            (λ m. rw (once-other c m) (skip_at c l m n))))
