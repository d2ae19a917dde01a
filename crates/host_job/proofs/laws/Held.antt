-- What is agreed on by the plan as a field holds it is agreed on by every plan value that means the same, and of the same modules, however they are told
-- (`same-agreed`).
use Rattle.std.specs.Prelude.{ℕ, ◌<◌, ◌≡◌}
use Rattle.std.proofs.Common.{arith, sym, ap, subst, ◌∙◌, ⊎_elim, inl, inr}
use Rattle.plan.specs.Links.{Plan, links_of, lower_of, higher_of}
use Rattle.plan.specs.Same.{Same}
use Rattle.plan.proofs.laws.Same.{same-sym, tree-same}
use Rattle.field.specs.Edges.{is_own, end_of, marks_in}
use Rattle.field.specs.State.{State, mark_at}
use Rattle.field_calls.specs.Demand.{BothSay, Core, Agreed}

module _ {p q : Plan} (e : Same p q) (s : State) where
  same-mark : (v k : ℕ) → k < links_of p → mark_at p s v k ≡ mark_at q s v k
  unfolding marks_in is_own end_of
  same-mark v k l = rw (e.links, e.lows k l, e.highs k l)

  same_ends : (mark k : ℕ) → k < links_of p → BothSay p s mark k → BothSay q s mark k
  same_ends mark k l b = record {
    lower = ap (λ v. mark_at q s v k) (sym (e.lows k l)) ∙ sym (same-mark (lower_of p k) k l) ∙ b.lower;
    higher = ap (λ v. mark_at q s v k) (sym (e.highs k l)) ∙ sym (same-mark (higher_of p k) k l) ∙ b.higher;
  }

  -- the modules that are In are those that are Also: of In say the facts by p, of Also those by q
  module _ {In Also : ℕ → Type 0} (to : (v : ℕ) → In v → Also v) (back : (v : ℕ) → Also v → In v) where
    same-core : Core p s In → Core q s Also
    same-core c =
        let k = c.link in
        let l = c.within in
        record {
          link = k;
          within = omega (arith, e.links);
          tree = tree-same e k l c.tree;
          inside = subst Also (e.lows k l) (to _ c.inside);
          across = subst Also (e.highs k l) (to _ c.across);
          apart = λ z. c.apart (e.lows k l ∙ z ∙ sym (e.highs k l));
          halted = λ v m.
              let h = c.halted v (back v m) in (
                (λ y. ⊎_elim (λ a. inl (a ∙ e.lows k l)) (λ b. inr (b ∙ e.highs k l)) (h.0 y)),
                (λ y. h.1 (⊎_elim (λ a. inl (a ∙ sym (e.lows k l))) (λ b. inr (b ∙ sym (e.highs k l))) y)),
              );
        }

    pub same-agreed : Agreed p s In → Agreed q s Also
    same-agreed a = record {
      tree = λ k l i t. let m : k < links_of p = omega (arith, e.links) in same_ends _ k m (a.tree k m (inside k m i) (tree-same (same-sym e) k l t));
      others = λ k l i n. let m : k < links_of p = omega (arith, e.links) in same_ends _ k m (a.others k m (inside k m i) (λ t. n (tree-same e k m t)));
      alone = λ v i h. a.alone v (back v i) (λ u j. h u (to u j));
      core = λ u v i j n. same-core (a.core u v (back u i) (back v j) n);
    }
      where
        inside : (k : ℕ) → k < links_of p → Also (lower_of q k) → In (lower_of p k)
        inside k m i = back (lower_of p k) (subst Also (sym (e.lows k m)) i)
