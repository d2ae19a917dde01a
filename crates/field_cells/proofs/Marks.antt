-- A written mark is the module's table of marks changed at that link, and marks that are not written are the table as it was (`one-mark`, `mark-put`).
use Prim.Native.Nat.{ℕ, ◌*◌, ◌≤◌, ◌<◌}
use native.Mathlib.Omega.{arith}
use mathlib.Core.Path.{◌≡◌, refl, sym, ap, subst, ◌∙◌}
use mathlib.Core.Logic.{◌≢◌}
use mathlib.Core.Bool.{true, false, cond, ◌&&◌, true≢false}
use mathlib.Core.List.{List}
use Rattle.std.specs.Prelude.{Option, Some, None}
use lib.ListN.{length, get_or, set, length-set}
use lib.Seq.{ext_get_or, get_or-set_same, get_or-set_other}
use lib.Dec.{eqb}
use Rattle.base.specs.Cond.{upd}
use Rattle.base.proofs.laws.Cond.{bool_cases, upd_same, upd_other, by-eq, ltb-cases, eqb-cases}
use Rattle.node_edges.specs.declared.NewMark.{NewMark}
use Rattle.node_edges.specs.Own.{marked}
use Rattle.field.specs.Edges.{is_own, from, link_of, end_of, marks_in}
use Rattle.field.specs.State.{new_mark, put_marks}
use Rattle.plan.proofs.laws.Accepted.{Accepted}
use Rattle.plan.specs.Links.{Plan, links_of}
use Rattle.field.proofs.laws.Edges.{mark-own}
use Rattle.field_laws.proofs.Places.{put_marks-at, length-new, over-from, from-own, link-over, over_below, from-over}
use Rattle.field_cells.specs.Marks.{mark_put}

-- the mark of directed end d, in both cases
new-cases : (p : Plan) (v : ℕ) (m : ℕ → ℕ) (d x r : ℕ)
    → (d < 2 * links_of p → from p d ≡ v → r ≡ m (link_of d)) → ((d < 2 * links_of p → from p d ≡ v → ⊥) → r ≡ x) → r ≡ new_mark p v m d x
new-cases p v m d x r y n = ltb-cases d (2 * links_of p) (λ b. r ≡ cond (b && eqb (from p d) v) (m (link_of d)) x)
    (λ l. eqb-cases (from p d) v (λ b. r ≡ cond b (m (link_of d)) x) (λ e. y l e) (λ f. n (λ k e. f e)))
    (λ g. n (λ l e. omega arith))

module _ (p : Plan) (marks : List ℕ) (v : ℕ) (c : NewMark) where
  put-own : is_own p v c.edge ≡ true → mark_put p marks v (Some c) ≡ set marks (end_of p v c.edge) c.mark
  unfolding mark_put
  put-own o = rw o

  put_other : is_own p v c.edge ≡ false → mark_put p marks v (Some c) ≡ marks
  unfolding mark_put
  put_other o = rw o

module _ (p : Plan) (a : Accepted p) (marks : List ℕ) (v : ℕ) where
  -- by ends
  agree : (m : ℕ → ℕ) (l : List ℕ) → length l ≡ length marks → ((d : ℕ) → d < length marks → get_or l d 0 ≡ new_mark p v m d (get_or marks d 0)) → l ≡ put_marks p marks v m
  agree m l e h = ext_get_or 0 l (put_marks p marks v m) (e ∙ sym (length-new p v m 0 marks)) (λ d b. h d (omega arith) ∙ sym (put_marks-at p v m marks d (omega arith)))

  own_is : (d : ℕ) → d < 2 * links_of p → from p d ≡ v → get_or marks d 0 ≡ marks_in p marks v (link_of d)
  own_is d l e =
      sym (mark-own p v (link_of d) marks (subst (λ u. is_own p u (link_of d) ≡ true) e (from-own p a d l))
      ∙ ap (λ i. get_or marks i 0) (subst (λ u. end_of p u (link_of d) ≡ d) e (over-from p a d l)))

  module _ (sized : 2 * links_of p ≤ length marks) (k : ℕ) (o : is_own p v k ≡ true) (c : ℕ) where
    here : (d : ℕ) → d ≡ end_of p v k → get_or (set marks (end_of p v k) c) d 0 ≡ new_mark p v (upd (marks_in p marks v) k c) d (get_or marks d 0)
    here d e = new-cases p v (upd (marks_in p marks v) k c) d (get_or marks d 0) (get_or (set marks (end_of p v k) c) d 0)
        (λ l f. rw (e, link-over p v k) (get_or-set_same marks (end_of p v k) c 0 (omega (arith, over_below p v k o)) ∙ sym (upd_same (marks_in p marks v) k c)))
        (λ n. absurd (n (rw e (over_below p v k o)) (rw e (from-over p v k o))))

    there : (d : ℕ) → d ≢ end_of p v k → get_or (set marks (end_of p v k) c) d 0 ≡ new_mark p v (upd (marks_in p marks v) k c) d (get_or marks d 0)
    there d n = get_or-set_other marks (end_of p v k) d c 0 n ∙ new-cases p v (upd (marks_in p marks v) k c) d (get_or marks d 0) (get_or marks d 0)
        (λ l f. own_is d l f ∙ sym (upd_other (marks_in p marks v) k c (link_of d)
        (λ q. n (sym (subst (λ u. end_of p u (link_of d) ≡ d) f (over-from p a d l)) ∙ ap (end_of p v) (sym q)))))
        (λ f. refl)

    pub one-mark : set marks (end_of p v k) c ≡ put_marks p marks v (upd (marks_in p marks v) k c)
    one-mark = agree (upd (marks_in p marks v) k c) (set marks (end_of p v k) c) (length-set marks (end_of p v k) c) (λ d b. by-eq d (end_of p v k) (here d) (there d))

  -- marks that are not written
  unwritten : (m : ℕ → ℕ) → ((d : ℕ) → d < 2 * links_of p → from p d ≡ v → marks_in p marks v (link_of d) ≡ m (link_of d)) → marks ≡ put_marks p marks v m
  unwritten m e = agree m marks refl (λ d b. new-cases p v m d (get_or marks d 0) (get_or marks d 0) (λ l f. own_is d l f ∙ e d l f) (λ f. refl))

  -- what the code writes
  pub mark-put : 2 * links_of p ≤ length marks → (c : Option NewMark) → mark_put p marks v c ≡ put_marks p marks v (marked (marks_in p marks v) c)
  unfolding mark_put
  mark-put sized None = unwritten (marks_in p marks v) (λ d l f. refl)
  mark-put sized (Some c) = bool_cases (is_own p v c.edge)
      (λ o. put-own p marks v c o ∙ one-mark sized c.edge o c.mark)
      (λ o. put_other p marks v c o ∙ unwritten (upd (marks_in p marks v) c.edge c.mark) (λ d l f. sym (upd_other (marks_in p marks v) c.edge c.mark (link_of d)
      (λ q. true≢false (sym (subst (λ u. is_own p u (link_of d) ≡ true) f (from-own p a d l)) ∙ ap (is_own p v) (sym q) ∙ o)))))
