-- Levels: the first (`start-level`), up to a node that is known or in another part (`entry-near`, `known-to`), up to a number of hops or to where nobody of the
-- part is left (`nobody-further`, `known-within`).
use Rattle.std.specs.Prelude.{ℕ, zero, suc, ◌≤◌, ◌<◌, ◌≡◌, refl, ◌≢◌, not, ◌&&◌, List, length, get_or, set, replicate, eqb, leb}
use Rattle.std.proofs.Common.{arith, sym, ap, subst, ◌∙◌, ⊎_elim, length-set, get_or-set_same, get_or-set_other, le-leb, eq-eqb, ne_eqb}
use Rattle.std.proofs.lemmas.List.{length-replicate, get_or-replicate}
use Rattle.std.proofs.lemmas.Bool.{lt-leb}
use Rattle.base.proofs.laws.Cond.{by-eq}
use Rattle.base.specs.None.{none}
use Rattle.base.specs.Limits.{max_modules}
use Rattle.graph.specs.Graph.{stop}
use Rattle.graph.specs.Parts.{SamePart, together}
use Rattle.graph.proofs.laws.Parts.{part-together, part?}
use Rattle.plan.specs.Links.{graph_of, Plan, modules_of}
use Rattle.graph.proofs.laws.Parts.{apart-together}
use Rattle.path.proofs.laws.Steps.{PathSteps}
use Rattle.path_search.specs.Spread.{far, hops_to, head_or, link_to, WithinHops, BeyondHops, Entry, known, unknown, Level, KnownTo, KnownWithin}
use Rattle.path_search.proofs.laws.FirstLinks.{here-none, nearer}

-- a node that is known is within the level
pub entry-near : (p : Plan) (v : ℕ) {h w hop link : ℕ} → Entry p v h w hop link → hop ≢ far → WithinHops p v h w
entry-near p v (known d e f) n = d
entry-near p v (unknown d e) n = absurd (n e)

module _ (p : Plan) (v : ℕ) (steps : PathSteps p v) (few : modules_of p ≤ max_modules) where
  -- only v itself is there without a hop
  first-level : v < modules_of p → Level p v 0 (set (replicate max_modules far) v 0) (replicate max_modules none)
  first-level lv = record {
    sized = record { hops_size = length-set (replicate max_modules far) v 0 ∙ length-replicate max_modules far; by_size = length-replicate max_modules none };
    each = λ w l. by-eq w v (λ q. subst (λ x. Entry p v 0 x (get_or hops x 0) (get_or by x 0)) (sym q) own)
        (λ n. unknown (λ s. omega (arith, ap length (steps.next w s n).rest))
        (get_or-set_other (replicate max_modules far) v w 0 0 n ∙ get_or-replicate max_modules w far 0 (omega arith)));
  }
    where
      hops : List ℕ
      hops = set (replicate max_modules far) v 0

      by : List ℕ
      by = replicate max_modules none

      own : Entry p v 0 v (get_or hops v 0) (get_or by v 0)
      own =
          let size = length-replicate max_modules far in
          known (record { part = stop; near = omega (arith, here-none p v steps) })
          (get_or-set_same (replicate max_modules far) v 0 0 (omega arith) ∙ sym (here-none p v steps))
          (get_or-replicate max_modules v none 0 (omega arith) ∙ sym (ap (head_or none) (steps.here)))

  pub start-level : v < modules_of p → (hops by : List ℕ) → hops ≡ set (replicate max_modules far) v 0 → by ≡ replicate max_modules none → Level p v 0 hops by
  start-level lv hops by e f = rw (e, f) (first-level lv)

  -- the level is the one asked for, or nobody of the part is further than that
  pub known-within : (h most : ℕ) (hops by : List ℕ) → Level p v h hops by → ((w : ℕ) → w < modules_of p → WithinHops p v h w → hops_to p v w ≤ most)
      → ((w : ℕ) → w < modules_of p → BeyondHops p v h w → BeyondHops p v most w) → KnownWithin p v most hops
  known-within h most hops by level inside outside = record { size = (level.sized).hops_size; each = λ w l. go w l (level.each w l) }
    where
      go : (w : ℕ) → w < modules_of p → {hop link : ℕ} → Entry p v h w hop link → not (eqb hop far) ≡ (together (graph_of p) w v && leb (hops_to p v w) most)
      go w l {hop} (known d e f) = rw (
        ne_eqb hop far (λ q. omega (arith, steps.short w l d.part)),
        part-together (graph_of p) w v d.part,
        le-leb (hops_to p v w) most (inside w l d),
      )
      go w l {hop} (unknown d e) = rw (eq-eqb hop far e) (⊎_elim
          (λ s. rw (part-together (graph_of p) w v s, lt-leb (hops_to p v w) most (outside w l d s)))
          (λ n. rw (apart-together (graph_of p) w v n))
          (part? (graph_of p) w v))

-- u is within the level or in another part, and with it the link to go first of all that are no further
pub known-to : (p : Plan) (v u h : ℕ) (hops by : List ℕ) → u < modules_of p → Level p v h hops by → (SamePart (graph_of p) u v → hops_to p v u ≤ h) → KnownTo p v u hops by
known-to p v u h hops by lu level near = record {
  own = λ s. here s (level.each u lu);
  links = λ s. record { size = (level.sized).by_size; each = λ w l part d. link w (omega (arith, d, near s)) part (level.each w l) };
  apart = λ n. away n (level.each u lu);
}
  where
    here : SamePart (graph_of p) u v → {hop link : ℕ} → Entry p v h u hop link → hop ≡ hops_to p v u
    here s (known k e f) = e
    here s (unknown k e) = absurd (omega (arith, near s, k s))

    away : ¬ SamePart (graph_of p) u v → {hop link : ℕ} → Entry p v h u hop link → hop ≡ far
    away n (known k e f) = absurd (n k.part)
    away n (unknown k e) = e

    link : (w : ℕ) → hops_to p v w ≤ h → SamePart (graph_of p) w v → {hop link : ℕ} → Entry p v h w hop link → link ≡ link_to p v w
    link w d s (known k e f) = f
    link w d s (unknown k e) = absurd (omega (arith, k s))

-- nobody of the part at one level: nobody further
pub nobody-further : (p : Plan) (v : ℕ) → PathSteps p v → (h : ℕ) → ((w : ℕ) → w < modules_of p → SamePart (graph_of p) w v → hops_to p v w ≢ suc h)
    → (w : ℕ) → w < modules_of p → SamePart (graph_of p) w v → hops_to p v w ≤ h
nobody-further p v steps h nobody w l s = go (hops_to p v w) w l s refl
  where
    go : (n w : ℕ) → w < modules_of p → SamePart (graph_of p) w v → hops_to p v w ≡ n → n ≤ h
    go zero w l s e = omega arith
    go (suc n) w l s e =
        let m = nearer p v steps w n s e in
        let i = go n m.0.to m.0.inside m.0.part m.1 in
        by-eq n h (λ q. absurd (nobody w l s (e ∙ ap suc q))) (λ q. omega arith)
