-- A copy waits only for a module that has not heard (`hears-once`): no module hears twice. What a start and a delivery leave are records that one cue leaves
-- (`begun-good`, `delivered-good`).
use Rattle.std.specs.Prelude.{ℕ, suc, ◌*◌, ◌≤◌, ◌<◌, ◌≡◌, refl, ◌≢◌, ◌⊎◌, true, List, length}
use Rattle.std.proofs.Common.{arith, sym, ap, subst, ◌∙◌, inl, inr, length-set, get_or-set_same, get_or-set_other}
use Rattle.base.proofs.laws.Cond.{bool_cases, by-eq}
use Rattle.base.proofs.laws.Search.{strong}
use Rattle.graph.specs.Graph.{Joins, Way, go}
use Rattle.graph.specs.Decide.{Set}
use Rattle.graph.proofs.laws.Ways.{But, flip, joins-lt, ends-two, here, way-append, way-reverse, way-low-high}
use Rattle.plan.specs.Links.{Plan, modules_of, links_of, graph_of}
use Rattle.plan_tree.specs.Tree.{tree_link}
use Rattle.field.specs.Edges.{link_of, from, dest}
use Rattle.cue.specs.declared.Cue.{Cue}
use Rattle.cue.specs.Record.{unheard, record_of, heard_record, begun_cues}
use Rattle.cue.specs.Copies.{waits_on, arrival, delivered}
use Rattle.cue.proofs.laws.Record.{length-begun, begun-sender, begun-other}
use Rattle.cue.proofs.laws.Copies.{WaitsOn, waits-facts, delivered-arrival, delivered-idle}
use Rattle.cue_laws.proofs.Net.{Net}
use Rattle.cue_laws.proofs.Good.{Right, silent, first, got, GoodCues}

module _ (p : Plan) (n : Net p) (cues : List Cue) (good : GoodCues p cues) where
  -- the records that were heard by link k, of modules with at most so many hops
  abbrev NobodyBy : ℕ → ℕ → Type 0
  NobodyBy k hops = (w : ℕ) → w < modules_of p → (record_of cues w).heard ≡ 1 → (record_of cues w).hops ≤ hops → (record_of cues w).link ≢ k

  -- back along the links heard by: a way to the sender that does without k
  pub home : (k v : ℕ) → v < modules_of p → (record_of cues v).heard ≡ 1 → NobodyBy k (record_of cues v).hops
      → Way (graph_of p) (But (Set (tree_link p)) k) v good.sender
  home k v l h others = strong P step (record_of cues v).hops v refl l h others
    where
      P : ℕ → Type 0
      P m = (v : ℕ) → (record_of cues v).hops ≡ m → v < modules_of p → (record_of cues v).heard ≡ 1 → NobodyBy k m
          → Way (graph_of p) (But (Set (tree_link p)) k) v good.sender

      step : (m : ℕ) → ((i : ℕ) → i < m → P i) → P m
      step m before v e l h others = cases (good.right v l)
        where
          cases : Right p cues good.sender good.cue v → Way (graph_of p) (But (Set (tree_link p)) k) v good.sender
          cases (silent q) = absurd (omega (arith, ap (λ c. c.heard) q))
          cases (first s q) = here s
          cases (got j u jo t hu q) =
              let more : (record_of cues v).hops ≡ suc (record_of cues u).hops = omega (arith, ap (λ c. c.hops) q) in
              let kept : k ≢ j = λ x. others v l h (omega arith) (ap (λ c. c.link) q ∙ sym x) in
              go j (flip jo) (t, kept)
              (before (record_of cues u).hops (omega arith) u refl (n.inside j v u (flip jo)) hu (λ w lw hw b. others w lw hw (omega arith)))

  module _ (d : ℕ) (l : d < 2 * links_of p) (waits : waits_on p cues d ≡ true) where
    abbrev near : Cue
    near = record_of cues (from p d)

    abbrev far : Cue
    far = record_of cues (dest p d)

    edge : Joins (graph_of p) (link_of d) (from p d) (dest p d)
    edge = n.leads d l

    facts : WaitsOn p cues d
    facts = waits-facts p cues d waits

    -- had the module heard, nobody had heard by this link, ..
    nobody : far.heard ≡ 1 → (w : ℕ) → w < modules_of p → (record_of cues w).heard ≡ 1 → (record_of cues w).link ≢ link_of d
    nobody hv w lw hw by = cases (good.right w lw)
      where
        ends : (u : ℕ) → ((from p d ≡ u) × (dest p d ≡ w)) ⊎ ((from p d ≡ w) × (dest p d ≡ u)) → ⊥
        ends u (inl x) = facts.under-way (record { heard = hv; link = ap (λ y. (record_of cues y).link) x.1 ∙ by })
        ends u (inr x) = facts.sent.onward (ap (λ y. (record_of cues y).link) x.0 ∙ by)

        cases : Right p cues good.sender good.cue w → ⊥
        cases (silent q) = omega (arith, ap (λ c. c.heard) q)
        cases (first s q) = omega (arith, ap (λ c. c.link) q, joins-lt edge, n.few)
        cases (got j u jo t hu q) = ends u (ends-two edge (subst (λ x. Joins (graph_of p) x u w) (sym (ap (λ c. c.link) q) ∙ by) jo))

    -- .. and the ways home from its two ends would go round it
    not-heard : far.heard ≢ 1
    not-heard hv =
        let by-none : (h : ℕ) → NobodyBy (link_of d) h = λ h w lw hw b. nobody hv w lw hw in
        let a = home (link_of d) (from p d) (n.inside (link_of d) (dest p d) (from p d) (flip edge)) facts.sent.heard (by-none near.hops) in
        let b = home (link_of d) (dest p d) (n.inside (link_of d) (from p d) (dest p d) edge) hv (by-none far.hops) in
        n.spare (link_of d) (joins-lt edge) facts.sent.tree (way-low-high edge (way-append a (way-reverse b)))

    -- EACH HEARS AT MOST ONCE
    pub hears-once : record_of cues (dest p d) ≡ unheard
    hears-once = cases (good.right (dest p d) (n.inside (link_of d) (from p d) (dest p d) edge))
      where
        cases : Right p cues good.sender good.cue (dest p d) → record_of cues (dest p d) ≡ unheard
        cases (silent q) = q
        cases (first s q) = absurd (not-heard (ap (λ c. c.heard) q))
        cases (got j u jo t hu q) = absurd (not-heard (ap (λ c. c.heard) q))

    -- WHAT AN ARRIVAL LEAVES

    abbrev after : List Cue
    after = arrival p cues d

    below : dest p d < modules_of p
    below = n.inside (link_of d) (from p d) (dest p d) edge

    pub arrival-there : record_of after (dest p d) ≡ heard_record near (link_of d)
    arrival-there = get_or-set_same cues (dest p d) (heard_record near (link_of d)) unheard (omega (arith, good.enough, below))

    pub arrival-elsewhere : (v : ℕ) → v ≢ dest p d → record_of after v ≡ record_of cues v
    arrival-elsewhere v e = get_or-set_other cues (dest p d) v (heard_record near (link_of d)) unheard e

    -- who had heard before keeps the record
    pub arrival-kept : (v : ℕ) → (record_of cues v).heard ≡ 1 → record_of after v ≡ record_of cues v
    arrival-kept v h = arrival-elsewhere v (λ e. omega (arith, ap (λ c. c.heard) hears-once, ap (λ x. (record_of cues x).heard) e))

    arrival-right : (v : ℕ) → v < modules_of p → v ≢ dest p d → Right p cues good.sender good.cue v → Right p after good.sender good.cue v
    arrival-right v l e (silent q) = silent (arrival-elsewhere v e ∙ q)
    arrival-right v l e (first s q) = first s (arrival-elsewhere v e ∙ q)
    arrival-right v l e (got j u jo t hu q) =
        let same = arrival-kept u hu in
        got j u jo t (ap (λ c. c.heard) same ∙ hu) (arrival-elsewhere v e ∙ q ∙ ap (λ c. heard_record c j) (sym same))

    arrival-new : (v : ℕ) → v ≡ dest p d → Right p after good.sender good.cue v
    arrival-new v e =
        let same = arrival-kept (from p d) facts.sent.heard in
        got (link_of d) (from p d) (subst (λ x. Joins (graph_of p) (link_of d) (from p d) x) (sym e) edge) facts.sent.tree
        (ap (λ c. c.heard) same ∙ facts.sent.heard)
        (ap (record_of after) e ∙ arrival-there ∙ ap (λ c. heard_record c (link_of d)) (sym same))

    pub arrival-good : GoodCues p after
    arrival-good = record {
      enough = omega (arith, good.enough, length-set cues (dest p d) (heard_record near (link_of d)));
      sender = good.sender;
      cue = good.cue;
      below = good.below;
      started = arrival-kept good.sender (ap (λ c. c.heard) good.started) ∙ good.started;
      right = λ v l. by-eq v (dest p d) (arrival-new v) (λ e. arrival-right v l e (good.right v l));
    }

  -- DELIVERIES KEEP IT
  pub delivered-good : (d : ℕ) → d < 2 * links_of p → GoodCues p (delivered p cues d)
  delivered-good d l = bool_cases (waits_on p cues d)
      (λ w. subst (GoodCues p) (sym (delivered-arrival p cues d w)) (arrival-good d l w))
      (λ w. subst (GoodCues p) (sym (delivered-idle p cues d w)) good)

-- A START GIVES IT
pub begun-good : (p : Plan) (lent : List Cue) (sender cue : ℕ) → modules_of p ≤ length lent → sender < modules_of p → GoodCues p (begun_cues (modules_of p) sender cue lent)
begun-good p lent sender cue enough below = record {
  enough = omega (arith, length-begun (modules_of p) sender cue lent enough);
  sender = sender;
  cue = cue;
  below = below;
  started = begun-sender (modules_of p) sender cue lent enough below;
  right = λ v l. by-eq v sender
      (λ e. first e (ap (record_of (begun_cues (modules_of p) sender cue lent)) e ∙ begun-sender (modules_of p) sender cue lent enough below))
      (λ e. silent (begun-other (modules_of p) sender cue lent v l e));
}
