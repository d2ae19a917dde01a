-- What a start and deliveries leave is good (`left-good`), and good records are left so (`good_left`): module by module by rising hops, each by one
-- delivery over the link that its record names.
use Rattle.std.specs.Prelude.{ℕ, zero, suc, ◌≤◌, ◌<◌, ◌≡◌, refl, ◌≢◌, Bool, true, false, List, length, eqb}
use Rattle.std.proofs.Common.{arith, ap, subst, ◌∙◌, length-set, get_or-set_same, get_or-set_other}
use Rattle.std.proofs.Math.Path.{sym}
use Rattle.std.proofs.Math.Bool.{cond}
use Rattle.std.proofs.Math.Dec.{ltb}
use borrow.Author.Tests.{eq-eqb, ne_eqb, lt-ltb, le-ltb}
use Rattle.base.proofs.laws.Cond.{by-eq, eqb-cases, ltb-cases}
use Rattle.graph.specs.Graph.{Joins}
use Rattle.plan.specs.Links.{Plan, modules_of, graph_of}
use Rattle.plan_tree.specs.Tree.{tree_link}
use Rattle.field.specs.Edges.{link_of, from, dest}
use Rattle.cue.specs.declared.Cue.{Cue}
use Rattle.cue.specs.Record.{unheard, record_of, heard_record, begun_cues}
use Rattle.cue.specs.Copies.{waits_on, arrival}
use Rattle.cue.proofs.laws.Record.{length-begun, begun-sender, begun-other, begun-past}
use Rattle.cue.proofs.laws.Copies.{facts-wait, delivered-arrival}
use Rattle.cue_laws.proofs.Net.{Names, Net}
use Rattle.cue_laws.proofs.Good.{Right, silent, first, got, GoodCues, Left, begins, goes}
use Rattle.cue_laws.proofs.Once.{begun-good, delivered-good}
use Rattle.cue_laws.proofs.Told.{not-told-back}
use Rattle.cue_laws.proofs.HopsBelow.{good-hops}
use Rattle.cue_laws.proofs.Restrict.{restrict, length-restrict, restrict-in, restrict-out, restrict-past, restrict-blank, restrict-like, restrict-is}

pub left-good : (p : Plan) → Net p → (lent : List Cue) → modules_of p ≤ length lent → {cues : List Cue} → Left p lent cues → GoodCues p cues
left-good p n lent enough (begins sender cue below) = begun-good p lent sender cue enough below
left-good p n lent enough (goes cues d l left) = delivered-good p n cues (left-good p n lent enough left) d l

module _ (p : Plan) (n : Net p) (cues : List Cue) (good : GoodCues p cues) where
  abbrev hops : ℕ → ℕ
  hops v = (record_of cues v).hops

  -- THE MODULES UP TO h HOPS, and those below m of h + 1

  early : ℕ → ℕ → ℕ → Bool
  early h m v = cond (eqb (hops v) (suc h)) (ltb v m) (ltb (hops v) (suc h))

  module _ (h m v : ℕ) where
    early-low : hops v ≤ h → early h m v ≡ true
    unfolding early
    early-low l = rw (ne_eqb (hops v) (suc h) (λ e. omega arith), lt-ltb (hops v) (suc h) (omega arith))

    early-high : suc h < hops v → early h m v ≡ false
    unfolding early
    early-high l = rw (ne_eqb (hops v) (suc h) (λ e. omega arith), le-ltb (hops v) (suc h) (omega arith))

    early-at : hops v ≡ suc h → early h m v ≡ ltb v m
    unfolding early
    early-at e = rw (eq-eqb (hops v) (suc h) e)

  abbrev part : ℕ → ℕ → List Cue
  part h m = restrict (modules_of p) (early h m) cues

  same_parts : (h m i j : ℕ) → ((v : ℕ) → v < modules_of p → early h m v ≡ early i j v) → part h m ≡ part i j
  same_parts h m i j e = restrict-is (modules_of p) (early i j) cues (part h m) (length-restrict (modules_of p) (early h m) cues)
      (λ v l. restrict-like (modules_of p) (early h m) (early i j) cues v (e v l))
      (restrict-past (modules_of p) (early h m) cues)

  -- but for module m, where it has h + 1 hops, nothing changes from m to m + 1
  one_more : (h m v : ℕ) → (hops v ≡ suc h → v ≢ m) → early h m v ≡ early h (suc m) v
  unfolding early
  one_more h m v f = eqb-cases (hops v) (suc h) (λ b. cond b (ltb v m) (ltb (hops v) (suc h)) ≡ cond b (ltb v (suc m)) (ltb (hops v) (suc h)))
      (λ e. ltb-cases v m (λ b. b ≡ ltb v (suc m)) (λ l. sym (lt-ltb v (suc m) (omega arith))) (λ l. sym (le-ltb v (suc m) (omega (arith, f e)))))
      (λ e. refl)

  -- ONE MODULE MORE, by one delivery
  module _ (h m k u : ℕ) (l : m < modules_of p) (level : hops m ≡ suc h) (j : Joins (graph_of p) k u m) (t : tree_link p k ≡ true)
      (hu : (record_of cues u).heard ≡ 1) (q : record_of cues m ≡ heard_record (record_of cues u) k) where
    abbrev old : List Cue
    old = part h m

    name : Names p k u m
    name = n.names k u m j

    abbrev d : ℕ
    d = name.number

    teller : record_of old (from p d) ≡ record_of cues u
    teller = ap (record_of old) name.near ∙ restrict-in (modules_of p) (early h m) cues u (early-low h m u (omega (arith, ap (λ c. c.hops) q)))

    blank : record_of old (dest p d) ≡ unheard
    blank = ap (record_of old) name.far ∙ restrict-out (modules_of p) (early h m) cues m l (early-at h m m level ∙ le-ltb m m (omega arith))

    waits : waits_on p old d ≡ true
    waits = facts-wait p old d (record {
      sent = record {
        tree = ap (tree_link p) name.over ∙ t;
        heard = ap (λ c. c.heard) teller ∙ hu;
        onward = λ e. not-told-back p n cues good k u m j hu (omega (arith, ap (λ c. c.hops) q)) (ap (λ c. c.link) (sym teller) ∙ e ∙ name.over);
      };
      under-way = λ a. omega (arith, a.heard, ap (λ c. c.heard) blank);
    })

    heard : heard_record (record_of old (from p d)) (link_of d) ≡ record_of cues m
    heard = ap (λ c. heard_record c (link_of d)) teller ∙ ap (heard_record (record_of cues u)) name.over ∙ sym q

    elsewhere : (v : ℕ) → v ≢ m → record_of (arrival p old d) v ≡ record_of old v
    elsewhere v e = get_or-set_other old (dest p d) v (heard_record (record_of old (from p d)) (link_of d)) unheard (λ x. e (x ∙ name.far))

    new : arrival p old d ≡ part h (suc m)
    new = restrict-is (modules_of p) (early h (suc m)) cues (arrival p old d)
        (length-set old (dest p d) (heard_record (record_of old (from p d)) (link_of d)) ∙ length-restrict (modules_of p) (early h m) cues)
        (λ v lv. by-eq v m
        (λ e. ap (record_of (arrival p old d)) (e ∙ sym name.far)
        ∙ get_or-set_same old (dest p d) (heard_record (record_of old (from p d)) (link_of d)) unheard (omega (arith, name.far, good.enough, length-restrict (modules_of p) (early h m) cues))
        ∙ heard ∙ ap (record_of cues) (sym e)
        ∙ sym (restrict-in (modules_of p) (early h (suc m)) cues v (ap (early h (suc m)) e ∙ early-at h (suc m) m level ∙ lt-ltb m (suc m) (omega arith))))
        (λ e. elsewhere v e ∙ restrict-like (modules_of p) (early h m) (early h (suc m)) cues v (one_more h m v (λ x. e))))
        (λ v lv. elsewhere v (λ e. omega arith) ∙ restrict-past (modules_of p) (early h m) cues v lv)

    turn_on : Left p cues old → Left p cues (part h (suc m))
    turn_on left = subst (Left p cues) (delivered-arrival p old d waits ∙ new) (goes old d name.below left)

  turn : (h m : ℕ) → m < modules_of p → Left p cues (part h m) → Left p cues (part h (suc m))
  turn h m l left = by-eq (hops m) (suc h)
      (λ level. cases level (good.right m l))
      (λ e. subst (Left p cues) (same_parts h m h (suc m) (λ v lv. one_more h m v (λ x y. e (ap hops (sym y) ∙ x)))) left)
    where
      cases : hops m ≡ suc h → Right p cues good.sender good.cue m → Left p cues (part h (suc m))
      cases level (silent q) = absurd (omega (arith, ap (λ c. c.hops) q))
      cases level (first s q) = absurd (omega (arith, ap (λ c. c.hops) q))
      cases level (got k u j t hu q) = turn_on h m k u l level j t hu q left

  -- ALL MODULES

  first_part : begun_cues (modules_of p) good.sender good.cue cues ≡ part 0 0
  first_part = restrict-is (modules_of p) (early 0 0) cues start (length-begun (modules_of p) good.sender good.cue cues good.enough)
      (λ v l. entry v l (good.right v l))
      (begun-past (modules_of p) good.sender good.cue cues good.below)
    where
      start : List Cue
      start = begun_cues (modules_of p) good.sender good.cue cues

      entry : (v : ℕ) → v < modules_of p → Right p cues good.sender good.cue v → record_of start v ≡ record_of (part 0 0) v
      entry v l (silent q) =
          begun-other (modules_of p) good.sender good.cue cues v l (λ e. omega (arith, ap (λ c. c.heard) q, ap (λ w. (record_of cues w).heard) e, ap (λ c. c.heard) good.started))
          ∙ sym (restrict-blank (modules_of p) (early 0 0) cues v q)
      entry v l (first s q) =
          ap (record_of start) s ∙ begun-sender (modules_of p) good.sender good.cue cues good.enough good.below
          ∙ sym (restrict-in (modules_of p) (early 0 0) cues v (early-low 0 0 v (omega (arith, ap (λ c. c.hops) q))) ∙ q)
      entry v l (got k u j t hu q) =
          begun-other (modules_of p) good.sender good.cue cues v l (λ e. omega (arith, ap (λ c. c.hops) q, ap hops e, ap (λ c. c.hops) good.started))
          ∙ sym (restrict-out (modules_of p) (early 0 0) cues v l (by-eq (hops v) 1
          (λ e. early-at 0 0 v e ∙ le-ltb v 0 (omega arith))
          (λ e. early-high 0 0 v (omega (arith, ap (λ c. c.hops) q)))))

  -- all of h + 1 hops: the next level begins
  next_level : (h : ℕ) → part h (modules_of p) ≡ part (suc h) 0
  next_level h = same_parts h (modules_of p) (suc h) 0 (λ v l. by-eq (hops v) (suc h)
      (λ e. early-at h (modules_of p) v e ∙ lt-ltb v (modules_of p) l ∙ sym (early-low (suc h) 0 v (omega arith)))
      (λ e. ltb-cases (hops v) (suc h) (λ b. early h (modules_of p) v ≡ early (suc h) 0 v)
      (λ b. early-low h (modules_of p) v (omega arith) ∙ sym (early-low (suc h) 0 v (omega arith)))
      (λ b. early-high h (modules_of p) v (omega (arith, e)) ∙ sym (by-eq (hops v) (suc (suc h))
      (λ x. early-at (suc h) 0 v x ∙ le-ltb v 0 (omega arith))
      (λ x. early-high (suc h) 0 v (omega (arith, e, x)))))))

  row : (h m : ℕ) → m ≤ modules_of p → Left p cues (part h 0) → Left p cues (part h m)
  row h zero l left = left
  row h (suc m) l left = turn h m l (row h m (omega arith) left)

  levels : (h : ℕ) → Left p cues (part h 0)
  levels zero = subst (Left p cues) first_part (begins good.sender good.cue good.below)
  levels (suc h) = subst (Left p cues) (next_level h) (row h (modules_of p) (omega arith) (levels h))

  pub good_left : Left p cues cues
  good_left = subst (Left p cues) (sym whole) (levels (modules_of p))
    where
      whole : cues ≡ part (modules_of p) 0
      whole = restrict-is (modules_of p) (early (modules_of p) 0) cues cues refl
          (λ v l. sym (restrict-in (modules_of p) (early (modules_of p) 0) cues v (early-low (modules_of p) 0 v (omega (arith, good-hops p n cues good v l)))))
          (λ v l. refl)
