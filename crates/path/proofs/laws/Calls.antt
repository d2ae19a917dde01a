-- What a caller may count on. From the claims alone: from the other end the same links turned back (`either_way`), no link shown twice (`links-once`), no more
-- than the lent buffer has room for (`links-fit`); a byte of the marks goes by the way and the length that the other call answers, whatever h (`near_call`),
-- and no other bytes are right (`near_same`). From the outcomes: modules of a plan that was checked are answered where there is room, N − 1 numbers or N bytes
-- (`path-answers`, `near-answers`), modules of different parts in any buffer (`between-parts`), and beside a refusal there is no path, no worst link, and
-- nothing is written (`path-unwritten`, `near-unwritten`).
use Rattle.std.specs.Prelude.{ℕ, suc, ◌-◌, ◌≤◌, ◌<◌, ◌≡◌, ◌≢◌, ◌&&◌, List, reverse, length, get_or, drop, eqb, leb}
use Rattle.std.proofs.Common.{arith, sym, ap, subst, ◌∙◌, ⊎_elim, length-take, get_or-drop, ext_get_or, leb-true, leb-false}
use Rattle.std.proofs.lemmas.List.{reverse-reverse}
use Rattle.base.specs.Cond.{bit}
use Rattle.base.specs.None.{none}
use Rattle.base.specs.Twice.{NoTwice}
use Rattle.base.proofs.laws.Cond.{bool_cases}
use Rattle.graph.specs.Parts.{SamePart}
use Rattle.graph.proofs.laws.Parts.{part?}
use Rattle.plan.specs.Links.{graph_of, Plan, modules_of}
use Rattle.plan.specs.Refusal.{plan_refusal}
use Rattle.plan.proofs.laws.Accepted.{accepted}
use Rattle.path.specs.Between.{PathShown, path_between}
use Rattle.path.specs.Near.{mark_near}
use Rattle.path.specs.Claims.{shown_links, PathHolds, PathClaim, TurnedClaim, NearHolds, NearClaim}
use Rattle.path.proofs.laws.Outcomes.{path-zero, path-refused, path-no-way, taken-zero, near-refused, near-taken}
use Rattle.path.proofs.laws.Steps.{path-short}
use Rattle.path.proofs.laws.Uses.{near-by-path, near_apart}

-- THE PATH

module _ {p : Plan} {u v : ℕ} {lent : List ℕ} {r : PathShown} (h : PathHolds p u v lent r) where
  pub links-once : NoTwice (shown_links r)
  links-once = subst NoTwice (sym h.shows) h.once

  pub links-fit : r.answer.length ≤ length lent
  links-fit = omega (arith, length-take r.answer.length r.buffer, ap length h.shows, h.many, h.size)

-- whatever the two buffers, if the other one has room, or no way from either end
pub either_way : TurnedClaim → (p : Plan) (u v : ℕ) (out back : List ℕ) → (path_between p u v out).answer.refusal ≡ 0
    → (path_between p u v out).answer.length ≤ length back
    → ((path_between p v u back).answer.refusal ≡ 0) × ((path_between p u v out).answer.way ≡ (path_between p v u back).answer.way)
    × (shown_links (path_between p u v out) ≡ reverse (shown_links (path_between p v u back)))
    × ((path_between p u v out).answer.worst ≡ (path_between p v u back).answer.worst)
either_way claim p u v out back e l =
    let t = claim p u v out back e l in
    (t.taken, sym t.found, sym (reverse-reverse (shown_links (path_between p u v out))) ∙ ap reverse (sym t.links), sym t.worst)

-- THE MARKS

-- lists that are the same behind n places have the same numbers there
past : (n : ℕ) (a b : List ℕ) → drop n a ≡ drop n b → (i : ℕ) → n ≤ i → get_or a i 0 ≡ get_or b i 0
past n a b e i l =
    subst (λ j. get_or a j 0 ≡ get_or b j 0) (omega (arith, l)) (sym (get_or-drop n a (i - n) 0) ∙ ap (λ c. get_or c (i - n) 0) e ∙ get_or-drop n b (i - n) 0)

-- the bytes are settled by the plan, the module, h and the lent buffer
pub near_same : {p : Plan} {m h : ℕ} {lent a b : List ℕ} → NearHolds p m h lent a → NearHolds p m h lent b → a ≡ b
near_same {p} {m} {h} {lent} {a} {b} x y = ext_get_or 0 a b (x.size ∙ sym y.size) (λ i l. bool_cases (leb n i)
    (λ t. past n a b (x.rest ∙ sym y.rest) i (leb-true n i t))
    (λ t. let below = leb-false n i t in
    ⊎_elim
    (λ s. let q = x.paths i below s in x.marks i below q ∙ sym (y.marks i below q))
    (λ d. x.apart i below d ∙ sym (y.apart i below d))
    (part? (graph_of p) m i)))
  where
    n : ℕ
    n = modules_of p

pub near_call : PathClaim → NearClaim → (p : Plan) (m v h : ℕ) (out lent : List ℕ) → v < modules_of p → (path_between p m v out).answer.refusal ≡ 0
    → (mark_near p m h lent).refusal ≡ 0
    → get_or (mark_near p m h lent).state v 0 ≡ bit (eqb (path_between p m v out).answer.way 1 && leb (path_between p m v out).answer.length h)
near_call path near p m v h out lent l e f = ⊎_elim
    (λ a. near-by-path marks v l a ∙ by_way a.found)
    (λ a. near_apart marks v l a ∙ by_way a.found)
    (path p m v out e)
  where
    marks : NearHolds p m h lent (mark_near p m h lent).state
    marks = near p m h lent f

    by_way : {way : ℕ} → (path_between p m v out).answer.way ≡ way → bit (eqb way 1 && leb (path_between p m v out).answer.length h)
        ≡ bit (eqb (path_between p m v out).answer.way 1 && leb (path_between p m v out).answer.length h)
    by_way q = ap (λ way. bit (eqb way 1 && leb (path_between p m v out).answer.length h)) (sym q)

-- ANSWERED OR REFUSED

module _ (p : Plan) (z : plan_refusal p ≡ 0) where
  pub path-answers : (u v : ℕ) (lent : List ℕ) → u < modules_of p → v < modules_of p → modules_of p ≤ suc (length lent)
      → (path_between p u v lent).answer.refusal ≡ 0
  path-answers u v lent lu lv l =
      taken-zero p u v lent (record { checked = z; from_ok = lu; to_ok = lv; fits = λ s. omega (arith, l, path-short p (accepted p z) lu s) })

  -- "A path between parts is answered "no way"." (request 08), in any buffer
  pub between-parts : (u v : ℕ) (lent : List ℕ) → u < modules_of p → v < modules_of p → ¬ SamePart (graph_of p) u v
      → ((path_between p u v lent).answer.refusal ≡ 0) × ((path_between p u v lent).answer.way ≡ 0) × ((path_between p u v lent).buffer ≡ lent)
  between-parts u v lent lu lv n =
      let e = path-no-way p u v lent z lu lv n in
      (sym (ap (λ r. r.answer.refusal) e), sym (ap (λ r. r.answer.way) e), sym (ap (λ r. r.buffer) e))

  pub near-answers : (m h : ℕ) (lent : List ℕ) → m < modules_of p → modules_of p ≤ length lent → (mark_near p m h lent).refusal ≡ 0
  near-answers m h lent lm l = sym (ap (λ r. r.refusal) (near-taken p m h lent z lm l))

pub path-unwritten : (p : Plan) (u v : ℕ) (lent : List ℕ) → (path_between p u v lent).answer.refusal ≢ 0
    → ((path_between p u v lent).buffer ≡ lent) × ((path_between p u v lent).answer.way ≡ 0) × ((path_between p u v lent).answer.length ≡ 0)
    × ((path_between p u v lent).answer.worst ≡ none)
path-unwritten p u v lent n =
    let e = path-refused p u v lent (λ z. n (taken-zero p u v lent (path-zero p u v (length lent) z))) in
    (sym (ap (λ r. r.buffer) e), sym (ap (λ r. r.answer.way) e), sym (ap (λ r. r.answer.length) e), sym (ap (λ r. r.answer.worst) e))

pub near-unwritten : (p : Plan) (m h : ℕ) (lent : List ℕ) → (mark_near p m h lent).refusal ≢ 0 → (mark_near p m h lent).state ≡ lent
unfolding mark_near
near-unwritten p m h lent n = sym (ap (λ r. r.state) (near-refused p m h lent n))
