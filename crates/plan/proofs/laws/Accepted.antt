-- What an accepted plan is: the conditions behind refusals 14 to 18, as facts. `plan_refusal p ≡ 0` holds exactly for these plans (`accepted`,
-- `accepted-back`).
use Prim.Native.Nat.{ℕ, zero, suc, ◌+◌, ◌≤◌, ◌<◌}
use Rattle.std.proofs.Common.{arith}
use Rattle.std.specs.Prelude.{◌≡◌, Bool}
use Rattle.std.proofs.Math.Path.{refl, subst}
use Rattle.std.proofs.Math.Bool.{true}
use borrow.Author.Tests.{ltb-false, leb-false, le-ltb, lt-leb, not-false}
use Rattle.base.proofs.laws.Cond.{by-eq}
use Rattle.base.specs.Limits.{max_modules, max_links, max_reading}
use Rattle.base.proofs.laws.Refuse.{or_else-zero, first_refusal-zero, zero-first_refusal, or-false}
use Rattle.plan.specs.Links.{Plan, modules_of, links_of, lower_of, higher_of, near_of, far_of}
use Rattle.plan.specs.Refusal.{counts_refusal, in_order, link_verdict, link_refusal, links_refusal, plan_refusal}

-- link k is as document 01 says
pub record LinkOk (p : Plan) (k : ℕ) : Type 0 where
  pub ordered : lower_of p k < higher_of p k
  pub inside : higher_of p k < modules_of p
  pub after : in_order p k ≡ true
  pub near_ok : near_of p k ≤ max_reading
  pub far_ok : far_of p k ≤ max_reading

pub record Accepted (p : Plan) : Type 0 where
  pub modules_ok : modules_of p ≤ max_modules
  pub links_ok : links_of p ≤ max_links
  pub each : (k : ℕ) → k < links_of p → LinkOk p k

-- N and L within their limits
pub record Counts (n l : ℕ) : Type 0 where
  pub modules_ok : n ≤ max_modules
  pub links_ok : l ≤ max_links

pub counted : (n l : ℕ) (fits : Bool) → counts_refusal n l fits ≡ 0 → Counts n l × (fits ≡ true)
counted n l fits h =
    let f14 = or_else-zero _ 13 h in
    let f15 = or_else-zero _ 14 f14.1 in
    let b = or-false _ _ f15.0 in
    (record { modules_ok = ltb-false _ _ f14.0; links_ok = ltb-false _ _ b.0 }, not-false _ b.1)

pub counted_back : (n l : ℕ) → Counts n l → counts_refusal n l true ≡ 0
counted_back n l o = rw (le-ltb max_modules n o.modules_ok, le-ltb max_links l o.links_ok)

module _ (p : Plan) where
  pub link-accepted : (k : ℕ) → link_refusal p k ≡ 0 → LinkOk p k
  unfolding link_verdict
  link-accepted k h =
      let f16 = or_else-zero _ 15 h in
      let f17 = or_else-zero _ 16 f16.1 in
      let f18 = or_else-zero _ 17 f17.1 in
      let a = or-false _ _ f16.0 in
      let b = or-false _ _ f18.0 in
      record {
        ordered = leb-false _ _ a.0;
        inside = leb-false _ _ a.1;
        after = not-false _ f17.0;
        near_ok = ltb-false _ _ b.0;
        far_ok = ltb-false _ _ b.1;
      }

  pub accepted-link : (k : ℕ) → LinkOk p k → link_refusal p k ≡ 0
  unfolding link_verdict
  accepted-link k o = rw (
    lt-leb (higher_of p k) (lower_of p k) o.ordered,
    lt-leb (modules_of p) (higher_of p k) o.inside,
    o.after,
    le-ltb max_reading (near_of p k) o.near_ok,
    le-ltb max_reading (far_of p k) o.far_ok,
  )

  pub links-accepted : (n k : ℕ) → links_refusal p n k ≡ 0 → (j : ℕ) → k ≤ j → j < k + n → link_refusal p j ≡ 0
  unfolding links_refusal
  links-accepted zero k h j l m = absurd (omega arith)
  links-accepted (suc n) k h j l m =
      let f = first_refusal-zero (link_refusal p k) h in by-eq k j (λ e. subst (λ i. link_refusal p i ≡ 0) e f.0) (λ d. links-accepted n (suc k) f.1 j (omega arith) (omega arith))

  pub accepted-links : (n k : ℕ) → ((j : ℕ) → k ≤ j → j < k + n → link_refusal p j ≡ 0) → links_refusal p n k ≡ 0
  unfolding links_refusal
  accepted-links zero k h = refl
  accepted-links (suc n) k h = zero-first_refusal (h k (omega arith) (omega arith)) (accepted-links n (suc k) (λ j l m. h j (omega arith) (omega arith)))

  -- AN ACCEPTED PLAN, from the check's answer
  pub accepted : plan_refusal p ≡ 0 → Accepted p
  unfolding plan_refusal
  accepted h =
      let f = first_refusal-zero _ h in
      let o = (counted (modules_of p) (links_of p) true f.0).0 in
      record {
        modules_ok = o.modules_ok;
        links_ok = o.links_ok;
        each = λ k l. link-accepted k (links-accepted (links_of p) 0 f.1 k (omega arith) (omega arith));
      }

  -- AND BACK
  pub accepted-back : Accepted p → plan_refusal p ≡ 0
  unfolding plan_refusal
  accepted-back a =
      zero-first_refusal (counted_back (modules_of p) (links_of p) (record { modules_ok = a.modules_ok; links_ok = a.links_ok }))
      (accepted-links (links_of p) 0 (λ j l m. accepted-link j (a.each j (omega arith))))
