-- The refusals of a plan value, "by the first number that applies".
use Rattle.std.specs.Prelude.{ℕ, zero, suc, Bool, true, not, ◌&&◌, ◌||◌, eqb, ltb, leb}
use Rattle.base.specs.Refuse.{or_else, first_refusal}
use Rattle.base.specs.Limits.{max_modules, max_links, max_reading}
use Rattle.plan.specs.Links.{Plan, modules_of, links_of, lower_of, higher_of, near_of, far_of}

-- "14 N .. above 192; 15 L above 600 or not fitting the length": of a plan value and of its bytes. (Request 04: "Refusal 14 is now only for N above 192")
abbrev pub counts_refusal : ℕ → ℕ → Bool → ℕ
counts_refusal n l fits = or_else (ltb max_modules n) 14 (or_else (ltb max_links l || not fits) 15 0)

-- "Links ascend strictly by (lower, higher)"
unfoldable pub ascends : ℕ → ℕ → ℕ → ℕ → Bool
ascends lo hi lo' hi' = ltb lo lo' || (eqb lo lo' && ltb hi hi')

-- link k stands after the link before, if there is one
unfoldable pub in_order : Plan → ℕ → Bool
in_order p zero = true
in_order p (suc k) = ascends (lower_of p k) (higher_of p k) (lower_of p (suc k)) (higher_of p (suc k))

-- "16 lower not below higher, or higher not below N; 17 not after the link before; 18 reading above 2000"
unfoldable pub link_verdict : ℕ → ℕ → ℕ → Bool → ℕ → ℕ → ℕ
link_verdict n lo hi inorder near far =
    or_else (leb hi lo || leb n hi) 16
    (or_else (not inorder) 17
    (or_else (ltb max_reading near || ltb max_reading far) 18 0))

abbrev pub link_refusal : Plan → ℕ → ℕ
link_refusal p k = link_verdict (modules_of p) (lower_of p k) (higher_of p k) (in_order p k) (near_of p k) (far_of p k)

-- "for each link": n links from k on
unfoldable pub links_refusal : Plan → ℕ → ℕ → ℕ
links_refusal p zero k = 0
links_refusal p (suc n) k = first_refusal (link_refusal p k) (links_refusal p n (suc k))

-- "14 ..; 15 ..; then for each link ..", and no more: "A plan in several parts is accepted" (request 08). A value has no length that L might not fit.
unfoldable pub plan_refusal : Plan → ℕ
plan_refusal p = first_refusal (counts_refusal (modules_of p) (links_of p) true) (links_refusal p (links_of p) 0)
