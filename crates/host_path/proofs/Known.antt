-- Bytes written from the front on (`front-none`, `front-next`), and what they are for the search's hops: the marks (`known-marks`). What the hops of a path's
-- first node tell (`far_apart`, `known-part`).
use Prim.Native.Nat.{ℕ, suc, ◌+◌, ◌-◌, ◌<◌, min}
use native.Mathlib.Omega.{arith}
use native.Mathlib.Numerals.{add-one}
use mathlib.Core.Path.{◌≡◌, refl, sym, ap, ◌∙◌}
use mathlib.Core.Logic.{◌≢◌, ⊎_elim}
use mathlib.Core.Bool.{Bool, true, false, not, ◌&&◌}
use mir.Val.{bool_byte}
use mathlib.Core.List.{List, ◌++◌}
use lib.ListN.{length, get_or, drop, set, length-reverse}
use lib.Dec.{eqb, leb}
use borrow.Author.Tests.{le-leb, lt-leb, leb-true, leb-false}
use Rattle.base.specs.Cond.{bit}
use Rattle.base.proofs.laws.Cond.{bool_cases}
use Rattle.base.specs.Table.{tabulate}
use Rattle.base.proofs.laws.Sets.{front-set}
use Rattle.base.proofs.laws.Table.{length-tabulate, tabulate-next, tabulate-ext}
use Rattle.graph.specs.Parts.{SamePart, together}
use Rattle.graph.proofs.laws.Parts.{part?}
use Rattle.plan.specs.Links.{graph_of, Plan, modules_of}
use Rattle.plan.proofs.laws.Accepted.{Accepted}
use Rattle.path.specs.Between.{tree_path}
use Rattle.path.specs.Near.{within_branches, near_bytes}
use Rattle.graph.proofs.laws.Parts.{apart-together, together-turned}
use Rattle.path.proofs.laws.Steps.{tree-path-turned, path-short}
use Rattle.path_search.specs.Spread.{far, hops_to, KnownTo, KnownWithin}

-- THE FRONT OF A BUFFER by a rule
module _ (f : ℕ → ℕ) (out₀ : List ℕ) where
  pub front-none : out₀ ≡ tabulate 0 f ++ drop 0 out₀
  unfolding tabulate
  front-none = refl

  pub front-next : (out : List ℕ) (w x : ℕ) → w < length out₀ → x ≡ f w → out ≡ tabulate w f ++ drop w out₀
      → set out w x ≡ tabulate (w + 1) f ++ drop (w + 1) out₀
  front-next out w x l e q = rw (add-one w, q, e)
      (front-set (tabulate w f) out₀ w (f w) 0 (length-tabulate w f) l ∙ ap (λ r. r ++ drop (suc w) out₀) (sym (tabulate-next w f)))

-- whether a node's hops are known
abbrev pub known_at : List ℕ → ℕ → ℕ
known_at hops w = bit (not (eqb (get_or hops w 0) far))

-- a `bool` as a byte
pub byte-bit : (b : Bool) → bool_byte b ≡ bit b
byte-bit true = refl
byte-bit false = refl

-- THE FIRST NODE of a path is known if it is in the goal's part
module _ (p : Plan) (ok : Accepted p) (v u : ℕ) (hops by : List ℕ) (k : KnownTo p v u hops by) where
  pub far_apart : u < modules_of p → get_or hops u 0 ≡ far → ¬ SamePart (graph_of p) u v
  far_apart l e s = omega (arith, k.own s, path-short p ok l s, ok.modules_ok)

  pub known-part : get_or hops u 0 ≢ far → SamePart (graph_of p) u v
  known-part n = ⊎_elim (λ s. s) (λ d. absurd (n (k.apart d))) (part? (graph_of p) u v)

-- THE MARKS
module _ (p : Plan) (ok : Accepted p) (m h : ℕ) (hops : List ℕ) (k : KnownWithin p m (min h (modules_of p - 1)) hops) where
  -- the search goes by the path to m, the marks by the path from it: they have the same length, and none is longer than N − 1
  same_test : (w : ℕ) → w < modules_of p → SamePart (graph_of p) w m → leb (hops_to p m w) (min h (modules_of p - 1)) ≡ leb (length (tree_path p m w)) h
  same_test w lw s =
      let e : length (tree_path p m w) ≡ hops_to p m w = ap length (tree-path-turned p s) ∙ length-reverse (tree_path p w m) in
      let short = path-short p ok lw s in
      bool_cases (leb (hops_to p m w) (min h (modules_of p - 1)))
      (λ t. let q = leb-true (hops_to p m w) (min h (modules_of p - 1)) t in t ∙ sym (le-leb (length (tree_path p m w)) h (omega (arith, e, short, q))))
      (λ f. let q = leb-false (hops_to p m w) (min h (modules_of p - 1)) f in f ∙ sym (lt-leb (length (tree_path p m w)) h (omega (arith, e, short, q))))

  test : (w : ℕ) → w < modules_of p → (together (graph_of p) w m && leb (hops_to p m w) (min h (modules_of p - 1))) ≡ within_branches p m h w
  test w lw = rw (together-turned (graph_of p) m w) (⊎_elim
      (λ s. rw (same_test w lw s))
      (λ n. rw (apart-together (graph_of p) w m n))
      (part? (graph_of p) w m))

  each : (w : ℕ) → w < modules_of p → known_at hops w ≡ bit (within_branches p m h w)
  each w lw = ap bit (k.each w lw ∙ test w lw)

  pub known-marks : tabulate (modules_of p) (known_at hops) ≡ near_bytes p m h
  unfolding near_bytes
  known-marks = tabulate-ext (modules_of p) (known_at hops) (λ w. bit (within_branches p m h w)) each
