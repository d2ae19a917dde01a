-- Hops of good records are below N (`good-hops`).
use Rattle.std.specs.Prelude.{ℕ, zero, suc, ◌≤◌, ◌<◌, ◌≡◌, refl, List, leb}
use Rattle.std.proofs.Common.{arith, ap, leb-true, le-leb}
use Rattle.std.proofs.lemmas.Bool.{lt-leb}
use Rattle.base.specs.Cond.{bit}
use Rattle.base.specs.Sum.{sum}
use Rattle.base.proofs.laws.Cond.{bit_le, bit-mono}
use Rattle.base.proofs.laws.Sum.{sum-le, sum_lt, sum-const, le-sum}
use Rattle.graph.proofs.laws.Ways.{flip}
use Rattle.plan.specs.Links.{Plan, modules_of}
use Rattle.cue.specs.declared.Cue.{Cue}
use Rattle.cue.specs.Record.{record_of}
use Rattle.cue_laws.proofs.Net.{Net}
use Rattle.cue_laws.proofs.Good.{Right, silent, first, got, GoodCues}

module _ (p : Plan) (n : Net p) (cues : List Cue) where
  -- module w has at most h hops
  abbrev within : ℕ → ℕ → ℕ
  within h w = bit (leb (record_of cues w).hops h)

  -- where a module has h hops, more than h modules have at most so many: each hop back leads to one of less
  chain : GoodCues p cues → (h v : ℕ) → v < modules_of p → (record_of cues v).hops ≡ h → suc h ≤ sum (modules_of p) (within h)
  chain good zero v l e = omega (arith, le-sum (modules_of p) v (within 0) l, ap bit (le-leb (record_of cues v).hops 0 (omega arith)))
  chain good (suc h) v l e = cases (λ u. chain good h u) (good.right v l)
    where
      fewer : sum (modules_of p) (within h) < sum (modules_of p) (within (suc h))
      fewer = sum_lt (modules_of p) v (within h) (within (suc h)) l
          (λ w lw. let x = (record_of cues w).hops in bit-mono (leb x h) (leb x (suc h)) (λ t. le-leb x (suc h) (omega (arith, leb-true x h t))))
          (rw (lt-leb (record_of cues v).hops h (omega arith), le-leb (record_of cues v).hops (suc h) (omega arith)) (omega arith))

      cases : ((u : ℕ) → u < modules_of p → (record_of cues u).hops ≡ h → suc h ≤ sum (modules_of p) (within h))
          → Right p cues good.sender good.cue v → suc (suc h) ≤ sum (modules_of p) (within (suc h))
      cases before (silent q) = absurd (omega (arith, ap (λ c. c.hops) q))
      cases before (first s q) = absurd (omega (arith, ap (λ c. c.hops) q))
      cases before (got k u j t hu q) = omega (arith, fewer, before u (n.inside k v u (flip j)) (omega (arith, ap (λ c. c.hops) q)))

  pub good-hops : GoodCues p cues → (v : ℕ) → v < modules_of p → (record_of cues v).hops < modules_of p
  good-hops good v l =
      let h = (record_of cues v).hops in
      omega (arith, chain good h v l refl, sum-le (modules_of p) (within h) (λ w. 1) (λ w lw. bit_le (leb (record_of cues w).hops h)), sum-const (modules_of p) 1)
