-- The schedule as the code writes it: the wakes of the modules below v (`low_off`, `low-next`), all, with the head (`schedule-written`).
use Prim.Native.Nat.{ℕ, suc, ◌+◌, ◌-◌, ◌*◌, ◌≤◌}
use native.Mathlib.Omega.{arith}
use native.Mathlib.Numerals.{add-one}
use mathlib.Core.Path.{◌≡◌, sym, ap, ◌∙◌}
use mathlib.Core.Bool.{true, false, cond}
use mathlib.Core.List.{List, [], ◌∷◌, ◌++◌, append-nil}
use lib.ListN.{length, length-append, set, take, drop}
use lib.Seq.{sets, sets-eq, take-append_seam}
use Rattle.base.proofs.laws.Sets.{sets-append}
use Rattle.format_int16.specs.Int16.{bytes16, put16}
use Rattle.graph.specs.Graph.{Graph}
use Rattle.graph.specs.Parts.{lowest, lowests}
use Rattle.graph.proofs.laws.Parts.{lowests-many, lowests-flat}
use Rattle.plan.specs.Links.{Plan, modules_of, graph_of}
use Rattle.plan.specs.Refusal.{plan_refusal}
use Rattle.plan.proofs.laws.Accepted.{accepted}
use Rattle.field.specs.Step.{WAKE}
use Rattle.host_job.specs.Job.{wake_steps, most_wakes, job_wakes}
use Rattle.host_job.proofs.laws.Wakes.{length-wakes}

-- the wakes among the modules below v
abbrev pub low_wakes : Graph → ℕ → List ℕ
low_wakes g v = wake_steps (lowests g v)

pub low-room : (g : Graph) (v : ℕ) → length (low_wakes g v) ≤ 3 * v
low-room g v = omega (arith, length-wakes (lowests g v), lowests-many g v)

-- a module that is no part's lowest, and one that is
module _ (g : Graph) (v : ℕ) where
  pub low_off : lowest g v ≡ false → low_wakes g v ≡ low_wakes g (v + 1)
  unfolding wake_steps
  low_off e = rw (add-one v) (sym (append-nil (low_wakes g v)) ∙ ap (λ b. low_wakes g v ++ cond b (WAKE ∷ bytes16 v) []) (sym e) ∙ lowests-flat g (λ w. WAKE ∷ bytes16 w) v)

  low_on : lowest g v ≡ true → low_wakes g v ++ (WAKE ∷ bytes16 v) ≡ low_wakes g (v + 1)
  unfolding wake_steps
  low_on e = rw (add-one v) (ap (λ b. low_wakes g v ++ cond b (WAKE ∷ bytes16 v) []) (sym e) ∙ lowests-flat g (λ w. WAKE ∷ bytes16 w) v)

  pub low-next : (s t u : List ℕ) (at : ℕ) → at ≡ 3 + length (low_wakes g v) → t ≡ sets s 3 (low_wakes g v) → lowest g v ≡ true
      → u ≡ sets t at (WAKE ∷ bytes16 v) → (at + 3 ≡ 3 + length (low_wakes g (v + 1))) × (u ≡ sets s 3 (low_wakes g (v + 1)))
  low-next s t u at a b d e =
      let x = WAKE ∷ bytes16 v in
      let n = low_on d in (
        omega (arith, ap length n, length-append (low_wakes g v) x),
        e ∙ rw (b, a) (sets-append s 3 (low_wakes g v) x) ∙ ap (sets s 3) n,
      )

-- the head before the steps
headed : (s steps : List ℕ) → 3 + length steps ≤ length s
    → take (3 + length steps) (put16 (set (sets s 3 steps) 0 1) 1 (length steps)) ≡ 1 ∷ bytes16 (length steps) ++ steps
headed [] steps h = absurd (omega arith)
headed (a ∷ []) steps h = absurd (omega arith)
headed (a ∷ b ∷ []) steps h = absurd (omega arith)
headed (a ∷ b ∷ c ∷ r) steps h =
    let n = length steps in
    let s = a ∷ b ∷ c ∷ r in
    let rest = drop (3 + n) s in
    let e : 3 + n ≡ suc (suc (suc n)) = omega arith in
    ap (λ (t : List ℕ). take (3 + n) (put16 (set t 0 1) 1 n)) (sets-eq steps s 3 h)
    ∙ ap (λ (k : ℕ). take k (1 ∷ bytes16 n ++ steps ++ rest)) e
    ∙ ap (λ (t : List ℕ). 1 ∷ bytes16 n ++ t) (take-append_seam steps rest)

pub low-most : (p : Plan) → plan_refusal p ≡ 0 → 3 + length (low_wakes (graph_of p) (modules_of p)) ≤ most_wakes
low-most p z = omega (arith, low-room (graph_of p) (modules_of p), (accepted p z).modules_ok)

-- all of it: the steps were put into s, behind them is the place `end`
pub schedule-written : (p : Plan) (s t : List ℕ) (end : ℕ) → plan_refusal p ≡ 0 → length s ≡ most_wakes → t ≡ sets s 3 (low_wakes (graph_of p) (modules_of p))
    → end ≡ 3 + length (low_wakes (graph_of p) (modules_of p)) → (take end (put16 (set t 0 1) 1 (end - 3)) ≡ job_wakes p) × (end ≤ most_wakes)
schedule-written p s t end z l b e =
    let steps = low_wakes (graph_of p) (modules_of p) in
    let m = low-most p z in
    let n : end - 3 ≡ length steps = omega arith in
    (rw (n, e, b) (headed s steps (omega (arith, m, l))), omega (arith, m, e))
