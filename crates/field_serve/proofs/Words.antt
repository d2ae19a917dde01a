-- The words while a response is carried out: one leaves (`one_out`), what is sent goes to the end (`room-place`, `put_holds`), the served one may go behind
-- it (`room_back`).
use Prim.Native.Nat.{ℕ, suc, ◌+◌, ◌-◌, ◌≤◌, ◌<◌}
use native.Mathlib.Omega.{arith}
use mathlib.Core.Path.{◌≡◌, refl, ap}
use mathlib.Core.Logic.{◌≢◌, ◌⊎◌, inl, inr}
use mathlib.Core.List.{List, ◌++◌}
use lib.ListN.{length, take, length-append}
use lib.Seq.{length-take-le}
use Rattle.base.proofs.laws.Cond.{ltb-cases}
use Rattle.plan.specs.Links.{Plan}
use Rattle.node.specs.Work.{Send, BACK}
use Rattle.field.specs.Step.{without}
use Rattle.field.specs.Held.{layout}
use Rattle.field_words.specs.Laid.{Laid}
use Rattle.field_words.proofs.Laid.{without-length, without-past}
use Rattle.field.specs.State.{posted}
use Rattle.field_place.specs.Posted.{Put}
use Rattle.field_place.proofs.Puts.{put-many}
use Rattle.field_serve.specs.Holds.{Holds}
use Rattle.field_serve.proofs.Holds.{holds-laid, holds-count}

-- a word leaves, or there is none at its place
module _ (lent : List ℕ) (n i : ℕ) (h : Laid lent n) where
  pub none_out : n ≤ i → Holds lent n (length lent) (without i (take n lent))
  none_out l = let e = without-past i (take n lent) (omega (arith, length-take-le n lent h.within)) in rw e (record { waits = refl; laid = h; size = refl })

  pub one_out : i < n → (last : List ℕ) → last ≡ layout (length lent) (without i (take n lent)) → Holds last (n - 1) (length lent) (without i (take n lent))
  one_out l last q =
      let k = length-take-le n lent h.within in
      holds-laid last (n - 1) (length lent) (without i (take n lent)) q (omega (arith, without-length i (take n lent) (omega arith))) (omega (arith, h.within))

-- room for c messages behind the words that are left, and for the put-back word behind them
module _ (lent mid : List ℕ) (n i l c : ℕ) (laid : Laid lent n) (h : Holds mid l (length lent) (without i (take n lent))) (room : n + c ≤ length lent) where
  gone : i < n → suc l ≡ n
  gone k = let e = length-take-le n lent laid.within in omega (arith, holds-count h, without-length i (take n lent) (omega arith))

  pub room-place : l + c ≤ length mid
  room-place = ltb-cases i n (λ b. l + c ≤ length mid) (λ k. omega (arith, gone k, h.size))
      (λ k. let e = length-take-le n lent laid.within in omega (arith, holds-count h, ap length (without-past i (take n lent) (omega arith)), h.size))

  pub room_back : {p : Plan} {v : ℕ} {s : List Send} {after : List ℕ} {m : ℕ} (answer : ℕ) → Put p v s mid l after m
      → c ≡ length s → (i < length (take n lent)) ⊎ (answer ≢ BACK) → answer ≡ BACK → m < length after
  room_back {p} {v} answer d e (inl k) q = omega (arith, gone (omega (arith, length-take-le n lent laid.within)), h.size, d.same, put-many p v d)
  room_back answer d e (inr f) q = absurd (f q)

-- what is sent stands behind the words that were left
pub put_holds : {p : Plan} {v : ℕ} {s : List Send} (mid : List ℕ) (l : ℕ) {after : List ℕ} {m : ℕ} → Laid mid l
    → Put p v s mid l after m → Holds after m (length mid) (take l mid ++ posted p v s)
put_holds {p} {v} {s} mid l {after} {m} laid d =
    let q = d.words in
    holds-laid after m (length mid) (take l mid ++ posted p v s) q.is
    (omega (arith, q.many, length-append (take l mid) (posted p v s), length-take-le l mid laid.within)) (omega (arith, d.laid.within, d.same))
