-- Written and read (`written_read`, `left-read`), read and written (`read-written`, `written-again`): each gives back what went in.
-- The reader takes exactly the written plans (`taken-listed`, `listed-taken`). What is read is trimmed (`decode-trimmed`).
use Rattle.std.specs.Prelude.{ℕ, zero, suc, ◌+◌, ◌*◌, ◌/◌, ◌%◌, ◌-◌, ◌≤◌, ◌<◌, refl, Bool, cond, take}
use Rattle.std.proofs.Common.{arith, ap₂, ◌∙◌}
use Rattle.std.proofs.Math.Path.{◌≡◌, sym, ap}
use mathlib.Core.List.{List, [], ◌∷◌, ◌++◌}
use Rattle.std.proofs.Math.ListN.{length, get_or, drop, replicate}
use Rattle.std.proofs.Math.Seq.{take-append_seam}
use borrow.Author.Tests.{le-ltb}
use Rattle.base.proofs.laws.Cond.{eqb-cases}
use Rattle.base.specs.Limits.{AllBytes}
use Rattle.base.specs.Loop.{After, taken_to}
use Rattle.base.proofs.laws.Refuse.{first_refusal-zero, zero-first_refusal, answers-taken}
use Rattle.base.specs.Pool.{con}
use Rattle.base.specs.Table.{tabulate}
use Rattle.base.proofs.laws.Table.{length-tabulate, tabulate-ext, get_d_tabulate}
use Rattle.plan.specs.Links.{Plan, links_of, plan_size}
use Rattle.plan.specs.Refusal.{plan_refusal}
use Rattle.plan.proofs.laws.Accepted.{Accepted, accepted}
use Rattle.plan.specs.Trimmed.{padded, trimmed}
use Rattle.plan.proofs.laws.Trimmed.{padded-at, trimmed-taken}
use Rattle.plan_file.specs.Reading.{Outcome}
use Rattle.plan_file.specs.Layout.{plan_numbers, bytes_of, encode, number_at, decode, blank}
use Rattle.plan_file.proofs.laws.Lengths.{length-encode}
use Rattle.plan_file.specs.Reading.{head_refusal, read_refusal, read_plan}
use Rattle.plan_file.specs.Writing.{size, write_refusal, write_plan}
use Rattle.plan_file.specs.laws.Head.{HeadOk, head_ok, ok-head}
use Rattle.plan_file.proofs.laws.Numbers.{all-bytes, number-of, bytes-numbers, bytes-of, All-tabulate}

-- WRITTEN, THEN READ

module _ (p : Plan) where
  abbrev own_numbers : List ℕ
  own_numbers = tabulate (plan_numbers (links_of p)) (λ i. get_or p i 0)

  number-encode : (i : ℕ) → i < plan_numbers (links_of p) → number_at (encode p) (suc i) ≡ get_or p i 0
  unfolding encode
  number-encode i l = number-of 1 ((4 + 8 * links_of p) ∷ own_numbers) (suc i) (omega (arith, length-tabulate (plan_numbers (links_of p)) (λ i. get_or p i 0)))
      ∙ get_d_tabulate (plan_numbers (links_of p)) (λ i. get_or p i 0) i l

  pub decode-encode : decode (encode p) ≡ trimmed p
  unfolding decode trimmed padded
  decode-encode = rw (number-encode 1 (omega arith))
      (ap (λ xs. xs ++ replicate (plan_size - plan_numbers (links_of p)) 0) (tabulate-ext (plan_numbers (links_of p)) (λ i. number_at (encode p) (suc i)) (λ i. get_or p i 0) number-encode))

  encode-head : Accepted p → HeadOk (encode p)
  unfolding encode bytes_of
  encode-head a = record {
    version = refl;
    len = number-of 1 ((4 + 8 * links_of p) ∷ own_numbers) 0 (omega arith) ∙ rw (number-encode 1 (omega arith));
    size = length-encode p ∙ rw (number-encode 1 (omega arith));
    counts = rw (number-encode 0 (omega arith), number-encode 1 (omega arith)) (record { modules_ok = a.modules_ok; links_ok = a.links_ok });
  }

  pub written-taken : plan_refusal p ≡ 0 → read_refusal (encode p) ≡ 0
  unfolding read_refusal
  written-taken z =
      let a = accepted p z in
      zero-first_refusal (ok-head (encode p) (encode-head a)) (ap plan_refusal decode-encode ∙ trimmed-taken p z)

  -- "A plan .. written and read gives its meaning back": an accepted plan, with zeros past its links
  pub written_read : plan_refusal p ≡ 0 → read_plan (encode p) ≡ record { refusal = 0; plan = trimmed p }
  unfolding read_plan
  written_read z = rw (written-taken z, decode-encode)

  -- an answer of 0: the plan is accepted, and its bytes are at the front of the buffer
  write-answered : (t : List ℕ) → (write_plan p t).refusal ≡ 0 → (plan_refusal p ≡ 0) × ((write_plan p t).state ≡ encode p ++ drop (size p) t)
  unfolding write_plan write_refusal
  write-answered t e = ((first_refusal-zero (plan_refusal p) e).0, sym (ap (λ (a : After (List ℕ)). a.state) (answers-taken (write_refusal p t) t (encode p ++ drop (size p) t) e)))

  front : (t : List ℕ) → (write_plan p t).refusal ≡ 0 → take (size p) (write_plan p t).state ≡ encode p
  front t e = ap₂ take (sym (length-encode p)) (write-answered t e).1 ∙ take-append_seam (encode p) (drop (size p) t)

  -- so what the writer leaves at the front of a buffer reads back
  pub left-read : (t : List ℕ) → (write_plan p t).refusal ≡ 0 → read_plan (take (size p) (write_plan p t).state) ≡ record { refusal = 0; plan = trimmed p }
  left-read t e = ap read_plan (front t e) ∙ written_read (write-answered t e).0

  -- an accepted plan's numbers are of 16 bits
  numbers_fit : Accepted p → (i : ℕ) → i < plan_numbers (links_of p) → get_or p i 0 < 65536
  numbers_fit a zero l = omega (arith, a.modules_ok)
  numbers_fit a (suc zero) l = omega (arith, a.links_ok)
  numbers_fit a (suc (suc i)) l = link (suc (suc i)) (i / 4) (i % 4) (omega arith) (omega arith) (omega arith)
    where
      link : (i k j : ℕ) → k < links_of p → j < 4 → i ≡ 2 + 4 * k + j → get_or p i 0 < 65536
      link i k zero l m e = let o = a.each k l in rw (let q : i ≡ 2 + 4 * k = omega arith in q) (omega (arith, o.ordered, o.inside, a.modules_ok))
      link i k (suc zero) l m e = let o = a.each k l in rw (let q : i ≡ 3 + 4 * k = omega arith in q) (omega (arith, o.inside, a.modules_ok))
      link i k (suc (suc zero)) l m e = let o = a.each k l in rw (let q : i ≡ 4 + 4 * k = omega arith in q) (omega (arith, o.near_ok))
      link i k (suc (suc (suc zero))) l m e = let o = a.each k l in rw (let q : i ≡ 5 + 4 * k = omega arith in q) (omega (arith, o.far_ok))
      link i k (suc (suc (suc (suc j)))) l m e = absurd (omega arith)

  -- what is written is bytes
  pub written-bytes : Accepted p → AllBytes (encode p)
  unfolding encode
  written-bytes a = all-bytes (encode p) (con {x = 1} (omega arith) (bytes-of ((4 + 8 * links_of p) ∷ own_numbers)
      (con {x = 4 + 8 * links_of p} (omega (arith, a.links_ok)) (All-tabulate (plan_numbers (links_of p)) (λ i. get_or p i 0) (numbers_fit a)))))

-- READ, THEN WRITTEN

pub number-decode : (s : List ℕ) (i : ℕ) → i < plan_numbers (number_at s 2) → get_or (decode s) i 0 ≡ number_at s (suc i)
unfolding decode
number-decode s i l = padded-at (plan_numbers (number_at s 2)) (λ j. number_at s (suc j)) i l

-- what is read has zeros past its links
pub decode-trimmed : (s : List ℕ) → trimmed (decode s) ≡ decode s
unfolding trimmed padded decode
decode-trimmed s =
    let n = plan_numbers (number_at s 2) in
    ap (λ k. padded (plan_numbers k) (λ i. get_or (decode s) i 0)) (number-decode s 1 (omega arith))
    ∙ ap (λ (xs : List ℕ). xs ++ replicate (plan_size - n) 0) (tabulate-ext n (λ i. get_or (decode s) i 0) (λ i. number_at s (suc i)) (number-decode s))

module _ (s : List ℕ) (z : read_refusal s ≡ 0) where
  pub read_head : HeadOk s
  unfolding read_refusal
  read_head = head_ok s (first_refusal-zero (head_refusal s) z).0

  pub read-accepted : plan_refusal (decode s) ≡ 0
  unfolding read_refusal
  read-accepted = (first_refusal-zero (head_refusal s) z).1

  numbers-decode : (4 + 8 * links_of (decode s)) ∷ tabulate (plan_numbers (links_of (decode s))) (λ i. get_or (decode s) i 0) ≡ tabulate (suc (plan_numbers (number_at s 2))) (number_at s)
  unfolding tabulate
  numbers-decode = rw (number-decode s 1 (omega arith))
      (ap₂ (λ x xs. x ∷ xs) (sym read_head.len) (tabulate-ext (plan_numbers (number_at s 2)) (λ i. get_or (decode s) i 0) (λ i. number_at s (suc i)) (number-decode s)))

  -- "bytes that are taken and written again are the same bytes"
  pub read-written : AllBytes s → encode (decode s) ≡ s
  unfolding encode
  read-written b = ap (λ xs. 1 ∷ bytes_of xs) numbers-decode ∙ again s read_head.version read_head.size b
    where
      again : (t : List ℕ) → get_or t 0 0 ≡ 1 → length t ≡ 7 + 8 * number_at s 2 → AllBytes t → ◌≡◌ {A = List ℕ} (1 ∷ bytes_of (tabulate (suc (plan_numbers (number_at s 2))) (number_at t))) t
      again [] v e h = absurd (omega arith)
      again (x ∷ t) v e h = rw (bytes-numbers x t (suc (plan_numbers (number_at s 2))) (omega arith) (λ i. h (suc i)), v)

  -- so the writer puts them back at the front of any buffer that they fit
  pub written-again : AllBytes s → (t : List ℕ) → length s ≤ length t → write_plan (decode s) t ≡ taken_to (s ++ drop (length s) t)
  unfolding write_plan write_refusal
  written-again b t l =
      let e = read-written b in
      let n : size (decode s) ≡ length s = sym (length-encode (decode s)) ∙ ap length e in
      rw (read-accepted, n, le-ltb (length t) (length s) l, e)

-- the reader answers as the check does; what it takes is accepted
pub read-refusal : (s : List ℕ) → (read_plan s).refusal ≡ read_refusal s
unfolding read_plan
read-refusal s = eqb-cases (read_refusal s) 0 (λ b. (outcome b).refusal ≡ read_refusal s) (λ e. sym e) (λ n. refl)
  where
    outcome : Bool → Outcome
    outcome b = cond b (record { refusal = 0; plan = decode s }) (record { refusal = read_refusal s; plan = blank })

pub read-plan : (s : List ℕ) → read_refusal s ≡ 0 → (read_plan s).plan ≡ decode s
unfolding read_plan
read-plan s z = rw z refl

pub read_taken : (s : List ℕ) (r : Outcome) → r ≡ read_plan s → r.refusal ≡ 0 → plan_refusal r.plan ≡ 0
read_taken s r e z =
    let y : read_refusal s ≡ 0 = sym (read-refusal s) ∙ sym (ap (λ (o : Outcome). o.refusal) e) ∙ z in
    ap plan_refusal (ap (λ (o : Outcome). o.plan) e ∙ read-plan s y) ∙ read-accepted s y

-- THE READER TAKES EXACTLY THE WRITTEN PLANS

pub taken-listed : (s : List ℕ) → AllBytes s → read_refusal s ≡ 0 → (p : Plan) × (plan_refusal p ≡ 0) × (s ≡ encode p)
taken-listed s b z = (decode s, read-accepted s z, sym (read-written s z b))

pub listed-taken : (s : List ℕ) → (p : Plan) × (plan_refusal p ≡ 0) × (s ≡ encode p) → (read_refusal s ≡ 0) × AllBytes s
listed-taken s t = (rw t.2 (written-taken t.0 t.1), rw t.2 (written-bytes t.0 (accepted t.0 t.1)))
