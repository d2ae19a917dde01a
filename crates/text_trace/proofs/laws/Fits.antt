-- The longest trace has 400000 bytes at most, where 7920 words wait at most (`trace-length`): the own links of all modules are 1200 at most.
use Prim.Native.Nat.{ℕ, zero, suc, ◌+◌, ◌*◌, ◌≤◌, ◌<◌, zero-le}
use native.Mathlib.Omega.{arith}
use Rattle.std.specs.Prelude.{◌≡◌, cond, ◌&&◌, ◌||◌, List, [], ◌∷◌, ◌++◌, ltb}
use Rattle.std.proofs.Common.{sym, ◌∙◌, length-append}
use Rattle.std.proofs.Math.ListN.{length}
use Rattle.std.proofs.Math.Dec.{eqb}
use Rattle.base.specs.Limits.{max_modules, max_links, max_words}
use Rattle.base.specs.None.{none}
use Rattle.base.specs.Cond.{bit}
use Rattle.base.proofs.laws.Cond.{eqb-cases, eqb-diff}
use Rattle.base.specs.Sum.{sum}
use Rattle.base.proofs.laws.Sum.{sum-le, sum-add, sum-zero, sum-const, sum-swap}
use Rattle.base.proofs.laws.Loop.{by-test}
use Rattle.format_text.specs.Ascii.{ascii}
use Rattle.format_text.specs.Lines.{named, line}
use Rattle.format_text.proofs.laws.Lines.{both, named-length, line-length}
use Rattle.plan.specs.Links.{Plan, modules_of, links_of, lower_of, higher_of}
use Rattle.node.specs.declared.Node.{Node}
use Rattle.field.specs.declared.Field.{Field}
use Rattle.field.specs.Edges.{is_own, marks_in}
use Rattle.field.specs.State.{node_in}
use Rattle.text_trace.specs.Text.{item, link_item, first_text, other_text, values_text, mark_text, marks_text, module_text, modules_text, words_text, refusal_text, summary_text, trace_text}

-- ---- own links of all modules

-- a number is met once
once : (n a : ℕ) → sum n (λ v. bit (eqb a v)) ≤ 1
once zero a = zero-le
once (suc n) a = eqb-cases a n (λ b. bit b + sum n (λ v. bit (eqb a v)) ≤ 1)
    (λ e. omega (arith, sum-zero n (λ v. bit (eqb a v)) (λ v l. rw (eqb-diff a v (λ q. apart v l (sym e ∙ q))))))
    (λ d. omega (arith, once n a))
  where
    apart : (v : ℕ) → v < n → n ≡ v → ⊥
    apart v l e = omega arith

module _ (p : Plan) where
  abbrev owns : ℕ → ℕ → ℕ
  owns v k = bit (is_own p v k)

  -- a link ends at two modules
  at-ends : (v k : ℕ) → owns v k ≤ bit (eqb (lower_of p k) v) + bit (eqb (higher_of p k) v)
  unfolding is_own
  at-ends v k = by-test (ltb k (links_of p)) (λ b. bit (b && (eqb (lower_of p k) v || eqb (higher_of p k) v)) ≤ bit (eqb (lower_of p k) v) + bit (eqb (higher_of p k) v))
      (by-test (eqb (lower_of p k) v) (λ b. bit (b || eqb (higher_of p k) v) ≤ bit b + bit (eqb (higher_of p k) v)) (omega arith) (omega arith))
      zero-le

  two_ends : (n k : ℕ) → sum n (λ v. owns v k) ≤ 2
  two_ends n k = omega (
    arith,
    sum-le n (λ v. owns v k) (λ v. bit (eqb (lower_of p k) v) + bit (eqb (higher_of p k) v)) (λ v l. at-ends v k),
    sum-add n (λ v. bit (eqb (lower_of p k) v)) (λ v. bit (eqb (higher_of p k) v)),
    once n (lower_of p k),
    once n (higher_of p k),
  )

  own-total : (n l : ℕ) → sum n (λ v. sum l (owns v)) ≤ l * 2
  own-total n l = omega (arith, sum-swap n l owns, sum-le l (λ k. sum n (λ v. owns v k)) (λ k. 2) (λ k m. two_ends n k), sum-const l 2)

  module _ (marks : List ℕ) (v : ℕ) where
    mark-length : (k : ℕ) → length (mark_text p marks v k) ≤ 42 * owns v k
    unfolding mark_text
    mark-length k =
        let t = item k ++ named ":" (marks_in p marks v k) in
        by-test (is_own p v k) (λ b. length (cond b t []) ≤ 42 * bit b)
        (both (item k) (named ":" (marks_in p marks v k)) (named-length " " k) (named-length ":" (marks_in p marks v k)))
        (omega arith)

    marks-length : (k : ℕ) → length (marks_text p marks v k) ≤ 42 * sum k (owns v)
    unfolding marks_text
    marks-length zero = omega arith
    marks-length (suc k) =
        rw (length-append (marks_text p marks v k) (mark_text p marks v k)) (omega (arith, marks-length k, mark-length k))

-- ---- modules

link-length : (x : ℕ) → length (link_item x) ≤ 21
unfolding link_item
link-length x = by-test (eqb x none) (λ b. length (cond b (ascii " -") (item x)) ≤ 21) (omega arith) (named-length " " x)

-- limits with room: one value more in a record stays within them
first-length : (n : Node) → length (first_text n) ≤ 150
first-length n =
    let a = item n.status ++ item n.level in
    let b = a ++ link_item n.identity in
    let c = b ++ link_item n.weight in
    let most = both c (link_item n.best)
    (both b (link_item n.weight)
    (both a (link_item n.identity)
    (both (item n.status) (item n.level) (named-length " " n.status) (named-length " " n.level))
    (link-length n.identity))
    (link-length n.weight))
    (link-length n.best) in
    omega (arith, most)

other_length : (n : Node) → length (other_text n) ≤ 150
other_length n =
    let a = link_item n.test ++ link_item n.branch in
    let b = a ++ item n.count in
    let c = b ++ item n.halted in
    let most = both c (link_item n.waking)
    (both b (item n.halted)
    (both a (item n.count)
    (both (link_item n.test) (link_item n.branch) (link-length n.test) (link-length n.branch))
    (named-length " " n.count))
    (named-length " " n.halted))
    (link-length n.waking) in
    omega (arith, most)

module _ (p : Plan) (cells marks : List ℕ) where
  abbrev own : ℕ → ℕ
  own v = sum (links_of p) (owns p v)

  module-length : (v : ℕ) → length (module_text p cells marks v) ≤ 400 + 42 * own v
  module-length v =
      let n = node_in cells v in
      let m = marks_text p marks v (links_of p) in
      let most : length (module_text p cells marks v) ≤ 27 + (150 + 150) + 42 * own v + 1 =
      both (named "module " v ++ values_text n ++ m) (ascii "\n")
      (both (named "module " v ++ values_text n) m
      (both (named "module " v) (values_text n) (named-length "module " v) (both (first_text n) (other_text n) (first-length n) (other_length n)))
      (marks-length p marks v (links_of p)))
      (omega arith) in
      omega arith

  modules-length : (n : ℕ) → length (modules_text p cells marks n) ≤ 400 * n + 42 * sum n own
  unfolding modules_text
  modules-length zero = omega arith
  modules-length (suc v) =
      rw (length-append (modules_text p cells marks v) (module_text p cells marks v)) (omega (arith, modules-length v, module-length v))

  all-modules : (n : ℕ) → n ≤ max_modules → links_of p ≤ max_links → length (modules_text p cells marks n) ≤ 130000
  all-modules n h k = omega (arith, modules-length n, own-total p n (links_of p))

-- ---- the other lines

words-length : (ws : List ℕ) → length (words_text ws) ≤ 26 * length ws
unfolding words_text
words-length [] = omega arith
words-length (x ∷ l) = rw (length-append (line "word " x) (words_text l)) (omega (arith, words-length l, line-length "word " x))

refusal-length : (x : ℕ) → length (refusal_text x) ≤ 29
unfolding refusal_text
refusal-length x = by-test (eqb x 0) (λ b. length (cond b (ascii "refusal none\n") (line "refusal " x)) ≤ 29) (omega arith) (line-length "refusal " x)

summary-length : (d r s w : ℕ) → length (summary_text d r s w) ≤ 111
summary-length d r s w =
    both (line "steps " d ++ refusal_text r ++ line "sent " s) (line "waiting " w)
    (both (line "steps " d ++ refusal_text r) (line "sent " s)
    (both (line "steps " d) (refusal_text r) (line-length "steps " d) (refusal-length r))
    (line-length "sent " s))
    (line-length "waiting " w)

-- ---- the whole

pub trace-length : (p : Plan) (f : Field) (steps refusal : ℕ) (waiting : List ℕ) → modules_of p ≤ max_modules → links_of p ≤ max_links
    → length waiting ≤ max_words → length (trace_text p f steps refusal waiting) ≤ 400000
unfolding trace_text
trace-length p f steps refusal waiting m l w =
    let h = summary_text steps refusal f.sent (length waiting) in
    let t = modules_text p f.cells f.marks (modules_of p) in
    omega (
      arith,
      length-append (h ++ t) (words_text waiting),
      length-append h t,
      summary-length steps refusal f.sent (length waiting),
      all-modules p f.cells f.marks (modules_of p) m l,
      words-length waiting,
    )
