-- A struck mark (`struck-basic`, `struck-other`) and a better edge (`better-new`, `better-old`), as the code's tests meet them.
use Rattle.std.specs.Prelude.{ℕ, ◌≡◌, ◌≢◌, Bool, true, false, cond, eqb}
use Rattle.std.proofs.Common.{ap, eq-eqb, ne_eqb}
use Rattle.node.specs.declared.Node.{Node}
use Rattle.node.specs.Work.{BASIC, REJECTED, Work, set_best, set_mark, with_node}
use Rattle.node.specs.Rules.{strike, do_report}

-- best edge j and best weight x where the test says so
abbrev pub bettered : Bool → ℕ → ℕ → Node → Node
bettered t j x n = set_best (cond t j n.best) (cond t x n.weight) n

pub better-new : (t : Bool) (j x : ℕ) (n : Node) → t ≡ true → set_best j x n ≡ bettered t j x n
better-new t j x n h = rw h

pub better-old : (t : Bool) (j x : ℕ) (n : Node) → t ≡ false → n ≡ bettered t j x n
better-old t j x n h = rw h

pub struck-basic : (x : ℕ) → x ≡ BASIC → cond (eqb x BASIC) REJECTED x ≡ REJECTED
struck-basic x h = rw (eq-eqb _ _ h)

pub struck-other : (x : ℕ) → x ≢ BASIC → cond (eqb x BASIC) REJECTED x ≡ x
struck-other x h = rw (ne_eqb _ _ h)

pub strike-with : (j x : ℕ) (w : Work) → x ≡ cond (eqb (w.mark j) BASIC) REJECTED (w.mark j) → set_mark j x w ≡ strike j w
strike-with j x w h = ap (λ y. set_mark j y w) h

pub report-with : (n p : Node) (w : Work) → n ≡ p → do_report (with_node n w) ≡ do_report (with_node p w)
report-with n p w h = ap (λ y. do_report (with_node y w)) h
