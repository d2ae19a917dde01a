-- What the tracing program prints of a run: "one item a line".
use Rattle.std.specs.Prelude.{ℕ, zero, suc, cond, List, [], ◌∷◌, ◌++◌, length, eqb}
use Rattle.base.specs.None.{none}
use Rattle.format_text.specs.Ascii.{ascii}
use Rattle.format_text.specs.Lines.{named, line}
use Rattle.plan.specs.Links.{Plan, modules_of, links_of}
use Rattle.field.specs.Edges.{is_own, marks_in}
use Rattle.node.specs.declared.Node.{Node}
use Rattle.field.specs.declared.Field.{Field}
use Rattle.field.specs.State.{node_in}

-- a number behind a blank
abbrev pub item : ℕ → List ℕ
item x = named " " x

-- a link number, "`-` for none"
unfoldable pub link_item : ℕ → List ℕ
link_item x = cond (eqb x none) (ascii " -") (item x)

-- its values in document 01's order: status, level, identity, best weight, best edge; then test edge, in-branch, find-count, halted, and as the
-- tenth the waking link (request 05)
abbrev pub first_text : Node → List ℕ
first_text n = item n.status ++ item n.level ++ link_item n.identity ++ link_item n.weight ++ link_item n.best

abbrev pub other_text : Node → List ℕ
other_text n = link_item n.test ++ link_item n.branch ++ item n.count ++ item n.halted ++ link_item n.waking

abbrev pub values_text : Node → List ℕ
values_text n = first_text n ++ other_text n

-- "`K:MARK`", where link k is one of module v
unfoldable pub mark_text : Plan → List ℕ → ℕ → ℕ → List ℕ
mark_text p marks v k = cond (is_own p v k) (item k ++ named ":" (marks_in p marks v k)) []

-- "for each own link by number": of the links below k
unfoldable pub marks_text : Plan → List ℕ → ℕ → ℕ → List ℕ
marks_text p marks v zero = []
marks_text p marks v (suc k) = marks_text p marks v k ++ mark_text p marks v k

-- `module V` and its values, then its marks
abbrev pub module_text : Plan → List ℕ → List ℕ → ℕ → List ℕ
module_text p cells marks v =
    named "module " v ++ values_text (node_in cells v) ++ marks_text p marks v (links_of p) ++ ascii "\n"

-- "for each module in order": of the modules below v
unfoldable pub modules_text : Plan → List ℕ → List ℕ → ℕ → List ℕ
modules_text p cells marks zero = []
modules_text p cells marks (suc v) = modules_text p cells marks v ++ module_text p cells marks v

-- "for each waiting word in order `word X`, X in decimal"
unfoldable pub words_text : List ℕ → List ℕ
words_text [] = []
words_text (x ∷ l) = line "word " x ++ words_text l

-- "`refusal R` (or `refusal none`)"
unfoldable pub refusal_text : ℕ → List ℕ
refusal_text number = cond (eqb number 0) (ascii "refusal none\n") (line "refusal " number)

-- "`steps D`, `refusal R` .., `sent S`, `waiting W`"
abbrev pub summary_text : ℕ → ℕ → ℕ → ℕ → List ℕ
summary_text steps refusal sent waiting = line "steps " steps ++ refusal_text refusal ++ line "sent " sent ++ line "waiting " waiting

-- The whole, of a field with plan p: what the run answered, every module, every word that waits.
unfoldable pub trace_text : Plan → Field → ℕ → ℕ → List ℕ → List ℕ
trace_text p f steps refusal waiting =
    summary_text steps refusal f.sent (length waiting)
    ++ modules_text p f.cells f.marks (modules_of p)
    ++ words_text waiting
