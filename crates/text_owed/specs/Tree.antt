-- The lines that a tree gives, and the halted modules of each part.
use Rattle.std.specs.Prelude.{ℕ, zero, suc, ◌<◌, ◌≡◌, ◌⊎◌, cond, List, [], ◌∷◌, ◌++◌}
use Rattle.format_text.specs.Ascii.{ascii}
use Rattle.plan.specs.Weights.{cost}
use Rattle.plan_tree.specs.Tree.{tree_link}
use Rattle.plan.specs.Links.{Plan, links_of, lower_of, higher_of}
use Rattle.field_calls.specs.Demand.{TreeLink, InPart}
use Rattle.text_report.specs.Text.{branch_line}
use Rattle.format_text.specs.Lines.{named}

-- the lines of the tree's links below k, by number: `tree_link` is what the central builder writes
unfoldable pub tree_lines : Plan → ℕ → List ℕ
tree_lines p zero = []
tree_lines p (suc k) = tree_lines p k ++ cond (tree_link p k) (branch_line (lower_of p k) (higher_of p k) (cost p k)) []

-- "core names the halted ends"
abbrev pub core_line : ℕ → ℕ → List ℕ
core_line a b = ascii "core" ++ (named " " a ++ named " " b) ++ ascii "\n"

-- WHAT A CORE LINE SAYS, by the part of u

-- ""core none" for a part of one": u is the only module of its part
pub record CoreAlone (p : Plan) (u : ℕ) (text : List ℕ) : Type 0 where
  pub only : (v : ℕ) → InPart p u v → u ≡ v
  pub none : text ≡ ascii "core none\n"

-- "a larger part exactly two, the ends of one of its tree links"
pub record CoreNamed (p : Plan) (u : ℕ) (text : List ℕ) : Type 0 where
  pub link : ℕ
  pub within : link < links_of p
  pub tree : TreeLink p link
  pub inside : InPart p u (lower_of p link)
  pub named : text ≡ core_line (lower_of p link) (higher_of p link)

-- "a core line for each, in that order": one after the other, for the parts of these modules
pub data CoreLines (p : Plan) : List ℕ → List ℕ → Type 0 where
  end : CoreLines p [] []
  next : {u : ℕ} {us text rest : List ℕ} → CoreAlone p u text ⊎ CoreNamed p u text → CoreLines p us rest → CoreLines p (u ∷ us) (text ++ rest)
