-- store_records::is_named: slices are compared as the definition compares lists.
use Rattle.std.proofs.Common.{◌≡◌, ℕ, List, [], ◌∷◌, ◌&&◌, eqb, refl, ap, ◌∙◌}
use lib.Pointwise.{pointwise}
use Rattle.base.specs.Test.{same_list}
use Rattle.store_records.proofs.is_named.Goals as goal

same : (a b : List ℕ) → pointwise eqb a b ≡ same_list a b
unfolding same_list
same [] [] = refl
same [] (y ∷ b) = refl
same (x ∷ a) [] = refl
same (x ∷ a) (y ∷ b) = ap (λ t. eqb x y && t) (same a b)

pub returns : goal.returns
returns c = c.eq.ensures ∙ same _ _ ∙ ap (same_list c.args.name.now) c.name_in.ensures
