-- 71 by the tree's bytes (`bytes-agree`); after it, a link's mark tells whether it is in the tree (`mark-tells`).
use Rattle.std.specs.Prelude.{ℕ, ◌*◌, ◌<◌, ◌≡◌, Bool, true, false, List, length, get_or, eqb}
use Rattle.std.proofs.Common.{sym, ◌∙◌}
use Rattle.std.proofs.Math.Path.{ap}
use Rattle.std.proofs.Math.Bool.{and-eq-true_iff}
use Rattle.std.proofs.lemmas.Bool.{not-true}
use Rattle.base.specs.Cond.{bit}
use Rattle.base.specs.Names.{BRANCH}
use Rattle.base.specs.Test.{every}
use Rattle.base.proofs.laws.Table.{length-tabulate}
use Rattle.base.proofs.laws.Test.{every-ext, every-all}
use Rattle.plan.specs.Links.{Plan, links_of}
use Rattle.plan_tree.specs.Tree.{tree_link, tree_bytes}
use Rattle.plan_tree.proofs.laws.Tree.{byte-tells}
use Rattle.cue.specs.Calls.{end_agrees, ends_agree, branches_agree}
use Rattle.cue_check.specs.Bytes.{byte_agrees}

module _ (p : Plan) (marks : List ℕ) where
  pub bytes-agree : every (length (tree_bytes p)) (byte_agrees (tree_bytes p) marks) ≡ branches_agree p marks
  unfolding tree_bytes branches_agree
  bytes-agree =
      ap (λ n. every n (byte_agrees (tree_bytes p) marks)) (length-tabulate (links_of p) (λ k. bit (tree_link p k)))
      ∙ every-ext (links_of p) (byte_agrees (tree_bytes p) marks) (λ k. ends_agree (tree_link p k) marks k) (λ k l. rw (byte-tells p k l))

-- an end that agrees: its mark is Branch exactly where its link is in the tree
end-tells : (tree : Bool) (mark : ℕ) → end_agrees tree mark ≡ true → tree ≡ eqb mark BRANCH
end-tells true mark e = sym e
end-tells false mark e = sym (not-true (eqb mark BRANCH) e)

pub mark-tells : (p : Plan) (marks : List ℕ) → branches_agree p marks ≡ true → (k : ℕ) → k < links_of p → tree_link p k ≡ eqb (get_or marks (2 * k) 0) BRANCH
unfolding branches_agree
mark-tells p marks e k l =
    end-tells (tree_link p k) (get_or marks (2 * k) 0) ((and-eq-true_iff (end_agrees (tree_link p k) (get_or marks (2 * k) 0)) _).0 (every-all (links_of p) (λ k. ends_agree (tree_link p k) marks k) e k l)).0
