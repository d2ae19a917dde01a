-- Bytes with nobody, read (`nobody-samples`): without a link; with one; with a length that does not fit; and 192 modules, and more.
use Rattle.std.specs.Prelude.{ℕ, ◌≡◌, refl, List, [], ◌∷◌, map}
use Rattle.base.specs.Table.{tabulate}
use Rattle.base.specs.Test.{every}
use Rattle.graph.specs.Decide.{label, joined_over}
use Rattle.plan.specs.Refusal.{ascends, in_order, link_verdict, links_refusal, plan_refusal}
use Rattle.plan.specs.Trimmed.{padded}
use Rattle.plan_file.specs.Layout.{decode}
use Rattle.plan_file.specs.Reading.{head_verdict, read_refusal, read_plan}
use Rattle.blank.specs.Claim.{blank_bytes}

-- version 1, this length, N and L, each below 256; then a link 0-1 with readings 3 and 4
abbrev linked : ℕ → ℕ → ℕ → List ℕ
linked len n l = 0x01 ∷ 0x00 ∷ len ∷ 0x00 ∷ n ∷ 0x00 ∷ l ∷ 0x00 ∷ 0x00 ∷ 0x00 ∷ 0x01 ∷ 0x00 ∷ 0x03 ∷ 0x00 ∷ 0x04 ∷ []

pub nobody-samples :
    map (λ s. (read_plan s).refusal) (blank_bytes ∷ linked 12 0 1 ∷ linked 12 0 2 ∷ linked 12 0 0 ∷ linked 11 0 1 ∷ linked 12 192 2 ∷ linked 12 193 2 ∷ [])
    ≡ 0 ∷ 16 ∷ 15 ∷ 15 ∷ 13 ∷ 15 ∷ 14 ∷ []
unfolding tabulate every label joined_over ascends in_order link_verdict links_refusal plan_refusal padded decode head_verdict read_refusal read_plan
nobody-samples = refl
