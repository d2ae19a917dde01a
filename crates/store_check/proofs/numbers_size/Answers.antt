-- store_check::numbers_size: by `number-bytes`.
use mathlib.Core.Path.{sym, ap₂, ◌∙◌}
use Rattle.store.specs.Layout.{number_bytes}
use Rattle.store_field.proofs.laws.Sizes.{number-bytes}
use Rattle.store_check.proofs.numbers_size.Goals as goal

pub returns : goal.returns
returns c =
    c.numbers_size.ensures ∙ ap₂ number_bytes c.modules.ensures c.links.ensures ∙ sym (number-bytes c.args.plan.now c.requires)
