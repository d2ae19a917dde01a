-- field_check::state_fits: what the callees answer are the parts of `fits`; the counts begin with zeros.
use mathlib.Core.Path.{refl}
use lib.ListN.{get_or-replicate}
use Rattle.field.specs.Valid.{fits}
use Rattle.base.specs.Limits.{max_modules}
use Rattle.field_check.proofs.state_fits.Goals as goal

pub count_links-requires : goal.count_links-requires
count_links-requires c = (c.requires, refl, λ v h. get_or-replicate max_modules v 0 0 h)

pub returns : goal.returns
unfolding fits
returns c = cc
