use Rattle.std.proofs.Common.{sym, ◌∙◌}
use Rattle.store_check.proofs.Stores.{fit-ends, fit-stops, fit_on}
use Rattle.store_check.proofs.store_fits.Goals as goal

pub returns-then-not-fits_before : goal.returns-then-not-fits_before
returns-then-not-fits_before c = fit-stops _ _ c.loop-record.invariant c.in-Some.ensures (sym c.fits_before.ensures ∙ c.if-not-fits_before.true)

pub loop-record-preserved : goal.loop-record-preserved
loop-record-preserved c = fit_on _ _ c.loop-record.invariant c.in-Some.ensures (sym c.fits_before.ensures ∙ c.if-not-fits_before.false)

pub returns : goal.returns
returns c = c.zeros.ensures ∙ fit-ends _ _ c.loop-record.invariant c.in_default.ensures
