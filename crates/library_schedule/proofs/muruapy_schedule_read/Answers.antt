-- library_schedule::muruapy_schedule_read: what `read_at` found, in its parts.
use mathlib.Core.Path.{ap}
use Rattle.library_schedule.specs.declared.Found.{Found}
use Rattle.library_schedule.proofs.muruapy_schedule_read.Goals as goal

pub returns : goal.returns
returns c =
    let e = c.read_at-found.ensures in
    (ap (λ (f : Found). f.left) e, ap (λ (f : Found). f.step) e, ap (λ (f : Found). f.place) e)
