-- field_place::place: what was posted lies behind the waiting words, by `put_of`.
use Rattle.field_place.specs.Posted.{sends_by}
use Rattle.field_place.proofs.Puts.{put_of}
use Rattle.field_place.proofs.place.Goals as goal

pub returns-clause-words : goal.returns-clause-words
returns-clause-words c =
    let a = c.args in
    put_of a.plan.now a.v (sends_by a.plan.now a.marks.now a.v a.x a.a) a.lent.now _ a.n _ c.requires.laid c.requires.room c.post_all-r.ensures
