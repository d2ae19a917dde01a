use Rattle.std.proofs.Common.{◌*◌, ◌<◌, length, map, length-append, sym, ap, ◌∙◌, arith, rules}
use Rattle.std.proofs.lemmas.List.Edits.{sets}
use Rattle.plan.specs.Links.{links_of}
use Rattle.plan_file.specs.Layout.{bytes_of}
use Rattle.store_field.specs.Ends.{own_end, own_ends, entry}
use Rattle.store_field.proofs.Ends.{ends_next, ends-within}
use Rattle.store_field.proofs.Runs.{run_on}
use Rattle.store_field.proofs.put_marks.Goals as goal

pub loop-k-init : goal.loop-k-init
unfolding own_ends bytes_of
loop-k-init c = search rules

pub put_own-a-requires : goal.put_own-a-requires
put_own-a-requires c =
    let p = c.args.plan.now in
    let l : c.loop-k.k < links_of p = omega arith in
    (c.requires.0, l, omega (arith, ends-within p c.args.v c.loop-k.k (links_of p) l))

pub loop-k-preserved : goal.loop-k-preserved
loop-k-preserved c =
    let a = c.args in
    let p = a.plan.now in
    let i = c.loop-k.invariant in
    let is = own_ends p a.v c.loop-k.k in
    let js = own_end p a.v c.loop-k.k in
    let n = ends_next p a.v c.loop-k.k in
    record {
      place = omega (arith, ap length n, length-append is js);
      written = run_on (entry a.marks.now) a.out.now a.q c.loop-k.a is js i.place i.written c.put_own-a.ensures.0
          ∙ ap (λ l. sets a.out.now (2 * a.q) (bytes_of (map (entry a.marks.now) l))) (sym n);
    }
