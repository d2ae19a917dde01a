use Rattle.std.proofs.Common.{◌<◌, length, map, length-append, sym, ap, ◌∙◌, arith, rules}
use Rattle.std.proofs.lemmas.List.Edits.{sets}
use Rattle.plan.specs.Links.{modules_of}
use Rattle.plan_file.specs.Layout.{bytes_of}
use Rattle.store.specs.Layout.{module_places, places_below}
use Rattle.store_field.specs.Parts.{parts_at}
use Rattle.store_field.proofs.Ends.{below_next, below-within}
use Rattle.store_field.proofs.Runs.{run_on}
use Rattle.store_field.proofs.put_modules.Goals as goal

pub loop-v-init : goal.loop-v-init
unfolding places_below bytes_of
loop-v-init c = search rules

pub put_module-q-requires : goal.put_module-q-requires
put_module-q-requires c =
    let p = c.args.plan.now in
    let l : c.loop-v.v < modules_of p = omega arith in
    (c.requires.0, omega arith, omega (arith, below-within p c.loop-v.v (modules_of p) l))

pub loop-v-preserved : goal.loop-v-preserved
loop-v-preserved c =
    let a = c.args in
    let p = a.plan.now in
    let i = c.loop-v.invariant in
    let f = parts_at a.cells.now a.marks.now in
    let is = places_below p c.loop-v.v in
    let js = module_places p c.loop-v.v in
    let n = below_next p c.loop-v.v in
    record {
      place = omega (arith, ap length n, length-append is js);
      written = run_on f a.out.now 1 c.loop-v.q is js i.place i.written c.put_module-q.ensures.0
          ∙ ap (λ l. sets a.out.now 2 (bytes_of (map f l))) (sym n);
    }
