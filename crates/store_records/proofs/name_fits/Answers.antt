-- store_records::name_fits: from the clauses of what it calls, by the definitions.
use Rattle.std.proofs.Common.{◌≡◌, sym, ◌∙◌, rules, tests, arith}
use Rattle.std.proofs.lemmas.Iterator.{YieldsList-from_slice}
use Rattle.std.proofs.lemmas.Iterator.Search.{all_from_yields_List}
use Rattle.field.specs.Valid.{all_of}
use Rattle.field.proofs.laws.Chains.{all_of-is}
use Rattle.store.specs.Names.{is_letter, name_fits}
use Rattle.store_records.proofs.name_fits.Goals as goal

pub returns-then-contains : goal.returns-then-contains
unfolding name_fits
returns-then-contains c =
    let s = c.args.name.now in
    let letters : c.all.result ≡ all_of is_letter s =
    all_from_yields_List is_letter _ _ _ c.all.ensures.ran (YieldsList-from_slice s (cc)) (λ x b q k. search (rules, tests)) ∙ sym (all_of-is is_letter s) in
    grind (arith, tests)

pub returns-else-contains : goal.returns-else-contains
unfolding name_fits
returns-else-contains c = grind (arith, tests)
