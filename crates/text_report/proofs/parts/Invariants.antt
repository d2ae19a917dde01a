-- text_report::parts: a loop; the lines of the parts whose lowest is among the first u modules are put, one module further by `parts-turn`.
use Rattle.format_text.specs.Pages.{HasPut}
use Rattle.text_report.specs.Text.{part_lines}
use Rattle.text_report.proofs.parts.Given as goal

abbrev pub invariant-loop-u : goal.invariant-loop-u
invariant-loop-u l = HasPut l.initial.page l.page (part_lines l.plan l.cells l.u)
