-- What a record keeps of a field and its words (`tidied`, `saved_of`).
-- What 31 does not look at is not in the bytes: setup's values stand there.
use Rattle.std.specs.Prelude.{◌*◌, get_or}
use Rattle.base.specs.Limits.{max_modules, max_ends}
use Rattle.base.specs.Table.{tabulate, upto}
use Rattle.plan.specs.Links.{modules_of, links_of}
use Rattle.plan.specs.Trimmed.{trimmed}
use Rattle.field.specs.declared.Field.{Field}
use Rattle.field.specs.State.{WIDTH, CELLS}
use Rattle.field.specs.Valid.{waiting_in}
use Rattle.field.specs.Held.{Held, fresh_cells}

-- the plan with zeros past its links, the values of its modules, the marks of its links (a canonical form)
unfoldable pub tidied : Field → Field
tidied f =
    record {
      plan = trimmed f.plan;
      cells = tabulate CELLS (upto (modules_of f.plan * WIDTH) (λ i. get_or f.cells i 0) (λ i. get_or (fresh_cells max_modules) i 0));
      marks = tabulate max_ends (upto (2 * links_of f.plan) (λ d. get_or f.marks d 0) (λ d. 0));
      sent = f.sent;
    }

-- .. and the words that wait
unfoldable pub saved_of : Held → Held
saved_of h = record { field = tidied h.field; words = waiting_in h.words }
