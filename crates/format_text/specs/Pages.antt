-- A page in code as the page that it is, and what it is once a text was put on it.
use Rattle.std.specs.Prelude.{ℕ, ◌≡◌, List}
use Rattle.format_text.specs.declared.Page.{Page}
use Rattle.format_text.specs.Put.{page, put}
use Rattle.format_text.specs.Put.{Page as Put·Page}

abbrev pub page_of : Page → Put·Page
page_of p = page p.at p.bytes.now

-- q is p with a text put, in the same buffer
pub record HasPut (p q : Page) (text : List ℕ) : Type 0 where
  pub same : q.bytes.ghost_name ≡ p.bytes.ghost_name
  pub put : page_of q ≡ put (page_of p) text
