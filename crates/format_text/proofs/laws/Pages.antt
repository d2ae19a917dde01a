-- Two texts put one after the other are one (`has_put_two`), none is put where nothing is done (`has_put_none`), and a text by another spelling
-- (`has_put_as`).
use Rattle.std.specs.Prelude.{ℕ, ◌≡◌, List, [], ◌++◌}
use Rattle.std.proofs.Common.{sym, ◌∙◌, subst}
use Rattle.std.proofs.Math.Path.{refl}
use Rattle.format_text.specs.declared.Page.{Page}
use Rattle.format_text.specs.Pages.{page_of, HasPut}
use Rattle.format_text.proofs.laws.Put.{put-none, put_on}

pub has_put_none : (p : Page) → HasPut p p []
has_put_none p = record { same = refl; put = sym (put-none (page_of p)) }

pub has_put_two : {p q r : Page} {s t : List ℕ} → HasPut p q s → HasPut q r t → HasPut p r (s ++ t)
has_put_two {p} {q} {r} {s} {t} f g = record { same = g.same ∙ f.same; put = put_on (page_of p) s t f.put g.put }

pub has_put_as : {p q : Page} {s t : List ℕ} → s ≡ t → HasPut p q s → HasPut p q t
has_put_as {p} {q} e h = subst (HasPut p q) e h
