-- The parts of a trace put one after the other are the trace (`trace-parts`); one law for each item's outcome and each turn of its loops.
use Rattle.std.specs.Prelude.{ℕ, ◌+◌, ◌≤◌, ◌<◌, ◌≡◌, ◌≢◌, true, false, List, [], ◌∷◌, ◌++◌, length}
use Rattle.std.proofs.Common.{add-one, ◌∙◌, drop_of_length-le, drop-cons, eq-eqb, ne_eqb}
use Rattle.std.proofs.Math.Path.{refl, sym, ap}
use Rattle.std.proofs.Math.ListN.{get_or, drop}
use Rattle.base.specs.None.{none}
use Rattle.format_text.specs.Ascii.{ascii}
use Rattle.format_text.specs.Lines.{named, line}
use Rattle.format_text.specs.Put.{Page, put}
use Rattle.format_text.proofs.laws.Put.{put-none, put_on, put_two}
use Rattle.plan.specs.Links.{Plan, modules_of}
use Rattle.field.specs.Edges.{is_own, marks_in}
use Rattle.field.specs.declared.Field.{Field}
use Rattle.text_trace.specs.Text.{item, link_item, mark_text, marks_text, module_text, modules_text, words_text, refusal_text, summary_text, trace_text}

-- For code: which text, one turn more.
module _ (x : ℕ) where
  pub link-none : x ≡ none → link_item x ≡ ascii " -"
  unfolding link_item
  link-none h = simp (eq-eqb _ _ h)

  pub link-some : x ≢ none → link_item x ≡ item x
  unfolding link_item
  link-some h = simp (ne_eqb _ _ h)

  pub refusal-none : x ≡ 0 → refusal_text x ≡ ascii "refusal none\n"
  unfolding refusal_text
  refusal-none h = simp (eq-eqb _ _ h)

  pub refusal-some : x ≢ 0 → refusal_text x ≡ line "refusal " x
  unfolding refusal_text
  refusal-some h = simp (ne_eqb _ _ h)

module _ (p : Plan) (marks : List ℕ) (v : ℕ) where
  pub mark-none : (k : ℕ) → is_own p v k ≡ false → mark_text p marks v k ≡ []
  unfolding mark_text
  mark-none k h = rw h refl

  pub mark-shown : (k x : ℕ) → is_own p v k ≡ true → x ≡ marks_in p marks v k
      → mark_text p marks v k ≡ item k ++ named ":" x
  unfolding mark_text
  mark-shown k x h e = rw (h, e) refl

  pub marks-none : marks_text p marks v 0 ≡ []
  unfolding marks_text
  marks-none = refl

  pub marks-turn : (k : ℕ) → marks_text p marks v k ++ mark_text p marks v k ≡ marks_text p marks v (k + 1)
  unfolding marks_text
  marks-turn k = rw (add-one k) refl

module _ (p : Plan) (cells marks : List ℕ) where
  pub modules-none : modules_text p cells marks 0 ≡ []
  unfolding modules_text
  modules-none = refl

  pub modules-turn : (v : ℕ) → modules_text p cells marks v ++ module_text p cells marks v ≡ modules_text p cells marks (v + 1)
  unfolding modules_text
  modules-turn v = rw (add-one v) refl

-- the words from i on
module _ (q : Page) (ws : List ℕ) (i : ℕ) where
  pub words-turn : i < length ws → {q' : Page} → q' ≡ put q (line "word " (get_or ws i 0))
      → put q (words_text (drop i ws)) ≡ put q' (words_text (drop (i + 1) ws))
  unfolding words_text
  words-turn l e =
      ap (λ t. put q (words_text t)) (drop-cons ws i 0 l ∙ ap (λ j. get_or ws i 0 ∷ drop j ws) (sym (add-one i)))
      ∙ sym (ap (λ x. put x (words_text (drop (i + 1) ws))) e ∙ put_two q (line "word " (get_or ws i 0)) (words_text (drop (i + 1) ws)))

  pub words-over : length ws ≤ i → put q (words_text (drop i ws)) ≡ q
  unfolding words_text
  words-over l = ap (λ t. put q (words_text t)) (drop_of_length-le ws l) ∙ put-none q

-- the three parts of the whole, each put on what the part before left
pub trace-parts : (p : Plan) (f : Field) (steps refusal : ℕ) (waiting : List ℕ) (q : Page) {q₁ q₂ q₃ : Page}
    → q₁ ≡ put q (summary_text steps refusal f.sent (length waiting))
    → q₂ ≡ put q₁ (modules_text p f.cells f.marks (modules_of p))
    → q₃ ≡ put q₂ (words_text waiting)
    → q₃ ≡ put q (trace_text p f steps refusal waiting)
unfolding trace_text
trace-parts p f steps refusal waiting q e₁ e₂ e₃ =
    let h = summary_text steps refusal f.sent (length waiting) in
    let m = modules_text p f.cells f.marks (modules_of p) in
    put_on q (h ++ m) _ (put_on q h m e₁ e₂) e₃
