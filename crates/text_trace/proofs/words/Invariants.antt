-- text_trace::words: a loop; the words from the next one on are left to put, by `words-turn`, in the end none, by `words-over`.
use Rattle.std.proofs.Common.{◌≡◌, drop}
use Rattle.format_text.specs.Put.{put}
use Rattle.format_text.specs.Pages.{page_of}
use Rattle.text_trace.specs.Text.{words_text}
use Rattle.text_trace.proofs.words.Given as goal

abbrev pub invariant-loop-word : goal.invariant-loop-word
invariant-loop-word l = record {
  same : l.page.bytes.ghost_name ≡ l.initial.page.bytes.ghost_name;
  rest : put (page_of l.initial.page) (words_text l.waiting) ≡ put (page_of l.page) (words_text (drop l.word-index l.waiting));
}
