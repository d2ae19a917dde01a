-- store_check::read_words: the words of the last part, by `words-are` and `words-counted`.
use native.Mathlib.Omega.{arith}
use mathlib.Core.Path.{ap, ◌∙◌}
use lib.Seq.{sets}
use Rattle.store_check.proofs.Parts.{words-are, words-counted}
use Rattle.store_check.proofs.read_words.Goals as goal

pub words_part-part-requires : goal.words_part-part-requires
words_part-part-requires c = c.requires.0

pub take_words-requires : goal.take_words-requires
take_words-requires c =
    omega (arith, words-counted c.args.r.now c.words_part-part.result.now c.words_part-part.ensures, c.requires.1)

pub returns : goal.returns
returns c =
    (c.take_words.ensures ∙ ap (sets c.args.words.now 0) (words-are _ _ c.words_part-part.ensures), words-counted _ _ c.words_part-part.ensures)
