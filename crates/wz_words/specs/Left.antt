-- The words that weren't read yet.
use Rattle.std.specs.Prelude.{ℕ, List, drop}
use Rattle.wz_words.specs.declared.left.WordsLeft.{WordsLeft}

abbrev pub words_left : WordsLeft → List (List ℕ)
words_left left = drop left.at left.words.now
