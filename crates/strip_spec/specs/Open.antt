-- The definitions stay shut. `unfolding open-strips` opens them all at once, for the one place that computes strips: the table of proofs/Cases.
use Rattle.std.specs.Prelude.{ℕ}
use Rattle.rings.specs.Open.{open-all}
use Rattle.word_list_spec.specs.Passing.{kept, count_below}
use Rattle.strip_spec.specs.Strip.{dictionary, on_strip, strip_words, joined, strip}
use Rattle.strip_spec.specs.Places.{window, occurrences}

unfoldable pub open-strips : ℕ
unfolding open-all dictionary kept on_strip strip_words joined strip window count_below occurrences
open-strips = 0
