-- `text_lines_inner::place_first` meets its contract: the first line is two numbers and their words.
use Rattle.words.proofs.Needs.{rules}
use Rattle.text_spec.specs.Text.{two_numbers, first_line}
use Rattle.text_lines_inner.proofs.place_first.Goals as goal

pub place_two-requires : goal.place_two-requires
unfolding first_line two_numbers
place_two-requires c = search rules

pub returns : goal.returns
unfolding first_line two_numbers
returns c = c.place_two.ensures
