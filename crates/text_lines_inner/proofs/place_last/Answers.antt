-- `text_lines_inner::place_last` meets its contract: the last line is two numbers and their words.
use Rattle.words.proofs.Needs.{rules}
use Rattle.text_spec.specs.Text.{two_numbers, last_line}
use Rattle.text_lines_inner.proofs.place_last.Goals as goal

pub place_two-requires : goal.place_two-requires
unfolding last_line two_numbers
place_two-requires c = search rules

pub returns : goal.returns
unfolding last_line two_numbers
returns c = c.place_two.ensures
