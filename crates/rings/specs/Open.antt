-- The definitions stay shut, so that nothing computes 16 ^ 64 readings by accident. `unfolding open-all` opens them all at once, for the
-- one place that computes rings: the table of proofs/Cases.
use Rattle.std.specs.Prelude.{ℕ}
use Rattle.words.specs.Search.{all_below, some_below, least, greatest, tab}
use Rattle.words.specs.Order.{before, up_to, same}
use Rattle.words.specs.Turn.{turn}
use Rattle.words.specs.Readings.{fan, readings, total, first}
use Rattle.rings.specs.Necklace.{not_above_turn, necklace, repeats_by, period, lyndon, below_other_turns}
use Rattle.rings.specs.Prenecklace.{ending_holds, prenecklace, lyn, wrong_at, wrong_place}
use Rattle.rings.specs.Class.{necklace_class, prenecklace_class, class_of, look_at}
use Rattle.rings.specs.Home.{least_turn, shift, home}
use Rattle.rings.specs.Alike.{even_handed, same_ring, differing, turn_differs, apart, mirrored, bracelet, not_above_either, least_of_pair}
use Rattle.rings.specs.Next.{low_at, last_low, raised, repeated, next_prenecklace}
use Rattle.rings.specs.Counts.{occurs, counts_of, has_counts, counted_necklace}
use Rattle.rings.specs.Steps.{first_of, above_of, next_of, passed, moves, how_many, how_many_to}

unfoldable pub open-all : ℕ
unfolding all_below some_below least greatest tab before up_to same turn fan readings total first not_above_turn necklace repeats_by period lyndon below_other_turns ending_holds prenecklace lyn wrong_at wrong_place necklace_class prenecklace_class class_of look_at least_turn shift home even_handed same_ring differing turn_differs apart mirrored bracelet not_above_either least_of_pair low_at last_low raised repeated next_prenecklace occurs counts_of has_counts counted_necklace first_of above_of next_of passed moves how_many how_many_to
open-all = 0
