-- `strip_place_inner::place_in` meets its contract. The loop's invariant: the reading stands at no place before p.
use Rattle.words.proofs.Needs.{arith, sym, ◌∙◌}
use Rattle.strip_place_inner.proofs.Looking.{passed-more, passed-hit, passed-all}
use Rattle.strip_place_inner.proofs.place_in.Goals as goal

pub stands-requires : goal.stands-requires
stands-requires c = record { p_in_bounds = omega arith; s_len_bound = c.requires.s_len_bound; reading_len_bound = c.requires.reading_len_bound }

pub returns-then-stands : goal.returns-then-stands
returns-then-stands c =
    passed-hit c.args.s.now c.args.reading.now c.loop-p.p c.requires.by_index (omega arith) (sym c.if-stands.true ∙ c.stands.ensures)

pub loop-p-preserved : goal.loop-p-preserved
loop-p-preserved c =
    passed-more c.args.s.now c.args.reading.now c.loop-p.p c.loop-p.invariant (sym c.if-stands.false ∙ c.stands.ensures)

pub returns : goal.returns
returns c =
    absurd (passed-all c.args.s.now c.args.reading.now _ c.requires.by_index (omega arith) c.loop-p.invariant)
