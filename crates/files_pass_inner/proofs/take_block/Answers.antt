-- `files_pass_inner::take_block` meets its contract: what the block shows is written where that is asked for.
use Rattle.words.proofs.Needs.{arith, ◌∙◌, sym, refl}
use Rattle.program_passes_inner.specs.Passes.{course_of}
use Rattle.files_pass_inner.proofs.Turns.{taken-room, taken-turn}
use Rattle.files_pass_inner.specs.Says.FileTurnSays.{unwritten}
use Rattle.files_pass_inner.proofs.take_block.Goals as goal

pub take_records-taken-requires : goal.take_records-taken-requires
take_records-taken-requires c = record { held = omega (arith, c.requires.at_lt_limit, c.requires.small_file.short); record_room_in_bounds = taken-room _ _ c.requires.small_file }

pub returns : goal.returns
returns c =
    taken-turn c.args.job c.args.time c.args.at c.args.block.now c.args.last _ _ _ (course_of c.turn_of.result) c.take_records-taken.ensures c.turn_of.ensures
