-- `set_output::print_refused` meets its contract.
use Rattle.words.proofs.Needs.{rules}
use Rattle.words.proofs.Needs.{◌<◌, ◌^◌, arith}
use Rattle.set_output.proofs.Output.{refused-room, refused_says}
use Rattle.set_output.proofs.print_refused.Goals as goal

pub place_refused-requires : goal.place_refused-requires
place_refused-requires c = let h : c.number.result < 10 ^ 20 = search rules in omega (arith, refused-room c.number.result h, c.requires)

pub returns : goal.returns
returns c =
    let h : c.number.result < 10 ^ 20 = search rules in
    refused_says c.args.r c.number.result
    c.number.ensures h c.args.buf.now _ _
    c.place_refused.ensures
