-- `program_refusal_inner::place_refused_line` meets its contract.
use Rattle.words.proofs.Needs.{rules}
use Rattle.words.proofs.Needs.{◌<◌, ◌^◌, arith}
use Rattle.program_refusal_inner.proofs.Said.{line-short}
use Rattle.program_refusal_inner.proofs.place_refused_line.Goals as goal

pub place_filled-requires : goal.place_filled-requires
place_filled-requires c =
    let x : c.number.result < 10 ^ 20 = search rules in
    let y : c.place.result < 10 ^ 20 = search rules in
    let z : c.args.n < 10 ^ 20 = search rules in
    omega (arith, c.requires, line-short c.number.result c.place.result c.args.n x y z)

pub returns : goal.returns
returns c =
    let x : c.number.result < 10 ^ 20 = search rules in
    let y : c.place.result < 10 ^ 20 = search rules in
    let z : c.args.n < 10 ^ 20 = search rules in
    record {
      placed = rw (c.number.ensures, c.place.ensures) at c.place_filled.ensures;
      upper_bound = omega (arith, c.place_filled.ensures.next, line-short c.number.result c.place.result c.args.n x y z);
    }
