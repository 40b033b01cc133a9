-- `text_digits_inner::place_sectors` meets its contract. The loop's invariant: the first i sectors are placed.
use Rattle.words.proofs.Needs.{◌+◌, map, take}
use Rattle.text_spec.specs.{Put.Placed, Text.hex_of}
use Rattle.text_digits_inner.proofs.place_sectors.Given as goal

abbrev pub invariant-loop-i : goal.invariant-loop-i
invariant-loop-i l = Placed l.initial.buf l.at (take l.i (map hex_of l.ring)) (l.at + l.i) l.buf
