-- `program_reading_inner::read_most` meets its contract. The measure is the room that is left.
use Rattle.words.proofs.Needs.{ℕ, ◌-◌, arith, ◌∙◌, length}
use Rattle.program_reading_inner.proofs.Telling.{got-some, says-ended}
use borrow.Rule.Slice.PartMut.{same_len_mid, mid_len}
use Rattle.program_reading_inner.proofs.read_most.Goals as goal

pub shape_of-buf-in_default : goal.shape_of-buf-in_default
shape_of-buf-in_default g c =
    same_len_mid {X = ℕ} c.loop-at.at (length c.loop-at.buf - c.loop-at.at) c.loop-at.buf c.read_some-got.new.block c.read_some-got.auto.block ∙ c.loop-at.invariant.1

pub returns-in_default : goal.returns-in_default
returns-in_default g c =
    says-ended c.read_some-got.result c.loop-at.at _ _ c.ended.ensures
    (omega (arith, c.loop-at-test.true, same_len_mid c.loop-at.at (length c.loop-at.buf - c.loop-at.at) c.loop-at.buf c.read_some-got.new.block c.read_some-got.auto.block, c.loop-at.invariant.0))

pub overflow_add-at : goal.overflow_add-at
overflow_add-at g c =
    let some = got-some c.read_some-got.result c.in-Bytes.n c.read_some-got.new.block c.in-Bytes.is c.read_some-got.ensures in
    let m = c.read_some-got.auto.block ∙ mid_len {X = ℕ} c.loop-at.at (length c.loop-at.buf) c.loop-at.buf (omega arith) in
    omega (arith, some, m, c.loop-at.invariant)

pub loop-at-smaller : goal.loop-at-smaller
loop-at-smaller g c =
    let some = got-some c.read_some-got.result c.in-Bytes.n c.read_some-got.new.block c.in-Bytes.is c.read_some-got.ensures in
    let m = c.read_some-got.auto.block ∙ mid_len {X = ℕ} c.loop-at.at (length c.loop-at.buf) c.loop-at.buf (omega arith) in
    omega (arith, some, m, c.loop-at.invariant)

pub loop-at-preserved : goal.loop-at-preserved
loop-at-preserved g c =
    let some = got-some c.read_some-got.result c.in-Bytes.n c.read_some-got.new.block c.in-Bytes.is c.read_some-got.ensures in
    let m = c.read_some-got.auto.block ∙ mid_len {X = ℕ} c.loop-at.at (length c.loop-at.buf) c.loop-at.buf (omega arith) in
    let s = same_len_mid c.loop-at.at (length c.loop-at.buf - c.loop-at.at) c.loop-at.buf c.read_some-got.new.block c.read_some-got.auto.block in
    (omega (arith, some, m, s, c.loop-at.invariant), s ∙ c.loop-at.invariant.1)

pub shape_of-buf : goal.shape_of-buf
shape_of-buf g c = c.loop-at.invariant.1
