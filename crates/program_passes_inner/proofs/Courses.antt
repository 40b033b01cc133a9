-- What was read, which course a block takes, and the two ends compared.
--     part-read, part-within    so many bytes were read; and never more than there is room for
--     course-more            where another block is read, so many bytes of the one before it are done, and its place is below the limit
--     too_far                where none is read behind a block that is not the last, its end is not
--     same_whole, same-changed    the two ends compared
use Rattle.words.proofs.Plain.{ℕ, ◌+◌, ◌-◌, ◌<◌, ◌≤◌, arith, ◌≡◌, refl, Bool, true, false, false≢true, List, length, eq-eqb, ne_eqb}
use Rattle.words.proofs.Plain.{ltb-true, ltb-false}
use Rattle.program_ending_inner.specs.declared.Ending.{Ending}
use Rattle.program_ending_inner.specs.declared.Ending.TheVariants as E
use Rattle.program_reading_inner.specs.{declared.Most.Most, Says.MostSays}
use Rattle.program_reading_inner.specs.declared.Most.TheVariants as M
use Rattle.std.specs.Prelude.{Some, Result, Ok, Err}
use Rattle.program_passes_inner.specs.{declared.Part.Part, declared.Turn.Turn}
use Rattle.program_passes_inner.specs.declared.Turn.TheVariants as T
use Rattle.program_passes_inner.specs.Passes.{limit, part_of, PartSays, ReadTo, course_of, goes_further, same_end}
use Rattle.program_passes_inner.specs.Passes.Course.{On}

-- ---- what was read

part_by : (b : List ℕ) (m : Most) → MostSays m b → (r : Part) → Some r ≡ part_of m (length b) → ReadTo b r.last r.len
part_by b M.Full s r e = let q : r ≡ record { len = length b; last = false } = cc in rw q refl
part_by b (M.Ended n) s r e = let q : r ≡ record { len = n; last = true } = cc in rw q s
part_by b M.Failed s r e = absurd (cc)

pub part-read : (b : List ℕ) (r : Part) → PartSays b (Some r) → ReadTo b r.last r.len
part-read b r h = part_by b h.most h.says r h.part

read-within : (b : List ℕ) (last : Bool) (m : ℕ) → ReadTo b last m → m ≤ length b
read-within b false m h = omega (arith, h)
read-within b true m h = omega (arith, h)

pub part-within : (b : List ℕ) (r : Part) → PartSays b (Some r) → r.len ≤ length b
part-within b r h = read-within b r.last r.len (part-read b r h)

-- ---- which course

pub course-more : (v : Result Turn Ending) (p : ℕ) → goes_further p (course_of v) ≡ true → (m : ℕ) × (v ≡ Ok (T.On m)) × (p + m < limit)
course-more (Ok (T.On m)) p e = (m, refl, omega (arith, ltb-true m (limit - p) e))
course-more (Ok (T.Over m)) p e = absurd (false≢true e)
course-more (Err t) p e = absurd (false≢true e)

pub too_far : (p m : ℕ) → goes_further p (On m) ≡ false → limit ≤ p + m
too_far p m e = omega (arith, ltb-false m (limit - p) e)

-- ---- both ends

pub same_whole : (a b : ℕ) → a ≡ b → E.Whole ≡ same_end a b
unfolding same_end
same_whole a b e = rw (eq-eqb a b e, same_end) refl

pub same-changed : (a b : ℕ) → (a ≡ b → ⊥) → E.Changed ≡ same_end a b
unfolding same_end
same-changed a b e = rw (ne_eqb a b e, same_end) refl
