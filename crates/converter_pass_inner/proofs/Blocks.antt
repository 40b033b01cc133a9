-- What becomes of a block.
--     place-room                                  a refusal's place lies in the block
--     check-gone, check-refused                   the first time
--     write-within, write-gone                    the second time
--     turn-check, turn-write                      by which time it is
--     at_read                                     by what was read
use Rattle.words.proofs.Plain.{ℕ, ◌+◌, ◌<◌, ◌≤◌, arith, ◌≡◌, refl, ◌∙◌, Bool, true, false, List, [], ◌++◌, length, take, drop, length-drop}
use Rattle.words.proofs.Plain.{take-append-le, take_all}
use Rattle.refusal.specs.{declared.Refusal.Refusal, Numbers.number_of, Numbers.place_of}
use Rattle.std.specs.Prelude.{Ok, Err}
use Rattle.converter_blocks_spec.specs.Blocks as O
use Rattle.converter_blocks_spec.proofs.{Unique.all, Places.damage-placed}
use Rattle.program_ending_inner.specs.declared.Ending.TheVariants as E
use Rattle.program_passes_inner.specs.Passes.{ReadTo, Course, gone_by}
use Rattle.program_passes_inner.specs.Passes.Course.{On, Done, Stopped}
use Rattle.converter_pass_inner.specs.{Says.BlockBecomes, Says.AtSays, Says.AtSays.read}

pub place-room : (b : List ℕ) (last : Bool) (r : Refusal) → O.StretchSays b last (Err r) → place_of r < length b
place-room b last r h = omega (arith, (damage-placed b 0 r h.0).0)

-- all of the last block
last-length : (b : List ℕ) (m : ℕ) → m ≤ length b → drop m b ≡ [] → m ≡ length b
last-length b m l e = let z : length (drop m b) ≡ 0 = rw e in omega (arith, z, length-drop m b)

-- ---- the first time

pub check-gone : (p : ℕ) (b d : List ℕ) (m : ℕ) (last : Bool) → O.StretchSays b last (Ok m) → BlockBecomes false p b last d (gone_by last m)
check-gone p b d m true h = let f = all b m h.2 in (refl, last-length b m h.0 h.2, rw f at h.1, tt)
check-gone p b d m false h = (refl, h, tt)

pub check-refused : (p : ℕ) (b d : List ℕ) (last : Bool) (r : Refusal) (x q : ℕ) → O.StretchSays b last (Err r) → x ≡ number_of r → q ≡ place_of r →
    BlockBecomes false p b last d (Stopped (E.Refused x (p + q)))
check-refused p b d last r x q h e f = (r, h, rw (e, f) refl)

-- ---- the second time

module _ (p : ℕ) (b o d : List ℕ) (m : ℕ) where
  pub write-within : (last : Bool) → O.TurnSays b last o (Ok m) d → m ≤ length o
  write-within last h = omega (arith, h.0, h.1.0)

  pub write-gone : (last : Bool) → O.TurnSays b last o (Ok m) d → BlockBecomes true p b last d (gone_by last m)
  write-gone true h = let f = all b m h.1.2 in (refl, last-length b m h.1.0 h.1.2, rw f at h.1.1, rw f at h.2)
  write-gone false h = (refl, h.1, h.2)

-- ---- by which time it is

module _ (w : Bool) (p : ℕ) (b : List ℕ) (last : Bool) (d : List ℕ) where
  pub turn-write : (v : Course) → w ≡ true → BlockBecomes true p b last d v → BlockBecomes w p b last d v
  turn-write v e h = rw e h

  -- the first time the output does not matter
  pub turn-check : (f : List ℕ) (v : Course) → w ≡ false → BlockBecomes false p b last f v → BlockBecomes w p b last d v
  turn-check f (On m) e h = rw e h
  turn-check f (Done m) e h = rw e h
  turn-check f (Stopped t) e h = rw e h

-- ---- by what was read

-- d is what the part u of the output, with what stood behind it, became
pub at_read : (w : Bool) (p : ℕ) (b o u d : List ℕ) (last : Bool) (m : ℕ) (v : Course) → ReadTo b last m → length u ≡ m → d ≡ u ++ drop m o →
    BlockBecomes w p (take m b) last u v → AtSays w p b d v
at_read w p b o u d last m v l e f h =
    let q : take m (u ++ drop m o) ≡ u = take-append-le m u (drop m o) (omega arith) ∙ take_all m u (omega arith) in
    read last m l (rw (f, q) h)
