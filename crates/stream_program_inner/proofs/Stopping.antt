-- What is written behind a read, and why a program stops.
--     turn-bytes, turn-over, turn-failed, turn_inside       what stands in the buffer behind a read
--     turns_more                                            where it goes on, one turn more is made
--     take-room, line-room                                  there is room for the texts of what was read
--     first-room, first-long                                the first bytes of a buffer, as a block and as a line
--     got-inside                                            what was read is inside the block
use Rattle.words.proofs.Plain.{ℕ, suc, ◌+◌, ◌*◌, ◌<◌, ◌≤◌, add-one, arith, ◌≡◌, refl, sym, ap, ◌∙◌, Bool, true, false, false≢true, List, length, take}
use Rattle.words.proofs.Plain.{length-take}
use native.Mathlib.Nat.{mul-le-mul_right}
use Rattle.program_reading_inner.specs.{declared.Got.Got, Says.GotSays}
use Rattle.program_reading_inner.specs.declared.Got.TheVariants.{Bytes, Over, Failed}
use Rattle.stream_steps_inner.specs.Says.{GoesOn}
use Rattle.stream_spec.specs.Blocks.{BlockSays, EndSays}
use Rattle.stream_kind_inner.specs.{declared.Kind.Kind, Says.Said, Says.most_of}
use Rattle.stream_program_inner.specs.Says.{BehindRead, ReadAnswered, TurnsMade, more}

-- bytes were read, and another turn is made
pub turns_more : (kind : Kind) (wrote : Bool) (got : Got) (n : ℕ) (u s b v b' : List ℕ) → GoesOn wrote got n true → TurnsMade kind n u → ReadAnswered kind got u s b v b' →
    TurnsMade kind (n + 1) v
turns_more kind true (Bytes k) n u s b v b' g t h = rw (add-one n) (more k s b v b' t h)
turns_more kind true Over n u s b v b' g t h = absurd (false≢true (sym g))
turns_more kind true Failed n u s b v b' g t h = absurd (false≢true (sym g))
turns_more kind false got n u s b v b' g t h = absurd (false≢true (sym g))

-- there is room for the texts of what was read
block_room : (m n room most : ℕ) → m ≤ n → n * room ≤ most → m * room ≤ most
block_room m n room most l h = omega (arith, mul-le-mul_right {m = m} {n = n} room l)

pub take-room : (n : ℕ) (s s₀ : List ℕ) (room most : ℕ) → n ≤ length s → length s ≡ length s₀ → length s₀ * room ≤ most → length (take n s) * room ≤ most
take-room n s s₀ room most l e h = block_room (length (take n s)) (length s₀) room most (simp length-take (omega (arith, l, e))) h

pub line-room : (n room most : ℕ) → 0 < n → n * room ≤ most → room ≤ most
line-room n room most l h = let m = mul-le-mul_right {m = 1} {n = n} room l in omega (arith, m, h)

-- what was read is inside the block
pub got-inside : (got : Got) (n : ℕ) (s : List ℕ) → got ≡ Bytes n → GotSays got s → (n ≤ length s) × (n ≡ length (take n s))
got-inside got n s e g = let h : GotSays (Bytes n) s = rw e at g in (h.1, h.2)

-- the first n bytes of a block, as a block
pub first-room : (n : ℕ) (s : List ℕ) (room most : ℕ) → n ≤ length s → 1 ≤ n → n * room ≤ most → (0 < length (take n s)) × (length (take n s) * room ≤ most)
first-room n s room most l o h = let e : length (take n s) ≡ n = simp length-take (omega arith) in rw e (o, h)

pub first-long : (n : ℕ) (s : List ℕ) (m : ℕ) → n ≤ length s → n ≡ m → length (take n s) ≡ m
first-long n s m l e = simp length-take (omega (arith, l, e))

-- ---- a turn

module _ (kind : Kind) (u s b v : List ℕ) (r : ℕ) (b' : List ℕ) where
  pub turn-bytes : (got : Got) (n : ℕ) → got ≡ Bytes n → BlockSays (Said kind) (most_of kind) u (take n s) b v r b' → BehindRead kind got u s b v r b'
  turn-bytes got n e t = rw e t

  pub turn-over : (got : Got) → got ≡ Over → EndSays (Said kind) u b r b' → BehindRead kind got u s b v r b'
  turn-over got e t = rw e t

  -- the texts are inside the buffer
  pub turn_inside : (got : Got) → BehindRead kind got u s b v r b' → r ≤ length b
  turn_inside (Bytes n) t = t.inside
  turn_inside Over t = t.inside
  turn_inside Failed t = omega (arith, t.0)

pub turn-failed : (kind : Kind) (got : Got) (w s b : List ℕ) (m n r : ℕ) → got ≡ Failed → n ≡ m → r ≡ 0 → BehindRead kind got (take m w) s b (take n w) r b
turn-failed kind got w s b m n r e f g = rw (e, f, g) (refl, refl, refl)
