-- What the system's answer to a read says.
--     told-failed, told_over, told-bytes    by its sign, and by how many bytes it counts
--     moved_back                            the same answer, handed over
--     says-told                             a count that is told is inside the block
--     got-some                              what was read is some bytes
--     says-ended                            the input ended before the buffer was full
use Rattle.words.proofs.Plain.{ℕ, zero, suc, min, ◌<◌, ◌≤◌, arith, ◌≡◌, refl, sym, ap, ◌∙◌, true, false, false≢true, List, length, take, length-take, ltb-true}
use lib.IntN.{ℤ, pos, negsuc}
use lib.Signed.{lt_z}
use Rattle.io.specs.Counts.{clamp_len}
use Rattle.program_reading_inner.specs.{declared.Got.Got, declared.Most.Most}
use Rattle.program_reading_inner.specs.declared.Got.TheVariants.{Bytes, Over, Failed}
use Rattle.program_reading_inner.specs.Says.{Moved, told_of, GotSays, ended_of, MostSays}

-- z is the answer as it was handed over
module _ (got z : ℤ) (same : z ≡ got) where
  pub told-failed : lt_z z (pos 0) ≡ true → Failed ≡ told_of got
  told-failed h = go got (rw same at h)
    where
      go : (x : ℤ) → lt_z x (pos 0) ≡ true → Failed ≡ told_of x
      go (pos k) e = absurd (omega (arith, ltb-true k 0 e))
      go (negsuc k) e = refl

  module _ (h : lt_z z (pos 0) ≡ false) (most : ℕ) (m : Moved most got) (n : ℕ) (e : n ≡ clamp_len z most) where
    pub told_over : n ≡ 0 → Over ≡ told_of got
    told_over q = go got (rw same at h) m (sym q ∙ (rw same at e))
      where
        go : (x : ℤ) → lt_z x (pos 0) ≡ false → Moved most x → 0 ≡ clamp_len x most → Over ≡ told_of x
        go (pos zero) a b d = refl
        go (pos (suc k)) a b d = absurd (omega (arith, b, d))
        go (negsuc k) a b d = absurd (false≢true (sym a))

    pub told-bytes : (n ≡ 0 → ⊥) → Bytes n ≡ told_of got
    told-bytes q = go got (rw same at h) m (rw same at e)
      where
        go : (x : ℤ) → lt_z x (pos 0) ≡ false → Moved most x → n ≡ clamp_len x most → Bytes n ≡ told_of x
        go (pos zero) a b d = absurd (q (omega (arith, d)))
        go (pos (suc k)) a b d = ap Bytes (omega (arith, b, d))
        go (negsuc k) a b d = absurd (false≢true (sym a))

-- an answer is the same when it is read back
pub moved_back : (got z : ℤ) (m n : ℕ) → z ≡ got → m ≡ n → Moved n got → Moved m z
moved_back got z m n e l h = rw (e, l) h

pub says-told : (got : ℤ) (r : Got) (s : List ℕ) → r ≡ told_of got → Moved (length s) got → GotSays r s
says-told (pos zero) r s e m = rw e tt
says-told (pos (suc k)) r s e m = rw e (omega arith, m, simp length-take (omega (arith, m)))
says-told (negsuc k) r s e m = rw e tt

-- what was read is some bytes, inside the block
pub got-some : (got : Got) (n : ℕ) (s : List ℕ) → got ≡ Bytes n → GotSays got s → (0 < n) × (n ≤ length s)
got-some got n s e g = let h : GotSays (Bytes n) s = rw e at g in (h.0, h.1)

-- the input ended before the buffer was full
pub says-ended : (got : Got) (at : ℕ) (r : Most) (s : List ℕ) → r ≡ ended_of got at → at < length s → MostSays r s
says-ended (Bytes n) at r s e h = rw e tt
says-ended Over at r s e h = rw e h
says-ended Failed at r s e h = rw e tt
