-- The scan of a reading, over plain lists: what each turn of its loop rests on, and the class by what it found.
use Rattle.words.proofs.Plain.{ℕ, suc, ◌+◌, ◌-◌, ◌%◌, ◌<◌, ◌≤◌, add-one, arith, ◌≡◌, refl, sym, ◌∙◌, List, [], ◌∷◌, length, get_or}
use Rattle.words.proofs.Sequence.{sec, place}
use Rattle.rings.specs.declared.Class.TheVariants.{Loose, Opening, Repeating, Single}
use Rattle.rings.specs.{Class.class_of, Open.open-all}
use Rattle.classify_inner.specs.{declared.Begun.Begun, Beginning.LongestPrenecklace}
use Rattle.ring_laws.proofs.Run.{Run, lyn-self, lyn-one, same, greater}
use Rattle.ring_laws.proofs.Classes.{class-loose, class-opening, class-repeating, class-single}

-- the first i sectors are a run of i - j: sector j is the one that the next sector is held to
pub record Runs (w : List ℕ) (i j : ℕ) : Type 0 where
  pub short : j < i
  pub run : Run (sec w) i (i - j)

-- one sector is a run of 1
pub scan-start : (w : List ℕ) → Runs w 1 0
scan-start w = record { short = omega arith; run = lyn-self (sec w) 1 (omega arith) (lyn-one (sec w)) }

module _ (w : List ℕ) (i j : ℕ) (r : Runs w i j) where
  -- the sector that the next one is held to
  held : get_or w (i - (i - j)) 0 ≡ get_or w j 0
  held = place (sec w) (i - (i - j)) j (omega (arith, r.short))

  -- an equal sector: the run goes on
  pub scan-same : get_or w i 0 ≡ get_or w j 0 → Runs w (i + 1) (j + 1)
  scan-same e =
      let q : i + 1 - (j + 1) ≡ i - j = omega arith in
      record { short = omega (arith, r.short); run = rw (q, add-one i) (same (sec w) i (i - j) r.run (e ∙ sym held)) }

  -- a greater one: all so far are a Lyndon word
  pub scan-greater : get_or w j 0 < get_or w i 0 → Runs w (i + 1) 0
  scan-greater h =
      let q : i + 1 - 0 ≡ suc i = omega arith in
      record { short = omega arith; run = rw (q, add-one i) (lyn-self (sec w) (suc i) (omega arith) (greater (sec w) i (i - j) r.run (omega (arith, held)))) }

  -- a smaller one: the beginning so far is the longest prenecklace
  pub scan-breaks : i < length w → get_or w i 0 < get_or w j 0 → LongestPrenecklace w (record { end = i; lyn = i - j })
  scan-breaks b h = record { run = r.run; within = omega arith; breaks = λ q. omega (arith, held) }

  -- no sector left
  pub scan-whole : i ≤ length w → length w ≤ i → LongestPrenecklace w (record { end = length w; lyn = length w - j })
  scan-whole b h =
      let e : i ≡ length w = omega arith in
      record { run = rw e at r.run; within = omega arith; breaks = λ q. absurd (omega arith) }

-- ---- the class, by what the scan found

-- no bytes at all
pub class-empty : (w : List ℕ) → length w < 1 → Repeating 1 ≡ class_of w
unfolding open-all
class-empty [] h = refl
class-empty (a ∷ w) h = absurd (omega arith)

module _ (w : List ℕ) (r : Begun) (opened : LongestPrenecklace w r) where
  pub class-broken : r.end < length w → Loose r.end ≡ class_of w
  class-broken h = sym (class-loose w r.end r.lyn opened.run h (opened.breaks h))

  module _ (whole : length w ≤ r.end) where
    pub class-run : Run (sec w) (length w) r.lyn
    class-run = let e : r.end ≡ length w = omega (arith, opened.within) in rw e at opened.run

    pub class-lyndon : r.lyn ≡ length w → Single ≡ class_of w
    class-lyndon e = sym (class-single w r.lyn class-run e)

    pub class-repeats : (r.lyn ≡ length w → ⊥) → length w % r.lyn ≡ 0 → Repeating r.lyn ≡ class_of w
    class-repeats n d = sym (class-repeating w r.lyn class-run d (omega (arith, class-run.fits)))

    pub class-opens : (length w % r.lyn ≡ 0 → ⊥) → Opening r.lyn ≡ class_of w
    class-opens n = sym (class-opening w r.lyn class-run (omega arith))
