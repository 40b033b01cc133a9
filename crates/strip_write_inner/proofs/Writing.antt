-- Writing the strip from necklace to necklace.
--     zeros-period                                      the period of the all-zero ring is 1
--     Writing n k ring at p out                         the strip is written up to place `at`, where the first p sectors of the ring belong
--     writing_start, writing-width, writing-room        at the all-zero ring; the ring's length; the room that is left
--     writing-on, writing-end                           one necklace further; behind the last
--     zeros-asked, zeros-long                           the first n of 64 zeros are the all-zero ring
use Rattle.words.proofs.Plain.{ℕ, zero, suc, ◌+◌, ◌-◌, ◌^◌, ◌≤◌, ◌<◌, arith, dec_lt, ◌≡◌, refl, sym, ap, subst, ◌∙◌, none, some, List, ◌∷◌, length, get_or}
use Rattle.words.proofs.Plain.{take, replicate, ext_get_or}
use native.Mathlib.Nat.{mod-one}
use Rattle.words.proofs.Sequence.{sec}
use Rattle.rings.specs.{Necklace.necklace, Necklace.period, Prenecklace.lyn, Steps.next_of}
use Rattle.ring_laws.proofs.{Run.Run, Words.necklace-prenecklace, Lyndon.period-run, Classes.period-lyn}
use Rattle.ring_laws.proofs.FullWalk.{zeros, zeros-at, length-zeros, zeros-reading, zeros-prenecklace, next-facts}
use Rattle.ring_home_laws.proofs.Period.{period-pos, period-le}
use Rattle.walk_kind_laws.specs.{declared.Kind.TheVariants.Necklace, Kinds.kind_of, Kinds.ReadyToStep}
use Rattle.limits_spec.specs.Limits.{Listable}
use Rattle.strip_spec.specs.Strip.{strip}
use Rattle.strip_laws.proofs.Pieces.{length-strip}
use Rattle.strip_laws.proofs.Standing.{Standing, standing-start, standing-piece, standing-room, standing-next, standing-done}
use Rattle.strip_write_inner.specs.Laying.{LaidDown}

-- the period of the all-zero ring is 1
pub zeros-period : (n : ℕ) → 0 < n → period (zeros n) ≡ 1
zeros-period n z = period-run (zeros n) 1 run (mod-one (length (zeros n)))
  where
    run : Run (sec (zeros n)) (length (zeros n)) 1
    run = record { pos = omega arith; fits = omega (arith, length-zeros n); again = λ i j e b. zeros-at n i ∙ sym (zeros-at n j); lyn = λ i p b. absurd (omega arith) }

-- the strip is written up to place `at`, where the first p sectors of the ring belong
pub record Writing (n k : ℕ) (ring : List ℕ) (at p : ℕ) (out : List ℕ) : Type 0 where
  pub ready : ReadyToStep k ring
  pub stands : Standing n k ring at
  pub by : p ≡ period ring
  pub long : length out ≡ length (strip n k)
  pub done : (i : ℕ) → i < at → get_or out i 0 ≡ get_or (strip n k) i 0

pub writing_start : (k : ℕ) (ring out : List ℕ) → ReadyToStep k ring → ring ≡ replicate (length ring) 0 → length out ≡ k ^ length ring → Writing (length ring) k ring 0 1 out
writing_start k ring out r e l =
    record {
      ready = r;
      stands = subst (λ (w : List ℕ). Standing (length ring) k w 0) (sym e) (standing-start (length ring) k r.pos (omega (arith, r.shades)));
      by = sym (ap period e ∙ zeros-period (length ring) r.pos);
      long = l ∙ sym (length-strip (length ring) k r.pos (omega (arith, r.shades)));
      done = λ i h. absurd (omega arith);
    }

module _ (n k : ℕ) (ring : List ℕ) (at p : ℕ) (out : List ℕ) (w : Writing n k ring at p out) where
  -- the ring has n sectors
  pub writing-width : length ring ≡ n
  writing-width = w.stands.ring.0.long

  pos : 0 < n
  pos = omega (arith, writing-width, w.ready.pos)

  -- the word has sectors, the ring has them all, and there is room for them
  pub writing-room : (0 < p) × (p ≤ length ring) × (at + p ≤ length out)
  writing-room = omega (arith, w.by, period-pos ring, period-le ring w.ready.pos, standing-room n k pos ring at w.stands, w.long)

  module _ (left : List ℕ) (l : LaidDown ring p out at left) where
    -- with the word laid down the strip is written as far as the word goes
    further : (i : ℕ) → i < at + p → get_or left i 0 ≡ get_or (strip n k) i 0
    further i h =
        elim (dec_lt i at) [
          | yes b ↦ l.kept i b ∙ w.done i b
          | no b ↦
              let e : i ≡ at + (i - at) = omega arith in
              rw e (l.piece (i - at) (omega arith) ∙ sym (standing-piece n k pos ring at w.stands (i - at) (omega (arith, w.by))))
        ]

    -- one necklace further
    pub writing-on : (next : List ℕ) (q : ℕ) → next_of (kind_of Necklace) k ring ≡ some next → lyn next ≡ q → Writing n k next (at + p) q left
    unfolding kind_of
    writing-on next q e f =
        let g = next-facts necklace k ring next e in
        let size : length next ≡ length ring = g.0.long in
        record {
          ready =
              record {
                pos = omega (arith, w.ready.pos);
                fits = omega (arith, w.ready.fits);
                shades = w.ready.shades;
                few = w.ready.few;
                reading = rw size g.0;
                pre = necklace-prenecklace next g.2;
              };
          stands = rw w.by (standing-next n k pos ring at w.stands next e);
          by = sym (period-lyn next (omega (arith, w.ready.pos)) g.2 ∙ f);
          long = l.long ∙ w.long;
          done = further;
        }

    -- behind the last necklace the strip is whole
    pub writing-end : next_of (kind_of Necklace) k ring ≡ none → left ≡ strip n k
    unfolding kind_of
    writing-end e =
        ext_get_or 0 left (strip n k) (l.long ∙ w.long) (λ i h. further i (omega (arith, standing-done n k pos ring at w.stands e, w.by, l.long, w.long)))

-- ---- the all-zero ring

-- the first n of m zeros are n zeros
zeros-first : (n m : ℕ) → n ≤ m → take n (zeros m) ≡ zeros n
zeros-first zero m h = refl
zeros-first (suc n) zero h = absurd (omega arith)
zeros-first (suc n) (suc m) h = ap (λ (w : List ℕ). 0 ∷ w) (zeros-first n m (omega arith))

-- the first n of 64 zeros are what `write_from` asks for
pub zeros-asked : (limit n k : ℕ) (out : List ℕ) → Listable limit k n → length out ≡ k ^ n →
    ReadyToStep k (take n (zeros 64)) × ((take n (zeros 64) ≡ replicate (length (take n (zeros 64))) 0) × (length out ≡ k ^ length (take n (zeros 64))))
zeros-asked limit n k out l e = rw (zeros-first n 64 l.sized.1, length-zeros n) (ready, (refl, e))
  where
    ready : ReadyToStep k (zeros n)
    ready =
        record {
          pos = omega (arith, length-zeros n, l.sized.0);
          fits = omega (arith, length-zeros n, l.sized.1);
          shades = l.shaded.0;
          few = l.shaded.1;
          reading = rw (length-zeros n) (zeros-reading n k (omega (arith, l.shaded.0)));
          pre = zeros-prenecklace n;
        }

pub zeros-long : (n : ℕ) → n ≤ 64 → length (take n (zeros 64)) ≡ n
zeros-long n h = rw (zeros-first n 64 h) (length-zeros n)
