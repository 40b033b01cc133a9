-- A step goes from prenecklace to prenecklace until it meets one of the kind, and counts its moves (01, 'Walks'). `Walked` is what it knows on the way.
-- The kind is any test that only prenecklaces pass: prenecklace, necklace, lyndon.
--     Walked kind k w c m      from w the step stands at c after m moves, and has met none of the kind
--     walk_start_lem               it starts at w, with 0 moves
--     walk-found               the next prenecklace is of the kind: it is the answer, one move on
--     walk-on                  it is not: the step stands there, one move on
--     walk-done                there is no next prenecklace: there is no answer, and the moves are all there are
use Rattle.words.proofs.Plain.{ℕ, suc, ◌<◌, ◌≡◌, refl, sym, ap, ◌∙◌, Bool, true, false, ◌&&◌, none, some, List, length}
use Rattle.words.specs.{Order.before, Order.up_to, Readings.Reading, Readings.readings}
use Rattle.words.proofs.Split.{both, both_left, both_right, refuted, clash}
use Rattle.words.proofs.Lex.{ahead, equal, behind, lex, before-up_to, up_to-refl, up_to-before-trans, not-before, before-not-up_to}
use Rattle.words.proofs.Readings.{first-is, first-nothing, readings-all}
use Rattle.words.proofs.Count.{count-cong}
use Rattle.rings.specs.{Prenecklace.prenecklace, Next.last_low, Next.next_prenecklace}
use Rattle.rings.specs.Steps.{above_of, next_of, passed, moves}
use Rattle.ring_laws.proofs.Next.{length-next, next-before, next-reading, next-prenecklace, next-up_to, none_before}
use Rattle.ring_laws.proofs.Moves.{moves-start, moves-last}

-- only prenecklaces are of the kind
abbrev pub Kind : (List ℕ → Bool) → Type 0
Kind kind = (u : List ℕ) → kind u ≡ true → prenecklace u ≡ true

pub record Walked (kind : List ℕ → Bool) (k : ℕ) (w c : List ℕ) (m : ℕ) : Type 0 where
  pub long : length c ≡ length w
  pub reading : Reading (length w) k c
  pub pre : prenecklace c ≡ true
  pub past : up_to w c ≡ true
  pub counted : m ≡ moves k w (some c)
  pub met : (u : List ℕ) → Reading (length w) k u → kind u ≡ true → before w u ≡ true → before c u ≡ true

module _ (kind : List ℕ → Bool) (k : ℕ) (w : List ℕ) where
  pub walk_start_lem : Reading (length w) k w → prenecklace w ≡ true → Walked kind k w w 0
  walk_start_lem reading pre =
      record { long = refl; reading = reading; pre = pre; past = up_to-refl w; counted = sym (moves-start k w); met = λ u r q h. h }

  module _ (c : List ℕ) (m : ℕ) (at : Walked kind k w c m) where
    -- a reading of the kind above w is not below the prenecklace after c
    not-under : Kind kind → 0 < last_low k c → (u : List ℕ) → Reading (length w) k u → kind u ≡ true → before w u ≡ true → up_to (next_prenecklace k c) u ≡ true
    not-under only z u r q h = next-up_to k c z at.pre u (rw at.long r) (only u q) (at.met u r q h)

    gone : 0 < last_low k c → before w (next_prenecklace k c) ≡ true
    gone z = up_to-before-trans w c (next_prenecklace k c) at.past (next-before k c z)

    counts : 0 < last_low k c → suc m ≡ moves k w (some (next_prenecklace k c))
    counts z = ap suc at.counted ∙ sym (moves-last k w c at.long at.past at.reading at.pre z)

    pub walk-found : Kind kind → 0 < last_low k c → kind (next_prenecklace k c) ≡ true → (next_of kind k w ≡ some (next_prenecklace k c)) × (suc m ≡ moves k w (some (next_prenecklace k c)))
    unfolding next_of above_of
    walk-found only z q = (
      first-is (length w) k (above_of kind w) (next_prenecklace k c) (next-reading k c z (length w) at.reading) (both (before w (next_prenecklace k c)) (kind (next_prenecklace k c)) (gone z) q)
          (λ u r h. not-under only z u r (both_right (before w u) (kind u) h) (both_left (before w u) (kind u) h)),
      counts z,
    )

    pub walk-on : Kind kind → 0 < last_low k c → kind (next_prenecklace k c) ≡ false → Walked kind k w (next_prenecklace k c) (suc m)
    walk-on only z q =
        record {
          long = length-next k c ∙ at.long;
          reading = next-reading k c z (length w) at.reading;
          pre = next-prenecklace k c z at.pre;
          past = before-up_to w (next_prenecklace k c) (gone z);
          counted = counts z;
          met = λ u r p h. strictly u p (not-under only z u r p h);
        }
      where
        strictly : (u : List ℕ) → kind u ≡ true → up_to (next_prenecklace k c) u ≡ true → before (next_prenecklace k c) u ≡ true
        strictly u p h =
            elim (lex (next_prenecklace k c) u) [
              | ahead l ↦ l
              | equal e ↦ clash (kind u) p (rw e at q)
              | behind l ↦ clash (up_to (next_prenecklace k c) u) h (before-not-up_to (next_prenecklace k c) u l)
            ]

    pub walk-done : last_low k c ≡ 0 → (next_of kind k w ≡ none) × (m ≡ moves k w none)
    unfolding next_of above_of moves passed
    walk-done z = (
      first-nothing (length w) k (above_of kind w)
          (λ u r. refuted (above_of kind w u) (λ h. clash (before c u) (at.met u r (both_right (before w u) (kind u) h) (both_left (before w u) (kind u) h)) (none_before k c u z (rw at.long r)))),
      at.counted ∙ count-cong (passed w (some c)) (passed w none) (readings (length w) k)
          (λ u r. top (above_of prenecklace w u) (up_to u c) (not-before c u (none_before k c u z (rw at.long r)))) (readings-all (length w) k),
    )
      where
        top : (a b : Bool) → b ≡ true → (a && b) ≡ a
        top true b e = e
        top false b e = refl
