-- Filling up (004, Lemma 1): a bracelet's beginning, filled up with the highest shade, is a bracelet; so a beginning begins a bracelet exactly where it,
-- filled up, is one.
--     length-filled, filled-low, filled-high, filled-reading     u filled up
--     absorbs                  a bracelet, raised from some place on to an ending that never falls, is a bracelet
--     absorb-begin, absorb     the lemma, of a beginning, and of the first m sectors
--     begun-filled, filled-begins, begins-iff                    the beginnings of bracelets are those that are one when filled up
use Rattle.words.proofs.Plain.{ℕ, ◌+◌, ◌-◌, ◌<◌, ◌≤◌, arith, ◌≡◌, sym, ◌∙◌, ◌↔◌, true, List, ◌++◌, length, get_or, take, replicate, length-append}
use Rattle.words.proofs.Plain.{length-replicate, get_or-replicate, List·get_d-append, length-take-le, get_or-take, get_or-append-add}
use Rattle.words.specs.Readings.{Reading}
use Rattle.words.proofs.Split.{lt, eq, gt, tri}
use Rattle.words.proofs.Sequence.{sec, place}
use Rattle.rings.specs.Alike.{bracelet}
use Rattle.bracelet_laws.specs.Beginnings.{filled, BeginsBracelet}
use Rattle.bracelet_laws.proofs.Places.{rot-moves, mir-moves, absorb-places}
use Rattle.bracelet_laws.proofs.Words.{Brace, brace-of, of-brace}

-- ---- filling up

module _ (n k : ℕ) (u : List ℕ) (fits : length u ≤ n) where
  pub length-filled : length (filled n k u) ≡ n
  unfolding filled
  length-filled = simp (length-append, length-replicate) (omega arith)

  pub filled-low : (m : ℕ) → m < length u → get_or (filled n k u) m 0 ≡ get_or u m 0
  unfolding filled
  filled-low m h = List·get_d-append u (replicate (n - length u) (k - 1)) 0 m h

  pub filled-high : (m : ℕ) → length u ≤ m → m < n → get_or (filled n k u) m 0 ≡ k - 1
  unfolding filled
  filled-high m h l =
      place (sec (u ++ replicate (n - length u) (k - 1))) m (length u + (m - length u)) (omega arith) ∙ get_or-append-add u
      (replicate (n - length u) (k - 1)) (m - length u) 0 ∙ get_or-replicate (n - length u) (m - length u) (k - 1) 0 (omega arith)

  -- a reading filled up is a reading
  pub filled-reading : 0 < k → Reading (length u) k u → Reading n k (filled n k u)
  filled-reading z r =
      record {
        long = length-filled;
        shades = λ m h. elim (tri m (length u)) [
          | lt e ↦ omega (arith, filled-low m e, r.shades m e)
          | eq e ↦ omega (arith, filled-high m (omega arith) h)
          | gt e ↦ omega (arith, filled-high m (omega arith) h)
        ];
      }

-- ---- the lemma

-- a bracelet, raised from place m on to an ending that never falls, is a bracelet
pub absorbs : (n m : ℕ) (w v : List ℕ) → 0 < n → length w ≡ n → bracelet w ≡ true → length v ≡ n → ((j : ℕ) → j < m → j < n → get_or v j 0 ≡ get_or w j 0) →
    ((j : ℕ) → m ≤ j → j < n → get_or w j 0 ≤ get_or v j 0) → ((i j : ℕ) → m ≤ i → i ≤ j → j < n → get_or v i 0 ≤ get_or v j 0) → bracelet v ≡ true
absorbs n m w v z q h e low rise grow =
    of-brace v (omega arith) (rw e (record {
      turns = λ i b. absorb-places n m (sec w) (sec v) _ (rot-moves n i z) low rise grow (brace.turns i b);
      mirrors = λ i b. absorb-places n m (sec w) (sec v) _ (mir-moves n i b) low rise grow (brace.mirrors i b);
    }))
  where
    brace : Brace (sec w) n
    brace = rw q at (brace-of w (omega arith) h)

-- a bracelet that begins with u: u filled up is a bracelet
pub absorb-begin : (n k : ℕ) (u w : List ℕ) → 0 < n → Reading n k w → bracelet w ≡ true → length u ≤ n → ((j : ℕ) → j < length u → get_or u j 0 ≡ get_or w j 0) → bracelet (filled n k u) ≡ true
absorb-begin n k u w z r h l begins =
    absorbs n (length u) w (filled n k u) z r.long h (length-filled n k u l)
    (λ j a b. filled-low n k u l j a ∙ begins j a) (λ j a b. omega (arith, filled-high n k u l j a b, r.shades j b))
    (λ i j a c b. omega (arith, filled-high n k u l i a (omega arith), filled-high n k u l j (omega arith) b))

-- 004, Lemma 1: the first m sectors of a bracelet, filled up, are a bracelet
pub absorb : (n k m : ℕ) (w : List ℕ) → 0 < n → Reading n k w → bracelet w ≡ true → m ≤ n → bracelet (filled n k (take m w)) ≡ true
absorb n k m w z r h l =
    let long : length (take m w) ≡ m = length-take-le m w (omega (arith, r.long)) in
    absorb-begin n k (take m w) w z r h (omega arith) (λ j a. get_or-take m w j 0 (omega arith))

-- ---- the beginnings of bracelets

module _ (n k : ℕ) (u : List ℕ) (z : 0 < n) where
  -- what begins a bracelet is one when it is filled up
  pub begun-filled : BeginsBracelet n k u → bracelet (filled n k u) ≡ true
  begun-filled b =
      absorb-begin n k u (u ++ b.rest) z b.reading b.whole (omega (arith, length-append u b.rest, b.reading.long)) (λ j a. sym (List·get_d-append u b.rest 0 j a))

  -- what is a bracelet when it is filled up begins one: that
  pub filled-begins : 0 < k → length u ≤ n → Reading (length u) k u → bracelet (filled n k u) ≡ true → BeginsBracelet n k u
  unfolding filled
  filled-begins y l r h = record { rest = replicate (n - length u) (k - 1); reading = filled-reading n k u l y r; whole = h }

  -- a reading of at most n sectors begins some bracelet of n and k exactly where, filled up, it is one
  pub begins-iff : 0 < k → length u ≤ n → Reading (length u) k u → BeginsBracelet n k u ↔ (bracelet (filled n k u) ≡ true)
  begins-iff y l r = (begun-filled, filled-begins y l r)
