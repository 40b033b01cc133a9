-- Looking for the rings that are near a reading r, among rings rs that lie end to end.
--     FarTo e rs r from j                           the rings from `from` up to j are further than e from r
--     far-on                                        one ring more
--     part-far                                      what is told of the part of the rings that the code lends
--     near_none, near-one, near-two                 which are near, by two searches
use Rattle.words.proofs.Plain.{ℕ, suc, ◌+◌, ◌-◌, ◌*◌, ◌/◌, ◌<◌, ◌≤◌, min, arith, ◌≡◌, refl, sym, ap, ◌∙◌, Bool, false, List, [], ltb, length, get_or, take}
use Rattle.words.proofs.Plain.{drop, ltb-false}
use Rattle.words.proofs.Split.{lt, eq, gt, tri}
use Rattle.rings.specs.Alike.{apart}
use Rattle.ring_home_laws.proofs.Alike.{apart-le}
use Rattle.sight_spec.specs.Rings.{ring_at, rings_in}
use Rattle.sight_spec.specs.Says.{Alone, Two, None}
use Rattle.sight_spec.proofs.Rings.{length-first, first-at}
use Rattle.sight_turn_inner.proofs.Parts.{part-ring}
use Rattle.sight_near_inner.specs.Says.{FirstNear}

-- ---- the first ring that is near

-- the rings from `from` up to j are far
abbrev pub FarTo : ℕ → List ℕ → List ℕ → ℕ → ℕ → Type 0
FarTo e rs r from j = (i : ℕ) → from ≤ i → i < j → e < apart r (ring_at (length r) rs i)

pub far-on : (e : ℕ) (rs r : List ℕ) (from j : ℕ) → FarTo e rs r from j → e < apart r (ring_at (length r) rs j) → FarTo e rs r from (j + 1)
far-on e rs r from j f h i l m =
    elim (tri i j) [ lt o ↦ f i l o | eq o ↦ omega (arith, ap (λ (y : ℕ). apart r (ring_at (length r) rs y)) o) | gt o ↦ absurd (omega arith) ]

-- what is told of the part that the code lends, where a turn is given up at one more sector than may be misread, or than there are
module _ (e : ℕ) (rs r : List ℕ) (j limit : ℕ) (b : Bool) (q : limit ≡ suc (min (length r) e))
    (s : b ≡ ltb (apart r (take (length r * j + length r - length r * j) (drop (length r * j) rs))) limit) where
  told : b ≡ ltb (apart r (ring_at (length r) rs j)) limit
  told = s ∙ ap (λ (w : List ℕ). ltb (apart r w) limit) (part-ring rs (length r) j (length r * j) (length r * j + length r) refl refl)

  pub part-far : b ≡ false → e < apart r (ring_at (length r) rs j)
  part-far h = omega (arith, q, ltb-false (apart r (ring_at (length r) rs j)) limit (sym told ∙ h), apart-le r (ring_at (length r) rs j))

-- ---- which are near

module _ (e : ℕ) (rs r : List ℕ) where
  abbrev m : ℕ
  m = length rs / length r

  number : length (rings_in (length r) rs) ≡ m
  number = length-first (length r) rs m

  far : (j : ℕ) → j < m → e < apart r (ring_at (length r) rs j) → e < apart r (get_or (rings_in (length r) rs) j [])
  far j h l = rw (first-at (length r) rs m j h) l

  close : (j : ℕ) → j < m → apart r (ring_at (length r) rs j) ≤ e → apart r (get_or (rings_in (length r) rs) j []) ≤ e
  close j h l = rw (first-at (length r) rs m j h) l

  pub near_none : (x : ℕ) → FirstNear e rs r 0 x → m ≤ x → None e (rings_in (length r) rs) r
  near_none x f h i l = far i (omega (arith, number)) (f.passed i (omega arith) (omega (arith, number)))

  module _ (x y : ℕ) (f : FirstNear e rs r 0 x) (g : FirstNear e rs r (x + 1) y) (h : x < m) where
    pub near-two : y < m → Two e (rings_in (length r) rs) r
    near-two l =
        record {
          one = x;
          two = y;
          order = omega (arith, g.on);
          inside = omega (arith, number);
          near = close x h (f.here h);
          also-near = close y l (g.here l);
        }

    pub near-one : m ≤ y → Alone e (rings_in (length r) rs) r x
    near-one l =
        record {
          inside = omega (arith, number);
          near = close x h (f.here h);
          others = λ i b o. elim (tri i x) [
            | lt q ↦ far i (omega (arith, number)) (f.passed i (omega arith) q)
            | eq q ↦ absurd (o q)
            | gt q ↦ far i (omega (arith, number)) (g.passed i (omega arith) (omega (arith, number)))
          ];
        }
