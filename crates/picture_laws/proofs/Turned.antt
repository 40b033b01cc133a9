-- The picture of a turn is the picture turned: what it shows at a place, the other shows so many sectors further on.
--     On n i u t          t is the place i sectors behind u, on the circle of n sectors
--     shown-turn          the picture of a reading turned by i
--     shown-home          the picture of the home reading
use Rattle.words.proofs.Plain.{ℕ, ◌+◌, ◌-◌, ◌*◌, ◌/◌, ◌<◌, ◌≤◌, arith, ◌≡◌, sym, ap, ◌∙◌, ◌⊎◌, inl, inr, List, length, get_or}
use Rattle.words.specs.Turn.{turn}
use Rattle.words.proofs.Turn.{length-turn, turn_low, turn-high}
use Rattle.rings.specs.Home.{shift, home}
use Rattle.ring_home_laws.proofs.Home.{home-turn-of, shift-lt}
use Rattle.picture_laws.specs.Seen.{shown_at}
use Rattle.picture_laws.proofs.Seen.{shown-sector}

abbrev pub On : ℕ → ℕ → ℕ → ℕ → Type 0
On n i u t = (u + 710 * i ≡ t) ⊎ (u + 710 * i ≡ 710 * n + t)

module _ (w : List ℕ) (i : ℕ) (il : i ≤ length w) (u t : ℕ) (ul : u < 710 * length w) (tl : t < 710 * length w) where
  -- u and t lie in the sectors u / 710 and t / 710
  sectors : On (length w) i u t → get_or (turn i w) (u / 710) 0 ≡ get_or w (t / 710) 0
  sectors (inl e) = turn_low i w (u / 710) (t / 710) (omega arith) (omega arith)
  sectors (inr e) = turn-high i w il (u / 710) (t / 710) (omega arith) (omega arith)

  pub shown-turn : On (length w) i u t → shown_at (turn i w) u ≡ shown_at w t
  shown-turn e =
      let l = length-turn i w il in
      shown-sector (turn i w) (u / 710) u (omega (arith, l)) (omega arith) (omega arith) ∙ sectors e
      ∙ sym (shown-sector w (t / 710) t (omega arith) (omega arith) (omega arith))

pub shown-home : (w : List ℕ) → 0 < length w → (u t : ℕ) → u < 710 * length w → t < 710 * length w → On (length w) (shift w) u t → shown_at (home w) u ≡ shown_at w t
shown-home w z u t ul tl e = rw (home-turn-of w) (shown-turn w (shift w) (omega (arith, shift-lt w z)) u t ul tl e)
