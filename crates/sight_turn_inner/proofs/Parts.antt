-- The part of the rings that the code lends is the ring.
use Rattle.words.proofs.Plain.{ℕ, ◌+◌, ◌-◌, ◌*◌, arith, ◌≡◌, refl, List, take, drop}
use Rattle.sight_spec.specs.Rings.{ring_at}

pub part-ring : (rs : List ℕ) (n j at end : ℕ) → at ≡ n * j → end ≡ at + n → take (end - at) (drop at rs) ≡ ring_at n rs j
part-ring rs n j at end e f = let g : end - at ≡ n = omega arith in rw (g, e) refl
