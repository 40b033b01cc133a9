-- Two rings of which one is seen from the other side.
--     other-front    which of the two it is does not matter: they are as far apart
use Rattle.words.proofs.Plain.{ℕ, ◌<◌, ◌≡◌, sym, ◌∙◌, List, reverse, length, length-reverse}
use Rattle.rings.specs.Alike.{apart, mirrored}
use Rattle.guard_laws.proofs.Mirror.{apart-home, other-side}

module _ (v w : List ℕ) (z : 0 < length v) (e : length v ≡ length w) where
  -- which of two rings is seen from the other side does not matter
  pub other-front : apart (mirrored v) w ≡ apart v (mirrored w)
  unfolding mirrored
  other-front = apart-home (reverse v) w (rw (length-reverse v) z) (length-reverse v ∙ e) ∙ sym (other-side v w z e)
