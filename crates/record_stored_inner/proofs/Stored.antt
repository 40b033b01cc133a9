-- The bytes that a record stores of a ring. w is the reading, of k shades, which passed the checks; u is the width, as a call told it.
--     length-told     the number of bytes of the packed form
--     pack-asks       the home reading v may be packed into a part of m bytes
use Rattle.words.proofs.Plain.{ℕ, ◌≤◌, arith, ◌≡◌, sym, ap, ◌∙◌, List, length}
use Rattle.rings.specs.Home.{home}
use Rattle.ring_home_laws.proofs.Home.{length-home}
use Rattle.packing_spec.specs.Width.{width}
use Rattle.packing_spec.specs.Packing.{BitsFit, packed_length}
use Rattle.packing_laws.proofs.Width.{shades-fit, narrow}
use Rattle.refusal.specs.{Order.Passed, Calls.one_reading}
use Rattle.record_spec.specs.{declared.Kind.TheVariants.Packed, Layout.body_length}
use Rattle.record_spec.proofs.Wrote.{home_below}

-- the number of bytes
pub length-told : (n k u l : ℕ) → u ≡ width k → l ≡ packed_length u n → l ≡ body_length Packed n k
length-told n k u l e f = f ∙ ap (λ (x : ℕ). packed_length x n) e

-- the home reading may be packed
pub pack-asks : (w : List ℕ) (k u m : ℕ) (v : List ℕ) → Passed (one_reading w k) → u ≡ width k → v ≡ home w → m ≡ body_length Packed (length w) k →
    (u ≤ 8) × BitsFit u v × (m ≡ packed_length u (length v))
pack-asks w k u m v g e f l =
    (omega (arith, e, narrow k g.0.0.0.0.1), rw (e, f) (shades-fit k (home w) (home_below w k g)), rw (e, f) (l ∙ ap (packed_length (width k)) (sym (length-home w g.0.0.0.0.0.0.0))))
