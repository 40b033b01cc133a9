-- The sectors of a record, whose numbers are good: what the contracts of classifying and of the checks give the reader.
--     only-sector                   a refusal can only be a bad sector
--     looks-away                    where it is none there is a sector to look at
--     look_in                       that sector is one of them
use Rattle.words.proofs.Plain.{ℕ, ◌<◌, ◌≡◌, refl, ap, ◌∙◌, inl, inr, false, List, length}
use Rattle.words.specs.Readings.{Sized, Shaded}
use Rattle.rings.specs.{declared.Class.Class, Necklace.necklace}
use Rattle.rings.specs.Class.{class_of, loose_place, look_at}
use Rattle.ring_laws.proofs.Classes.{look-within}
use Rattle.refusal.specs.{declared.Refusal.Refusal, Numbers.place_of, Order.Given, Order.Passed, Calls.FirstBad, Calls.one_reading}
use Rattle.record_body_inner.specs.{declared.Looked.TheVariants.NotHome, Looks.LookSays}

-- a reading whose numbers are good can only be refused for a sector
pub only-sector : (w : List ℕ) (k : ℕ) → Sized (length w) → Shaded k → (r : Refusal) → Given (one_reading w k) r → FirstBad w (λ j. k) (place_of r)
only-sector w k z h r (inl (inl (inl (inl (inl (inl (e, f))))))) = absurd (f z)
only-sector w k z h r (inl (inl (inl (inl (inl (inr (l, (e, f)))))))) = absurd (f tt)
only-sector w k z h r (inl (inl (inl (inl (inr (l, (e, f))))))) = absurd (f h)
only-sector w k z h r (inl (inl (inl (inr (l, (p, e, f)))))) = rw e f
only-sector w k z h r (inl (inl (inr (l, (e, f))))) = absurd (f tt)
only-sector w k z h r (inl (inr (l, (e, f)))) = absurd (f tt)
only-sector w k z h r (inr (l, (e, f))) = absurd (f refl)

-- sectors that are no necklace, and the one to look at
pub looks-away : (w : List ℕ) (k i : ℕ) (c : Class) → Passed (one_reading w k) → c ≡ class_of w → i ≡ loose_place c → necklace w ≡ false → LookSays w k (NotHome i)
unfolding look_at
looks-away w k i c g e q h = (q ∙ ap loose_place e, g.0.0.0.1, h)

-- it is one of theirs
pub look_in : (w : List ℕ) (i : ℕ) → Sized (length w) → i ≡ look_at w → i < length w
look_in w i z e = rw e (look-within w z.0)
