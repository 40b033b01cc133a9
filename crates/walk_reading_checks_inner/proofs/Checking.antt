-- How the checks of a step from a lent reading end.
--     more-step              a refusal of the checks up to 4 is that of all five
--     step-off, step-on      those passed, and the class tells whether the reading is on a walk
use Rattle.words.proofs.Plain.{ℕ, arith, ◌≡◌, refl, sym, ap, ◌∙◌, inl, inr, List, length, take_all}
use Rattle.words.proofs.Split.{clash}
use Rattle.rings.specs.{declared.Class.Class, Prenecklace.prenecklace}
use Rattle.rings.specs.declared.Class.TheVariants.{Loose}
use Rattle.rings.specs.Class.{class_of, is_loose, loose_place, look_at}
use Rattle.ring_laws.proofs.Classes.{loose-class, tight-class}
use Rattle.refusal.specs.{declared.Refusal.Refusal, declared.Refusal.TheVariants.OffWalk, Order.Passed, Order.Given}
use Rattle.refusal.specs.Calls.{with_room}
use Rattle.walk_record_laws.proofs.Good.{tight}
use Rattle.walk_reading_spec.specs.Says.{reading_order}

module _ (w : List ℕ) (k m : ℕ) where
  -- the last check alone is asked besides
  pub more-step : (r : Refusal) → Given (with_room w k m) r → Given (reading_order w k m) r
  more-step r (inl g) = inl g
  more-step r (inr (l, (e, g))) = absurd (g refl)

  module _ (found : Class) (passed : Passed (with_room w k m)) (is : found ≡ class_of w) where
    pub step-off : (p : ℕ) → found ≡ Loose p → Given (reading_order w k m) (OffWalk p)
    unfolding look_at
    step-off p e =
        let q : class_of w ≡ Loose p = sym is ∙ e in
        inr (
          passed.0,
          (
            ap (λ (x : Class). OffWalk (loose_place x)) (sym q) ∙ ap (λ (x : List ℕ). OffWalk (look_at x)) (sym (take_all (length w) w (omega arith))),
            λ t. clash (prenecklace w) t (loose-class w (ap is_loose q)),
          ),
        )

    pub step-on : ((p : ℕ) → found ≡ Loose p → ⊥) → Passed (reading_order w k m)
    step-on h = (passed.0, tight-class w (rw is at (tight found h)))
