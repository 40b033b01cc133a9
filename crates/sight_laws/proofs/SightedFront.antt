-- A set that was picked guarded and laid out, and a reading of one of its rings from the front, told as in Sighted by the contracts alone. d is the distance of the set, and rings are
-- looked for with up to e sectors misread.
--     sighted-front    a reading that, turned by i, differs from a ring at no more than e places, where 2 e is below d: that ring, from the front, turned by i, with as many misread;
--                      so it is not refused, either
use Rattle.std.specs.Prelude.{Result, Ok}
use Rattle.words.proofs.Plain.{ℕ, ◌*◌, ◌<◌, ◌≤◌, arith, ◌≡◌, subst, Bool, List}
use Rattle.words.specs.{Turn.turn, Readings.Reading}
use Rattle.rings.specs.Alike.{differing}
use Rattle.refusal.specs.declared.Refusal.{Refusal}
use Rattle.set_spec.specs.Places.{place_at}
use Rattle.set_pick_spec.specs.Says.{GuardChosen}
use Rattle.set_layout_spec.specs.Layout.{LayoutSays}
use Rattle.sight_spec.specs.{declared.Sighting.Sighting, Says.SightSays}
use Rattle.sight_spec.specs.declared.Sighting.TheVariants.{Front, Unknown}
use Rattle.sight_laws.proofs.Sighted.{within, ring, close, front-missed, seen}
use Rattle.sight_laws.proofs.Tells.{front-seen-not}

-- the answer p, t, f of `pick_guarded`, what `lay_out` left in the output, and the answer a of `sight` for a reading r
module _
    (n k d want : ℕ) (p : List ℕ) (t : ℕ) (f : Bool) (c : GuardChosen n k d want p t f) (b rs : List ℕ) (o : LayoutSays n p t b (Ok tt) rs) (e : ℕ) (r : List ℕ)
    (read : Reading n k r) (a : Result Sighting Refusal) (s : SightSays rs r k e a) where
  -- no more are misread than are looked for, and 2 e is below d
  module _ (small : 2 * e < d) where
    pub sighted-front : (j i : ℕ) → j < t → i < n → differing (turn i r) (place_at n p j) ≤ e → a ≡ Ok (Front j i (differing (turn i r) (place_at n p j)))
    sighted-front j i h l near =
        let m = front-missed n k d want p t f c b rs o e r read a s e (omega arith) j i h l near in
        seen n k d want p t f c b rs o e r read a s (Ok (Front j i (differing (turn i r) (place_at n p j)))) (λ q. not-unknown (subst (SightSays rs r k e) q s)) m
      where
        not-unknown : SightSays rs r k e (Ok Unknown) → ⊥
        not-unknown u =
            let is = ring n k d want p t f c b rs o e r read a s j h in
            let m = close n k d want p t f c b rs o e r read a s e (omega arith) r read.long j i h l near in
            front-seen-not rs r k e j u (within n k d want p t f c b rs o e r read a s j h) (rw is m)
