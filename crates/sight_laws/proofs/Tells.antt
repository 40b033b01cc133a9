-- What is answered where the rings are guarded, by the contract alone: whichever ring is seen, from whichever side, turned anyhow, and with as many sectors misread as its guard stands.
--     never-several                  two are never seen
--     front-or-none, back-or-none    where the sectors misread and those looked for are together below the distance, it is that ring or Unknown: never another, nor from the wrong side,
--                                    and no refusal, since the checks pass
--     front-seen-not, back-seen-not  it is not Unknown where no more are misread than are looked for, guarded or not
--     front-means, back-means    turned as the answer says, the reading, or its reversal, differs from the ring at as many places as it says, and these are no more than may be misread
use Rattle.std.specs.Prelude.{Result, Ok}
use Rattle.words.proofs.Plain.{ℕ, ◌+◌, ◌*◌, ◌/◌, ◌<◌, ◌≤◌, arith, ◌≡◌, refl, sym, List, [], reverse, length, get_or, length-reverse}
use Rattle.words.specs.Turn.{turn}
use Rattle.words.proofs.Split.{lt, eq, gt, tri}
use Rattle.rings.specs.Alike.{differing, apart, mirrored}
use Rattle.refusal.specs.declared.Refusal.{Refusal}
use Rattle.refusal.specs.Order.{Passed}
use Rattle.home_spec.specs.Turns.{nearest_turn}
use Rattle.home_turns_laws.proofs.Nearest.{nearest-at}
use Rattle.set_spec.specs.Worth.{Spread}
use Rattle.guard_spec.specs.Sides.{sides}
use Rattle.guard_laws.proofs.Mirror.{other-side}
use Rattle.guard_laws.proofs.Sides.{length-sides, front_at, back_at, sides-long, alone}
use Rattle.sight_spec.specs.declared.Sighting.{Sighting}
use Rattle.sight_spec.specs.declared.Sighting.TheVariants.{Front, Back, Several, Unknown}
use Rattle.sight_spec.specs.Rings.{ring_at, rings_in, sight_order}
use Rattle.sight_spec.specs.Says.{Alone, None, SightSays}
use Rattle.sight_spec.proofs.Rings.{length-first, first-at, ring-length, rings-long}
use Rattle.sight_spec.proofs.Unique.{alone-two, one-sight}

module _
    (rs r : List ℕ) (k e d : ℕ) (p : Passed (sight_order r rs k)) (g : Spread d (sides (rings_in (length r) rs))) (small : 2 * e < d)
    (a : Result Sighting Refusal) (s : SightSays rs r k e a) where
  abbrev ts : List (List ℕ)
  ts = rings_in (length r) rs

  some : 0 < length r
  some = p.0.0.0.0

  number : length ts ≡ length rs / length r
  number = length-first (length r) rs (length rs / length r)

  ring-is : (t : ℕ) → t < length ts → get_or ts t [] ≡ ring_at (length r) rs t
  ring-is t h = first-at (length r) rs (length rs / length r) t (omega (arith, number))

  -- whatever side is near, it is alone
  only : (j : ℕ) → j < length (sides ts) → apart r (get_or (sides ts) j []) ≤ e → Alone e (sides ts) r j
  only j h near =
      record {
        inside = h;
        near = near;
        others = λ i l f. alone (length r) d e e (sides ts) r (sides-long (length r) d ts some (rings-long (length r) rs)) refl g (omega arith) j i h l (λ q. f (sym q)) near;
      }

  -- two are never seen
  pub never-several : a ≡ Ok Several → ⊥
  never-several q = two-seen (rw q at s)
    where
      two-seen : SightSays rs r k e (Ok Several) → ⊥
      two-seen t = alone-two e (sides ts) r t.1.one (only t.1.one (omega (arith, t.1.order, t.1.inside)) t.1.near) t.1

-- ---- more misread than is looked for

-- the answer is b, or Unknown
pub data OrUnknown (a b : Result Sighting Refusal) : Type 0 where
  told : a ≡ b → OrUnknown a b
  missed : a ≡ Ok Unknown → OrUnknown a b

-- x sectors are misread, and rings are looked for with up to e: where both together are below d, no other ring and no other side is ever told
module _
    (rs r : List ℕ) (k e d x : ℕ) (p : Passed (sight_order r rs k)) (g : Spread d (sides (rings_in (length r) rs))) (small : x + e < d)
    (a : Result Sighting Refusal) (s : SightSays rs r k e a) where
  abbrev rings : List (List ℕ)
  rings = rings_in (length r) rs

  lit : 0 < length r
  lit = p.0.0.0.0

  placed : (t : ℕ) → t < length rings → get_or rings t [] ≡ ring_at (length r) rs t
  placed t h = first-at (length r) rs (length rs / length r) t (omega (arith, length-first (length r) rs (length rs / length r)))

  -- the side number j is near, or none is
  settled : {C : Type 0} (j : ℕ) → j < length (sides rings) → apart r (get_or (sides rings) j []) ≤ x → (Alone e (sides rings) r j → C) → (None e (sides rings) r → C) → C
  settled j h near yes_near none-near =
      elim (tri e (apart r (get_or (sides rings) j []))) [
        | lt l ↦ none-near (λ i m. elim (tri i j) [ lt q ↦ others i m (λ o. omega arith) | eq q ↦ rw q l | gt q ↦ others i m (λ o. omega arith) ])
        | eq l ↦ yes_near (record { inside = h; near = omega arith; others = λ i m f. others i m (λ q. f (sym q)) })
        | gt l ↦ yes_near (record { inside = h; near = omega arith; others = λ i m f. others i m (λ q. f (sym q)) })
      ]
    where
      others : (i : ℕ) → i < length (sides rings) → (j ≡ i → ⊥) → e < apart r (get_or (sides rings) i [])
      others i m f = alone (length r) d x e (sides rings) r (sides-long (length r) d rings lit (rings-long (length r) rs)) refl g small j i h m f near

  -- a ring seen from the front: that ring or none
  pub front-or-none : (t : ℕ) → t < length rings → apart r (ring_at (length r) rs t) ≤ x → OrUnknown a
      (Ok (Front t (nearest_turn r (ring_at (length r) rs t)) (apart r (ring_at (length r) rs t))))
  front-or-none t h near =
      settled t (omega (arith, length-sides rings)) (rw (front_at rings t h, placed t h) near)
      (λ o. told (one-sight rs r k e a (Ok (Front t (nearest_turn r (ring_at (length r) rs t)) (apart r (ring_at (length r) rs t)))) s
      (p, record { target = h; alone = o; turned = refl; misread = refl }))) (λ o. missed (one-sight rs r k e a (Ok Unknown) s (p, o)))

  -- a ring seen from behind: that ring, from behind, or none
  pub back-or-none : (t : ℕ) → t < length rings → apart r (mirrored (ring_at (length r) rs t)) ≤ x → OrUnknown a
      (Ok (Back t (nearest_turn (reverse r) (ring_at (length r) rs t)) (apart r (mirrored (ring_at (length r) rs t)))))
  back-or-none t h near =
      settled (length rings + t) (omega (arith, length-sides rings)) (rw (back_at rings t h, placed t h) near)
      (λ o. told (one-sight rs r k e a (Ok (Back t (nearest_turn (reverse r) (ring_at (length r) rs t)) (apart r (mirrored (ring_at (length r) rs t))))) s
      (p, record { target = h; alone = o; turned = refl; misread = refl }))) (λ o. missed (one-sight rs r k e a (Ok Unknown) s (p, o)))

-- what an answer means, guarded or not
module _ (rs r : List ℕ) (k e t i x : ℕ) where
  pub front-means : SightSays rs r k e (Ok (Front t i x)) → (differing (turn i r) (ring_at (length r) rs t) ≡ x) × (x ≤ e)
  front-means s =
      let m = length-first (length r) rs (length rs / length r) in
      let f : t < length rs / length r = omega (arith, s.1.target) in
      let near = rw (front_at (rings_in (length r) rs) t s.1.target, first-at (length r) rs (length rs / length r) t f) at s.1.alone.near in
      (rw (s.1.turned, s.1.misread) (nearest-at r (ring_at (length r) rs t) s.0.0.0.0.0), omega (arith, s.1.misread))

  pub back-means : SightSays rs r k e (Ok (Back t i x)) → (differing (turn i (reverse r)) (ring_at (length r) rs t) ≡ x) × (x ≤ e)
  back-means s =
      let some : 0 < length r = s.0.0.0.0.0 in
      let m = length-first (length r) rs (length rs / length r) in
      let f : t < length rs / length r = omega (arith, s.1.target) in
      let near = rw (back_at (rings_in (length r) rs) t s.1.target, first-at (length r) rs (length rs / length r) t f) at s.1.alone.near in
      let o = other-side r (ring_at (length r) rs t) some (sym (ring-length (length r) rs t f)) in
      (rw (s.1.turned, s.1.misread, o) (nearest-at (reverse r) (ring_at (length r) rs t) (rw (length-reverse r) some)), omega (arith, s.1.misread))

-- a side that is near is not Unknown
module _ (rs r : List ℕ) (k e t : ℕ) (s : SightSays rs r k e (Ok Unknown)) (h : t < length (rings_in (length r) rs)) where
  abbrev us : List (List ℕ)
  us = rings_in (length r) rs

  lies : get_or us t [] ≡ ring_at (length r) rs t
  lies = first-at (length r) rs (length rs / length r) t (omega (arith, length-first (length r) rs (length rs / length r)))

  pub front-seen-not : apart r (ring_at (length r) rs t) ≤ e → ⊥
  front-seen-not near = let x = rw (front_at us t h, lies) at (s.1 t (omega (arith, length-sides us))) in omega arith

  pub back-seen-not : apart r (mirrored (ring_at (length r) rs t)) ≤ e → ⊥
  back-seen-not near = let x = rw (back_at us t h, lies) at (s.1 (length us + t) (omega (arith, length-sides us))) in omega arith
