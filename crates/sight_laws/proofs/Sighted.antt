-- A set that was picked guarded, its rings laid end to end, and any reading of one of them: through the contracts of `sets::pick_guarded`, `sets::lay_out` and `sight::sight` alone, it
-- is told for what it is. d is the distance of the set, and rings are looked for with up to e sectors misread.
--     sighted-back     a reading whose reversal, turned by i, differs from a ring at no more than e places, where 2 e is below d: that ring, from behind, turned by i, with as many
--                      misread (from the front: SightedFront)
--     sighted-once     never several, where 2 e is below d
--     front-missed     with x misread, where x and e together are below d, that ring, from the front, turned by i, or Unknown: never another and never the wrong side
--     back-missed      the same from behind
-- The answer is any that the contract of `sight` admits, a refusal too: so all of these but sighted-once say, too, that the reading is not refused.
use Rattle.std.specs.Prelude.{Result, Ok}
use Rattle.words.proofs.Plain.{ℕ, ◌+◌, ◌*◌, ◌<◌, ◌≤◌, arith, ◌≡◌, refl, sym, ap, subst, ◌∙◌, Bool, List, [], reverse, length, get_or, length-reverse}
use Rattle.words.specs.{Turn.turn, Readings.Reading}
use Rattle.rings.specs.Alike.{differing, apart, mirrored}
use Rattle.refusal.specs.{declared.Refusal.Refusal, Order.Passed}
use Rattle.home_spec.specs.Turns.{nearest_turn, Steady}
use Rattle.home_turns_laws.proofs.Nearest.{nearest-at, nearest-is}
use Rattle.set_spec.specs.{Worth.Spread, Places.place_at, Places.set_in}
use Rattle.set_laws.proofs.Places.{length-set-in, set-in-at}
use Rattle.guard_spec.specs.Sides.{sides}
use Rattle.guard_laws.proofs.{Mirror.turn_near, Mirror.other-side, Sides.Long}
use Rattle.set_pick_spec.specs.Says.{GuardChosen}
use Rattle.set_pick_spec.proofs.Worth.{guard-worth}
use Rattle.set_layout_spec.specs.Layout.{LayoutSays}
use Rattle.sight_spec.specs.{declared.Sighting.Sighting, Says.SightSays}
use Rattle.sight_spec.specs.declared.Sighting.TheVariants.{Front, Back, Several, Unknown}
use Rattle.sight_spec.specs.Rings.{ring_at, rings_in, sight_order}
use Rattle.sight_laws.proofs.EndToEnd.{laid-at, rings-laid, laid-passed}
use Rattle.sight_laws.proofs.Tells.{OrUnknown, told, missed, never-several, front-or-none, back-or-none, front-means, back-means, back-seen-not}

-- the answer p, t, f of `pick_guarded`, what `lay_out` left in the output, and the answer a of `sight` for a reading r
module _
    (n k d want : ℕ) (p : List ℕ) (t : ℕ) (f : Bool) (c : GuardChosen n k d want p t f) (b rs : List ℕ) (o : LayoutSays n p t b (Ok tt) rs) (e : ℕ) (r : List ℕ)
    (read : Reading n k r) (a : Result Sighting Refusal) (s : SightSays rs r k e a) where
  abbrev ts : List (List ℕ)
  ts = set_in n p t

  some : 0 < n
  some = omega (arith, c.asked.numbers.sized)

  each : (j : ℕ) → j < length ts → Reading n k (get_or ts j [])
  each j h = ((guard-worth n k d want p t f c).members j h).reading

  long : Long n ts
  long j h = (each j h).long

  passed : Passed (sight_order r rs k)
  passed = rw o.1 (laid-passed n ts some long k r c.asked.numbers.sized c.asked.numbers.shaded read each)

  -- cut by the reading's length they are the set
  cut : rings_in (length r) rs ≡ ts
  cut = rw (o.1, read.long) (rings-laid n ts some long)

  guards : Spread d (sides (rings_in (length r) rs))
  guards = subst (λ us. Spread d (sides us)) (sym cut) (guard-worth n k d want p t f c).guarded.spread

  inside : (j : ℕ) → j < t → j < length ts
  inside j h = omega (arith, length-set-in n p t)

  pub within : (j : ℕ) → j < t → j < length (rings_in (length r) rs)
  within j h = rw cut (inside j h)

  pub ring : (j : ℕ) → j < t → ring_at (length r) rs j ≡ place_at n p j
  ring j h = rw (o.1, read.long) (laid-at n ts long j (inside j h)) ∙ set-in-at n p t j h

  size : (j : ℕ) → j < t → length (place_at n p j) ≡ n
  size j h = ap length (sym (set-in-at n p t j h)) ∙ long j (inside j h)

  steadies : (j : ℕ) → j < t → Steady d (place_at n p j)
  steadies j h = subst (Steady d) (set-in-at n p t j h) ((guard-worth n k d want p t f c).guarded.steady j (inside j h))

  -- one ring v of the set, and u, the reading or its reversal, which differs from v at no more than x places after i turns: where it comes as near as e, it does so by i turns
  module _ (x : ℕ) (small : x + e < d) (u : List ℕ) (long-u : length u ≡ n) (j i : ℕ) (h : j < t) (l : i < n) (near : differing (turn i u) (place_at n p j) ≤ x) where
    pub close : apart u (place_at n p j) ≤ x
    close = turn_near u (place_at n p j) i x (omega arith) near

    turned_right : apart u (place_at n p j) ≤ e → (nearest_turn u (place_at n p j) ≡ i) × (apart u (place_at n p j) ≡ differing (turn i u) (place_at n p j))
    turned_right m =
        let q = nearest-is d x e u (place_at n p j) (long-u ∙ sym (size j h)) (steadies j h) small m i (omega arith) near in
        (q, sym (nearest-at u (place_at n p j) (omega arith)) ∙ ap (λ (y : ℕ). differing (turn y u) (place_at n p j)) q)

  -- ---- from the front

  -- with x misread, where x and e together are below d: that ring, from the front and turned as it was, or Unknown
  pub front-missed : (x : ℕ) → x + e < d → (j i : ℕ) → j < t → i < n → differing (turn i r) (place_at n p j) ≤ x → OrUnknown a
      (Ok (Front j i (differing (turn i r) (place_at n p j))))
  front-missed x small j i h l near =
      go (front-or-none rs r k e d x passed guards small a s j (within j h) (rw (ring j h) (close x small r read.long j i h l near)))
    where
      go : OrUnknown a (Ok (Front j (nearest_turn r (ring_at (length r) rs j)) (apart r (ring_at (length r) rs j)))) → OrUnknown a (Ok (Front j i (differing (turn i r) (place_at n p j))))
      go (missed q) = missed q
      go (told q) =
          let m = (front-means rs r k e j _ _ (subst (SightSays rs r k e) q s)).1 in
          let w = turned_right x small r read.long j i h l near (rw (ring j h) at m) in
          told (q ∙ rw (ring j h, w.0, w.1) refl)

  -- ---- from behind

  pub back-missed : (x : ℕ) → x + e < d → (j i : ℕ) → j < t → i < n → differing (turn i (reverse r)) (place_at n p j) ≤ x → OrUnknown a
      (Ok (Back j i (differing (turn i (reverse r)) (place_at n p j))))
  back-missed x small j i h l near =
      go (back-or-none rs r k e d x passed guards small a s j (within j h) (rw (ring j h) (omega (arith, other, close x small (reverse r) back_long j i h l near))))
    where
      back_long : length (reverse r) ≡ n
      back_long = length-reverse r ∙ read.long

      other : apart r (mirrored (place_at n p j)) ≡ apart (reverse r) (place_at n p j)
      other = other-side r (place_at n p j) (omega (arith, read.long)) (read.long ∙ sym (size j h))

      go : OrUnknown a (Ok (Back j (nearest_turn (reverse r) (ring_at (length r) rs j)) (apart r (mirrored (ring_at (length r) rs j))))) → OrUnknown a
          (Ok (Back j i (differing (turn i (reverse r)) (place_at n p j))))
      go (missed q) = missed q
      go (told q) =
          let m = (back-means rs r k e j _ _ (subst (SightSays rs r k e) q s)).1 in
          let w = turned_right x small (reverse r) back_long j i h l near (omega (arith, other, rw (ring j h) at m)) in
          told (q ∙ rw (ring j h, other, w.0, w.1) refl)

  -- ---- where no more are misread than are looked for, and 2 e is below d

  -- it is not Unknown
  pub seen : (b : Result Sighting Refusal) → (a ≡ Ok Unknown → ⊥) → OrUnknown a b → a ≡ b
  seen b no_one (told q) = q
  seen b no_one (missed q) = absurd (no_one q)

  module _ (small : 2 * e < d) where
    pub sighted-back : (j i : ℕ) → j < t → i < n → differing (turn i (reverse r)) (place_at n p j) ≤ e → a ≡ Ok (Back j i (differing (turn i (reverse r)) (place_at n p j)))
    sighted-back j i h l near =
        seen (Ok (Back j i (differing (turn i (reverse r)) (place_at n p j)))) (λ q. not-unknown (subst (SightSays rs r k e) q s)) (back-missed e (omega arith) j i h l near)
      where
        not-unknown : SightSays rs r k e (Ok Unknown) → ⊥
        not-unknown u =
            let z = other-side r (place_at n p j) (omega (arith, read.long)) (read.long ∙ sym (size j h)) in
            back-seen-not rs r k e j u (within j h) (rw (ring j h) (omega (arith, z, close e (omega arith) (reverse r) (length-reverse r ∙ read.long) j i h l near)))

    -- never several
    pub sighted-once : a ≡ Ok Several → ⊥
    sighted-once = never-several rs r k e d passed guards small a s
