-- What is near from the front and what is near from behind, put together. r is the reading and b the reading reversed.
--     none_both                      none from either side
--     front-alone, back_alone        one from one side, and none from the other
--     two-front, two_back, two-each  two from the front, two from behind, or one from each
--     many-front, many-behind, one_each, nobody, seen_front, seen_back    the answers, from what the code's two searches say
use Rattle.words.proofs.Plain.{ℕ, ◌+◌, ◌-◌, ◌/◌, ◌<◌, ◌≤◌, arith, ◌≡◌, refl, sym, ap, subst, ◌∙◌, List, [], reverse, length, get_or, length-reverse}
use Rattle.words.proofs.Split.{lt, eq, gt, tri}
use Rattle.rings.specs.Alike.{apart}
use Rattle.guard_spec.specs.Sides.{sides}
use Rattle.guard_laws.proofs.Mirror.{other-side}
use Rattle.guard_laws.proofs.Sides.{Long, length-sides, front_at, back_at}
use Rattle.sight_spec.specs.Rings.{ring_at, rings_in}
use Rattle.sight_spec.specs.Says.{Alone, Two, None, SeenFront, SeenBack}
use Rattle.sight_spec.proofs.Rings.{length-first, ring-length, rings-long}
use Rattle.sight_near_inner.specs.{declared.Near.Near, Says.NearSays}
use Rattle.sight_near_inner.specs.declared.Near.TheVariants.{Nobody, One, Many}
use Rattle.sight_turn_inner.specs.Says.{Turns}

-- ---- readings ts of n sectors, and r

module _ (e n : ℕ) (ts : List (List ℕ)) (r : List ℕ) (z : 0 < n) (size : length r ≡ n) (long : Long n ts) where
  -- from behind a ring is as far as it is from the reading reversed
  behind : (j : ℕ) → j < length ts → apart r (get_or (sides ts) (length ts + j) []) ≡ apart (reverse r) (get_or ts j [])
  behind j h = ap (apart r) (back_at ts j h) ∙ other-side r (get_or ts j []) (omega arith) (size ∙ sym (long j h))

  -- a side is from the front or from behind
  side : {C : Type 0} (i : ℕ) → i < length (sides ts) → (i < length ts → C) → ((j : ℕ) → i ≡ length ts + j → j < length ts → C) → C
  side i h f g =
      elim (tri i (length ts)) [
        | lt l ↦ f l
        | eq l ↦ g (i - length ts) (omega arith) (omega (arith, length-sides ts))
        | gt l ↦ g (i - length ts) (omega arith) (omega (arith, length-sides ts))
      ]

  far-front : None e ts r → (i : ℕ) → i < length ts → e < apart r (get_or (sides ts) i [])
  far-front f i h = rw (front_at ts i h) (f i h)

  far-back : None e ts (reverse r) → (i j : ℕ) → i ≡ length ts + j → j < length ts → e < apart r (get_or (sides ts) i [])
  far-back f i j q h = rw q (omega (arith, behind j h, f j h))

  pub none_both : None e ts r → None e ts (reverse r) → None e (sides ts) r
  none_both f g i h = side i h (far-front f i) (far-back g i)

  pub front-alone : (t : ℕ) → Alone e ts r t → None e ts (reverse r) → Alone e (sides ts) r t
  front-alone t a g =
      record {
        inside = omega (arith, a.inside, length-sides ts);
        near = rw (front_at ts t a.inside) a.near;
        others = λ i h o. side i h (λ l. rw (front_at ts i l) (a.others i l o)) (far-back g i);
      }

  pub back_alone : (t : ℕ) → None e ts r → Alone e ts (reverse r) t → Alone e (sides ts) r (length ts + t)
  back_alone t f a =
      record {
        inside = omega (arith, a.inside, length-sides ts);
        near = omega (arith, behind t a.inside, a.near);
        others = λ i h o. side i h (far-front f i) (λ j q l. rw q (omega (arith, behind j l, a.others j l (λ s. o (omega arith)))));
      }

  pub two-front : Two e ts r → Two e (sides ts) r
  two-front t =
      record {
        one = t.one;
        two = t.two;
        order = t.order;
        inside = omega (arith, t.inside, length-sides ts);
        near = rw (front_at ts t.one (omega (arith, t.order, t.inside))) t.near;
        also-near = rw (front_at ts t.two t.inside) t.also-near;
      }

  pub two_back : Two e ts (reverse r) → Two e (sides ts) r
  two_back t =
      record {
        one = length ts + t.one;
        two = length ts + t.two;
        order = omega (arith, t.order);
        inside = omega (arith, t.inside, length-sides ts);
        near = omega (arith, behind t.one (omega (arith, t.order, t.inside)), t.near);
        also-near = omega (arith, behind t.two t.inside, t.also-near);
      }

  pub two-each : (t s : ℕ) → Alone e ts r t → Alone e ts (reverse r) s → Two e (sides ts) r
  two-each t s a c =
      record {
        one = t;
        two = length ts + s;
        order = omega (arith, a.inside);
        inside = omega (arith, c.inside, length-sides ts);
        near = rw (front_at ts t a.inside) a.near;
        also-near = omega (arith, behind s c.inside, c.near);
      }

-- ---- the code's reading, and its reversal

-- the one that is alone is one of the rings
pub alone-inside : (e n : ℕ) (rs u : List ℕ) (t : ℕ) → Alone e (rings_in n rs) u t → t < length rs / n
alone-inside e n rs u t a = omega (arith, a.inside, length-first n rs (length rs / n))

module _ (e : ℕ) (rs r b : List ℕ) (z : 0 < length r) (q : b ≡ reverse r) where
  abbrev ts : List (List ℕ)
  ts = rings_in (length r) rs

  back-size : length b ≡ length r
  back-size = ap length q ∙ length-reverse r

  pub back_some : 0 < length b
  back_some = rw back-size z

  pub back_fits : length r ≤ 64 → length b ≤ 64
  back_fits h = rw back-size h

  -- what is said of the reversal
  behind-says : (a : Near) → NearSays e (rings_in (length b) rs) b a → NearSays e ts (reverse r) a
  behind-says a s = subst (λ n. NearSays e (rings_in n rs) (reverse r) a) (length-reverse r) (subst (λ x. NearSays e (rings_in (length x) rs) x a) q s)

  pub many-front : NearSays e ts r Many → Two e (sides ts) r
  many-front t = two-front e (length r) ts r z refl (rings-long (length r) rs) t

  pub many-behind : NearSays e (rings_in (length b) rs) b Many → Two e (sides ts) r
  many-behind t = two_back e (length r) ts r z refl (rings-long (length r) rs) (behind-says Many t)

  pub one_each : (t s : ℕ) → NearSays e ts r (One t) → NearSays e (rings_in (length b) rs) b (One s) → Two e (sides ts) r
  one_each t s x y = two-each e (length r) ts r z refl (rings-long (length r) rs) t s x (behind-says (One s) y)

  pub nobody : NearSays e ts r Nobody → NearSays e (rings_in (length b) rs) b Nobody → None e (sides ts) r
  nobody x y = none_both e (length r) ts r z refl (rings-long (length r) rs) x (behind-says Nobody y)

  pub seen_front : (t i x : ℕ) → NearSays e ts r (One t) → NearSays e (rings_in (length b) rs) b Nobody → Turns r (ring_at (length r) rs t) i x → SeenFront rs r e t i x
  seen_front t i x a f u =
      record {
        target = a.inside;
        alone = front-alone e (length r) ts r z refl (rings-long (length r) rs) t a (behind-says Nobody f);
        turned = u.turned;
        misread = u.misread;
      }

  pub seen_back : (t i x : ℕ) → NearSays e ts r Nobody → NearSays e (rings_in (length b) rs) b (One t) → Turns b (ring_at (length b) rs t) i x → SeenBack rs r e t i x
  seen_back t i x f y u =
      let a = behind-says (One t) y in
      let l = alone-inside e (length r) rs (reverse r) t a in
      let o = other-side r (ring_at (length r) rs t) z (sym (ring-length (length r) rs t l)) in
      let v : Turns (reverse r) (ring_at (length r) rs t) i x = subst (λ n. Turns (reverse r) (ring_at n rs t) i x) (length-reverse r) (subst (λ w. Turns w (ring_at (length w) rs t) i x) q u) in
      record {
        target = a.inside;
        alone = back_alone e (length r) ts r z refl (rings-long (length r) rs) t f a;
        turned = v.turned;
        misread = v.misread ∙ sym o;
      }
