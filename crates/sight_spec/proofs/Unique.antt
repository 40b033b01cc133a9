-- No two different answers satisfy the contract of a sighting.
--     one-alone, alone-two    one that is alone is the only one, and there are not two
--     one-seen, one-sight     one thing is seen, and the call has one answer
use Rattle.std.specs.Prelude.{Result, Ok, Err}
use Rattle.words.proofs.Plain.{ℕ, ◌+◌, arith, ◌≡◌, refl, ap, List, length}
use Rattle.words.proofs.Split.{lt, eq, gt, tri}
use Rattle.refusal.specs.declared.Refusal.{Refusal}
use Rattle.refusal.proofs.Unique.{one-refusal, never_both}
use Rattle.guard_spec.specs.Sides.{sides}
use Rattle.sight_spec.specs.{declared.Sighting.Sighting, Rings.rings_in, Rings.sight_order}
use Rattle.sight_spec.specs.declared.Sighting.TheVariants.{Front, Back, Several, Unknown}
use Rattle.sight_spec.specs.Says.{Alone, Two, None, SeenFront, SeenBack, Seen, SightSays}

-- ---- among any readings

module _ (e : ℕ) (us : List (List ℕ)) (r : List ℕ) where
  -- there is one alone at most
  pub one-alone : (i j : ℕ) → Alone e us r i → Alone e us r j → i ≡ j
  one-alone i j a b =
      elim (tri i j) [
        | lt l ↦ absurd (omega (arith, a.near, b.others i a.inside (λ q. omega arith)))
        | eq l ↦ l
        | gt l ↦ absurd (omega (arith, a.near, b.others i a.inside (λ q. omega arith)))
      ]

  -- and then there are not two
  pub alone-two : (j : ℕ) → Alone e us r j → Two e us r → ⊥
  alone-two j a t =
      elim (tri t.one j) [
        | lt l ↦ omega (arith, t.near, t.order, t.inside, a.others t.one (omega (arith, t.order, t.inside)) (λ q. omega arith))
        | eq l ↦ omega (arith, t.also-near, a.others t.two t.inside (λ q. omega (arith, t.order)))
        | gt l ↦ omega (arith, t.near, a.others t.one (omega (arith, t.order, t.inside)) (λ q. omega arith))
      ]

  pub alone-none : (j : ℕ) → Alone e us r j → None e us r → ⊥
  alone-none j a f = omega (arith, a.near, f j a.inside)

  pub two_none : Two e us r → None e us r → ⊥
  two_none t f = omega (arith, t.also-near, f t.two t.inside)

-- ---- the answer

module _ (rs r : List ℕ) (k e : ℕ) where
  abbrev ts : List (List ℕ)
  ts = rings_in (length r) rs

  same-front : (t s i j x y : ℕ) → SeenFront rs r e t i x → SeenFront rs r e s j y → Front t i x ≡ Front s j y
  same-front t s i j x y p q = let f = one-alone e (sides ts) r t s p.alone q.alone in cc (f, p.turned, q.turned, p.misread, q.misread)

  same_back : (t s i j x y : ℕ) → SeenBack rs r e t i x → SeenBack rs r e s j y → Back t i x ≡ Back s j y
  same_back t s i j x y p q =
      let g = one-alone e (sides ts) r (length ts + t) (length ts + s) p.alone q.alone in
      let f : t ≡ s = omega arith in
      cc (f, p.turned, q.turned, p.misread, q.misread)

  -- one ring is not seen from both sides, nor one from the front and another from behind
  not-both : (t s i j x y : ℕ) → SeenFront rs r e t i x → SeenBack rs r e s j y → ⊥
  not-both t s i j x y p q = omega (arith, p.target, one-alone e (sides ts) r t (length ts + s) p.alone q.alone)

  -- one thing is seen
  pub one-seen : (a b : Sighting) → Seen rs r e a → Seen rs r e b → a ≡ b
  one-seen (Front t i x) (Front s j y) p q = same-front t s i j x y p q
  one-seen (Front t i x) (Back s j y) p q = absurd (not-both t s i j x y p q)
  one-seen (Front t i x) Several p q = absurd (alone-two e (sides ts) r t p.alone q)
  one-seen (Front t i x) Unknown p q = absurd (alone-none e (sides ts) r t p.alone q)
  one-seen (Back t i x) (Front s j y) p q = absurd (not-both s t j i y x q p)
  one-seen (Back t i x) (Back s j y) p q = same_back t s i j x y p q
  one-seen (Back t i x) Several p q = absurd (alone-two e (sides ts) r (length ts + t) p.alone q)
  one-seen (Back t i x) Unknown p q = absurd (alone-none e (sides ts) r (length ts + t) p.alone q)
  one-seen Several (Front s j y) p q = absurd (alone-two e (sides ts) r s q.alone p)
  one-seen Several (Back s j y) p q = absurd (alone-two e (sides ts) r (length ts + s) q.alone p)
  one-seen Several Several p q = refl
  one-seen Several Unknown p q = absurd (two_none e (sides ts) r p q)
  one-seen Unknown (Front s j y) p q = absurd (alone-none e (sides ts) r s q.alone p)
  one-seen Unknown (Back s j y) p q = absurd (alone-none e (sides ts) r (length ts + s) q.alone p)
  one-seen Unknown Several p q = absurd (two_none e (sides ts) r q p)
  one-seen Unknown Unknown p q = refl

  -- the call has one answer
  pub one-sight : (a b : Result Sighting Refusal) → SightSays rs r k e a → SightSays rs r k e b → a ≡ b
  one-sight (Ok a) (Ok b) p q = ap Ok (one-seen a b p.1 q.1)
  one-sight (Ok a) (Err c) p q = absurd (never_both (sight_order r rs k) c q p.0)
  one-sight (Err c) (Ok a) p q = absurd (never_both (sight_order r rs k) c p q.0)
  one-sight (Err b) (Err c) p q = ap Err (one-refusal (sight_order r rs k) b c p q)
