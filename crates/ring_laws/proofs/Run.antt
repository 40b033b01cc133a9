-- Prenecklaces and Lyndon words as sequences, and the fundamental theorem (000, Theorem 2.1).
--     Pre, Lyn, Run             specs/Run, passed on
--     same, greater, smaller    the fundamental theorem: what a further sector does to a Run
--     run-pre, has-run          a Run is a prenecklace, and a prenecklace of at least one sector is a Run
--     longest, run-one          no longer beginning is Lyndon, so p is unique
use Rattle.words.proofs.Plain.{ℕ, zero, suc, ◌+◌, ◌-◌, ◌<◌, ◌≤◌, arith, ◌≡◌, refl, sym, ◌∙◌}
use Rattle.words.proofs.Split.{lt, eq, gt, tri}
use Rattle.words.proofs.Sequence.{from, Less, place, widen, less-asym}
pub use Rattle.ring_laws.specs.Run.{Pre, Lyn, Run}

module _ (a : ℕ → ℕ) where
  -- a Lyndon word is its own run
  pub lyn-self : (n : ℕ) → 0 < n → Lyn a n → Run a n n
  lyn-self n z l = record { pos = z; fits = omega arith; again = λ i j e h. absurd (omega arith); lyn = l }

  -- one sector alone is Lyndon
  pub lyn-one : Lyn a 1
  lyn-one i z h = absurd (omega arith)

  pub pre-shorter : (n m : ℕ) → m ≤ n → Pre a n → Pre a m
  pre-shorter n m h pre i l = pre i (widen (from i a) a (m - i) (n - i) (omega arith) l)

  pub run-shorter : (n m p : ℕ) → p ≤ m → m ≤ n → Run a n p → Run a m p
  run-shorter n m p h l r = record { pos = r.pos; fits = h; again = λ i j e b. r.again i j e (omega arith); lyn = r.lyn }

  -- ---- the fundamental theorem (000, Theorem 2.1)

  -- the sector that goes on with the repetition leaves lyn as it is
  pub same : (n p : ℕ) → Run a n p → a n ≡ a (n - p) → Run a (suc n) p
  same n p r e =
      record {
        pos = r.pos;
        fits = omega (arith, r.fits);
        again = λ i j q h. elim (tri i n) [ lt l ↦ r.again i j q l | eq l ↦ place a i n l ∙ e ∙ place a (n - p) j (omega arith) | gt l ↦ absurd (omega arith) ];
        lyn = r.lyn;
      }

  -- a smaller sector makes an ending fall below the beginning
  pub smaller : (n p : ℕ) → Run a n p → a n < a (n - p) → Less (from p a) a (suc n - p)
  smaller n p r h =
      record {
        at = n - p;
        bound = omega (arith, r.fits);
        agree = λ m l. r.again (p + m) m refl (omega arith);
        less = omega (arith, h, place a (p + (n - p)) n (omega (arith, r.fits)));
      }

  -- a greater sector makes the whole a Lyndon word
  pub greater : (n p : ℕ) → Run a n p → a (n - p) < a n → Lyn a (suc n)
  greater n p r h i z l = go (suc i) i (omega arith) z l
    where
      shifted : (i : ℕ) → p < i → i < suc n → Less a (from (i - p) a) (suc n - (i - p)) → Less a (from i a) (suc n - i)
      shifted i q l w =
          elim (tri (i + w.at) n) [
            | lt e ↦ record {
              at = w.at;
              bound = omega arith;
              agree = λ m b. w.agree m b ∙ sym
                  (r.again (i + m) (i - p + m) (omega arith) (omega arith));
              less = omega
                  (arith, w.less, r.again (i + w.at) (i - p + w.at) (omega arith) e);
            }
            | eq e ↦ past (omega arith)
            | gt e ↦ past (omega arith)
          ]
        where
          top : n ≤ i + w.at → a (n - i) ≤ a (i - p + (n - i))
          top e = elim (tri (n - i) w.at) [
            | lt b ↦ omega (arith, w.agree (n - i) b)
            | eq b ↦ omega
                (arith, w.less, place a (n - i) w.at b, place a (i - p + (n - i)) (i - p + w.at) (omega arith))
            | gt b ↦ absurd (omega arith)
          ]

          past : n ≤ i + w.at → Less a (from i a) (suc n - i)
          past e =
              record {
                at = n - i;
                bound = omega arith;
                agree = λ m b. w.agree m (omega arith) ∙ sym (r.again (i + m) (i - p + m) (omega arith) (omega arith));
                less = omega (arith, top e, h, place a (i - p + (n - i)) (n - p) (omega (arith, r.fits)), place a (i + (n - i)) n (omega arith));
              }

      go : (f i : ℕ) → i < f → 0 < i → i < suc n → Less a (from i a) (suc n - i)
      go zero i b z l = absurd (omega arith)
      go (suc f) i b z l =
          elim (tri i p) [
            | lt e ↦ widen a (from i a) (p - i) (suc n - i) (omega (arith, r.fits)) (r.lyn i z e)
            | eq e ↦ record { at = n - p; bound = omega arith; agree = λ m q. sym (r.again (i + m) m (omega arith) (omega arith)); less = omega (arith, h, place a (i + (n - p)) n (omega arith)) }
            | gt e ↦ shifted i e l (go f (i - p) (omega (arith, r.pos)) (omega arith) (omega arith))
          ]

  -- ---- runs and prenecklaces

  pub run-pre : (n p : ℕ) → Run a n p → Pre a n
  run-pre n p r i l = go (suc i) i (omega arith) l
    where
      go : (f i : ℕ) → i < f → Less (from i a) a (n - i) → ⊥
      go zero i b l = omega arith
      go (suc f) i b l =
          elim (tri i p) [
            | lt e ↦ elim (tri 0 i) [
              | lt z ↦ less-asym (from i a) a (n - i) l
                  (widen a (from i a) (p - i) (n - i) (omega (arith, r.fits)) (r.lyn i z e))
              | eq z ↦ omega
                  (arith, l.less, place a (i + l.at) l.at (omega arith))
              | gt z ↦ omega arith
            ]
            | eq e ↦ omega (arith, l.less, r.again (i + l.at) l.at (omega arith) (omega (arith, l.bound)))
            | gt e ↦ go f (i - p) (omega (arith, r.pos)) (back i e l)
          ]
        where
          back : (i : ℕ) → p < i → Less (from i a) a (n - i) → Less (from (i - p) a) a (n - (i - p))
          back i e l =
              record {
                at = l.at;
                bound = omega (arith, l.bound);
                agree = λ m b. sym (r.again (i + m) (i - p + m) (omega arith) (omega (arith, l.bound))) ∙ l.agree m b;
                less = omega (arith, l.less, r.again (i + l.at) (i - p + l.at) (omega arith) (omega (arith, l.bound)));
              }

  pub has-run : (n : ℕ) → 0 < n → Pre a n → (p : ℕ) × Run a n p
  has-run zero z pre = absurd (omega arith)
  has-run (suc zero) z pre = (1, lyn-self 1 (omega arith) lyn-one)
  has-run (suc (suc n)) z pre = grow (has-run (suc n) (omega arith) (pre-shorter (suc (suc n)) (suc n) (omega arith) pre))
    where
      grow : (p : ℕ) × Run a (suc n) p → (p : ℕ) × Run a (suc (suc n)) p
      grow (p, r) =
          elim (tri (a (suc n)) (a (suc n - p))) [
            | lt e ↦ absurd (pre p (smaller (suc n) p r e))
            | eq e ↦ (p, same (suc n) p r e)
            | gt e ↦ (suc (suc n), lyn-self (suc (suc n)) (omega arith) (greater (suc n) p r e))
          ]

  -- no longer beginning of a run is Lyndon
  pub longest : (n p q : ℕ) → Run a n p → p < q → q ≤ n → Lyn a q → ⊥
  longest n p q r h l s =
      let d = s p r.pos h in
      omega (arith, d.less, r.again (p + d.at) d.at refl (omega (arith, d.bound)))

  pub run-one : (n p q : ℕ) → Run a n p → Run a n q → p ≡ q
  run-one n p q r s = elim (tri p q) [ lt e ↦ absurd (longest n p q r e s.fits s.lyn) | eq e ↦ e | gt e ↦ absurd (longest n q p s e r.fits r.lyn) ]

-- ---- the same seen through an equal sequence

module _ (a b : ℕ → ℕ) where
  pub lyn-through : (n : ℕ) → ((m : ℕ) → m < n → a m ≡ b m) → Lyn a n → Lyn b n
  lyn-through n e l i z h =
      let d = l i z h in
      record {
        at = d.at;
        bound = d.bound;
        agree = λ m q. sym (e m (omega (arith, d.bound))) ∙ d.agree m q ∙ e (i + m) (omega (arith, d.bound));
        less = omega (arith, d.less, e d.at (omega (arith, d.bound)), e (i + d.at) (omega (arith, d.bound)));
      }

  pub run-through : (n p : ℕ) → ((m : ℕ) → m < n → a m ≡ b m) → Run a n p → Run b n p
  run-through n p e r =
      record {
        pos = r.pos;
        fits = r.fits;
        again = λ i j q h. sym (e i h) ∙ r.again i j q h ∙ e j (omega (arith, r.pos));
        lyn = lyn-through p (λ m h. e m (omega (arith, r.fits))) r.lyn;
      }

  pub pre-through : (n : ℕ) → ((m : ℕ) → m < n → a m ≡ b m) → Pre a n → Pre b n
  pre-through n e pre i l =
      pre i (record {
        at = l.at;
        bound = l.bound;
        agree = λ m q. e (i + m) (omega (arith, l.bound)) ∙ l.agree m q ∙ sym (e m (omega (arith, l.bound)));
        less = omega (arith, l.less, e l.at (omega (arith, l.bound)), e (i + l.at) (omega (arith, l.bound)));
      })
