-- Shade counts and how far apart two readings are. A sector that is changed is one more of one shade and one less of another, and a turn changes no count: so two readings
-- are at least as far apart as the one has more of each shade than the other, summed over the shades. Where that is enough, no turn need be looked at.
--     surplus k f g                            how many more f has of the shades below k than g: of each shade, 0 where g has as many
--     occurs-turn, occurs-home,
--     occurs-reverse, occurs-mirrored          a turn, the home reading and the mirror image have the counts of the reading
--     surplus-cong                             it depends on the counts alone
--     surplus-differing, surplus-apart         it is a lower bound of how many places two readings differ at, and of how far apart they are
use Rattle.words.proofs.Plain.{ℕ, zero, suc, ◌+◌, ◌-◌, ◌<◌, ◌≤◌, arith, ◌≡◌, refl, sym, ap, ◌∙◌, true, false, not, List, [], ◌∷◌, ◌++◌, reverse, reverse-cons}
use Rattle.words.proofs.Plain.{eqb, ltb, length, take, drop, take-append-drop, length-reverse, lt-ltb, le-ltb, eq-eqb, ne_eqb, eqb-true}
use Rattle.words.specs.{Turn.turn, Readings.bit}
use Rattle.words.proofs.Split.{passes, fails, test, lt, eq, gt, tri}
use Rattle.words.proofs.Turn.{length-turn}
use Rattle.rings.specs.{Home.home, Home.shift, Counts.occurs}
use Rattle.rings.specs.Alike.{differing, apart, mirrored}
unfoldable pub use Rattle.ring_home_laws.specs.Counts.{surplus}
use Rattle.ring_home_laws.proofs.{Home.home-turn-of, Home.shift-lt, Alike.differing-le, Alike.apart-at}

-- ---- what keeps the counts

-- words joined have the counts of both
occurs-append : (b : ℕ) (v w : List ℕ) → occurs b (v ++ w) ≡ occurs b v + occurs b w
unfolding occurs
occurs-append b [] w = omega arith
occurs-append b (a ∷ v) w = omega (arith, occurs-append b v w)

-- a turn has the counts of the reading
pub occurs-turn : (b i : ℕ) (w : List ℕ) → occurs b (turn i w) ≡ occurs b w
unfolding turn
occurs-turn b i w = omega (arith, occurs-append b (drop i w) (take i w), occurs-append b (take i w) (drop i w), ap (occurs b) (take-append-drop i w))

-- so has the home reading
pub occurs-home : (b : ℕ) (w : List ℕ) → occurs b (home w) ≡ occurs b w
occurs-home b w = ap (occurs b) (home-turn-of w) ∙ occurs-turn b (shift w) w

-- so has the reading from its end
pub occurs-reverse : (b : ℕ) (w : List ℕ) → occurs b (reverse w) ≡ occurs b w
unfolding occurs
occurs-reverse b [] = refl
occurs-reverse b (a ∷ w) = rw reverse-cons (omega (arith, occurs-append b (reverse w) (a ∷ []), occurs-reverse b w))

-- so has the ring seen from the other side
pub occurs-mirrored : (b : ℕ) (w : List ℕ) → occurs b (mirrored w) ≡ occurs b w
unfolding mirrored
occurs-mirrored b w = occurs-home b (reverse w) ∙ occurs-reverse b w

-- ---- the lower bound

-- equal counts have one surplus
pub surplus-cong : (k : ℕ) (f g p q : ℕ → ℕ) → ((b : ℕ) → b < k → f b ≡ p b) → ((b : ℕ) → b < k → g b ≡ q b) → surplus k f g ≡ surplus k p q
unfolding surplus
surplus-cong zero f g p q e h = refl
surplus-cong (suc k) f g p q e h =
    omega (arith, surplus-cong k f g p q (λ b l. e b (omega arith)) (λ b l. h b (omega arith)), e k (omega arith), h k (omega arith))

-- of counts that are equal there is none
surplus-none : (k : ℕ) (f : ℕ → ℕ) → surplus k f f ≡ 0
unfolding surplus
surplus-none zero f = refl
surplus-none (suc k) f = omega (arith, surplus-none k f)

-- of two sums there is no more than of their parts together
surplus-plus : (k : ℕ) (f g p q : ℕ → ℕ) → surplus k (λ b. p b + f b) (λ b. q b + g b) ≤ surplus k p q + surplus k f g
unfolding surplus
surplus-plus zero f g p q = omega arith
surplus-plus (suc k) f g p q = omega (arith, surplus-plus k f g p q)

-- a number below suc k is below k, or it is k
next-shade : (k a : ℕ) → bit (ltb a (suc k)) ≡ bit (ltb a k) + bit (eqb a k)
next-shade k a =
    elim (tri a k) [
      | lt h ↦ rw (lt-ltb a (suc k) (omega arith), lt-ltb a k h, ne_eqb a k (λ e. omega arith)) refl
      | eq h ↦ rw (lt-ltb a (suc k) (omega arith), le-ltb a k (omega arith), eq-eqb a k h) refl
      | gt h ↦ rw (le-ltb a (suc k) (omega arith), le-ltb a k (omega arith), ne_eqb a k (λ e. omega arith)) refl
    ]

-- of one sector there is at most one, and that only where its shade is below k
surplus-one : (k a : ℕ) (g : ℕ → ℕ) → surplus k (λ b. bit (eqb a b)) g ≤ bit (ltb a k)
unfolding surplus
surplus-one zero a g = omega arith
surplus-one (suc k) a g = omega (arith, next-shade k a, surplus-one k a g)

-- of two sectors there is at most one, and none where they are the same
surplus-sector : (k a b : ℕ) → surplus k (λ s. bit (eqb a s)) (λ s. bit (eqb b s)) ≤ bit (not (eqb a b))
surplus-sector k a b =
    elim (test (eqb a b)) [
      | passes e ↦ rw (e, eqb-true a b e) (omega (arith, surplus-none k (λ s. bit (eqb b s))))
      | fails e ↦ rw e (elim (test (ltb a k)) [ passes l ↦ rw l at (surplus-one k a (λ s. bit (eqb b s))) | fails l ↦ let s = rw l at (surplus-one k a (λ s. bit (eqb b s))) in omega arith ])
    ]

-- two readings differ at as many places at least
pub surplus-differing : (k : ℕ) (v w : List ℕ) → length v ≡ length w → surplus k (λ b. occurs b v) (λ b. occurs b w) ≤ differing v w
unfolding differing occurs
surplus-differing k [] [] e = omega (arith, surplus-none k (λ b. 0))
surplus-differing k [] (b ∷ w) e = absurd (omega arith)
surplus-differing k (a ∷ v) [] e = absurd (omega arith)
surplus-differing k (a ∷ v) (b ∷ w) e =
    omega (arith, surplus-plus k (λ s. occurs s v) (λ s. occurs s w) (λ s. bit (eqb a s)) (λ s. bit (eqb b s)), surplus-sector k a b, surplus-differing k v w (omega arith))

-- and are as far apart at least
pub surplus-apart : (k : ℕ) (v w : List ℕ) → length v ≡ length w → surplus k (λ b. occurs b v) (λ b. occurs b w) ≤ apart v w
surplus-apart k v w e = elim (tri 0 (length v)) [ lt z ↦ at (apart-at v w z) | eq z ↦ omega (arith, surplus-differing k v w e, differing-le v w) | gt z ↦ absurd (omega arith) ]
  where
    at : (i : ℕ) × (i < length v) × (differing (turn i v) w ≡ apart v w) → surplus k (λ b. occurs b v) (λ b. occurs b w) ≤ apart v w
    at (i, l, d) =
        let s = surplus-differing k (turn i v) w (length-turn i v (omega arith) ∙ e) in
        omega (arith, d, s, surplus-cong k (λ b. occurs b v) (λ b. occurs b w) (λ b. occurs b (turn i v)) (λ b. occurs b w) (λ b h. sym (occurs-turn b i v)) (λ b h. refl))
