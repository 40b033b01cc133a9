-- Each sector shows its own shade.
--     reach-same, reach-other, reach-le    a run, sector by sector
--     on-arc, off-arc                      which places an arc's dash covers, where places are counted on past the top
--     seen-from                            the arcs of what is left of a ring
--     shown-sector                         at each place of sector i, the shade of sector i
use Rattle.words.proofs.Plain.{ℕ, zero, suc, ◌+◌, ◌-◌, ◌*◌, ◌%◌, ◌<◌, ◌≤◌, arith, ◌≡◌, refl, sym, ap, ◌∙◌, ◌⊎◌, inl, inr, Bool, true, false, not, ◌&&◌, ◌||◌}
use Rattle.words.proofs.Plain.{List, [], ◌∷◌, ltb, eqb, length, get_or, lt-ltb, le-ltb, ltb-true, ltb-false, eq-eqb, ne_eqb, eqb-true, eqb-false}
use native.Mathlib.Nat.{mod-eq_of_lt, add-mod_left}
use Rattle.words.specs.Turn.{turn}
use Rattle.words.proofs.Split.{passes, fails, test, lt, eq, gt, tri, either_left, either-right}
use Rattle.words.proofs.Turn.{length-turn, turn_low, turn-high}
use Rattle.picture_spec.specs.Arcs.{reach, Arc, arcs_from, first_run, arcs}
use Rattle.picture_laws.specs.Seen.{within, on, seen, shown_at}

-- ---- runs

pub reach-same : (s t : ℕ) (w : List ℕ) → t ≡ s → reach s (t ∷ w) ≡ suc (reach s w)
unfolding reach
reach-same s t w e = rw (eq-eqb t s e, reach) refl

pub reach-other : (s t : ℕ) (w : List ℕ) → (t ≡ s → ⊥) → reach s (t ∷ w) ≡ 0
unfolding reach
reach-other s t w e = rw (ne_eqb t s e, reach) refl

pub reach-le : (s : ℕ) (w : List ℕ) → reach s w ≤ length w
unfolding reach
reach-le s [] = omega arith
reach-le s (t ∷ w) = elim (test (eqb t s)) [ passes e ↦ rw (e, reach) (omega (arith, reach-le s w)) | fails e ↦ rw (e, reach) (omega arith) ]

arcs-same : (p i s : ℕ) (w : List ℕ) → s ≡ p → arcs_from p i (s ∷ w) ≡ arcs_from s (suc i) w
unfolding arcs_from
arcs-same p i s w e = rw (eq-eqb s p e, arcs_from) refl

arcs-other : (p i s : ℕ) (w : List ℕ) → (s ≡ p → ⊥) → arcs_from p i (s ∷ w) ≡ record { from = i; long = suc (reach s w); shade = s } ∷ arcs_from s (suc i) w
unfolding arcs_from
arcs-other p i s w e = rw (ne_eqb s p e, arcs_from) refl

-- ---- places

inside : (s d u : ℕ) → s ≤ u → u < s + d → within s d u ≡ true
unfolding within
inside s d u p q = rw (le-ltb u s p, lt-ltb u (s + d) q) refl

ahead : (s d u : ℕ) → u < s → within s d u ≡ false
unfolding within
ahead s d u p = rw (lt-ltb u s p) refl

behind : (s d u : ℕ) → s ≤ u → s + d ≤ u → within s d u ≡ false
unfolding within
behind s d u p q = rw (le-ltb u s p, le-ltb u (s + d) q) refl

outside : (s d u : ℕ) → (u < s) ⊎ (s + d ≤ u) → within s d u ≡ false
outside s d u (inl h) = ahead s d u h
outside s d u (inr h) = behind s d u (omega arith) h

-- j, counted on past the top of a ring of n, is place t
pub data Past (n j t : ℕ) : Type 0 where
  short : j ≡ t → Past n j t
  past : j ≡ n + t → Past n j t

around : (n j : ℕ) → j < n + n → Past n j (j % n)
around n j h =
    elim (tri j n) [
      | lt l ↦ short (sym (mod-eq_of_lt l))
      | eq e ↦ past (high (omega arith))
      | gt l ↦ past (high (omega arith))
    ]
  where
    high : n ≤ j → j ≡ n + j % n
    high l =
        let e : j ≡ n + (j - n) = omega arith in
        let q : j - n < n = omega arith in
        let m : j % n ≡ j - n = ap (λ (x : ℕ). x % n) e ∙ add-mod_left n (j - n) ∙ mod-eq_of_lt q in
        omega (arith, m)

-- ---- arcs

-- Sector i of n has the place u; it is sector c where places are counted on from o past the top. An arc of d sectors from j on lies within the ring so counted, and
-- its dash begins with sector t.
module _ (n o i u c : ℕ) (oz : o ≤ n) (iu : 710 * i ≤ u) (ui : u < 710 * (i + 1)) (il : i < n) (oc : o ≤ c) (co : c < o + n) where
  module _ (j d t : ℕ) (oj : o ≤ j) (jd : j + d ≤ o + n) where
    covered : Past n c i → Past n j t → j ≤ c → c < j + d → (within (710 * t) (710 * d) u || within (710 * t) (710 * d) (710 * n + u)) ≡ true
    covered (short e) (short f) p q = either_left _ _ (inside (710 * t) (710 * d) u (omega arith) (omega arith))
    covered (past e) (past f) p q = either_left _ _ (inside (710 * t) (710 * d) u (omega arith) (omega arith))
    covered (short e) (past f) p q = absurd (omega arith)
    covered (past e) (short f) p q =
        either-right (within (710 * t) (710 * d) u) (within (710 * t) (710 * d) (710 * n + u)) (inside (710 * t) (710 * d) (710 * n + u) (omega arith) (omega arith))

    neither : (u < 710 * t) ⊎ (710 * t + 710 * d ≤ u) → (710 * n + u < 710 * t) ⊎ (710 * t + 710 * d ≤ 710 * n + u) →
        (within (710 * t) (710 * d) u || within (710 * t) (710 * d) (710 * n + u)) ≡ false
    neither p q = rw (outside (710 * t) (710 * d) u p, outside (710 * t) (710 * d) (710 * n + u) q) refl

    bare : Past n c i → Past n j t → (c < j) ⊎ (j + d ≤ c) → (within (710 * t) (710 * d) u || within (710 * t) (710 * d) (710 * n + u)) ≡ false
    bare (short e) (short f) (inl h) = neither (inl (omega arith)) (inr (omega arith))
    bare (short e) (short f) (inr h) = neither (inr (omega arith)) (inr (omega arith))
    bare (short e) (past f) h = neither (inr (omega arith)) (inr (omega arith))
    bare (past e) (short f) (inl h) = neither (inl (omega arith)) (inl (omega arith))
    bare (past e) (short f) (inr h) = neither (inl (omega arith)) (inr (omega arith))
    bare (past e) (past f) (inl h) = neither (inl (omega arith)) (inr (omega arith))
    bare (past e) (past f) (inr h) = neither (inr (omega arith)) (inr (omega arith))

  module _ (ci : Past n c i) where
    -- an arc's dash is painted over sector c, or leaves it
    paint : (j d s : ℕ) (ys : List Arc) (z : ℕ) → o ≤ j → j + d ≤ o + n → j ≤ c → c < j + d → seen n z (record { from = j; long = d; shade = s } ∷ ys) u ≡ seen n s ys u
    unfolding seen on
    paint j d s ys z oj jd p q = rw (covered j d (j % n) oj jd ci (around n j (omega arith)) p q, seen) refl

    leave : (j d s : ℕ) (ys : List Arc) (z : ℕ) → o ≤ j → j + d ≤ o + n → j < n + n → (c < j) ⊎ (j + d ≤ c) → seen n z (record { from = j; long = d; shade = s } ∷ ys) u ≡ seen n z ys u
    unfolding seen on
    leave j d s ys z oj jd jn h = rw (bare j d (j % n) oj jd ci (around n j jn) h, seen) refl

    -- sectors further on do not paint over it
    seen-before : (p j z : ℕ) (w : List ℕ) → o ≤ j → j + length w ≡ o + n → c < j → seen n z (arcs_from p j w) u ≡ z
    unfolding arcs_from seen
    seen-before p j z [] oj e h = refl
    seen-before p j z (s ∷ w) oj e h =
        elim (test (eqb s p)) [
          | passes q ↦ rw (arcs-same p j s w (eqb-true s p q)) (seen-before s (suc j) z w (omega arith) (omega arith) (omega arith))
          | fails q ↦
              rw (arcs-other p j s w (eqb-false s p q))
              (leave j (suc (reach s w)) s (arcs_from s (suc j) w) z oj (omega (arith, reach-le s w)) (omega arith) (inl h) ∙ seen-before s (suc j) z w (omega arith) (omega arith) (omega arith))
        ]

    -- the sectors w from j on, behind a sector of shade p whose arc has painted those that it reaches
    seen-from : (p j z : ℕ) (w : List ℕ) (m : ℕ) → o ≤ j → j + length w ≡ o + n → j + m ≡ c → m < length w → (m < reach p w → z ≡ p) → seen n z (arcs_from p j w) u ≡ get_or w m 0
    seen-from p j z [] m oj e f l g = absurd (omega arith)
    seen-from p j z (s ∷ w) zero oj e f l g =
        elim (test (eqb s p)) [
          | passes q ↦
              let x = eqb-true s p q in
              rw (arcs-same p j s w x) (seen-before s (suc j) z w (omega arith) (omega arith) (omega arith) ∙ g (omega (arith, reach-same p s w x)) ∙ sym x)
          | fails q ↦
              rw (arcs-other p j s w (eqb-false s p q))
              (paint j (suc (reach s w)) s (arcs_from s (suc j) w) z oj (omega (arith, reach-le s w)) (omega arith) (omega arith)
              ∙ seen-before s (suc j) s w (omega arith) (omega arith) (omega arith))
        ]
    seen-from p j z (s ∷ w) (suc m) oj e f l g =
        elim (test (eqb s p)) [
          | passes q ↦
              let x = eqb-true s p q in
              rw (arcs-same p j s w x)
              (seen-from s (suc j) z w m (omega arith) (omega arith) (omega arith) (omega arith) (λ h. g (omega (arith, reach-same p s w x, ap (λ (y : ℕ). reach y w) x)) ∙ sym x))
          | fails q ↦
              rw (arcs-other p j s w (eqb-false s p q)) (elim (test (ltb m (reach s w))) [
                | passes x ↦
                    let h = ltb-true m (reach s w) x in
                    paint j (suc (reach s w)) s (arcs_from s (suc j) w) z oj (omega (arith, reach-le s w)) (omega arith) (omega arith)
                    ∙ seen-from s (suc j) s w m (omega arith) (omega arith) (omega arith) (omega arith) (λ y. refl)
                | fails x ↦
                    let h = ltb-false m (reach s w) x in
                    leave j (suc (reach s w)) s (arcs_from s (suc j) w) z oj (omega (arith, reach-le s w)) (omega arith) (inr (omega arith))
                    ∙ seen-from s (suc j) z w m (omega arith) (omega arith) (omega arith) (omega arith) (λ y. absurd (omega arith))
              ])
        ]

-- ---- the ring

-- the first run is some sectors long, and no longer than the ring
pub first_run_lem : (w : List ℕ) → 0 < length w → (0 < first_run w) × (first_run w ≤ length w)
unfolding first_run
first_run_lem [] z = absurd (omega arith)
first_run_lem (a ∷ w) z = (omega (arith, reach-same a a w refl), reach-le a (a ∷ w))

-- at each place of sector i the picture shows the shade of sector i
pub shown-sector : (w : List ℕ) (i u : ℕ) → i < length w → 710 * i ≤ u → u < 710 * (i + 1) → shown_at w u ≡ get_or w i 0
unfolding shown_at arcs
shown-sector w i u l p q = elim (test (ltb i o)) [ passes x ↦ far (ltb-true i o x) | fails x ↦ near (ltb-false i o x) ]
  where
    o : ℕ
    o = first_run w

    some : 0 < o
    some = (first_run_lem w (omega arith)).0

    most : o ≤ length w
    most = (first_run_lem w (omega arith)).1

    v : List ℕ
    v = turn o w

    long : length v ≡ length w
    long = length-turn o w most

    from : (c m : ℕ) → o ≤ c → c < o + length w → Past (length w) c i → o + m ≡ c → seen (length w) 16 (arcs_from 16 o v) u ≡ get_or v m 0
    from c m oc co r e =
        seen-from (length w) o i u c most p q l oc co r 16 o 16 v m (omega arith) (omega (arith, long)) e (omega (arith, long)) (λ y. refl)

    near : o ≤ i → seen (length w) 16 (arcs_from 16 o v) u ≡ get_or w i 0
    near h = from i (i - o) h (omega (arith, some)) (short refl) (omega arith) ∙ turn_low o w (i - o) i (omega arith) l

    far : i < o → seen (length w) 16 (arcs_from 16 o v) u ≡ get_or w i 0
    far h = from (length w + i) (length w - o + i) (omega (arith, most)) (omega (arith, h)) (past refl) (omega (arith, most)) ∙ turn-high o w most (length w - o + i) i (omega
        (arith, most)) (omega (arith, h, most))
