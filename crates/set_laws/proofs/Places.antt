-- The 32 places of 24 sectors.
--     laid-length, laid-at, sector-at    768 sectors, the sector at a place, and the sector y of place j
--     laid-zeros                         a set whose sectors are all 0 leaves them all 0
--     place-laid                         the reading in place j is the ring number j
--     length-set-in, set-in-at           the readings in the first t places
--     put-laid                           a ring put at the first free place is one ring more
use Rattle.words.proofs.Plain.{ℕ, zero, suc, ◌+◌, ◌-◌, ◌*◌, ◌/◌, ◌%◌, ◌<◌, ◌≤◌, arith, ◌≡◌, refl, sym, ap, ◌∙◌, List, [], ◌∷◌, ◌++◌, length, get_or, take, drop}
use Rattle.words.proofs.Plain.{replicate, length-append, length-drop, length-replicate, get_or-replicate, List·get_d-append, List·get_d-eq-default, ext_get_or}
use Rattle.words.proofs.Plain.{get_or-take, get_or-drop, get_or-append-add, length-take-le}
use Rattle.words.proofs.Split.{Tri, lt, eq, gt, tri}
use Rattle.words.proofs.Search.{length-tab, get_d-tab}
use Rattle.set_spec.specs.Places.{sector_of, laid, place_at, set_in}
use Rattle.set_laws.proofs.Lists.{length_more, at_old, at_new}

-- ---- the sectors

pub laid-length : (ts : List (List ℕ)) → length (laid ts) ≡ 768
unfolding laid
laid-length ts = length-tab 768 (sector_of ts)

pub laid-at : (ts : List (List ℕ)) (i : ℕ) → i < 768 → get_or (laid ts) i 0 ≡ sector_of ts i
unfolding laid
laid-at ts i h = get_d-tab 768 (sector_of ts) i 0 h

-- the sector y of place j
pub sector-at : (ts : List (List ℕ)) (x j y : ℕ) → x ≡ 24 * j + y → y < 24 → sector_of ts x ≡ get_or (get_or ts j []) y 0
unfolding sector_of
sector-at ts x j y e h =
    let q : x / 24 ≡ j = omega arith in
    let r : x % 24 ≡ y = omega arith in
    rw (q, r) refl

-- sectors that are all 0
pub laid-zeros : (ts : List (List ℕ)) → ((j y : ℕ) → get_or (get_or ts j []) y 0 ≡ 0) → replicate 768 0 ≡ laid ts
laid-zeros ts z =
    let l : length (replicate {A = ℕ} 768 0) ≡ 768 = length-replicate {A = ℕ} 768 0 in
    ext_get_or 0 (replicate 768 0) (laid ts) (l ∙ sym (laid-length ts)) (λ x h. let g : x < 768 = omega (arith, l) in
    get_or-replicate {A = ℕ} 768 x 0 0 g ∙ sym (z (x / 24) (x % 24)) ∙ sym (sector-at ts x (x / 24) (x % 24) (omega arith) (omega arith)) ∙ sym (laid-at ts x g))

-- the reading in place j
pub place-laid : (n : ℕ) (ts : List (List ℕ)) (j : ℕ) → n ≤ 24 → length ts ≤ 32 → j < length ts → length (get_or ts j []) ≡ n → place_at n (laid ts) j ≡ get_or ts j []
place-laid n ts j short most b l =
    ext_get_or 0 (place_at n (laid ts) j) (get_or ts j []) (long ∙ sym l) (λ i h. let g : i < n = omega (arith, long) in
    get_or-take n (drop (24 * j) (laid ts)) i 0 g ∙ get_or-drop (24 * j) (laid ts) i 0 ∙ laid-at ts (24 * j + i) (omega arith) ∙ sector-at ts (24 * j + i) j i refl (omega arith))
  where
    long : length (place_at n (laid ts) j) ≡ n
    long = length-take-le n (drop (24 * j) (laid ts)) (omega (arith, length-drop (24 * j) (laid ts), laid-length ts))

-- ---- the readings in the first places

pub length-set-in : (n : ℕ) (p : List ℕ) (t : ℕ) → length (set_in n p t) ≡ t
unfolding set_in
length-set-in n p zero = refl
length-set-in n p (suc t) = length_more (set_in n p t) (place_at n p t) ∙ ap suc (length-set-in n p t)

pub set-in-at : (n : ℕ) (p : List ℕ) (t j : ℕ) → j < t → get_or (set_in n p t) j [] ≡ place_at n p j
unfolding set_in
set-in-at n p zero j h = absurd (omega arith)
set-in-at n p (suc t) j h =
    elim (tri j t) [
      | lt l ↦ at_old (set_in n p t) (place_at n p t) j (omega (arith, length-set-in n p t)) ∙ set-in-at n p t j l
      | eq l ↦ ap (λ (x : ℕ). get_or (set_in n p t ++ (place_at n p t ∷ [])) x []) (l ∙ sym (length-set-in n p t)) ∙ at_new (set_in n p t) (place_at n p t) ∙ ap (place_at n p) (sym l)
      | gt l ↦ absurd (omega arith)
    ]

-- ---- a ring put over a part

-- s over the part of b that begins at `at`
abbrev pub over : List ℕ → ℕ → List ℕ → List ℕ
over b at s = take at b ++ (s ++ drop (at + length s) b)

module _ (b : List ℕ) (at : ℕ) (s : List ℕ) (room : at + length s ≤ length b) where
  front : length (take at b) ≡ at
  front = length-take-le at b (omega arith)

  pub over-length : length (over b at s) ≡ length b
  over-length =
      omega (arith, length-append (take at b) (s ++ drop (at + length s) b), length-append s (drop (at + length s) b), length-drop (at + length s) b, front)

  pub over-before : (x : ℕ) → x < at → get_or (over b at s) x 0 ≡ get_or b x 0
  over-before x h = List·get_d-append (take at b) (s ++ drop (at + length s) b) 0 x (omega (arith, front)) ∙ get_or-take at b x 0 h

  over-from : (x y : ℕ) → x ≡ at + y → get_or (over b at s) x 0 ≡ get_or (s ++ drop (at + length s) b) y 0
  over-from x y e =
      let f : x ≡ length (take at b) + y = omega (arith, front) in
      ap (λ (m : ℕ). get_or (over b at s) m 0) f ∙ get_or-append-add (take at b) (s ++ drop (at + length s) b) y 0

  pub over-inside : (x y : ℕ) → x ≡ at + y → y < length s → get_or (over b at s) x 0 ≡ get_or s y 0
  over-inside x y e h = over-from x y e ∙ List·get_d-append s (drop (at + length s) b) 0 y h

  pub over-behind : (x : ℕ) → at + length s ≤ x → get_or (over b at s) x 0 ≡ get_or b x 0
  over-behind x h =
      over-from x (length s + (x - (at + length s))) (omega arith) ∙ get_or-append-add s (drop (at + length s) b) (x - (at + length s)) 0 ∙ get_or-drop
      (at + length s) b (x - (at + length s)) 0 ∙ ap (λ (m : ℕ). get_or b m 0) (omega arith)

-- the ring w put at the first free place
module _ (ts : List (List ℕ)) (w : List ℕ) (b : length ts < 32) (s : length w ≤ 24) where
  room : 24 * length ts + length w ≤ length (laid ts)
  room = omega (arith, laid-length ts)

  -- behind it everything is 0, before and after
  past : (x j y : ℕ) → x ≡ 24 * j + y → y < 24 → length ts ≤ j → 24 * length ts + length w ≤ x → x < 768 → get_or (over (laid ts) (24 * length ts) w) x 0 ≡ sector_of (ts ++ (w ∷ [])) x
  past x j y e l m f g =
      over-behind (laid ts) (24 * length ts) w room x f ∙ laid-at ts x g ∙ sector-at ts x j y e l ∙ ap (λ (t : List ℕ). get_or t y 0)
      (List·get_d-eq-default ts [] m) ∙ sym (zero-there (tri j (length ts))) ∙ sym (sector-at (ts ++ (w ∷ [])) x j y e l)
    where
      zero-there : Tri j (length ts) → get_or (get_or (ts ++ (w ∷ [])) j []) y 0 ≡ 0
      zero-there (lt q) = absurd (omega arith)
      zero-there (eq q) = rw (q, at_new ts w) (List·get_d-eq-default w 0 (omega arith))
      zero-there (gt q) = ap (λ (t : List ℕ). get_or t y 0) (List·get_d-eq-default (ts ++ (w ∷ [])) [] (omega (arith, length_more ts w)))

  from : (x : ℕ) → x < 768 → 24 * length ts ≤ x → get_or (over (laid ts) (24 * length ts) w) x 0 ≡ sector_of (ts ++ (w ∷ [])) x
  from x g q =
      elim (tri x (24 * length ts + length w)) [
        | lt r ↦
            let e : x ≡ 24 * length ts + (x - 24 * length ts) = omega arith in
            over-inside (laid ts) (24 * length ts) w room x (x - 24 * length ts) e (omega arith) ∙ ap (λ (t : List ℕ). get_or t (x - 24 * length ts) 0)
            (sym (at_new ts w)) ∙ sym (sector-at (ts ++ (w ∷ [])) x (length ts) (x - 24 * length ts) e (omega arith))
        | eq r ↦ past x (x / 24) (x % 24) (omega arith) (omega arith) (omega arith) (omega arith) g
        | gt r ↦ past x (x / 24) (x % 24) (omega arith) (omega arith) (omega arith) (omega arith) g
      ]

  sector : (x : ℕ) → x < 768 → get_or (over (laid ts) (24 * length ts) w) x 0 ≡ sector_of (ts ++ (w ∷ [])) x
  sector x g =
      let e : x ≡ 24 * (x / 24) + x % 24 = omega arith in
      let l : x % 24 < 24 = omega arith in
      elim (tri x (24 * length ts)) [
        | lt q ↦ over-before (laid ts) (24 * length ts) w room x q ∙ laid-at ts x g ∙ sector-at ts x (x / 24) (x % 24) e l ∙ ap
            (λ (t : List ℕ). get_or t (x % 24) 0) (sym (at_old ts w (x / 24) (omega arith))) ∙ sym (sector-at (ts ++ (w ∷ [])) x (x / 24) (x % 24) e l)
        | eq q ↦ from x g (omega arith)
        | gt q ↦ from x g (omega arith)
      ]

  pub put-laid : over (laid ts) (24 * length ts) w ≡ laid (ts ++ (w ∷ []))
  put-laid =
      let l : length (over (laid ts) (24 * length ts) w) ≡ 768 = over-length (laid ts) (24 * length ts) w room ∙ laid-length ts in
      ext_get_or 0 (over (laid ts) (24 * length ts) w) (laid (ts ++ (w ∷ []))) (l ∙ sym (laid-length (ts ++ (w ∷ []))))
      (λ x h. let g : x < 768 = omega (arith, l) in sector x g ∙ sym (laid-at (ts ++ (w ∷ [])) x g))
