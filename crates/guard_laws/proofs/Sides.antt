-- Both sides of the rings of a set, all of n sectors.
--     Long n ts                          all of them have n sectors
--     length-sides, front_at, back_at    where each side stands
--     sides-long                         both sides have n sectors
--     guarded-spread, guarded-cross      of a guarded set any two rings are at least d apart, and each ring from the other side of each, its own too
--     guarded-of                         and the other way round
--     none-mirrored, none-even           of a set that is guarded at 1 or more no ring is the other side of one, and none is even-handed
--     alone                              of readings at least d apart, one that is seen with at most x sectors misread is further than e from all others, where x + e is below d
use Rattle.words.proofs.Plain.{ℕ, zero, suc, ◌+◌, ◌-◌, ◌<◌, ◌≤◌, arith, ◌≡◌, refl, sym, ap, ◌∙◌, true, false, List, [], ◌∷◌, map, length, get_or}
use Rattle.words.proofs.Plain.{length-append, length-map, List·get_d-append, get_or-append-add}
use Rattle.words.proofs.Split.{lt, eq, gt, tri, refuted}
use Rattle.rings.specs.Alike.{even_handed, same_ring, apart, mirrored}
use Rattle.ring_home_laws.proofs.Alike.{same-ring-refl, apart-sym, apart-triangle, zero-apart, length-mirrored, even-mirrored}
use Rattle.set_spec.specs.Worth.{Spread}
use Rattle.guard_spec.specs.Sides.{sides}
use Rattle.guard_laws.proofs.{Mirror.apart-home-right, Mirror.apart-mirrored, EitherSide.other-front}

-- all have n sectors
abbrev pub Long : ℕ → List (List ℕ) → Type 0
Long n ts = (j : ℕ) → j < length ts → length (get_or ts j []) ≡ n

-- ---- where each side stands

pub length-sides : (ts : List (List ℕ)) → length (sides ts) ≡ length ts + length ts
unfolding sides
length-sides ts = length-append ts (map mirrored ts) ∙ ap (λ (x : ℕ). length ts + x) (length-map ts mirrored)

mirrors-at : (ts : List (List ℕ)) (j : ℕ) → j < length ts → get_or (map mirrored ts) j [] ≡ mirrored (get_or ts j [])
mirrors-at [] j h = absurd (omega arith)
mirrors-at (t ∷ ts) zero h = refl
mirrors-at (t ∷ ts) (suc j) h = mirrors-at ts j (omega arith)

pub front_at : (ts : List (List ℕ)) (j : ℕ) → j < length ts → get_or (sides ts) j [] ≡ get_or ts j []
unfolding sides
front_at ts j h = List·get_d-append ts (map mirrored ts) [] j h

pub back_at : (ts : List (List ℕ)) (j : ℕ) → j < length ts → get_or (sides ts) (length ts + j) [] ≡ mirrored (get_or ts j [])
unfolding sides
back_at ts j h = get_or-append-add ts (map mirrored ts) j [] ∙ mirrors-at ts j h

-- ---- a guarded set

module _ (n d : ℕ) (ts : List (List ℕ)) (z : 0 < n) (long : Long n ts) where
  -- both sides have n sectors
  pub sides-long : Long n (sides ts)
  sides-long j h =
      elim (tri j (length ts)) [
        | lt l ↦ rw (front_at ts j l) (long j l)
        | eq l ↦ behind (j - length ts) (omega arith) (omega (arith, length-sides ts))
        | gt l ↦ behind (j - length ts) (omega arith) (omega (arith, length-sides ts))
      ]
    where
      behind : (i : ℕ) → j ≡ length ts + i → i < length ts → length (get_or (sides ts) j []) ≡ n
      behind i e l = rw (e, back_at ts i l) (length-mirrored (get_or ts i []) (omega (arith, long i l)) ∙ long i l)

  -- any two rings of a guarded set are at least d apart
  pub guarded-spread : Spread d (sides ts) → Spread d ts
  guarded-spread g i j b h = rw (front_at ts i (omega arith), front_at ts j h) at (g i j b (omega (arith, length-sides ts)))

  -- and each ring is at least d apart from the other side of each, its own too
  pub guarded-cross : Spread d (sides ts) → (i j : ℕ) → i < length ts → j < length ts → d ≤ apart (get_or ts i []) (mirrored (get_or ts j []))
  guarded-cross g i j h l = rw (front_at ts i h, back_at ts j l) at (g i (length ts + j) (omega arith) (omega (arith, length-sides ts)))

  -- where that is so the set is guarded; of two rings it is enough to look at the other side of the later one
  pub guarded-of : Spread d ts → ((i j : ℕ) → i ≤ j → j < length ts → d ≤ apart (get_or ts i []) (mirrored (get_or ts j []))) → Spread d (sides ts)
  guarded-of s c i j b h =
      elim (tri j (length ts)) [
        | lt l ↦ rw (front_at ts i (omega arith), front_at ts j l) (s i j b l)
        | eq l ↦ past (j - length ts) (omega arith) (omega (arith, length-sides ts))
        | gt l ↦ past (j - length ts) (omega arith) (omega (arith, length-sides ts))
      ]
    where
      -- the ring number x from the front, and the ring number y from the other side
      across : (x y : ℕ) → x < length ts → y < length ts → d ≤ apart (get_or ts x []) (mirrored (get_or ts y []))
      across x y p q =
          elim (tri x y) [
            | lt l ↦ c x y (omega arith) q
            | eq l ↦ c x y (omega arith) q
            | gt l ↦
                let one = get_or ts y [] in
                let two = get_or ts x [] in
                let same = long y q ∙ sym (long x p) in
                let f = other-front one two (omega (arith, long y q)) same in
                let g = apart-sym (mirrored one) two (length-mirrored one (omega (arith, long y q)) ∙ same) in
                omega (arith, c y x (omega arith) p)
          ]

      past : (y : ℕ) → j ≡ length ts + y → y < length ts → d ≤ apart (get_or (sides ts) i []) (get_or (sides ts) j [])
      past y e l =
          elim (tri i (length ts)) [
            | lt m ↦ rw (front_at ts i m, e, back_at ts y l) (across i y m l)
            | eq m ↦ both (i - length ts) (omega arith)
            | gt m ↦ both (i - length ts) (omega arith)
          ]
        where
          both : (x : ℕ) → i ≡ length ts + x → d ≤ apart (get_or (sides ts) i []) (get_or (sides ts) j [])
          both x f =
              let q : x < length ts = omega arith in
              rw (f, e, back_at ts x q, back_at ts y l, apart-mirrored (get_or ts x []) (get_or ts y []) (omega (arith, long x q)) (long x q ∙ sym (long y l))) (s x y (omega arith) l)

  -- no ring of a guarded set is the other side of one, its own or another: a sheet that is turned over shows none of its rings
  pub none-mirrored : Spread d (sides ts) → 1 ≤ d → (i j : ℕ) → i < length ts → j < length ts → same_ring (get_or ts i []) (mirrored (get_or ts j [])) ≡ false
  none-mirrored g p i j h l =
      refuted (same_ring (get_or ts i []) (mirrored (get_or ts j [])))
      (λ e. omega (arith, guarded-cross g i j h l, zero-apart (get_or ts i []) (mirrored (get_or ts j [])) (long i h ∙ sym (length-mirrored (get_or ts j []) (omega (arith, long j l)) ∙ long j l)) e))

  -- no ring of a guarded set is even-handed
  pub none-even : Spread d (sides ts) → 1 ≤ d → (j : ℕ) → j < length ts → even_handed (get_or ts j []) ≡ false
  none-even g p j h = refuted (even_handed (get_or ts j [])) (λ e. no_distance (get_or ts j []) (omega (arith, long j h)) e (guarded-cross g j j h h))
    where
      no_distance : (w : List ℕ) → 0 < length w → even_handed w ≡ true → d ≤ apart w (mirrored w) → ⊥
      no_distance w q e l =
          let f = ap (apart w) (even-mirrored w q e) in
          omega (arith, f, apart-home-right w w q refl, zero-apart w w refl (same-ring-refl w))

-- ---- seen with sectors misread

-- of readings at least d apart, where r is at most x apart from one it is further than e from every other, where x and e together are below d
pub alone : (n d x e : ℕ) (us : List (List ℕ)) (r : List ℕ) → Long n us → length r ≡ n → Spread d us → x + e < d →
    (i j : ℕ) → i < length us → j < length us → (i ≡ j → ⊥) → apart r (get_or us i []) ≤ x → e < apart r (get_or us j [])
alone n d x e us r long size s small i j p q other near =
    elim (tri i j) [
      | lt l ↦ omega (arith, s i j l q, apart-triangle (get_or us i []) r (get_or us j []) (long i p ∙ sym size) (size ∙ sym (long j q)), apart-sym r (get_or us i []) (size ∙ sym (long i p)))
      | eq l ↦ absurd (other l)
      | gt l ↦ omega (arith, s j i l p, apart-triangle (get_or us j []) r (get_or us i []) (long j q ∙ sym size) (size ∙ sym (long i p)), apart-sym r (get_or us j []) (size ∙ sym (long j q)))
    ]
