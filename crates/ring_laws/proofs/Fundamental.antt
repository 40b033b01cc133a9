-- The fundamental theorem of necklaces (000, Theorem 2.1; 002, Theorem 1) of lists: which sector may be appended to a prenecklace, and what lyn becomes.
-- w is a prenecklace of n sectors, at least one, p its lyn, b a sector, and c the sector p places before the end.
--     extend_same       b ≡ c: w b is a prenecklace, and its lyn is p
--     extend-greater    c < b: w b is a Lyndon word, so its lyn is n + 1
--     extend-smaller    b < c: w b is no prenecklace
--     extend-iff        w b is a prenecklace exactly when c ≤ b
use Rattle.words.proofs.Plain.{ℕ, suc, ◌-◌, ◌<◌, ◌≤◌, add-one, arith, ◌≡◌, sym, ◌∙◌, ◌↔◌, true, false, List, [], ◌∷◌, ◌++◌, length, get_or, length-append}
use Rattle.words.proofs.{Plain.List·get_d-append, Plain.get_or-append_seam, Sequence.sec}
use Rattle.words.proofs.Split.{lt, eq, gt, tri, refuted, clash}
use Rattle.rings.specs.{Necklace.lyndon, Prenecklace.prenecklace, Prenecklace.lyn}
use Rattle.ring_laws.proofs.Run.{Run, Lyn, same, smaller, greater, run-through, lyn-self}
use Rattle.ring_laws.proofs.Words.{pre-of}
use Rattle.ring_laws.proofs.Lyndon.{lyn-run, run-lyn, run-prenecklace, lyndon-of}

-- w with the sector b behind it
abbrev pub snoc : List ℕ → ℕ → List ℕ
snoc w b = w ++ (b ∷ [])

pub length-snoc : (w : List ℕ) (b : ℕ) → length (snoc w b) ≡ suc (length w)
length-snoc w b = length-append w (b ∷ []) ∙ add-one (length w)

pub snoc-low : (w : List ℕ) (b m : ℕ) → m < length w → get_or (snoc w b) m 0 ≡ get_or w m 0
snoc-low w b m h = List·get_d-append w (b ∷ []) 0 m h

pub snoc-last : (w : List ℕ) (b : ℕ) → get_or (snoc w b) (length w) 0 ≡ b
snoc-last w b = get_or-append_seam w b [] 0

module _ (w : List ℕ) (z : 0 < length w) (h : prenecklace w ≡ true) (b : ℕ) where
  run : Run (sec (snoc w b)) (length w) (lyn w)
  run = run-through (sec w) (sec (snoc w b)) (length w) (lyn w) (λ m q. sym (snoc-low w b m q)) (lyn-run w z h)

  -- the sector that the repetition would go on with
  opposite : get_or (snoc w b) (length w - lyn w) 0 ≡ get_or w (length w - lyn w) 0
  opposite = snoc-low w b (length w - lyn w) (omega (arith, (lyn-run w z h).pos, (lyn-run w z h).fits))

  same-run : b ≡ get_or w (length w - lyn w) 0 → Run (sec (snoc w b)) (length (snoc w b)) (lyn w)
  same-run e = rw (length-snoc w b) (same (sec (snoc w b)) (length w) (lyn w) run (snoc-last w b ∙ e ∙ sym opposite))

  pub extend_same : b ≡ get_or w (length w - lyn w) 0 → (prenecklace (snoc w b) ≡ true) × (lyn (snoc w b) ≡ lyn w)
  extend_same e = (run-prenecklace (snoc w b) (lyn w) (same-run e), run-lyn (snoc w b) (lyn w) (same-run e))

  greater-lyn : get_or w (length w - lyn w) 0 < b → Lyn (sec (snoc w b)) (length (snoc w b))
  greater-lyn l = rw (length-snoc w b) (greater (sec (snoc w b)) (length w) (lyn w) run (omega (arith, l, opposite, snoc-last w b)))

  pub extend-greater : get_or w (length w - lyn w) 0 < b → (lyndon (snoc w b) ≡ true) × (prenecklace (snoc w b) ≡ true) × (lyn (snoc w b) ≡ suc (length w))
  extend-greater l =
      let q : 0 < length (snoc w b) = omega (arith, length-snoc w b) in
      let r = lyn-self (sec (snoc w b)) (length (snoc w b)) q (greater-lyn l) in
      (lyndon-of (snoc w b) q (greater-lyn l), run-prenecklace (snoc w b) (length (snoc w b)) r, run-lyn (snoc w b) (length (snoc w b)) r ∙ length-snoc w b)

  pub extend-smaller : b < get_or w (length w - lyn w) 0 → prenecklace (snoc w b) ≡ false
  extend-smaller l =
      refuted (prenecklace (snoc w b)) (λ e.
      (rw (length-snoc w b) at (pre-of (snoc w b) e)) (lyn w) (smaller (sec (snoc w b)) (length w) (lyn w) run (omega (arith, l, opposite, snoc-last w b))))

  -- w b is a prenecklace exactly when b is not below the sector lyn places before it
  pub extend-iff : (prenecklace (snoc w b) ≡ true) ↔ (get_or w (length w - lyn w) 0 ≤ b)
  extend-iff = (
    λ e. elim (tri b (get_or w (length w - lyn w) 0)) [ lt l ↦ clash (prenecklace (snoc w b)) e (extend-smaller l) | eq l ↦ omega arith | gt l ↦ omega arith ],
    λ l. elim (tri b (get_or w (length w - lyn w) 0)) [ lt q ↦ absurd (omega arith) | eq q ↦ (extend_same q).0 | gt q ↦ (extend-greater q).1 ],
  )
