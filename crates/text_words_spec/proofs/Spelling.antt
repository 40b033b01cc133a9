-- Readings that are spelt by digits.
--     hex-low, hex-high, hex-kinds   what a digit looks like
--     hex-one                        two sectors with one digit are one
--     spelt-at, spelt-long           a spelt reading place by place
--     spelt-all                      a text that spells it at each place
--     spelt-one                      a text spells one reading
--     spelt-plain                    no digit is a separator
use Rattle.words.proofs.Plain.{ℕ, zero, suc, ◌+◌, ◌%◌, ◌<◌, ◌≤◌, arith, dec_lt, ◌≡◌, refl, sym, ap, ◌∙◌, ◌⊎◌, inl, inr, ⊎_elim, List, [], ◌∷◌, map, length, get_or}
use Rattle.words.proofs.Plain.{length-map, ext_get_or}
use Rattle.text_spec.specs.Text.{hex_of}
use Rattle.text_spec.proofs.Digits.{glyph-digit, glyph-letter}
use Rattle.text_words_spec.specs.Words.{pieces, Spelt}
use Rattle.text_words_spec.proofs.Pieces.{pieces-plain}

-- ---- digits

pub hex-low : (a : ℕ) → a < 10 → hex_of a ≡ 48 + a
hex-low a h = let e : a % 16 ≡ a = omega arith in rw e (glyph-digit a h)

pub hex-high : (a : ℕ) → 10 ≤ a → a < 16 → hex_of a ≡ 87 + a
hex-high a l h = let e : a % 16 ≡ a = omega arith in rw e (glyph-letter a l)

-- what a digit looks like
pub hex-kinds : (a : ℕ) → a < 16 → ((hex_of a ≡ 48 + a) × (a < 10)) ⊎ ((hex_of a ≡ 87 + a) × (10 ≤ a))
hex-kinds a h = elim (dec_lt a 10) [ yes l ↦ inl (hex-low a l, l) | no l ↦ inr (hex-high a (omega arith) h, omega arith) ]

-- two sectors with one digit are one
pub hex-one : (a b : ℕ) → a < 16 → b < 16 → hex_of a ≡ hex_of b → a ≡ b
hex-one a b p q e =
    ⊎_elim (λ x. ⊎_elim (λ y. omega (arith, x.0, y.0, e)) (λ y. omega (arith, x.0, x.1, y.0, y.1, e)) (hex-kinds b q))
    (λ x. ⊎_elim (λ y. omega (arith, x.0, x.1, y.0, y.1, e)) (λ y. omega (arith, x.0, y.0, e)) (hex-kinds b q)) (hex-kinds a p)

-- ---- readings

pub map_at : (w : List ℕ) (i : ℕ) → i < length w → get_or (map hex_of w) i 0 ≡ hex_of (get_or w i 0)
map_at [] i h = absurd (omega arith)
map_at (a ∷ w) zero h = refl
map_at (a ∷ w) (suc i) h = map_at w i (omega arith)

pub spelt-long : (t w : List ℕ) → Spelt t w → length t ≡ length w
spelt-long t w p = ap length p.digits ∙ length-map w hex_of

pub spelt-at : (t w : List ℕ) → Spelt t w → (i : ℕ) → i < length t → (get_or t i 0 ≡ hex_of (get_or w i 0)) × (get_or w i 0 < 16)
spelt-at t w p i h =
    let l : i < length w = omega (arith, spelt-long t w p) in
    (ap (λ (x : List ℕ). get_or x i 0) p.digits ∙ map_at w i l, p.below i l)

-- a text that goes on place by place spells the reading
pub spelt-all : (t w : List ℕ) → length w ≡ length t → ((i : ℕ) → i < length t → (get_or w i 0 < 16) × (hex_of (get_or w i 0) ≡ get_or t i 0)) → Spelt t w
spelt-all t w l f =
    record {
      digits = ext_get_or 0 t (map hex_of w) (sym l ∙ sym (length-map w hex_of)) (λ i h. sym (f i h).1 ∙ sym (map_at w i (omega (arith, l))));
      below = λ i h. (f i (omega (arith, l))).0;
    }

pub spelt-one : (t v w : List ℕ) → Spelt t v → Spelt t w → v ≡ w
spelt-one t v w p q =
    ext_get_or 0 v w (sym (spelt-long t v p) ∙ spelt-long t w q) (λ i h.
    let l : i < length t = omega (arith, spelt-long t v p) in
    hex-one (get_or v i 0) (get_or w i 0) (spelt-at t v p i l).1 (spelt-at t w q i l).1 (sym (spelt-at t v p i l).0 ∙ (spelt-at t w q i l).0))

-- no digit is a separator, so that a spelt reading is one piece
pub spelt-plain : (sep : ℕ) (t w : List ℕ) → sep < 48 → Spelt t w → pieces sep t ≡ t ∷ []
spelt-plain sep t w l p =
    pieces-plain sep t
    (λ i h e. let q = spelt-at t w p i h in ⊎_elim (λ x. omega (arith, x.0, q.0, e)) (λ x. omega (arith, x.0, q.0, e)) (hex-kinds (get_or w i 0) q.1))
