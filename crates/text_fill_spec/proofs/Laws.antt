-- A text with slots, character after character.
--     fill-number, fill-ring, fill-other    one character
--     filled-plain                          a text with no slot is itself
--     slots_same, slots-other               how often a character stands in a text
--     filled-short                          how long a filled_text text gets
use Rattle.words.proofs.Plain.{ℕ, zero, suc, ◌+◌, ◌*◌, ◌^◌, ◌<◌, ◌≤◌, arith, ◌≡◌, refl, sym, ap, ◌∙◌, true, false, List, [], ◌∷◌, ◌++◌, map, append_assoc, eqb}
use Rattle.words.proofs.Plain.{length, get_or, take, drop, length-append, length-map, length-take, get_or-drop, eq-eqb, ne_eqb, eqb-true, eqb-false}
use native.Mathlib.Nat.{mul-suc}
use Rattle.words.proofs.Split.{passes, fails, test}
use Rattle.text_spec.specs.{Decimal.decimal, Text.hex_of}
use Rattle.text_spec.proofs.Digits.{length-decimal}
use Rattle.text_fill_spec.specs.Filled.{filled_text, slots, longest}

-- ---- one character

module _ (c : ℕ) (t xs : List ℕ) (n : ℕ) (w : List ℕ) where
  -- a number
  pub fill-number : c ≡ 37 → filled_text (c ∷ t) xs n w ≡ decimal (get_or xs 0 0) ++ filled_text t (drop 1 xs) n w
  unfolding filled_text
  fill-number e = rw (eq-eqb c 37 e, filled_text) refl

  -- a ring
  pub fill-ring : (c ≡ 37 → ⊥) → c ≡ 64 → filled_text (c ∷ t) xs n w ≡ map hex_of (take n w) ++ filled_text t xs n (drop n w)
  unfolding filled_text
  fill-ring m e = rw (ne_eqb c 37 m, eq-eqb c 64 e, filled_text) refl

  -- any other character stands for itself
  pub fill-other : (c ≡ 37 → ⊥) → (c ≡ 64 → ⊥) → filled_text (c ∷ t) xs n w ≡ c ∷ filled_text t xs n w
  unfolding filled_text
  fill-other m e = rw (ne_eqb c 37 m, ne_eqb c 64 e, filled_text) refl

-- ---- slots

pub slots_same : (c a : ℕ) (t : List ℕ) → a ≡ c → slots c (a ∷ t) ≡ suc (slots c t)
unfolding slots
slots_same c a t e = rw (eq-eqb a c e, slots) refl

pub slots-other : (c a : ℕ) (t : List ℕ) → (a ≡ c → ⊥) → slots c (a ∷ t) ≡ slots c t
unfolding slots
slots-other c a t e = rw (ne_eqb a c e, slots) refl

-- a text with no slot is itself
pub filled-plain : (t xs : List ℕ) (n : ℕ) (w : List ℕ) → slots 37 t ≡ 0 → slots 64 t ≡ 0 → filled_text t xs n w ≡ t
unfolding filled_text
filled-plain [] xs n w p q = refl
filled-plain (c ∷ t) xs n w p q =
    elim (test (eqb c 37)) [
      | passes e ↦ absurd (omega (arith, p, slots_same 37 c t (eqb-true c 37 e)))
      | fails e ↦
          let f = eqb-false c 37 e in
          elim (test (eqb c 64)) [
            | passes g ↦ absurd (omega (arith, q, slots_same 64 c t (eqb-true c 64 g)))
            | fails g ↦
                let h = eqb-false c 64 g in
                fill-other c t xs n w f h ∙ ap (λ (x : List ℕ). c ∷ x) (filled-plain t xs n w (sym (slots-other 37 c t f) ∙ p) (sym (slots-other 64 c t h) ∙ q))
          ]
    ]

-- ---- how long it gets

-- a number has at most 20 digits, and a ring at most n
pub filled-short : (t xs : List ℕ) (n : ℕ) (w : List ℕ) → ((i : ℕ) → get_or xs i 0 < 10 ^ 20) → length (filled_text t xs n w) ≤ longest t n
unfolding filled_text longest
filled-short [] xs n w m = omega arith
filled-short (c ∷ t) xs n w m =
    elim (test (eqb c 37)) [
      | passes e ↦
          let q = eqb-true c 37 e in
          let z : c ≡ 64 → ⊥ = λ x. omega (arith, x, q) in
          rw (fill-number c t xs n w q, slots_same 37 c t q, slots-other 64 c t z, length-append (decimal (get_or xs 0 0)) (filled_text t (drop 1 xs) n w))
          (omega (arith, filled-short t (drop 1 xs) n w (λ i. rw (get_or-drop 1 xs i 0) (m (1 + i))), length-decimal 19 (get_or xs 0 0) (m 0)))
      | fails e ↦
          let q = eqb-false c 37 e in
          elim (test (eqb c 64)) [
            | passes f ↦
                let z = eqb-true c 64 f in
                let l : length (take n w) ≤ n = simp length-take (omega arith) in
                rw (fill-ring c t xs n w q z, slots-other 37 c t q, slots_same 64 c t z, length-append (map hex_of (take n w)) (filled_text t xs n (drop n w)))
                (omega (arith, l, mul-suc n (slots 64 t), filled-short t xs n (drop n w) m, length-map (take n w) hex_of))
            | fails f ↦
                let z = eqb-false c 64 f in
                rw (fill-other c t xs n w q z, slots-other 37 c t q, slots-other 64 c t z) (omega (arith, filled-short t xs n w m))
          ]
    ]
