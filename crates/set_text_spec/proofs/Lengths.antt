-- How long the texts of a set are, and how they grow.
--     rings-more          one ring more is one line more
--     length-rings        the lines of rings of at most 24 sectors
--     length_taken        the last line
use Rattle.words.proofs.Plain.{ℕ, zero, suc, ◌+◌, ◌*◌, ◌≤◌, arith, ◌≡◌, refl, sym, ap, ◌∙◌, Bool, true, false, List, [], ◌∷◌, ◌++◌, append_assoc, append-nil}
use Rattle.words.proofs.Plain.{length, length-append, length-map, length-take}
use Rattle.text_spec.proofs.Digits.{length-decimal}
use Rattle.set_spec.specs.Places.{place_at, set_in}
use Rattle.set_text_spec.specs.Text.{ring_text, ring_texts, full_text, taken_text}

-- one ring more
pub rings-more : (ts : List (List ℕ)) (w : List ℕ) → ring_texts (ts ++ (w ∷ [])) ≡ ring_texts ts ++ ring_text w
unfolding ring_texts
rings-more [] w = append-nil (ring_text w)
rings-more (t ∷ ts) w = ap (λ (x : List ℕ). ring_text t ++ x) (rings-more ts w) ∙ sym (append_assoc (ring_text t) (ring_texts ts) (ring_text w))

pub length-ring-text : (w : List ℕ) → length (ring_text w) ≡ length w + 1
unfolding ring_text
length-ring-text w = rw (length-append, length-map) refl

-- the lines of the rings in the first t places
pub length-rings : (n : ℕ) (p : List ℕ) (t : ℕ) → n ≤ 24 → length (ring_texts (set_in n p t)) ≤ 25 * t
unfolding set_in ring_texts
length-rings n p zero h = omega arith
length-rings n p (suc t) h =
    rw (rings-more (set_in n p t) (place_at n p t))
    (omega (arith, length-append (ring_texts (set_in n p t)) (ring_text (place_at n p t)), length-rings n p t h, length-ring-text (place_at n p t), place-most))
  where
    place-most : length (place_at n p t) ≤ 24
    place-most = simp length-take (omega arith)

-- the last line
length-full : (full : Bool) → length (full_text full) ≤ 10
unfolding full_text
length-full true = omega arith
length-full false = omega arith

pub length_taken : (t : ℕ) (full : Bool) → t ≤ 32 → length (taken_text t full) ≤ 18
unfolding taken_text
length_taken t full h = rw (length-append, length-append) (omega (arith, length-full full, length-decimal 1 t (omega arith)))
