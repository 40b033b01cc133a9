-- The rings of lines of digits.
--     digit-in        the sector whose digit it is
--     ring_in_lem         a line that spells a ring spells `ring_in` of it
--     rings-at        the ring of each of some lines
use Rattle.words.proofs.Plain.{ℕ, zero, suc, ◌<◌, arith, ◌≡◌, refl, sym, ap, ◌∙◌, List, [], ◌∷◌, map, eqb, length, get_or, eq-eqb, ne_eqb}
use Rattle.words.proofs.Search.{least-is}
use Rattle.text_spec.specs.Text.{hex_of}
use Rattle.text_words_spec.specs.Words.{Nibbles, Spelt}
use Rattle.text_words_spec.proofs.Spelling.{hex-one}
use Rattle.sheet_print_spec.specs.Prints.{digit_in, ring_in}

pub digit-in : (a : ℕ) → a < 16 → digit_in (hex_of a) ≡ a
unfolding digit_in
digit-in a h = least-is 16 (λ b. eqb (hex_of b) (hex_of a)) a h (eq-eqb (hex_of a) (hex_of a) refl) (λ b l. ne_eqb (hex_of b) (hex_of a) (λ e. omega (arith, l, hex-one b a (omega arith) h e)))

digits_in : (w : List ℕ) → Nibbles w → ring_in (map hex_of w) ≡ w
unfolding ring_in
digits_in [] n = refl
digits_in (a ∷ w) n =
    let x = digit-in a (n 0 (omega arith)) in
    let y = digits_in w (λ i h. n (suc i) (omega arith)) in
    λ i. x i ∷ y i

pub ring_in_lem : (l w : List ℕ) → Spelt l w → ring_in l ≡ w
ring_in_lem l w s = ap ring_in s.digits ∙ digits_in w s.below

pub rings-at : (ls : List (List ℕ)) (i : ℕ) → i < length ls → get_or (map ring_in ls) i [] ≡ ring_in (get_or ls i [])
rings-at [] i h = absurd (omega arith)
rings-at (l ∷ ls) zero h = refl
rings-at (l ∷ ls) (suc i) h = rings-at ls i (omega arith)
