-- Laws of decimal text.
--     decimal-short, decimal-more    its two clauses
--     decimal-two                    a text of two digits
--     decimal-rec                    what holds below 10, and of x where it holds of x / 10, holds of every number
--     Digits t                       every character of t is a digit
--     value_from x t                  the number that the digits t go on to spell after x
--     value-decimal, decimal-one     the text of x spells x; two numbers with one text are one
--     spelled, numeral               digits with no leading zero are the text of what they spell
--     decimal-digits, decimal-lead, length-decimal      the text has only digits, no leading zero, and at most m of them below 10 ^ m
use Rattle.words.proofs.Plain.{ℕ, zero, suc, ◌+◌, ◌-◌, ◌*◌, ◌/◌, ◌%◌, ◌^◌, ◌<◌, ◌≤◌, arith, dec_lt, ◌≡◌, refl, sym, ap, ◌∙◌, List, [], ◌∷◌, ◌++◌, append_assoc}
use Rattle.words.proofs.Plain.{append-nil, length, get_or, length-append, List·get_d-append, get_or-append-add, lt-ltb, le-ltb}
use native.Mathlib.Nat.{div-lt_self, div-add-mod, mod-lt, pow-succ', one-le-pow}
use Rattle.io.specs.Digits.{hex_digit_ascii, last_digits, IsDigitCount}
use Rattle.text_spec.specs.Decimal.{digit, decimal_in, decimal}

-- ---- the two clauses

in-short : (m x : ℕ) → x < 10 → decimal_in (suc m) x ≡ digit x ∷ []
unfolding decimal_in
in-short m x h = rw (lt-ltb x 10 h, decimal_in)

in-more : (m x : ℕ) → 10 ≤ x → decimal_in (suc m) x ≡ decimal_in m (x / 10) ++ (digit (x % 10) ∷ [])
unfolding decimal_in
in-more m x h = rw (le-ltb x 10 h, decimal_in)

-- the tenth part of a number from 10 on is smaller
tenth : (x : ℕ) → 10 ≤ x → x / 10 < x
tenth x h = div-lt_self (omega arith) (omega arith)

-- any number of digits that is enough gives the same text
enough : (m l x : ℕ) → x < m → x < l → decimal_in m x ≡ decimal_in l x
enough zero l x p q = absurd (omega arith)
enough (suc m) zero x p q = absurd (omega arith)
enough (suc m) (suc l) x p q =
    elim (dec_lt x 10) [
      | yes h ↦ in-short m x h ∙ sym (in-short l x h)
      | no h ↦
          let t = tenth x (omega arith) in
          in-more m x (omega arith) ∙ ap (λ (t : List ℕ). t ++ (digit (x % 10) ∷ [])) (enough m l (x / 10) (omega arith) (omega arith)) ∙ sym (in-more l x (omega arith))
    ]

pub decimal-short : (x : ℕ) → x < 10 → decimal x ≡ digit x ∷ []
unfolding decimal
decimal-short x h = in-short x x h

pub decimal-more : (x : ℕ) → 10 ≤ x → decimal x ≡ decimal (x / 10) ++ (digit (x % 10) ∷ [])
unfolding decimal
decimal-more x h =
    let t = tenth x h in
    in-more x x h ∙ ap (λ (t : List ℕ). t ++ (digit (x % 10) ∷ [])) (enough x (suc (x / 10)) (x / 10) t (omega arith))

pub decimal-two : (x : ℕ) → 10 ≤ x → x < 100 → decimal x ≡ digit (x / 10) ∷ digit (x % 10) ∷ []
decimal-two x l h = decimal-more x l ∙ ap (λ (t : List ℕ). t ++ (digit (x % 10) ∷ [])) (decimal-short (x / 10) (omega arith))

-- what holds below 10, and of x where it holds of x / 10, holds of every number
pub decimal-rec : (P : ℕ → Type 0) → ((x : ℕ) → x < 10 → P x) → ((x : ℕ) → 10 ≤ x → P (x / 10) → P x) → (x : ℕ) → P x
decimal-rec P short more x = go (suc x) x (omega arith)
  where
    go : (m x : ℕ) → x < m → P x
    go zero x h = absurd (omega arith)
    go (suc m) x h =
        elim (dec_lt x 10) [
          | yes l ↦ short x l
          | no l ↦ let t = tenth x (omega arith) in more x (omega arith) (go m (x / 10) (omega arith))
        ]

-- ---- what digits spell

abbrev pub Digits : List ℕ → Type 0
Digits t = (i : ℕ) → i < length t → (48 ≤ get_or t i 0) × (get_or t i 0 ≤ 57)

unfoldable pub value_from : ℕ → List ℕ → ℕ
value_from x [] = x
value_from x (a ∷ t) = value_from (x * 10 + (a - 48)) t

value-append : (x : ℕ) (s t : List ℕ) → value_from x (s ++ t) ≡ value_from (value_from x s) t
unfolding value_from
value-append x [] t = refl
value-append x (a ∷ s) t = value-append (x * 10 + (a - 48)) s t

-- the text of x spells x
pub value-decimal : (x : ℕ) → value_from 0 (decimal x) ≡ x
unfolding value_from
value-decimal =
    decimal-rec (λ x. value_from 0 (decimal x) ≡ x) (λ x h. rw (decimal-short x h) (omega arith))
    (λ x h p. rw (decimal-more x h, value-append 0 (decimal (x / 10)) (digit (x % 10) ∷ []), p) (omega (arith, div-add-mod x 10)))

-- two numbers with one text are one
pub decimal-one : (x y : ℕ) → decimal x ≡ decimal y → x ≡ y
decimal-one x y e = sym (value-decimal x) ∙ ap (value_from 0) e ∙ value-decimal y

-- one digit more
pub decimal-on : (x d : ℕ) → 0 < x → d < 10 → decimal (x * 10 + d) ≡ decimal x ++ (digit d ∷ [])
decimal-on x d z h =
    let q : (x * 10 + d) / 10 ≡ x = omega arith in
    let r : (x * 10 + d) % 10 ≡ d = omega arith in
    decimal-more (x * 10 + d) (omega arith) ∙ rw (q, r)

-- digits after the text of a number other than 0 are the text of what they spell
pub spelled : (x : ℕ) (t : List ℕ) → 0 < x → Digits t → decimal (value_from x t) ≡ decimal x ++ t
unfolding value_from
spelled x [] z d = sym (append-nil (decimal x))
spelled x (a ∷ t) z d =
    let l = d 0 (omega arith) in
    let e : 48 + (a - 48) ≡ a = omega arith in
    let on : decimal (x * 10 + (a - 48)) ≡ decimal x ++ (a ∷ []) = rw e at (decimal-on x (a - 48) z (omega arith)) in
    spelled (x * 10 + (a - 48)) t (omega arith) (λ i h. d (suc i) (omega arith)) ∙ ap (λ (s : List ℕ). s ++ t) on ∙ append_assoc (decimal x) (a ∷ []) t

-- digits that do not begin with 0 are the text of what they spell
pub numeral : (t : List ℕ) → 0 < length t → Digits t → (get_or t 0 0 ≡ 48 → ⊥) → decimal (value_from 0 t) ≡ t
unfolding value_from
numeral [] l d z = absurd (omega arith)
numeral (a ∷ t) l d z =
    let b = d 0 l in
    let e : 48 + (0 * 10 + (a - 48)) ≡ a = omega arith in
    let one : decimal (0 * 10 + (a - 48)) ≡ a ∷ [] = rw e at (decimal-short (0 * 10 + (a - 48)) (omega arith)) in
    spelled (0 * 10 + (a - 48)) t (let q : (a ≡ 48) → ⊥ = z in omega arith) (λ i h. d (suc i) (omega arith)) ∙ ap (λ (s : List ℕ). s ++ t) one

-- ---- what the text looks like

-- one digit
one-digit : (d : ℕ) → d < 10 → Digits (digit d ∷ [])
one-digit d h zero l = (omega arith, omega arith)
one-digit d h (suc i) l = absurd (omega arith)

digits_append : (s t : List ℕ) → Digits s → Digits t → Digits (s ++ t)
digits_append s t p q i l =
    elim (dec_lt i (length s)) [
      | yes h ↦ rw (List·get_d-append s t 0 i h) (p i h)
      | no h ↦
          let e : length s + (i - length s) ≡ i = omega arith in
          let g : get_or (s ++ t) i 0 ≡ get_or t (i - length s) 0 = rw e at (get_or-append-add s t (i - length s) 0) in
          rw g (q (i - length s) (omega (arith, simp length-append at l)))
    ]

-- the text has only digits
pub decimal-digits : (x : ℕ) → Digits (decimal x)
decimal-digits =
    decimal-rec (λ x. Digits (decimal x)) (λ x h. rw (decimal-short x h) (one-digit x h))
    (λ x h p. rw (decimal-more x h) (digits_append (decimal (x / 10)) (digit (x % 10) ∷ []) p (one-digit (x % 10) (mod-lt x (omega arith)))))

-- and at least one
pub decimal-some : (x : ℕ) → 0 < length (decimal x)
decimal-some =
    decimal-rec (λ x. 0 < length (decimal x)) (λ x h. rw (decimal-short x h) (omega arith))
    (λ x h p. rw (decimal-more x h) (simp length-append (omega arith)))

-- the text of a number other than 0 does not begin with 0
pub decimal-lead : (x : ℕ) → 0 < x → get_or (decimal x) 0 0 ≡ 48 → ⊥
decimal-lead =
    decimal-rec (λ x. 0 < x → get_or (decimal x) 0 0 ≡ 48 → ⊥) (λ x h z e. let f = rw (decimal-short x h) at e in omega arith)
    (λ x h p z e. p (omega arith) (sym (List·get_d-append (decimal (x / 10)) (digit (x % 10) ∷ []) 0 0 (decimal-some (x / 10))) ∙ rw (decimal-more x h) at e))

-- a number below 10 ^ (m + 1) has at most m + 1 digits
pub length-decimal : (m x : ℕ) → x < 10 ^ suc m → length (decimal x) ≤ suc m
length-decimal zero x h = rw (decimal-short x h) (omega arith)
length-decimal (suc m) x h =
    elim (dec_lt x 10) [
      | yes l ↦ rw (decimal-short x l) (omega arith)
      | no l ↦
          let t : x / 10 < 10 ^ suc m = omega (arith, pow-succ' 10 (suc m)) in
          rw (decimal-more x (omega arith)) (simp length-append (omega (arith, length-decimal m (x / 10) t)))
    ]

-- ---- the digits that `io::decimal` writes

-- the character of a digit below 10, and of one from 10 on
pub glyph-digit : (d : ℕ) → d < 10 → hex_digit_ascii d ≡ digit d
glyph-digit d h = rw (lt-ltb d 10 h)

pub glyph-letter : (d : ℕ) → 10 ≤ d → hex_digit_ascii d ≡ 87 + d
glyph-letter d h = rw (le-ltb d 10 h)

-- the fewest digits that hold x are its text
pub fewest-decimal : (m x : ℕ) → IsDigitCount 10 1 x m → last_digits 10 m x ≡ decimal x
fewest-decimal zero x f = absurd (omega (arith, f.0))
fewest-decimal (suc zero) x f =
    let h : x < 10 = f.1 in
    let e : x % 10 ≡ x = omega arith in
    rw (e, glyph-digit x h) (sym (decimal-short x h))
fewest-decimal (suc (suc m)) x f =
    let e : suc (suc m) - 1 ≡ suc m = omega arith in
    let q : suc m - 1 ≡ m = omega arith in
    let l : 10 ^ suc m ≤ x = rw e at (f.2 (omega arith)) in
    let p = pow-succ' 10 m in
    let h : 10 ≤ x = omega (arith, one-le-pow m 10 (omega arith)) in
    let less : x / 10 < 10 ^ suc m = omega (arith, f.1, pow-succ' 10 (suc m)) in
    let more : 10 ^ (suc m - 1) ≤ x / 10 = rw q (omega arith) in
    let tens : last_digits 10 (suc m) (x / 10) ≡ decimal (x / 10) = fewest-decimal (suc m) (x / 10) (omega arith, less, λ i. more) in
    ap (λ (t : List ℕ). t ++ (hex_digit_ascii (x % 10) ∷ [])) tens ∙ rw (glyph-digit (x % 10) (mod-lt x (omega arith))) (sym (decimal-more x h))

pub length_digits : (m x : ℕ) → length (last_digits 10 m x) ≡ m
length_digits zero x = refl
length_digits (suc m) x = simp length-append (omega (arith, length_digits m (x / 10)))

-- so that is how many digits the text has
pub length-fewest : (m x : ℕ) → IsDigitCount 10 1 x m → m ≡ length (decimal x)
length-fewest m x f = sym (length_digits m x) ∙ ap length (fewest-decimal m x f)
