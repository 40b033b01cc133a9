-- A text with slots, filled: what a program prints is said by the text as it is printed.
--     number_slot, ring_slot    the characters that stand for a number and for a ring: % and @
--     filled_text t xs n w         the text t, where each % is the next number of xs in decimal, 0 where there is none, and each @ the next n sectors of w, a hexadecimal
--                             digit each, as many as there are
--     slots c t               how often the character c stands in t
--     longest t n             no text is longer that t becomes with numbers of at most 20 digits and rings of n sectors
-- A text with no slot is itself (proofs/Laws: `filled-plain`); how long a text gets: `filled-short`.
use Rattle.std.specs.Prelude.{ℕ, suc, ◌+◌, ◌*◌, true, false, List, [], ◌∷◌, ◌++◌, map, eqb, length, get_or, take, drop}
use Rattle.text_spec.specs.Decimal.{decimal}
use Rattle.text_spec.specs.Text.{hex_of}

abbrev pub number_slot : ℕ
number_slot = 37

abbrev pub ring_slot : ℕ
ring_slot = 64

unfoldable pub filled_text : List ℕ → List ℕ → ℕ → List ℕ → List ℕ
filled_text [] xs n w = []
filled_text (c ∷ t) xs n w =
    elim (eqb c number_slot) [
      | true ↦ decimal (get_or xs 0 0) ++ filled_text t (drop 1 xs) n w
      | false ↦ elim (eqb c ring_slot) [ true ↦ map hex_of (take n w) ++ filled_text t xs n (drop n w) | false ↦ c ∷ filled_text t xs n w ]
    ]

-- how often a character stands in a text
unfoldable pub slots : ℕ → List ℕ → ℕ
slots c [] = 0
slots c (a ∷ t) = elim (eqb a c) [ true ↦ suc (slots c t) | false ↦ slots c t ]

-- how long a filled text gets at most
unfoldable pub longest : List ℕ → ℕ → ℕ
longest t n = length t + 19 * slots number_slot t + n * slots ring_slot t
