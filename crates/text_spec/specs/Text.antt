-- The lines that the listing program prints (01, 'The listing program'): numbers are decimal, fields stand one space apart, and every line
-- ends in a newline.
--     hex_of a                 the lower-case hexadecimal digit of a sector; sectors are below 16, and of a larger byte it is the last digit
--     two_numbers head x middle y    a word, x, a second word, y and a newline
--     first_line k n           necklaces k=2 n=4
--     ring_line w moves p      0011 2 4: the sectors, the moves, the period
--     last_line rings moves    total 6 moves 7
--     refused_line x           refused 11
use Rattle.std.specs.Prelude.{ℕ, ◌%◌, List, ◌++◌, map}
use Rattle.io.specs.Digits.{hex_digit_ascii}
use Rattle.text_spec.specs.Decimal.{decimal}
use Rattle.text_spec.specs.Ascii.{ascii}

abbrev pub hex_of : ℕ → ℕ
hex_of a = hex_digit_ascii (a % 16)

-- a word, x, a second word, y and a newline: the form that two of the lines and the end of a ring's line have
unfoldable pub two_numbers : List ℕ → ℕ → List ℕ → ℕ → List ℕ
two_numbers head x middle y = head ++ decimal x ++ middle ++ decimal y ++ ascii "\n"

unfoldable pub first_line : ℕ → ℕ → List ℕ
first_line k n = ascii "necklaces k=" ++ decimal k ++ ascii " n=" ++ decimal n ++ ascii "\n"

unfoldable pub ring_line : List ℕ → ℕ → ℕ → List ℕ
ring_line w moves p = map hex_of w ++ ascii " " ++ decimal moves ++ ascii " " ++ decimal p ++ ascii "\n"

unfoldable pub last_line : ℕ → ℕ → List ℕ
last_line rings moves = ascii "total " ++ decimal rings ++ ascii " moves " ++ decimal moves ++ ascii "\n"

unfoldable pub refused_line : ℕ → List ℕ
refused_line x = ascii "refused " ++ decimal x ++ ascii "\n"
