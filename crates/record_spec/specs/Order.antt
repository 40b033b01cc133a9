-- The record reader's order of checks (01, 'Refusal numbers'; 02, j and k): 4; 7 of the start, then End, then 7 of the head; 8, 16, 1, 2; 7 of the body; 3, 17, 9.
-- Each refusal has its place in the whole catalogue.
-- c is the catalogue, s the start, m the length of the output; t is the part of the catalogue that begins at the start, x its kind.
--     Known t                     t begins with a known mark
--     size_order t s               behind the mark: 1, 2
--     whole_order x t s            and then 7 of the body
--     body_order x n k b s         3, 17, 9 of the bytes b behind the head of a record of n sectors and k shades
--     behind_order x t s           all that stands behind the mark: 1, 2, 7 (body), and then those bytes
--     record_order t s             the record: 7 (head), 8, 16, and then what stands behind the mark
--     read_order c s m             the call: 4, 7 (start), and then, unless it is the end, the record; `read-numbers`: by its numbers, as the client says it
--     After2 t, After7 x t        the checks behind the mark have passed up to 2, and up to 7
--     GoodRecord x t                    they have all passed
--     After9 t                    the same where a sector is a byte: so is every record of an old catalogue (02, j), whatever its mark
use Rattle.std.specs.Prelude.{ℕ, ◌+◌, ◌-◌, ◌<◌, ◌≤◌, ◌≡◌, refl, true, ◌⊎◌, List, [], ◌∷◌, length, get_or, drop}
use Rattle.words.specs.Readings.{Sized, Shaded}
use Rattle.rings.specs.Necklace.{necklace}
use Rattle.rings.specs.Class.{look_at}
use Rattle.refusal.specs.declared.Refusal.TheVariants.{Length, Shades, Sector, Room, Cut, Mark, NotHome, Retired, Padding}
use Rattle.refusal.specs.Order.{Checks, fact, each, only, ◌▸◌, Passed, numbered}
use Rattle.record_spec.specs.declared.Kind.{Kind}
use Rattle.record_spec.specs.declared.Kind.TheVariants.{Front}
use Rattle.record_spec.specs.Layout.{Marked, MarkedBack, kind_by_mark, body_length, shown, byte_at, is_clear, n_of, k_of, body_of}

-- t begins with a mark that is known and not retired
abbrev pub Known : List ℕ → Type 0
Known t = (x : Kind) × Marked t x

-- ---- behind the mark of the record at s

-- 1, 2
abbrev pub size_order : List ℕ → ℕ → Checks
size_order t s = fact (Sized (n_of t)) (Length (s + 2)) ▸ fact (Shaded (k_of t)) (Shades (s + 3))

-- 7 for the body: the bytes of the sectors are all there
abbrev pub whole_order : Kind → List ℕ → ℕ → Checks
whole_order x t s = size_order t s ▸ fact (4 + body_length x (n_of t) (k_of t) ≤ length t) (Cut s)

-- 3 at the byte that holds the sector's first bit; 17, for packed sectors alone can leave bits over, at the last byte; 9 at the sector to look at among those that
-- are stored (02, b)
abbrev pub body_order : Kind → ℕ → ℕ → List ℕ → ℕ → Checks
body_order x n k b s =
    each (length (shown x n k b)) (λ i. get_or (shown x n k b) i 0 < k) (λ i. Sector (s + 4 + byte_at x k i))
    ▸ fact (is_clear x n k b ≡ true) (Padding (s + 4 + (body_length x n k - 1)))
    ▸ fact (necklace (shown x n k b) ≡ true) (NotHome (s + 4 + byte_at x k (look_at (shown x n k b))))

abbrev pub behind_order : Kind → List ℕ → ℕ → Checks
behind_order x t s = whole_order x t s ▸ body_order x (n_of t) (k_of t) (body_of x t) s

-- ---- the record at s

-- 7 for the head: mark, n and k are there; then the mark
abbrev pub record_order : List ℕ → ℕ → Checks
record_order t s =
    fact (4 ≤ length t) (Cut s)
    ▸ fact (Known t ⊎ MarkedBack t) (Mark s)
    ▸ fact (MarkedBack t → ⊥) (Retired s)
    ▸ behind_order (kind_by_mark t) t s

-- ---- the call

abbrev pub read_order : List ℕ → ℕ → ℕ → Checks
read_order c s m = fact (m ≡ 64) Room ▸ fact (s ≤ length c) (Cut s) ▸ only (s < length c) (record_order (drop s c) s)

pub read-numbers : (c : List ℕ) (s m : ℕ) → numbered (read_order c s m) ≡ (4 ∷ 7 ∷ 7 ∷ 8 ∷ 16 ∷ 1 ∷ 2 ∷ 7 ∷ 3 ∷ 17 ∷ 9 ∷ [])
read-numbers c s m = refl

-- ---- passed, wherever the record stands

abbrev pub After2 : List ℕ → Type 0
After2 t = Passed (size_order t 0)

abbrev pub After7 : Kind → List ℕ → Type 0
After7 x t = Passed (whole_order x t 0)

abbrev pub GoodRecord : Kind → List ℕ → Type 0
GoodRecord x t = Passed (behind_order x t 0)

-- a sector a byte
abbrev pub After9 : List ℕ → Type 0
After9 t = GoodRecord Front t
