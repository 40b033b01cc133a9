-- What reading a record of an old catalogue promised, by cases on the answer, before back records were retired (01, 'Catalogue records'; 02, b for the place of Not
-- home): the order was 4; 7 of the start, then End, then 7 of the head; 8, 1, 2; 7 of the body; 3, 9. What stands behind the mark was checked as it is now.
-- c is the catalogue, s the start, and the output held b before and holds d after; t is the part of the catalogue that begins at the start.
--     old_order t s                the checks of the record
--     old_read_order c s m          those of the call, where the output has m bytes; `old-numbers`, `old-read-numbers`: both by their numbers
--     OldEntry                    an answer: an entry of n, k, the side and the next start; the end; a refusal
--     OldRead t s b n k x next d  the record at s is whole and good, and the answer and the output are what it says
--     OldReadSays c s b r d       the answer r
use Rattle.std.specs.Prelude.{ℕ, ◌+◌, ◌<◌, ◌≤◌, ◌≡◌, refl, List, [], ◌∷◌, ◌++◌, length, drop}
use Rattle.refusal.specs.declared.Refusal.{Refusal}
use Rattle.refusal.specs.declared.Refusal.TheVariants.{Room, Cut, Mark}
use Rattle.refusal.specs.Order.{Checks, fact, only, ◌▸◌, Given, numbered}
use Rattle.record_spec.specs.declared.Kind.TheVariants.{Front}
use Rattle.record_spec.specs.Layout.{n_of, k_of, sectors_of}
use Rattle.record_spec.specs.Order.{behind_order, After9}
use Rattle.converter_spec.specs.Sides.{Side, SideMarked, front_ring}

-- the record at s
abbrev pub old_order : List ℕ → ℕ → Checks
old_order t s = fact (4 ≤ length t) (Cut s) ▸ fact ((x : Side) × SideMarked t x) (Mark s) ▸ behind_order Front t s

-- 17 cannot fail: where a sector is a byte no bit is left over
pub old-numbers : (t : List ℕ) (s : ℕ) → numbered (old_order t s) ≡ (7 ∷ 8 ∷ 1 ∷ 2 ∷ 7 ∷ 3 ∷ 17 ∷ 9 ∷ [])
old-numbers t s = refl

-- the call
abbrev pub old_read_order : List ℕ → ℕ → ℕ → Checks
old_read_order c s m = fact (m ≡ 64) Room ▸ fact (s ≤ length c) (Cut s) ▸ only (s < length c) (old_order (drop s c) s)

pub old-read-numbers : (c : List ℕ) (s m : ℕ) → numbered (old_read_order c s m) ≡ (4 ∷ 7 ∷ 7 ∷ 8 ∷ 1 ∷ 2 ∷ 7 ∷ 3 ∷ 17 ∷ 9 ∷ [])
old-read-numbers c s m = refl

pub data OldEntry : Type 0 where
  entry : (n k : ℕ) → Side → (next : ℕ) → OldEntry
  end : OldEntry
  refused : Refusal → OldEntry

-- the front ring stands in the first n bytes of the output, the others are as they were
pub record OldRead (t : List ℕ) (s : ℕ) (b : List ℕ) (n k : ℕ) (x : Side) (next : ℕ) (d : List ℕ) : Type 0 where
  pub good : After9 t
  pub marked : SideMarked t x
  pub sectors : n ≡ n_of t
  pub shades : k ≡ k_of t
  pub follows : next ≡ s + 4 + n
  pub ring : d ≡ front_ring x (sectors_of t) ++ drop n b

abbrev pub OldReadSays : List ℕ → ℕ → List ℕ → OldEntry → List ℕ → Type 0
OldReadSays c s b (entry n k x next) d = (length b ≡ 64) × (s < length c) × OldRead (drop s c) s b n k x next d
OldReadSays c s b end d = (length b ≡ 64) × (s ≡ length c) × (d ≡ b)
OldReadSays c s b (refused r) d = Given (old_read_order c s (length b)) r × (d ≡ b)
