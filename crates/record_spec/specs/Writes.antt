-- What writing a record promises (02, a and k), by cases on the answer, in the words of Layout that reading is promised in: for a reading w of k shades, which shows
-- the ring from the front, a mark of kind x, a buffer that held b before and holds d after, and the place p in it.
--     write_order w k x t p        the order: 1, 2, 3 of the reading, then 7, where t is the part of the buffer that begins at p; `write-numbers`: by its numbers
--     RecordPlaced w k x t u            the part held t before and holds u after: the record stands at its front, and what follows is as it was
--     Wrote w k x b p e d         the record stands at p, e is the place after it, and every other byte is as it was
--     WriteSays w k x b p r d     the answer r
-- That no two answers satisfy it, the buffer included: proofs/Wrote. That writing and reading undo one another: proofs/Rounds.
use Rattle.std.specs.Prelude.{ℕ, ◌+◌, ◌≤◌, ◌≡◌, refl, List, [], ◌∷◌, length, take, drop, Result, Ok, Err}
use Rattle.rings.specs.Home.{home}
use Rattle.refusal.specs.declared.Refusal.{Refusal}
use Rattle.refusal.specs.declared.Refusal.TheVariants.{Cut}
use Rattle.refusal.specs.Order.{Checks, fact, ◌▸◌, Given, Passed, numbered}
use Rattle.refusal.specs.Calls.{one_reading}
use Rattle.record_spec.specs.declared.Kind.{Kind}
use Rattle.record_spec.specs.Layout.{Marked, body_length, stored, n_of, k_of, body_of}

-- the checks of the reading, and then whether the buffer has the bytes of head and sectors from the place on; past its end it has none
abbrev pub write_order : List ℕ → ℕ → Kind → List ℕ → ℕ → Checks
write_order w k x t p = one_reading w k ▸ fact (4 + body_length x (length w) k ≤ length t) (Cut p)

-- of the order that most calls share a reading can fail 1, 2 and 3 alone
pub write-numbers : (w : List ℕ) (k : ℕ) (x : Kind) (t : List ℕ) (p : ℕ) → numbered (write_order w k x t p) ≡ (1 ∷ 10 ∷ 2 ∷ 3 ∷ 4 ∷ 6 ∷ 5 ∷ 7 ∷ [])
write-numbers w k x t p = refl

-- the part that begins at the place: the record, and behind it what was there
pub record RecordPlaced (w : List ℕ) (k : ℕ) (x : Kind) (t u : List ℕ) : Type 0 where
  pub marked : Marked u x
  pub sectors : length w ≡ n_of u
  pub shades : k ≡ k_of u
  pub ring : stored x k (home w) ≡ body_of x u
  pub behind : drop (4 + body_length x (length w) k) u ≡ drop (4 + body_length x (length w) k) t

-- the record was written
pub record Wrote (w : List ℕ) (k : ℕ) (x : Kind) (b : List ℕ) (p e : ℕ) (d : List ℕ) : Type 0 where
  pub passed : Passed (one_reading w k)
  pub fits : 4 + body_length x (length w) k ≤ length (drop p b)
  pub follows : e ≡ p + 4 + body_length x (length w) k
  pub before : take p d ≡ take p b
  pub here : RecordPlaced w k x (drop p b) (drop p d)

-- a refusal writes nothing
abbrev pub WriteSays : List ℕ → ℕ → Kind → List ℕ → ℕ → Result ℕ Refusal → List ℕ → Type 0
WriteSays w k x b p (Ok e) d = Wrote w k x b p e d
WriteSays w k x b p (Err r) d = Given (write_order w k x (drop p b) p) r × (d ≡ b)
