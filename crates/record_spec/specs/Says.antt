-- What reading a record promises (01, 'Catalogue records'; 02, j and k), by cases on the answer: for a catalogue c, a start s and an output that held b before and holds d after.
--     Read t s b n k x next d    the record at s is whole and good, and the answer and the output are what it says
--     entry n k x next           the answer that a record was read
--     ReadSays c s b r d         the answer r: a record, the end, which is no record, or a refusal
-- That no two answers satisfy it, the output included: proofs/Unique.
use Rattle.std.specs.Prelude.{ℕ, ◌+◌, ◌<◌, ◌≡◌, List, ◌++◌, length, drop, Result, Ok, Err, Option, Some, None}
use Rattle.refusal.specs.declared.Refusal.{Refusal}
use Rattle.refusal.specs.Order.{Given}
use Rattle.record_spec.specs.declared.Kind.{Kind}
use Rattle.record_spec.specs.declared.Record.{Record}
use Rattle.record_spec.specs.Layout.{Marked, body_length, n_of, k_of, stored_ring}
use Rattle.record_spec.specs.Order.{GoodRecord, read_order}

-- t is the part of the catalogue that begins at s; x is the kind that its mark tells; the front ring, which is what is stored, stands in the first n bytes of the output, the others are as they were
pub record Read (t : List ℕ) (s : ℕ) (b : List ℕ) (n k : ℕ) (x : Kind) (next : ℕ) (d : List ℕ) : Type 0 where
  pub good : GoodRecord x t
  pub marked : Marked t x
  pub sectors : n ≡ n_of t
  pub shades : k ≡ k_of t
  pub follows : next ≡ s + 4 + body_length x n k
  pub ring : d ≡ stored_ring x t ++ drop n b

abbrev pub entry : ℕ → ℕ → Kind → ℕ → Result (Option Record) Refusal
entry n k x next = Ok (Some (record { n = n; k = k; kind = x; next = next }))

abbrev pub ReadSays : List ℕ → ℕ → List ℕ → Result (Option Record) Refusal → List ℕ → Type 0
ReadSays c s b (Ok (Some r)) d = (length b ≡ 64) × (s < length c) × Read (drop s c) s b r.n r.k r.kind r.next d
ReadSays c s b (Ok None) d = (length b ≡ 64) × (s ≡ length c) × (d ≡ b)
ReadSays c s b (Err r) d = Given (read_order c s (length b)) r × (d ≡ b)
