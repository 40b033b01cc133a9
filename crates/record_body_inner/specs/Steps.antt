-- What the parts of the reader promise each other; it serves the code alone.
--     Held m                   a number of the code holds m, so that no place wraps
--     HeadNumbersSay t s v     checking n and k of the record that t begins with, at s, whatever its kind
--     BodySays x n k b s v     checking the bytes b behind the head of a record of n sectors and k shades, at s
--     BehindSays x t s v       checking what stands behind the mark of the record that t begins with, at s, as that of a record of kind x
--     RestSays t s v           the same where a sector is a byte
--     RecordSays t s b r d     reading the record that t begins with, at s of the catalogue
use Rattle.std.specs.Prelude.{ℕ, ◌<◌, ◌≡◌, List, Result, Ok, Err}
use Rattle.refusal.specs.declared.Refusal.{Refusal}
use Rattle.refusal.specs.Order.{Given, CheckSays}
use Rattle.record_spec.specs.declared.Kind.{Kind}
use Rattle.record_spec.specs.declared.Kind.TheVariants.{Front}
use Rattle.record_spec.specs.declared.Record.{Record}
use Rattle.record_spec.specs.Order.{size_order, body_order, behind_order, record_order}
use Rattle.record_spec.specs.Says.{Read}

-- m is below 2 to the power 64
abbrev pub Held : ℕ → Type 0
Held m = m < 18446744073709551616

abbrev pub HeadNumbersSay : List ℕ → ℕ → Result Unit Refusal → Type 0
HeadNumbersSay t s v = CheckSays (size_order t s) v

abbrev pub BodySays : Kind → ℕ → ℕ → List ℕ → ℕ → Result Unit Refusal → Type 0
BodySays x n k b s v = CheckSays (body_order x n k b s) v

abbrev pub BehindSays : Kind → List ℕ → ℕ → Result Unit Refusal → Type 0
BehindSays x t s v = CheckSays (behind_order x t s) v

abbrev pub RestSays : List ℕ → ℕ → Result Unit Refusal → Type 0
RestSays t s v = BehindSays Front t s v

abbrev pub RecordSays : List ℕ → ℕ → List ℕ → Result Record Refusal → List ℕ → Type 0
RecordSays t s b (Ok r) d = Read t s b r.n r.k r.kind r.next d
RecordSays t s b (Err r) d = Given (record_order t s) r × (d ≡ b)
