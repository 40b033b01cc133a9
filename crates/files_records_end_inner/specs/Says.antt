-- What the parts promise.
--     EnoughSays last m r        r: is a record read of m bytes that are left?
--     left_of last                why a block is as far as it goes where no record is refused
--     BehindText j h t           t stands behind the records' texts, by why that is all
--     RecordsStopSays            behind `used` bytes of records, whose texts end at `len` of the output o, v tells why that is all, and what stands there then
use Rattle.std.specs.Prelude.{ℕ, ◌+◌, ◌≡◌, Bool, true, false, List, [], Result, Ok, Err}
use Rattle.refusal.specs.declared.Refusal.{Refusal}
use Rattle.stream_spec.specs.Blocks.{Puts}
use Rattle.files_spec.specs.declared.Job.{Job}
use Rattle.files_spec.specs.declared.How.{How}
use Rattle.files_spec.specs.declared.How.TheVariants as H
use Rattle.files_spec.specs.declared.Taken.{Taken}
use Rattle.files_spec.specs.Shows.{last_text}
use Rattle.files_spec.specs.Blocks.{Enough}
use Rattle.files_end_inner.specs.Room.{end_room}

abbrev pub EnoughSays : Bool → ℕ → Bool → Type 0
EnoughSays last m true = Enough last m
EnoughSays last m false = Enough last m → ⊥

abbrev pub left_of : Bool → Result How Refusal
left_of true = Ok H.Over
left_of false = Ok H.On

abbrev pub BehindText : Job → Result How Refusal → List ℕ → Type 0
BehindText j (Ok H.On) t = t ≡ []
BehindText j (Ok H.Over) t = t ≡ last_text j (Ok tt)
BehindText j (Err r) t = t ≡ last_text j (Err r)

pub record RecordsStopSays (j : Job) (p used : ℕ) (h : Result How Refusal) (o : List ℕ) (len : ℕ) (v : Taken) (d : List ℕ) : Type 0 where
  pub why : v.how ≡ h
  pub bytes : v.used ≡ used
  pub place : v.place ≡ p + used
  pub puts : Puts (BehindText j h) end_room o len v.len d
