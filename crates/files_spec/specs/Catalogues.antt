-- What a whole catalogue c shows: good records, one behind another, and then its end or its first damage. Every answer is the reader's for the whole catalogue.
--     Through j c s v text     from the place s on: v tells whether the rest is good, or else its first damage, and text is what it shows
--     ShowsAll j c v text      from the beginning
-- That a catalogue shows one text, and has one verdict: proofs/Unique.
use Rattle.std.specs.Prelude.{ℕ, ◌≡◌, List, ◌++◌, length, take, Result, Ok, Err, Some, None}
use Rattle.refusal.specs.declared.Refusal.{Refusal}
use Rattle.record_spec.specs.declared.Record.{Record}
use Rattle.record_spec.specs.Says.{ReadSays}
use Rattle.files_spec.specs.declared.Job.{Job}
use Rattle.files_spec.specs.Shows.{Shows, last_text}

-- o is what the reader's output held before, of 64 bytes, and d what it holds after
pub data Through (j : Job) (c : List ℕ) : ℕ → Result Unit Refusal → List ℕ → Type 0 where
  over : {s : ℕ} (o : List ℕ) → ReadSays c s o (Ok None) o → Through j c s (Ok tt) (last_text j (Ok tt))
  bad : {s : ℕ} (r : Refusal) (o : List ℕ) → length o ≡ 64 → ReadSays c s o (Err r) o → Through j c s (Err r) (last_text j (Err r))
  further : {s : ℕ} {v : Result Unit Refusal} {text : List ℕ} (r : Record) (o d t : List ℕ) →
      ReadSays c s o (Ok (Some r)) d → Shows j s r.n r.k r.kind (take r.n d) t → Through j c r.next v text → Through j c s v (t ++ text)

abbrev pub ShowsAll : Job → List ℕ → Result Unit Refusal → List ℕ → Type 0
ShowsAll j c v text = Through j c 0 v text
