-- Where a block is as far as it goes.
--     finish-over, finish-on     behind the last record
use Rattle.words.proofs.Plain.{ℕ, ◌+◌, arith, ◌≡◌, refl, Bool, true, false, List, []}
use Rattle.std.specs.Prelude.{Ok}
use Rattle.stream_spec.specs.Blocks.{Puts}
use Rattle.files_spec.specs.{declared.Job.Job, declared.Taken.Taken, Shows.last_text}
use Rattle.files_spec.specs.declared.How.TheVariants as H
use Rattle.files_end_inner.specs.Room.{end_room}
use Rattle.files_records_end_inner.specs.Says.{left_of, RecordsStopSays}

module _ (j : Job) (p used : ℕ) (last : Bool) (o : List ℕ) (len : ℕ) (v : Taken) (d : List ℕ) where
  pub finish-over : last ≡ true → v.how ≡ Ok H.Over → v.used ≡ used → v.place ≡ p + used → Puts (λ t. t ≡ last_text j (Ok tt)) end_room o len v.len d →
      RecordsStopSays j p used (left_of last) o len v d
  finish-over e f g h q = rw e (record { why = f; bytes = g; place = h; puts = record { text = q.text; says = q.says; short = q.short; placed = q.placed } })

  pub finish-on : last ≡ false → v.how ≡ Ok H.On → v.used ≡ used → v.place ≡ p + used → v.len ≡ len → d ≡ o → RecordsStopSays j p used (left_of last) o len v d
  finish-on e f g h i q = rw e (record { why = f; bytes = g; place = h; puts = record { text = []; says = refl; short = omega arith; placed = record { next = omega (arith, i); bytes = q } } })
