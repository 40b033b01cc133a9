-- What becomes of a block.
--     taken-room, taken-turn           a block that was gone through
use Rattle.words.proofs.Plain.{ℕ, ◌+◌, ◌*◌, ◌≤◌, arith, ◌≡◌, refl, sym, ap, ◌∙◌, Bool, List, length, take, drop, sets-eq, take_at}
use Rattle.refusal.specs.declared.Refusal.{Refusal}
use Rattle.program_ending_inner.specs.declared.Ending.{Ending}
use Rattle.program_passes_inner.specs.Passes.{Course}
use Rattle.program_passes_inner.specs.Passes.Course.{On, Done, Stopped}
use Rattle.files_spec.specs.{declared.Job.Job, declared.How.How, declared.Taken.Taken, Blocks.TakeSays}
use Rattle.files_spec.specs.declared.How.TheVariants as H
use Rattle.files_text_inner.specs.Room.{record_room}
use Rattle.files_records_inner.specs.Says.{share}
use Rattle.files_time_inner.specs.{declared.Time.Time, Says.refused_of}
use Rattle.files_pass_inner.specs.Says.{SmallFile, turn_of, FileTurnSays}
use Rattle.files_pass_inner.specs.Says.FileTurnSays.{gone}

-- ---- a block that was gone through

-- there is room for what it shows
pub taken-room : (b d : List ℕ) → SmallFile b d → length b * share + record_room ≤ length d
taken-room b d s = omega (arith, s.short, s.room)

-- what it shows stands at the beginning of the output
shown-stands : (j : Job) (p : ℕ) (b : List ℕ) (last : Bool) (o : List ℕ) (v : Taken) (d : List ℕ) (s : TakeSays j p b last o v d) → take (length s.text) d ≡ s.text
shown-stands j p b last o v d s =
    rw (s.placed.bytes ∙ sets-eq s.text o 0 (omega (arith, s.placed.next, s.fits)))
    (take_at s.text (drop (0 + length s.text) o) (length s.text) refl)

pub taken-turn : (j : Job) (w : Time) (p : ℕ) (b : List ℕ) (last : Bool) (o : List ℕ) (u : Taken) (d : List ℕ) (v : Course) → TakeSays j p b last o u d →
    v ≡ turn_of w u.how u.used → FileTurnSays j w p b last d v
taken-turn j w p b last o u d v s e = gone u s.text s.says (shown-stands j p b last o u d s) e
