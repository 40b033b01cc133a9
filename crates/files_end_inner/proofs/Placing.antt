-- What stands behind the last record, where it was placed.
--     end_read, end-move                       of a good catalogue
--     damage-short, damage-read, damage-move   of a damaged one
use Rattle.words.proofs.Plain.{ℕ, ◌^◌, ◌<◌, ◌≤◌, arith, ◌≡◌, refl, List, [], length}
use Rattle.text_spec.specs.{Put.Placed, Ascii.ascii, Text.two_numbers}
use Rattle.text_spec.proofs.{Put.length_two, Digits.length-decimal}
use Rattle.std.specs.Prelude.{Result, Ok, Err}
use Rattle.refusal.specs.{declared.Refusal.Refusal, Numbers.number_of, Numbers.place_of}
use Rattle.stream_spec.specs.Blocks.{Puts}
use Rattle.files_spec.specs.{declared.Job.Job, Shows.last_text}
use Rattle.files_spec.specs.declared.Job.TheVariants as J
use Rattle.files_end_inner.specs.Room.{end_room}

pub damage-short : (x p : ℕ) → x < 10 ^ 20 → p < 10 ^ 20 → length (two_numbers (ascii "refused ") x (ascii " at ") p) ≤ end_room
damage-short x p f g = omega (arith, length_two (ascii "refused ") x (ascii " at ") p, length-decimal 19 x f, length-decimal 19 p g)

module _ (j : Job) (b : List ℕ) (at : ℕ) where
  -- nothing
  nothing : (v : Result Unit Refusal) → j ≡ J.Move → Puts (λ t. t ≡ last_text j v) end_room b at at b
  unfolding last_text
  nothing v e = rw e (record { text = []; says = refl; short = omega arith; placed = record { next = omega arith; bytes = refl } })

  pub end_read : (r : ℕ) (d : List ℕ) → j ≡ J.Read → Placed b at (ascii "end\n") r d → Puts (λ t. t ≡ last_text j (Ok tt)) end_room b at r d
  unfolding last_text
  end_read r d e p = rw e (record { text = ascii "end\n"; says = refl; short = omega arith; placed = p })

  pub end-move : j ≡ J.Move → Puts (λ t. t ≡ last_text j (Ok tt)) end_room b at at b
  end-move e = nothing (Ok tt) e

  pub damage-move : (q : Refusal) → j ≡ J.Move → Puts (λ t. t ≡ last_text j (Err q)) end_room b at at b
  damage-move q e = nothing (Err q) e

  pub damage-read : (q : Refusal) (x p r : ℕ) (d : List ℕ) → j ≡ J.Read → x ≡ number_of q → p ≡ place_of q → x < 10 ^ 20 → p < 10 ^ 20 →
      Placed b at (two_numbers (ascii "refused ") x (ascii " at ") p) r d → Puts (λ t. t ≡ last_text j (Err q)) end_room b at r d
  unfolding last_text
  damage-read q x p r d e f g h i l =
      rw e (record { text = two_numbers (ascii "refused ") x (ascii " at ") p; says = rw (f, g); short = damage-short x p h i; placed = l })
