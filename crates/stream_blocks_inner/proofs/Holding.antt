-- One byte more of a line, by what holding it says.
--     held-ends    it ends the line, of which nothing was changed
--     held_kept    it is kept with the line, or passed over
use Rattle.words.proofs.Plain.{ℕ, ◌≤◌, arith, ◌≡◌, List, length, take, length-set}
use Rattle.text_spec.specs.Ascii.{newline}
use Rattle.stream_spec.specs.{Texts.Relation, Blocks.ByteSays}
use Rattle.stream_spec.proofs.Taking.{byte-kept, byte-passed}
use Rattle.std.specs.Prelude.{Option, Some, None}
use Rattle.stream_steps_inner.specs.Says.{ByteHeld, put, passed, HeldSays}

module _ (c m : ℕ) (w : List ℕ) (r : Option ℕ) (w' : List ℕ) where
  pub held-ends : r ≡ None → HeldSays c m w r w' → (c ≡ newline) × (w' ≡ w)
  held-ends e h = rw e at h

  pub held_kept : (Answers : Relation) (room at : ℕ) (b : List ℕ) (n : ℕ) → r ≡ Some n → m ≤ length w → HeldSays c m w r w' → (n ≤ length w')
      × ByteSays Answers (length w) room (take m w) at c b (take n w') at b
  held_kept Answers room at b n e l h = let k : HeldSays c m w (Some n) w' = rw e at h in go k.0 k.1
    where
      go : (c ≡ newline → ⊥) → ByteHeld c m w n w' → (n ≤ length w') × ByteSays Answers (length w) room (take m w) at c b (take n w') at b
      go x (put i f g) = rw (f, g) (simp length-set (omega (arith, i)), byte-kept Answers room w m at c b x i)
      go x (passed i f g) = rw (f, g) (l, byte-passed Answers room w m at c b x l i)
