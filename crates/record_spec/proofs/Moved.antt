-- A record is moved from one form to the other by reading it and then writing it (02, k), over the two contracts. c is a catalogue whose bytes are bytes, and the reader
-- answered n, k and the kind x of its record at s; the ring that it answered was written in the form y at p of a buffer, which is f since then.
--     moved-read      there the reader answers n, k, the kind y and the same ring
--     moved_back      and wherever what it answers is written in the form x again, the same bytes stand as at s
--     moved-home      written back to s itself, no byte of c changes
-- So a front record moved to the packed form and back is the same bytes (x is Front, y is Packed), and so is a packed one moved the other way.
use Rattle.words.proofs.Plain.{ℕ, ◌+◌, ◌≡◌, ap, ◌∙◌, subst, List, length, take, drop, take_at}
use Rattle.rings.specs.Home.{home}
use Rattle.packing_spec.specs.Packing.{Bytes}
use Rattle.std.specs.Prelude.{Result, Ok, Option, Some}
use Rattle.refusal.specs.declared.Refusal.{Refusal}
use Rattle.record_spec.specs.{declared.Kind.Kind, declared.Record.Record, Layout.body_length}
use Rattle.record_spec.specs.{Says.entry, Says.ReadSays, Writes.WriteSays}
use Rattle.record_spec.proofs.Rounds.{written_read, length-answer, answer-home, copied, read-written}

module _ (c : List ℕ) (s : ℕ) (b : List ℕ) (r : Record) (d : List ℕ) (h : ReadSays c s b (Ok (Some r)) d)
    (y : Kind) (v : List ℕ) (p e : ℕ) (f : List ℕ) (g : WriteSays (take r.n d) r.k y v p (Ok e) f)
    (o : List ℕ) (l : length o ≡ 64) (z : Result (Option Record) Refusal) (u : List ℕ) (a : ReadSays f p o z u) where
  long : length (take r.n d) ≡ r.n
  long = length-answer c s b r d h

  -- the reader answers the same ring there, in the form y
  pub moved-read : (z ≡ entry r.n r.k y e) × (take r.n u ≡ take r.n d)
  moved-read =
      let w = written_read (take r.n d) r.k y v p e f g o z u l a in (
        w.0 ∙ ap (λ (i : ℕ). entry i r.k y e) long,
        ap (take r.n) w.1 ∙ take_at (home (take r.n d)) (drop (length (take r.n d)) o) r.n (ap (λ (z : List ℕ). length z) (answer-home c s b r d h) ∙ long) ∙ answer-home c s b r d h,
      )

  module _ (q : Bytes c) where
    -- wherever it is written in the form that it had, the same bytes stand as at s
    pub moved_back : (v' : List ℕ) (p' e' : ℕ) (f' : List ℕ) → WriteSays (take r.n u) r.k r.kind v' p' (Ok e') f' →
        take (4 + body_length r.kind r.n r.k) (drop p' f') ≡ take (4 + body_length r.kind r.n r.k) (drop s c)
    moved_back v' p' e' f' m =
        copied c s b r d h q v' p' e' f' (subst (λ (z : List ℕ). WriteSays z r.k r.kind v' p' (Ok e') f') moved-read.1 m)

    -- written back to s, it changes nothing
    pub moved-home : (w' : Result ℕ Refusal) (f' : List ℕ) → WriteSays (take r.n u) r.k r.kind c s w' f' → (w' ≡ Ok r.next) × (f' ≡ c)
    moved-home w' f' m = read-written c s b r d h q w' f' (subst (λ (z : List ℕ). WriteSays z r.k r.kind c s w' f') moved-read.1 m)
