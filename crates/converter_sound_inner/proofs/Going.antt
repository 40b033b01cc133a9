-- Going through an old catalogue record by record: what is found from the place p on is found from 0 on.
--     Going c p                       the loop's invariant
--     going-room                      where a record that is good ends
--     going-first, going_on           the invariant holds at 0, and behind a record that is good
--     going-found, going-ended        a record that is refused is the damage; where the catalogue ends there is none
use Rattle.words.proofs.Plain.{ℕ, ◌+◌, ◌-◌, ◌<◌, ◌≤◌, arith, ◌≡◌, ap, ◌∙◌, List, length, get_or, take, drop, length-drop, drop_of_length-le, get_or-drop, drop-drop}
use Rattle.words.proofs.Plain.{take_all}
use Rattle.std.specs.Prelude.{Ok, Err}
use Rattle.refusal.specs.declared.Refusal.{Refusal}
use Rattle.record_spec.specs.Layout.{n_of}
use Rattle.converter_spec.specs.{Converts.Sound, Converts.Damaged, Converts.Sound.ended, Converts.Sound.more}
use Rattle.converter_spec.specs.Converts.Damaged.{here, later}
use Rattle.converter_check_inner.specs.Old.{OldSays}

-- p is inside, and what is left from p on tells of the whole
pub record Going (c : List ℕ) (p : ℕ) : Type 0 where
  pub inside : p ≤ length c
  pub sound : Sound (drop p c) → Sound c
  pub damaged : (r : Refusal) → Damaged (drop p c) p r → Damaged c 0 r

pub going-first : (c : List ℕ) → Going c 0
going-first c = record { inside = omega arith; sound = λ h. h; damaged = λ r h. h }

-- the part that begins at p, handed on by its length
part : (c : List ℕ) (p : ℕ) → take (length c - p) (drop p c) ≡ drop p c
part c p = take_all (length c - p) (drop p c) (simp length-drop (omega arith))

module _ (c : List ℕ) (p : ℕ) (g : Going c p) where
  -- a record that is refused is the damage
  pub going-found : (r : Refusal) → p < length c → OldSays (take (length c - p) (drop p c)) p (Err r) → Damaged c 0 r
  going-found r l h = g.damaged r (here (simp length-drop (omega arith)) (let q = part c p in rw q at h))

  size : n_of (drop p c) ≡ get_or c (p + 2) 0
  size = get_or-drop p c 2 0

  -- where a record that is good ends
  pub going-room : OldSays (take (length c - p) (drop p c)) p (Ok tt) → (p + 2 < length c) × (p + (4 + get_or c (p + 2) 0) ≤ length c)
  going-room h = room (let q = part c p in rw q at h)
    where
      room : OldSays (drop p c) p (Ok tt) → (p + 2 < length c) × (p + (4 + get_or c (p + 2) 0) ≤ length c)
      room (x, m, a) = omega (arith, size, a.0.1, length-drop p c)

  -- behind it
  pub going_on : (e : ℕ) → e ≡ p + (4 + get_or c (p + 2) 0) → OldSays (take (length c - p) (drop p c)) p (Ok tt) → Going c e
  going_on e k h = on (let q = part c p in rw q at h)
    where
      ends : p + (4 + n_of (drop p c)) ≡ e
      ends = omega (arith, size)

      after : p + 4 + n_of (drop p c) ≡ e
      after = omega (arith, size)

      ahead : drop (4 + n_of (drop p c)) (drop p c) ≡ drop e c
      ahead = drop-drop (4 + n_of (drop p c)) p c ∙ ap (λ (i : ℕ). drop i c) ends

      on : OldSays (drop p c) p (Ok tt) → Going c e
      on (x, m, a) =
          record {
            inside = omega (arith, size, a.0.1, length-drop p c);
            sound = λ s. g.sound (more x m a (rw ahead s));
            damaged = λ r d. g.damaged r (later x m a (rw (ahead, after) d));
          }

  -- where the catalogue ends there is none
  pub going-ended : length c ≤ p → Sound c
  going-ended l = g.sound (ended (drop_of_length-le c {i = p} l))
