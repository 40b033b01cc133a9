-- What checking a block of an old catalogue promises (02, j), by cases on the answer. A block begins where a record does, and ends anywhere; `last` tells that the catalogue
-- ends with it. A record that a block cuts is refused with Cut where the block is the last, and otherwise is the next block's.
--     Lasting r             the refusal r stays whatever bytes follow: it is not Cut
--     Unfinished t          t is nothing, or the beginning of a record that is good as far as it goes
--     StretchSays b last v  the answer v for the block b
-- And what converting a block promises, with an output that held o before and holds d after.
--     Unturned b last m r   it is refused with r, where the output has m bytes: 4, and then the block's own refusal
--     TurnSays b last o v d the answer v: the whole records are converted, at the beginning of the output, and the others of its bytes are as they were
-- That no two answers satisfy it: proofs/Unique.
use Rattle.std.specs.Prelude.{ℕ, ◌≤◌, ◌≡◌, Bool, true, false, List, [], length, take, drop, Result, Ok, Err}
use Rattle.refusal.specs.declared.Refusal.{Refusal}
use Rattle.refusal.specs.declared.Refusal.TheVariants.{Room, Cut}
use Rattle.refusal.specs.Order.{Given}
use Rattle.converter_spec.specs.Reads.{old_order}
use Rattle.converter_spec.specs.Converts.{Sound, Turned, Damaged}

abbrev pub Lasting : Refusal → Type 0
Lasting r = (p : ℕ) → r ≡ Cut p → ⊥

pub data Unfinished (t : List ℕ) : Type 0 where
  nothing : t ≡ [] → Unfinished t
  begun : Given (old_order t 0) (Cut 0) → Unfinished t

-- what is left behind m bytes of whole records
abbrev pub LeftOver : Bool → List ℕ → Type 0
LeftOver true t = t ≡ []
LeftOver false t = Unfinished t

abbrev pub Stays : Bool → Refusal → Type 0
Stays true r = Unit
Stays false r = Lasting r

abbrev pub StretchSays : List ℕ → Bool → Result ℕ Refusal → Type 0
StretchSays b last (Ok m) = (m ≤ length b) × Sound (take m b) × LeftOver last (drop m b)
StretchSays b last (Err r) = Damaged b 0 r × Stays last r

-- ---- converting

pub data Unturned (b : List ℕ) (last : Bool) (m : ℕ) (r : Refusal) : Type 0 where
  room : r ≡ Room → (m ≡ length b → ⊥) → Unturned b last m r
  damaged : m ≡ length b → StretchSays b last (Err r) → Unturned b last m r

-- a refusal writes nothing
abbrev pub TurnSays : List ℕ → Bool → List ℕ → Result ℕ Refusal → List ℕ → Type 0
TurnSays b last o (Ok m) d = (length o ≡ length b) × StretchSays b last (Ok m) × Turned (take m b) (take m d) × (drop m d ≡ drop m o)
TurnSays b last o (Err r) d = Unturned b last (length o) r × (d ≡ o)
