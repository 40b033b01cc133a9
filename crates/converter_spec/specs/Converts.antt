-- What converting an old catalogue promises (02, j), by cases on the answer: for an old catalogue c and an output that held b before and holds d after. It goes
-- record by record; t is what is left of the old catalogue and begins at s, u is what is left of the new one.
--     Sound t                 t is records end to end, each of them good
--     FrontOf x t u           u begins with the front record of the front ring of the record that t begins with, whose side is x
--     Turned t u              u is t, with each record replaced by the front record of its front ring
--     Damaged t s r           the records before the first one that is not good are good, and that one the old reader refuses with r
--     SoundSays c v           checking all of c answers v: it is sound, or the damage
--     Unconverted c m r       the call is refused with r, where the output has m bytes: 4, and then the damage
--     ConvertSays c b r d     the answer r
--     FrontRecords u          u is front records end to end, each of them good as they are now
-- That a front record is its own front record, so that it comes through byte for byte, and what else follows: proofs/Through. That no two answers satisfy it, the
-- output included: proofs/Unique.
use Rattle.std.specs.Prelude.{ℕ, ◌+◌, ◌<◌, ◌≡◌, List, [], length, drop, Result, Ok, Err}
use Rattle.refusal.specs.declared.Refusal.{Refusal}
use Rattle.refusal.specs.declared.Refusal.TheVariants.{Room}
use Rattle.refusal.specs.Order.{Given}
use Rattle.record_spec.specs.declared.Kind.TheVariants.{Front}
use Rattle.record_spec.specs.Layout.{Marked, n_of, k_of, sectors_of}
use Rattle.record_spec.specs.Order.{After9}
use Rattle.converter_spec.specs.Sides.{Side, SideMarked, front_ring}
use Rattle.converter_spec.specs.Reads.{old_order}

-- ---- a catalogue that is not damaged

pub data Sound : List ℕ → Type 0 where
  ended : {t : List ℕ} → t ≡ [] → Sound t
  more : {t : List ℕ} (x : Side) → SideMarked t x → After9 t → Sound (drop (4 + n_of t) t) → Sound t

-- the front record of the front ring
pub record FrontOf (x : Side) (t u : List ℕ) : Type 0 where
  pub marked : Marked u Front
  pub sectors : n_of t ≡ n_of u
  pub shades : k_of t ≡ k_of u
  pub ring : front_ring x (sectors_of t) ≡ sectors_of u

pub data Turned : List ℕ → List ℕ → Type 0 where
  done : {t u : List ℕ} → t ≡ [] → u ≡ [] → Turned t u
  replaced : {t u : List ℕ} (x : Side) → SideMarked t x → After9 t → FrontOf x t u → Turned (drop (4 + n_of t) t) (drop (4 + n_of t) u) → Turned t u

-- ---- one that is

pub data Damaged : List ℕ → ℕ → Refusal → Type 0 where
  here : {t : List ℕ} {s : ℕ} {r : Refusal} → 0 < length t → Given (old_order t s) r → Damaged t s r
  later : {t : List ℕ} {s : ℕ} {r : Refusal} (x : Side) → SideMarked t x → After9 t → Damaged (drop (4 + n_of t) t) (s + 4 + n_of t) r → Damaged t s r

-- ---- either

abbrev pub SoundSays : List ℕ → Result Unit Refusal → Type 0
SoundSays c (Ok _) = Sound c
SoundSays c (Err r) = Damaged c 0 r

-- ---- the call

pub data Unconverted (c : List ℕ) (m : ℕ) (r : Refusal) : Type 0 where
  room : r ≡ Room → (m ≡ length c → ⊥) → Unconverted c m r
  damaged : m ≡ length c → Damaged c 0 r → Unconverted c m r

-- a refusal writes nothing
abbrev pub ConvertSays : List ℕ → List ℕ → Result Unit Refusal → List ℕ → Type 0
ConvertSays c b (Ok _) d = (length b ≡ length c) × Turned c d
ConvertSays c b (Err r) d = Unconverted c (length b) r × (d ≡ b)

-- ---- what comes out

pub data FrontRecords : List ℕ → Type 0 where
  none : {u : List ℕ} → u ≡ [] → FrontRecords u
  one : {u : List ℕ} → Marked u Front → After9 u → FrontRecords (drop (4 + n_of u) u) → FrontRecords u
