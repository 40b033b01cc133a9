-- What a set is to be worth (02, 'g'), sentence by sentence, over the set ts and the words that were looked at, in the order taken and looked at.
--     OneOf ts u, last_taken ts           u is one of the list; the last of the list
--     LyndonWords n k ts              each is a Lyndon word of n and k
--     Rising ts                       they stand in increasing order
--     Spread d ts                     any two are at least d apart
--     Near d ts u                     u is nearer than d to an earlier one taken
--     Settled d ts u                  u is taken, or nearer than d to an earlier one taken
--     Worth n k d want ts seen full   all that is asked of a set
-- That the greedy choice is worth it: `set_laws`.
use Rattle.std.specs.Prelude.{ℕ, ◌-◌, ◌<◌, ◌≤◌, ◌≡◌, Bool, true, false, List, [], length, get_or}
use Rattle.words.specs.Order.{before, up_to}
use Rattle.words.specs.Readings.{Reading}
use Rattle.rings.specs.Necklace.{lyndon}
use Rattle.rings.specs.Alike.{apart}

-- u is one of the list
pub record OneOf (ts : List (List ℕ)) (u : List ℕ) : Type 0 where
  pub at : ℕ
  pub inside : at < length ts
  pub is : get_or ts at [] ≡ u

-- the last of the list, where it has any
abbrev pub last_taken : List (List ℕ) → List ℕ
last_taken ts = get_or ts (length ts - 1) []

-- a Lyndon word of n and k
pub record LyndonOf (n k : ℕ) (u : List ℕ) : Type 0 where
  pub reading : Reading n k u
  pub is : lyndon u ≡ true

-- each is a Lyndon word of n and k
abbrev pub LyndonWords : ℕ → ℕ → List (List ℕ) → Type 0
LyndonWords n k ts = (i : ℕ) → i < length ts → LyndonOf n k (get_or ts i [])

-- they stand in increasing order
abbrev pub Rising : List (List ℕ) → Type 0
Rising ts = (i j : ℕ) → i < j → j < length ts → before (get_or ts i []) (get_or ts j []) ≡ true

-- any two are at least d apart
abbrev pub Spread : ℕ → List (List ℕ) → Type 0
Spread d ts = (i j : ℕ) → i < j → j < length ts → d ≤ apart (get_or ts i []) (get_or ts j [])

-- u is nearer than d to an earlier one taken
pub record Near (d : ℕ) (ts : List (List ℕ)) (u : List ℕ) : Type 0 where
  pub at : ℕ
  pub inside : at < length ts
  pub earlier : before (get_or ts at []) u ≡ true
  pub near : apart (get_or ts at []) u < d

-- u is taken, or nearer than d to an earlier one taken
pub data Settled (d : ℕ) (ts : List (List ℕ)) (u : List ℕ) : Type 0 where
  took : OneOf ts u → Settled d ts u
  left_out : Near d ts u → Settled d ts u

pub record Worth (n k d want : ℕ) (ts seen : List (List ℕ)) (full : Bool) : Type 0 where
  pub members : LyndonWords n k ts
  pub rising : Rising ts
  pub spread : Spread d ts
  -- each one taken is one of those looked at
  pub looked-at : (i : ℕ) → i < length ts → OneOf seen (get_or ts i [])
  -- where the set is full, the last one taken is the last one looked at
  pub last-looked : full ≡ true → last_taken ts ≡ last_taken seen
  -- each Lyndon word up to one that was looked at is taken or nearer than d to an earlier one taken
  pub settled : (u v : List ℕ) → LyndonOf n k u → OneOf seen v → up_to u v ≡ true → Settled d ts u
  -- full is exactly the wanted number
  pub enough : full ≡ true → length ts ≡ want
  -- not full: fewer, and of all Lyndon words none is left that could be taken
  pub short : full ≡ false → length ts < want
  pub none_left : full ≡ false → (u : List ℕ) → LyndonOf n k u → Settled d ts u
