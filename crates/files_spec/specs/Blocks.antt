-- A catalogue block after block. A block begins where a record does, and ends anywhere; `last` tells that the catalogue ends with it. Where it does not, a record is
-- read only if the block still has the 68 bytes that the longest takes: what it is then does not depend on what follows, and what is left is the next block's.
--     One j s a t               the bytes a are one good record, which stands at s, and t is what it shows
--     Records j p b t           the bytes b, which stand at p, are good records, one behind another, and t is what they show
--     Enough last m             of m bytes that are left a record is read
--     BadRecord last b p r            b, which stands at p, begins with a record that is refused with r
--     TakenSays j p b last v t  the block b, which stands at p, was gone through so far as v tells, and t is what it shows
--     TakeSays                  the same, where t stands at the beginning of an output that held o before and holds d after
-- And a whole catalogue c, however it is cut:
--     file_block c p m             the block of c that begins at p and has m bytes, or fewer where c ends
--     Blockwise j c p v t       block after block from p on: v is the verdict, and t what the blocks show, one after another
-- That a run shows what the whole catalogue shows: proofs/Cut.
use Rattle.std.specs.Prelude.{ℕ, ◌+◌, ◌<◌, ◌≤◌, ◌≡◌, Bool, true, false, List, [], ◌++◌, length, take, drop, Result, Ok, Err}
use Rattle.text_spec.specs.Put.{Placed}
use Rattle.refusal.specs.declared.Refusal.{Refusal}
use Rattle.refusal.specs.Order.{Given}
use Rattle.record_spec.specs.declared.Kind.{Kind}
use Rattle.record_spec.specs.Order.{record_order}
use Rattle.record_spec.specs.Says.{Read}
use Rattle.files_spec.specs.declared.Job.{Job}
use Rattle.files_spec.specs.declared.How.{How}
use Rattle.files_spec.specs.declared.How.TheVariants.{On, Over}
use Rattle.files_spec.specs.declared.Taken.{Taken}
use Rattle.files_spec.specs.Shows.{Shows, last_text}

-- ---- records

pub record One (j : Job) (s : ℕ) (a t : List ℕ) : Type 0 where
  pub n : ℕ
  pub k : ℕ
  pub kind : Kind
  pub before : List ℕ
  pub after : List ℕ
  pub room : length before ≡ 64
  pub read : Read a s before n k kind (s + length a) after
  pub shows : Shows j s n k kind (take n after) t

pub data Records (j : Job) (p : ℕ) : List ℕ → List ℕ → Type 0 where
  none : Records j p [] []
  more : {b t : List ℕ} (a x : List ℕ) → Records j p b t → One j (p + length b) a x → Records j p (b ++ a) (t ++ x)

-- ---- a block

abbrev pub Enough : Bool → ℕ → Type 0
Enough true m = 0 < m
Enough false m = 68 ≤ m

pub record BadRecord (last : Bool) (b : List ℕ) (p : ℕ) (r : Refusal) : Type 0 where
  pub enough : Enough last (length b)
  pub given : Given (record_order b p) r

-- what is left behind e bytes of records, by why it was left; t is what stands behind what they show
abbrev pub Left : Job → ℕ → List ℕ → Bool → Result How Refusal → List ℕ → Type 0
Left j p b last (Ok On) t = (last ≡ false) × (length b < 68) × (t ≡ [])
Left j p b last (Ok Over) t = (last ≡ true) × (b ≡ []) × (t ≡ last_text j (Ok tt))
Left j p b last (Err r) t = BadRecord last b p r × (t ≡ last_text j (Err r))

pub record TakenSays (j : Job) (p : ℕ) (b : List ℕ) (last : Bool) (v : Taken) (t : List ℕ) : Type 0 where
  pub shown : List ℕ
  pub behind : List ℕ
  pub whole : t ≡ shown ++ behind
  pub inside : v.used ≤ length b
  pub records : Records j p (take v.used b) shown
  pub place : v.place ≡ p + v.used
  pub left : Left j v.place (drop v.used b) last v.how behind

pub record TakeSays (j : Job) (p : ℕ) (b : List ℕ) (last : Bool) (o : List ℕ) (v : Taken) (d : List ℕ) : Type 0 where
  pub text : List ℕ
  pub says : TakenSays j p b last v text
  pub placed : Placed o 0 text v.len d
  pub fits : v.len ≤ length o

-- ---- a whole catalogue

abbrev pub file_block : List ℕ → ℕ → ℕ → List ℕ
file_block c p m = take m (drop p c)

-- a block may be called the last only where the catalogue ends with it
abbrev pub FileReaches : List ℕ → ℕ → ℕ → Bool → Type 0
FileReaches c p m true = length c ≤ p + m
FileReaches c p m false = Unit

-- the verdict of a block behind which no other is read
abbrev pub verdict_of : Result How Refusal → Result Unit Refusal → Type 0
verdict_of (Ok On) v = ⊥
verdict_of (Ok Over) v = v ≡ Ok tt
verdict_of (Err r) v = v ≡ Err r

pub data Blockwise (j : Job) (c : List ℕ) : ℕ → Result Unit Refusal → List ℕ → Type 0 where
  part : {p : ℕ} {v : Result Unit Refusal} {u : List ℕ} (m : ℕ) (w : Taken) (t : List ℕ) → TakenSays j p (file_block c p m) false w t → w.how ≡ Ok On → Blockwise j c w.place v u → Blockwise j c p v (t ++ u)
  rest : {p : ℕ} {v : Result Unit Refusal} (m : ℕ) (last : Bool) (w : Taken) (t : List ℕ) → FileReaches c p m last → TakenSays j p (file_block c p m) last w t → verdict_of w.how v → Blockwise j c p v t
