-- The records of a block, one after another.
--     answered-ring              of the ring that the reader answered the writer's checks pass
--     step_after, step-refused   a record that was read, or refused
--     Going                      behind the first i bytes of a block: they are records, whose texts stand at the beginning of the output
--     going-none, going_on       before the first record, and behind one more
--     going-room, going-stop     there is room; and where no other is read
--     left_over, left-bad        why no other is read
--     turn-size, turn_on, turn-same, turn-stop, turn-over    a turn, by what it gave
use Rattle.words.proofs.Plain.{ℕ, ◌+◌, ◌-◌, ◌*◌, ◌<◌, ◌≤◌, arith, ◌≡◌, refl, Bool, true, false, List, [], ◌∷◌, ◌++◌, length, take, drop}
use Rattle.words.proofs.Plain.{length-take, length-drop, take-add, take_all}
use Rattle.words.proofs.Split.{lt, eq, gt, tri}
use Rattle.text_spec.specs.Put.{Placed}
use Rattle.text_spec.proofs.Put.{placed-none, placed-append, placed-length}
use Rattle.refusal.specs.{declared.Refusal.Refusal, Order.Given}
use Rattle.std.specs.Prelude.{Result, Ok, Err, Some}
use Rattle.record_spec.specs.{declared.Record.Record, Order.record_order, Says.Read, Says.ReadSays}
use Rattle.record_spec.specs.Layout.{body_length, n_of, k_of}
use Rattle.record_spec.proofs.{Forms.some_bytes, Rounds.length-answer, Rounds.answer-passes}
use Rattle.stream_spec.specs.Blocks.{Puts}
use Rattle.files_spec.specs.{declared.Job.Job, declared.How.How, declared.Taken.Taken, Shows.Shows}
use Rattle.files_spec.specs.Blocks.{Records, none, more, Left, TakeSays}
use Rattle.files_spec.proofs.Joined.{read-own}
use Rattle.files_text_inner.specs.Room.{record_room, PassedRing}
use Rattle.files_records_end_inner.specs.Says.{EnoughSays, left_of, BehindText, RecordsStopSays}
use Rattle.files_records_inner.specs.{Says.share, Says.RecordStepSays}

-- ---- a record

module _ (t : List ℕ) (s : ℕ) (o : List ℕ) (r : Record) (d : List ℕ) (l : length o ≡ 64) (h : Read t s o r.n r.k r.kind r.next d) where
  -- the same record at the beginning of a catalogue
  abbrev first_record : Record
  first_record = record { n = r.n; k = r.k; kind = r.kind; next = 4 + body_length r.kind r.n r.k }

  first : ReadSays t 0 o (Ok (Some first_record)) d
  first = (
    l,
    omega (arith, h.good.0.1),
    record { good = h.good; marked = h.marked; sectors = h.sectors; shades = h.shades; follows = omega arith; ring = h.ring },
  )

  pub answered-ring : PassedRing r.n r.k (take r.n d)
  answered-ring = record { long = length-answer t 0 o first_record d first; passed = answer-passes t 0 o first_record d first }

  same : body_length r.kind r.n r.k ≡ body_length r.kind (n_of t) (k_of t)
  same = rw (h.sectors, h.shades) refl

  -- it has bytes, and stands in t
  pub size : (s + 5 ≤ r.next) × (r.next ≤ s + length t)
  size = omega (arith, h.follows, same, h.good.0.1, some_bytes (n_of t) (k_of t) r.kind h.good.0.0.0.0 h.good.0.0.1)

  pub step_after : (j : Job) (b : List ℕ) (at e : ℕ) (f : List ℕ) → Puts (Shows j s r.n r.k r.kind (take r.n d)) record_room b at e f → RecordStepSays j s t b at (Ok (r.next - s, e)) f
  step_after j b at e f p = (
    omega (arith, size),
    omega (arith, size),
    record {
      text = p.text;
      says =
          record {
            n = r.n;
            k = r.k;
            kind = r.kind;
            before = o;
            after = d;
            room = l;
            read = let q : r.next ≡ s + (r.next - s) = omega (arith, size) in read-own t s o r.n r.k r.kind (r.next - s) d (rw q at h);
            shows = p.says;
          };
      short = p.short;
      placed = p.placed;
    },
  )

-- ---- the records of a block

-- the first i bytes of b are records, and what they show stands at the beginning of the output, which held o
pub record Going (j : Job) (p : ℕ) (b o : List ℕ) (i len : ℕ) (d : List ℕ) : Type 0 where
  pub inside : i ≤ length b
  pub shown : List ℕ
  pub records : Records j p (take i b) shown
  pub placed : Placed o 0 shown len d
  pub short : len ≤ i * share

pub going-none : (j : Job) (p : ℕ) (b o : List ℕ) → Going j p b o 0 0 o
going-none j p b o = record { inside = omega arith; shown = []; records = none; placed = placed-none o 0; short = omega arith }

-- one record more
pub going_on : (j : Job) (p : ℕ) (b o : List ℕ) (i len : ℕ) (d : List ℕ) (m e : ℕ) (f : List ℕ) → Going j p b o i len d →
    RecordStepSays j (p + i) (drop i b) d len (Ok (m, e)) f → Going j p b o (i + m) e f
going_on j p b o i len d m e f g (u, v, q) =
    record {
      inside = omega (arith, g.inside, length-drop i b);
      shown = g.shown ++ q.text;
      records = rw (take-add i m b) (more (take m (drop i b)) q.text g.records (rw long q.says));
      placed = placed-append o 0 g.shown len d q.text e f g.placed q.placed;
      short = omega (arith, g.short, q.short, q.placed.next);
    }
  where
    long : p + length (take i b) ≡ p + i
    long = omega (arith, length-take i b, g.inside)

-- the output keeps its length, and has room
pub going-room : (j : Job) (p : ℕ) (b o : List ℕ) (i len : ℕ) (d : List ℕ) → Going j p b o i len d → length b * share + record_room ≤ length o → (length d ≡ length o) × (len + record_room ≤ length d)
going-room j p b o i len d g h = omega (arith, placed-length o 0 g.shown len d g.placed, g.short, g.inside, h)

-- no other record is read
pub going-stop : (j : Job) (p : ℕ) (b : List ℕ) (last : Bool) (o : List ℕ) (i len : ℕ) (d : List ℕ) (h : Result How Refusal) (v : Taken) (f : List ℕ) →
    Going j p b o i len d → length b * share + record_room ≤ length o → RecordsStopSays j p i h d len v f →
    ((t : List ℕ) → BehindText j h t → Left j (p + i) (drop i b) last h t) → TakeSays j p b last o v f
going-stop j p b last o i len d h v f g room s k =
    let q = s.puts in
    record {
      text = g.shown ++ q.text;
      says =
          record {
            shown = g.shown;
            behind = q.text;
            whole = refl;
            inside = omega (arith, g.inside, s.bytes);
            records = rw s.bytes g.records;
            place = omega (arith, s.place, s.bytes);
            left = rw (s.place, s.bytes, s.why) (k q.text q.says);
          };
      placed = placed-append o 0 g.shown len d q.text v.len f g.placed q.placed;
      fits = omega (arith, q.placed.next, q.short, g.short, g.inside, room);
    }

-- ---- why no other is read

pub left_over : (j : Job) (p : ℕ) (b : List ℕ) (last : Bool) → EnoughSays last (length b) false → (t : List ℕ) → BehindText j (left_of last) t → Left j p b last (left_of last) t
left_over j p [] true k t e = (refl, refl, e)
left_over j p (a ∷ b) true k t e = absurd (k (omega arith))
left_over j p b false k t e = (refl, short, e)
  where
    short : length b < 68
    short = elim (tri (length b) 68) [ lt h ↦ h | eq h ↦ absurd (k (omega arith)) | gt h ↦ absurd (k (omega arith)) ]

pub left-bad : (j : Job) (p : ℕ) (b : List ℕ) (last : Bool) (r : Refusal) → EnoughSays last (length b) true → Given (record_order b p) r →
    (t : List ℕ) → BehindText j (Err r) t → Left j p b last (Err r) t
left-bad j p b last r k g t e = (record { enough = k; given = g }, e)

-- ---- a turn

-- what is left of the block
abbrev pub rest_of : List ℕ → ℕ → List ℕ
rest_of b i = take (length b - i) (drop i b)

rest-is : (b : List ℕ) (i : ℕ) → rest_of b i ≡ drop i b
rest-is b i = take_all (length b - i) (drop i b) (omega (arith, length-drop i b))

module _ (j : Job) (p : ℕ) (b o : List ℕ) (i len : ℕ) (d : List ℕ) (g : Going j p b o i len d) where
  module _ (v : Result (ℕ × ℕ) Refusal) (f : List ℕ) (h : RecordStepSays j (p + i) (rest_of b i) d len v f) where
    -- a record was read
    pub turn-size : (m e : ℕ) → v ≡ Ok (m, e) → (5 ≤ m) × (i + m ≤ length b)
    turn-size m e q =
        let k : RecordStepSays j (p + i) (rest_of b i) d len (Ok (m, e)) f = rw q at h in
        omega (arith, k.0, k.1, length-drop i b, length-take (length b - i) (drop i b), g.inside)

    pub turn_on : (m e : ℕ) → v ≡ Ok (m, e) → Going j p b o (i + m) e f
    turn_on m e q = let k : RecordStepSays j (p + i) (drop i b) d len (Ok (m, e)) f = rw (rest-is b i, q) at h in going_on j p b o i len d m e f g k

    -- one was refused
    pub turn-same : (r : Refusal) → v ≡ Err r → f ≡ d
    turn-same r q = let k : RecordStepSays j (p + i) (rest_of b i) d len (Err r) f = rw q at h in k.1

    pub turn-stop : (last : Bool) (r : Refusal) (w : Taken) (u : List ℕ) (y : Bool) → v ≡ Err r → y ≡ true → EnoughSays last (length b - i) y → length b * share + record_room ≤ length o →
        RecordsStopSays j p i (Err r) f len w u → TakeSays j p b last o w u
    turn-stop last r w u y q z n room s =
        let k : RecordStepSays j (p + i) (drop i b) d len (Err r) f = rw (rest-is b i, q) at h in
        let t : RecordsStopSays j p i (Err r) d len w u = rw k.1 at s in
        let a : EnoughSays last (length (drop i b)) true = rw (length-drop i b) (rw z at n) in
        going-stop j p b last o i len d (Err r) w u g room t (left-bad j (p + i) (drop i b) last r a k.0)

  -- none is read
  pub turn-over : (last : Bool) (w : Taken) (u : List ℕ) (y : Bool) → y ≡ false → EnoughSays last (length b - i) y →
      length b * share + record_room ≤ length o → RecordsStopSays j p i (left_of last) d len w u → TakeSays j p b last o w u
  turn-over last w u y z n room s =
      let a : EnoughSays last (length (drop i b)) false = rw (length-drop i b) (rw z at n) in
      going-stop j p b last o i len d (left_of last) w u g room s (left_over j (p + i) (drop i b) last a)
