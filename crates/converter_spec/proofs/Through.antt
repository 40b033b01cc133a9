-- What converting a catalogue gives, through the contract alone. c is the old catalogue, d the new one.
--     turned-length                 d is as long as c
--     turned-front                  it holds only front records
--     front-through                 a catalogue of front records comes through byte for byte
--     front-converts, twice         and so, whatever the converter answers for it; converting twice changes nothing more
--     Start c s                     a record of c starts at s, or c ends there
--     reads-alike, ends-alike       at each start, what the old reader gave of c the reader gives of d, as a front record
--     read_through                  whatever the reader answers there
--     Alike c d s b, alike          so from start to end: at each start both readers give a record, behind which is the next start, or both the end
--     damage-read                   a catalogue that is refused for its damage is refused as the old reader did, at one of its starts
use Rattle.words.proofs.Plain.{ℕ, ◌+◌, ◌<◌, ◌≤◌, arith, ◌≡◌, refl, sym, ap, ◌∙◌, subst, inr, List, [], ◌++◌, length, drop, length-drop, drop-drop}
use Rattle.refusal.specs.declared.Refusal.{Refusal}
use Rattle.std.specs.Prelude.{Result, Ok, Option, None}
use Rattle.record_spec.specs.{declared.Kind.TheVariants.Front, declared.Record.Record}
use Rattle.record_spec.specs.{Order.After9, Says.ReadSays}
use Rattle.record_spec.specs.Says.{entry as record_entry}
use Rattle.record_spec.specs.Layout.{n_of, k_of, sectors_of}
use Rattle.record_spec.proofs.Unique.{one-read}
use Rattle.converter_spec.specs.Sides.{Side, SideMarked, front_ring}
use Rattle.converter_spec.specs.{Sides.Side.front, Reads.OldReadSays}
use Rattle.converter_spec.specs.Reads.OldEntry.{entry, end, refused}
use Rattle.converter_spec.specs.Converts.{Turned, Damaged, ConvertSays, FrontRecords}
use Rattle.converter_spec.specs.Converts.Turned.{done, replaced}
use Rattle.converter_spec.specs.Converts.Damaged.{here, later}
use Rattle.converter_spec.specs.Converts.FrontRecords.{none, one}
use Rattle.converter_spec.proofs.Fronts.{one_side, front_long, front-good}
use Rattle.converter_spec.proofs.Unique.{some_left, one-convert}

-- ---- the new catalogue

-- it is as long as the old one
pub turned-length : (t u : List ℕ) → Turned t u → length u ≡ length t
turned-length t u (done e f) = rw (e, f)
turned-length t u (replaced x m a f r) =
    let q : length (drop (4 + n_of t) u) ≡ length (drop (4 + n_of t) t) = turned-length (drop (4 + n_of t) t) (drop (4 + n_of t) u) r in
    omega (arith, q, length-drop (4 + n_of t) u, length-drop (4 + n_of t) t, front_long t a x u f, a.0.1)

-- it holds only front records
pub turned-front : (t u : List ℕ) → Turned t u → FrontRecords u
turned-front t u (done e f) = none f
turned-front t u (replaced x m a f r) =
    one f.marked (front-good t a x u f) (subst (λ (i : ℕ). FrontRecords (drop (4 + i) u)) f.sectors (turned-front (drop (4 + n_of t) t) (drop (4 + n_of t) u) r))

-- a catalogue of front records comes through as it is
pub front-through : (u : List ℕ) → FrontRecords u → Turned u u
front-through u (none e) = done e e
front-through u (one m a r) = replaced front m a (record { marked = m; sectors = refl; shades = refl; ring = refl }) (front-through (drop (4 + n_of u) u) r)

-- whatever the converter answers for it
pub front-converts : (c b : List ℕ) (r : Result Unit Refusal) (d : List ℕ) → FrontRecords c → length b ≡ length c → ConvertSays c b r d → (r ≡ Ok tt) × (d ≡ c)
front-converts c b r d f l h = one-convert c b r (Ok tt) d c h (l, front-through c f)

-- converting twice changes nothing more
pub twice : (c b d o : List ℕ) (r : Result Unit Refusal) (e : List ℕ) → ConvertSays c b (Ok tt) d → length o ≡ length d → ConvertSays d o r e → (r ≡ Ok tt) × (e ≡ d)
twice c b d o r e g l h = front-converts d o r e (turned-front c d g.1) l h

-- ---- its records

-- a record of an old catalogue starts at s, or the catalogue ends there: from 0 on, record by record
pub data Start (c : List ℕ) : ℕ → Type 0 where
  first : Start c 0
  after : {s : ℕ} (x : Side) → Start c s → SideMarked (drop s c) x → After9 (drop s c) → Start c (s + 4 + n_of (drop s c))

-- what is left from a start on is converted too
turned-at : (c d : List ℕ) (s : ℕ) → Turned c d → Start c s → Turned (drop s c) (drop s d)
turned-at c d s h first = h
turned-at c d s h (after {s = p} x i m a) = step (drop p c) (drop p d) (turned-at c d p h i) a refl refl
  where
    step : (t u : List ℕ) → Turned t u → After9 t → t ≡ drop p c → u ≡ drop p d → Turned (drop (p + 4 + n_of (drop p c)) c) (drop (p + 4 + n_of (drop p c)) d)
    step t u (done e f) b q w = absurd (some_left t b e)
    step t u (replaced y o b f r) g q w =
        let k : p + (4 + n_of (drop p c)) ≡ p + 4 + n_of (drop p c) = omega arith in
        rw (sym k, sym (drop-drop (4 + n_of (drop p c)) p c), sym (drop-drop (4 + n_of (drop p c)) p d), sym q, sym w) r

-- no start is past the end
start-inside : (c : List ℕ) (s : ℕ) → Start c s → s ≤ length c
start-inside c s first = omega arith
start-inside c s (after {s = p} x i m a) = omega (arith, a.0.1, length-drop p c, start-inside c p i)

-- what both readers give at s, with an output that holds b: a record of the same n, k and front ring, behind which is a start; or the end
pub data Alike (c d : List ℕ) (s : ℕ) (b : List ℕ) : Type 0 where
  both : (n k : ℕ) (x : Side) (o : List ℕ) → OldReadSays c s b (entry n k x (s + 4 + n)) o → ReadSays d s b (record_entry n k Front (s + 4 + n)) o → Start c (s + 4 + n) → Alike c d s b
  over : OldReadSays c s b end b → ReadSays d s b (Ok None) b → Alike c d s b

module _ (c d : List ℕ) (s : ℕ) (h : Turned c d) (i : Start c s) where
  -- at each start: what the old reader gave of the old catalogue, the reader gives of the new one, as a front record
  pub reads-alike : (b : List ℕ) (n k : ℕ) (x : Side) (next : ℕ) (o : List ℕ) → OldReadSays c s b (entry n k x next) o → ReadSays d s b (record_entry n k Front next) o
  reads-alike b n k x next o g = step (turned-at c d s h i)
    where
      step : Turned (drop s c) (drop s d) → ReadSays d s b (record_entry n k Front next) o
      step (done e f) = absurd (some_left (drop s c) g.2.good e)
      step (replaced y m a f r) = (
        g.0,
        omega (arith, turned-length c d h, g.1),
        record {
          good = front-good (drop s c) a y (drop s d) f;
          marked = f.marked;
          sectors =
              g.2.sectors ∙ f.sectors;
          shades = g.2.shades ∙ f.shades;
          follows = g.2.follows;
          ring = ring;
        },
      )
        where
          ring : o ≡ sectors_of (drop s d) ++ drop n b
          ring =
              g.2.ring
              ∙ ap (λ (z : Side). front_ring z (sectors_of (drop s c)) ++ drop n b) (one_side (drop s c) x y g.2.marked m)
              ∙ ap (λ (v : List ℕ). v ++ drop n b) f.ring

  -- and the end
  pub ends-alike : (b o : List ℕ) → OldReadSays c s b end o → ReadSays d s b (Ok None) o
  ends-alike b o g = (g.0, g.1 ∙ sym (turned-length c d h), g.2)

  -- whatever the reader answers there
  pub read_through : (b : List ℕ) (n k : ℕ) (x : Side) (next : ℕ) (o : List ℕ) (r : Result (Option Record) Refusal) (u : List ℕ) → OldReadSays c s b (entry n k x next) o →
      ReadSays d s b r u → (r ≡ record_entry n k Front next) × (u ≡ o)
  read_through b n k x next o r u g f = one-read d s b r (record_entry n k Front next) u o f (reads-alike b n k x next o g)

  -- from start to end
  pub alike : (b : List ℕ) → length b ≡ 64 → Alike c d s b
  alike b l = step (turned-at c d s h i)
    where
      at-end : drop s c ≡ [] → OldReadSays c s b end b
      at-end e = let z : length (drop s c) ≡ 0 = rw e in (l, omega (arith, z, length-drop s c, start-inside c s i), refl)

      ring : Side → List ℕ
      ring x = front_ring x (sectors_of (drop s c)) ++ drop (n_of (drop s c)) b

      given : (x : Side) → SideMarked (drop s c) x → After9 (drop s c) → OldReadSays c s b (entry (n_of (drop s c)) (k_of (drop s c)) x (s + 4 + n_of (drop s c))) (ring x)
      given x m a = (l, omega (arith, a.0.1, length-drop s c), record { good = a; marked = m; sectors = refl; shades = refl; follows = refl; ring = refl })

      step : Turned (drop s c) (drop s d) → Alike c d s b
      step (done e f) = over (at-end e) (ends-alike b b (at-end e))
      step (replaced x m a f r) = both (n_of (drop s c)) (k_of (drop s c)) x (ring x) (given x m a)
          (reads-alike b (n_of (drop s c)) (k_of (drop s c)) x (s + 4 + n_of (drop s c)) (ring x) (given x m a)) (after x i m a)

-- ---- damage

-- the start at which the old reader refused, and that it did
pub record Refuses (c : List ℕ) (r : Refusal) : Type 0 where
  pub place : ℕ
  pub start : Start c place
  pub told : (b : List ℕ) → length b ≡ 64 → OldReadSays c place b (refused r) b

pub damage-read : (c : List ℕ) (s : ℕ) (r : Refusal) (t : List ℕ) → t ≡ drop s c → Start c s → Damaged t s r → Refuses c r
damage-read c s r t e i (here l b) =
    record { place = s; start = i; told = λ o z. (inr ((z, omega (arith, within)), (within, rw e at b)), refl) }
  where
    within : s < length c
    within = let q : length t ≡ length (drop s c) = ap (λ (v : List ℕ). length v) e in omega (arith, q, length-drop s c)
damage-read c s r t e i (later x m a d) =
    let k : s + (4 + n_of t) ≡ s + 4 + n_of t = omega arith in
    damage-read c (s + 4 + n_of t) r (drop (4 + n_of t) t)
    (ap (drop (4 + n_of t)) e ∙ drop-drop (4 + n_of t) s c ∙ ap (λ (j : ℕ). drop j c) k)
    (rw e (after x i (rw e at m) (rw e at a))) d
