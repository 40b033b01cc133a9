-- Writing and reading undo one another, over the two contracts, in either form.
--     reading-passed           a reading of good numbers passes the checks
--     written-reads            of a record that was written the reader may answer n, k, the kind, the place after it and the home reading that was meant
--     written_read             and whatever it answers, it answers that
--     answer-passes            what the reader answered passes the writer's checks
-- of a catalogue whose bytes are bytes, as those of every lent slice are:
--     same_bytes               the record of what the reader answered is the bytes that it read
--     copied                   so that wherever it is written, the same bytes stand there
--     read-writes, read-written    written back to its own place, the writer answers where the next record starts, and no byte of the catalogue changes
use Rattle.words.proofs.Plain.{ℕ, ◌+◌, ◌<◌, ◌≤◌, arith, ◌≡◌, refl, sym, ap, ◌∙◌, subst, true, List, ◌++◌, length, take, drop, length-append}
use Rattle.words.proofs.Plain.{length-drop, take_at, get_or-take, get_or-drop}
use Rattle.words.specs.Readings.{Sized, Shaded, Reading}
use Rattle.rings.specs.{Necklace.necklace, Home.home}
use Rattle.ring_home_laws.proofs.Home.{length-home, home-necklace, necklace-home}
use Rattle.refusal.specs.{Order.Passed, Calls.Below, Calls.one_reading}
use Rattle.packing_spec.specs.Packing.{Bytes}
use Rattle.std.specs.Prelude.{Result, Ok, Option, Some}
use Rattle.refusal.specs.declared.Refusal.{Refusal}
use Rattle.record_spec.specs.{declared.Kind.Kind, declared.Record.Record, Says.Read, Says.entry, Says.ReadSays}
use Rattle.record_spec.specs.Layout.{body_length, stored, shown, is_clear, n_of, k_of, body_of, stored_ring}
use Rattle.record_spec.specs.Writes.{Wrote, WriteSays}
use Rattle.record_spec.proofs.Forms.{shown-stored, stored-shown, clear-stored}
use Rattle.record_spec.proofs.{Unique.one-read, Laid.laid-sectors, Laid.whole}
use Rattle.record_spec.proofs.Laws.{length-body, length-ring, uncut, read_length, output-front}
use Rattle.record_spec.proofs.Wrote.{record_bytes, home_below, length-home-stored, length-record, placed-bytes, bytes-placed, one-write}

-- ---- a reading of good numbers

pub reading-passed : (w : List ℕ) (k n : ℕ) → Sized n → Shaded k → Reading n k w → Passed (one_reading w k)
reading-passed w k n z h r = ((((((rw r.long z, tt), h), λ i l. r.shades i (omega (arith, r.long))), tt), tt), refl)

-- ---- written, and then read

-- a record that stands at the front of u, before any bytes z
module _ (w : List ℕ) (k : ℕ) (x : Kind) (z : List ℕ) (g : Passed (one_reading w k)) where
  abbrev u : List ℕ
  u = record_bytes x k w ++ z

  some : 0 < length w
  some = g.0.0.0.0.0.0.0

  homely : Below (home w) (λ i. k)
  homely = home_below w k g

  body : body_of x u ≡ stored x k (home w)
  body = laid-sectors x (length w) k (stored x k (home w)) z (length-home-stored w k x g)

  ring : stored_ring x u ≡ home w
  ring =
      ap (λ (b : List ℕ). shown x (length w) k b) body
      ∙ ap (λ (i : ℕ). shown x i k (stored x k (home w))) (sym (length-home w some))
      ∙ shown-stored x k (home w) homely

  clear : is_clear x (length w) k (body_of x u) ≡ true
  clear =
      ap (λ (b : List ℕ). is_clear x (length w) k b) body
      ∙ ap (λ (i : ℕ). is_clear x i k (stored x k (home w))) (sym (length-home w some))
      ∙ clear-stored x k (home w) homely

  long : length u ≡ 4 + body_length x (length w) k + length z
  long = omega (arith, length-append (record_bytes x k w) z, length-record w k x g)

  -- it is read
  reads_here : (p : ℕ) (o : List ℕ) → Read u p o (length w) k x (p + 4 + body_length x (length w) k) (home w ++ drop (length w) o)
  reads_here p o =
      record {
        good =
            (((g.0.0.0.0.0.0, g.0.0.0.0.1), omega (arith, long)), ((subst (λ (v : List ℕ). Below v (λ i. k)) (sym ring) homely, clear), ap necklace ring ∙ home-necklace w some));
        marked = (refl, refl);
        sectors = refl;
        shades = refl;
        follows = refl;
        ring = ap (λ (v : List ℕ). v ++ drop (length w) o) (sym ring);
      }

module _ (w : List ℕ) (k : ℕ) (x : Kind) (b : List ℕ) (p e : ℕ) (d : List ℕ) (h : Wrote w k x b p e d) where
  -- the record stands at p
  here : drop p d ≡ record_bytes x k w ++ drop (4 + body_length x (length w) k) (drop p b)
  here = placed-bytes w k x h.passed (drop p b) (drop p d) h.here

  -- p is in the buffer
  within : p < length d
  within =
      let l : length (drop p d) ≡ length (record_bytes x k w ++ drop (4 + body_length x (length w) k) (drop p b)) = ap (λ (v : List ℕ). length v) here in
      omega (arith, l, length-drop p d)

  -- what the reader may answer
  pub written-reads : (o : List ℕ) → length o ≡ 64 → ReadSays d p o (entry (length w) k x e) (home w ++ drop (length w) o)
  written-reads o l = (l, within, rw (here, h.follows) (reads_here w k x (drop (4 + body_length x (length w) k) (drop p b)) h.passed p o))

  -- and what it does
  pub written_read : (o : List ℕ) (r : Result (Option Record) Refusal) (u : List ℕ) → length o ≡ 64 → ReadSays d p o r u → (r ≡ entry (length w) k x e) × (u ≡ home w ++ drop (length w) o)
  written_read o r u l s = one-read d p o r (entry (length w) k x e) u (home w ++ drop (length w) o) s (written-reads o l)

-- ---- read, and then written back

module _ (c : List ℕ) (s : ℕ) (b : List ℕ) (r : Record) (d : List ℕ) (h : ReadSays c s b (Ok (Some r)) d) where
  abbrev t : List ℕ
  t = drop s c

  cut : 4 + body_length r.kind (n_of t) (k_of t) ≤ length t
  cut = uncut c s b r d h

  same : body_length r.kind r.n r.k ≡ body_length r.kind (n_of t) (k_of t)
  same = read_length c s b r d h

  long_ring : length (stored_ring r.kind t) ≡ r.n
  long_ring = length-ring r.kind t cut ∙ sym h.2.sectors

  sized : Sized r.n
  sized = rw h.2.sectors h.2.good.0.0.0

  front : take r.n d ≡ stored_ring r.kind t
  front = output-front c s b r d h

  -- what was answered has n sectors
  pub length-answer : length (take r.n d) ≡ r.n
  length-answer = ap (λ (v : List ℕ). length v) front ∙ long_ring

  -- and is its own home reading
  pub answer-home : home (take r.n d) ≡ take r.n d
  answer-home = ap home front ∙ necklace-home (stored_ring r.kind t) (omega (arith, long_ring, sized.0)) h.2.good.1.1 ∙ sym front

  -- it passes the writer's checks
  pub answer-passes : Passed (one_reading (take r.n d) r.k)
  answer-passes =
      rw front (reading-passed (stored_ring r.kind t) r.k r.n sized (rw h.2.shades h.2.good.0.0.1)
      (record { long = long_ring; shades = λ i l. rw h.2.shades (h.2.good.1.0.0 i (omega (arith, long_ring))) }))

  module _ (q : Bytes c) where
    -- the bytes behind the head are bytes
    body_bytes : Bytes (body_of r.kind t)
    body_bytes i l =
        let m : i < body_length r.kind (n_of t) (k_of t) = omega (arith, length-body r.kind t cut) in
        rw (get_or-take (body_length r.kind (n_of t) (k_of t)) (drop 4 t) i 0 m, get_or-drop 4 t i 0, get_or-drop s c (4 + i) 0) (q (s + (4 + i)) (omega (arith, cut, length-drop s c)))

    -- and those of the ring that was answered
    stands : stored r.kind r.k (home (take r.n d)) ≡ body_of r.kind t
    stands =
        ap (λ (v : List ℕ). stored r.kind r.k v) (answer-home ∙ front)
        ∙ ap (λ (i : ℕ). stored r.kind i (stored_ring r.kind t)) h.2.shades
        ∙ stored-shown r.kind (n_of t) (k_of t) (body_of r.kind t) (length-body r.kind t cut) body_bytes h.2.good.1.0.1

    -- the catalogue from s on
    split : t ≡ record_bytes r.kind r.k (take r.n d) ++ drop (4 + body_length r.kind (length (take r.n d)) r.k) t
    split = whole r.kind t (length (take r.n d)) r.k (stored r.kind r.k (home (take r.n d))) (omega (arith, cut)) h.2.marked (length-answer ∙ h.2.sectors) h.2.shades stands

    length-again : length (record_bytes r.kind r.k (take r.n d)) ≡ 4 + body_length r.kind r.n r.k
    length-again = length-record (take r.n d) r.k r.kind answer-passes ∙ ap (λ (i : ℕ). 4 + body_length r.kind i r.k) length-answer

    -- the bytes that were read
    pub same_bytes : record_bytes r.kind r.k (take r.n d) ≡ take (4 + body_length r.kind r.n r.k) t
    same_bytes =
        sym (ap (take (4 + body_length r.kind r.n r.k)) split ∙ take_at (record_bytes r.kind r.k (take r.n d)) (drop (4 + body_length r.kind (length (take r.n d)) r.k) t)
        (4 + body_length r.kind r.n r.k) length-again)

    -- so that wherever it is written, the same bytes stand there
    pub copied : (v : List ℕ) (p e : ℕ) (f : List ℕ) → WriteSays (take r.n d) r.k r.kind v p (Ok e) f → take (4 + body_length r.kind r.n r.k) (drop p f) ≡ take (4 + body_length r.kind r.n r.k) t
    copied v p e f g =
        ap (take (4 + body_length r.kind r.n r.k)) (placed-bytes (take r.n d) r.k r.kind answer-passes (drop p v) (drop p f) g.here)
        ∙ take_at (record_bytes r.kind r.k (take r.n d)) (drop (4 + body_length r.kind (length (take r.n d)) r.k) (drop p v)) (4 + body_length r.kind r.n r.k) length-again
        ∙ same_bytes

    -- the number of bytes, told by the answer
    told : body_length r.kind (length (take r.n d)) r.k ≡ body_length r.kind r.n r.k
    told = ap (λ (i : ℕ). body_length r.kind i r.k) length-answer

    -- what the writer may answer
    pub read-writes : WriteSays (take r.n d) r.k r.kind c s (Ok r.next) c
    read-writes =
        record {
          passed = answer-passes;
          fits = omega (arith, told, same, cut);
          follows = omega (arith, told, h.2.follows);
          before = refl;
          here = bytes-placed (take r.n d) r.k r.kind answer-passes t t split;
        }

    -- and what it does: the catalogue stays, byte for byte
    pub read-written : (a : Result ℕ Refusal) (f : List ℕ) → WriteSays (take r.n d) r.k r.kind c s a f → (a ≡ Ok r.next) × (f ≡ c)
    read-written a f g = one-write (take r.n d) r.k r.kind c s a (Ok r.next) f c g read-writes
