-- The sectors of a walk's ring, settled by two scans.
--     head-bad, head-good      the first n sectors
--     tail-bad, tail-good      those past n
use Rattle.words.proofs.Plain.{ℕ, ◌+◌, ◌-◌, ◌<◌, ◌≤◌, arith, ◌≡◌, refl, sym, ◌∙◌, Bool, List, length, take, drop, length-take, length-drop, get_or-take}
use Rattle.words.proofs.Plain.{get_or-drop, take_all, lt-ltb, le-ltb}
use Rattle.words.proofs.Sequence.{sec, place}
use Rattle.refusal.specs.Calls.{Below, ask_record, ring_limit}
use Rattle.check_numbers_inner.specs.Scan.{Scanned}
use Rattle.check_numbers_inner.proofs.Parts.{BelowTo, Bad, Part, part-bad, part-good, nothing}

module _ (n k : ℕ) (ring : List ℕ) (b : Bool) (fits : n ≤ length ring) where
  head : Part (ask_record n k ring b) 0 k (take n ring)
  head =
      record {
        fits = simp length-take (omega arith);
        same = λ i j e h. place (sec ring) i j (omega arith) ∙ sym (get_or-take n ring j 0 (omega (arith, simp length-take at h)));
        limits = λ i j e h. rw (lt-ltb i n (omega (arith, simp length-take at h)), ring_limit);
      }

  tail : Part (ask_record n k ring b) n 1 (drop n ring)
  tail =
      record {
        fits = simp length-drop (omega arith);
        same = λ i j e h. place (sec ring) i (n + j) (sym e) ∙ sym (get_or-drop n ring j 0);
        limits = λ i j e h. rw (le-ltb i n (omega arith), ring_limit);
      }

  -- the sectors up to n
  module _ (r : ℕ) (s : Scanned (take n ring) k r) where
    pub head-bad : r < n → Bad (ask_record n k ring b) r
    head-bad h =
        part-bad (ask_record n k ring b) 0 k (take n ring) head (nothing (ask_record n k ring b)) r s r (omega arith)
        (simp length-take (omega arith))

    pub head-good : n ≤ r → BelowTo (ask_record n k ring b) n
    head-good h =
        part-good (ask_record n k ring b) 0 k (take n ring) head (nothing (ask_record n k ring b)) r s
        (simp length-take (omega arith)) n (simp length-take (omega arith))

  -- those past n
  module _ (low : BelowTo (ask_record n k ring b) n) (size : length ring ≡ 64) (r : ℕ) (s : Scanned (take (64 - n) (drop n ring)) 1 r) where
    past : Scanned (drop n ring) 1 r
    past = rw (take_all (64 - n) (drop n ring) (simp length-drop (omega arith))) at s

    pub tail-bad : r < 64 - n → Bad (ask_record n k ring b) (n + r)
    tail-bad h = part-bad (ask_record n k ring b) n 1 (drop n ring) tail low r past (n + r) refl (simp length-drop (omega arith))

    pub tail-good : 64 - n ≤ r → Below ring (ring_limit n k)
    tail-good h =
        part-good (ask_record n k ring b) n 1 (drop n ring) tail low r past (simp length-drop (omega arith)) (length ring)
        (simp length-drop (omega arith))
