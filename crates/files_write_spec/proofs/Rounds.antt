-- Written, and then read: the reader finds the home readings of the lines, in their order, and then the end.
--     stands            a record that stands at a place of a catalogue might have been written there
--     lines-homes       behind whatever stands in front
--     written-homes     a whole input
use Rattle.words.proofs.Plain.{ℕ, ◌+◌, arith, ◌≡◌, refl, sym, ap, subst, ◌∙◌, List, [], ◌∷◌, ◌++◌, append_assoc, length, drop, length-append, drop_at}
use Rattle.refusal.specs.{Order.Passed, Calls.one_reading}
use Rattle.record_spec.specs.{declared.Kind.Kind, Layout.body_length, Writes.Wrote}
use Rattle.record_spec.proofs.Wrote.{record_bytes, length-record, bytes-placed}
use Rattle.record_spec.proofs.Rounds.{written-reads}
use Rattle.stream_spec.specs.Lines.{lines}
use Rattle.stream_spec.specs.Texts.{Texts, done, more}
use Rattle.files_write_spec.specs.RingLines.{LineWrites}
use Rattle.files_write_spec.specs.Inputs.{LinesWrite, HoldsHomes, ends, next}
use Rattle.files_write_spec.proofs.Unique.{line-bytes}

stands : (w : List ℕ) (k : ℕ) (x : Kind) (c : List ℕ) (p : ℕ) (u : List ℕ) → Passed (one_reading w k) → drop p c ≡ record_bytes x k w ++ u → Wrote w k x c p (p + 4 + body_length x (length w) k) c
stands w k x c p u g e =
    let m = 4 + body_length x (length w) k in
    let behind : drop m (drop p c) ≡ u = ap (drop m) e ∙ drop_at (record_bytes x k w) u m (length-record w k x g) in
    record {
      passed = g;
      fits = omega (arith, ap length e, length-append (record_bytes x k w) u, length-record w k x g);
      follows = refl;
      before = refl;
      here = bytes-placed w k x g (drop p c) (drop p c) (e ∙ ap (λ (z : List ℕ). record_bytes x k w ++ z) (sym behind));
    }

module _ (x : Kind) where
  pub lines-homes : (ls : List (List ℕ)) (text front : List ℕ) → Texts (LineWrites x) ls text → HoldsHomes x (front ++ text) (length front) ls
  lines-homes [] text front done = ends {p = length front} (λ o l. (l, omega (arith, length-append {A = ℕ} front []), refl))
  lines-homes (line ∷ ls) text front (more {t = t} {u = u} a rest) =
      let k = a.asked.0 in
      let w = a.asked.1 in
      let g = a.writes.written.passed in
      let e : t ≡ record_bytes x k w = line-bytes line x t a in
      let long : length (front ++ t) ≡ length front + 4 + body_length x (length w) k = omega (arith, length-append front t, ap length e, length-record w k x g) in
      let here : drop (length front) (front ++ (t ++ u)) ≡ record_bytes x k w ++ u = drop_at front (t ++ u) (length front) refl ∙ ap (λ (z : List ℕ). z ++ u) e in
      next a.asked a.reads (λ o l. written-reads w k x (front ++ (t ++ u)) (length front) _ (front ++ (t ++ u)) (stands w k x (front ++ (t ++ u)) (length front) u g here) o l)
      (subst (λ (m : ℕ). HoldsHomes x (front ++ (t ++ u)) m ls) long (subst (λ (c : List ℕ). HoldsHomes x c (length (front ++ t)) ls) (append_assoc front t u) (lines-homes ls u (front ++ t) rest)))

  pub written-homes : (s text : List ℕ) → LinesWrite x s text → HoldsHomes x text 0 (lines s)
  written-homes s text p = lines-homes (lines s) text [] p
