-- What the checks of a step from a lent reading give to the step, and how it ends.
--     passed-ready           a reading that passed is ready for a step by prenecklaces
--     passed-bytes           and for one to the next bracelet
--     next-long              the next of a kind is as long as the reading
--     step-moved, step-done, bracelet-moved, bracelet-done    how a step from a copy of the reading ends, and its ring copied to the output
use Rattle.std.specs.Prelude.{Ok}
use Rattle.words.proofs.Plain.{ℕ, arith, ◌≡◌, refl, sym, ap, ◌∙◌, Bool, none, some, List, ◌++◌, length, take, drop}
use Rattle.rings.specs.{Alike.bracelet, Steps.next_of, Steps.moves}
use Rattle.ring_laws.proofs.FullWalk.{next-facts}
use Rattle.word_copy_laws.proofs.Copy.{copied}
use Rattle.refusal.specs.Order.{Passed}
use Rattle.walk_kind_laws.specs.Kinds.{ReadyToStep}
use Rattle.bracelet_next_inner.specs.Going.{ByteReading}
use Rattle.walk_spec.specs.declared.Outcome.TheVariants as O
use Rattle.walk_bracelet_spec.specs.declared.Arrival.TheVariants as A
use Rattle.walk_reading_spec.specs.Says.{reading_order, StepFromSays, BraceletFromSays}

-- what passed
module _ (w : List ℕ) (k m : ℕ) (passed : Passed (reading_order w k m)) where
  pub passed-room : m ≡ length w
  passed-room = passed.0.0.1

  pub passed-ready : ReadyToStep k w
  passed-ready =
      record {
        pos = passed.0.0.0.0.0.0.0;
        fits = passed.0.0.0.0.0.0.1;
        shades = passed.0.0.0.0.1.0;
        few = passed.0.0.0.0.1.1;
        reading = record { long = refl; shades = passed.0.0.0.1 };
        pre = passed.1;
      }

  pub passed-bytes : ByteReading k w
  passed-bytes =
      let r = passed-ready in
      record { pos = r.pos; some-shades = omega (arith, r.shades); shades = omega (arith, r.few); reading = r.reading }

pub next-long : (kind : List ℕ → Bool) (k : ℕ) (w v : List ℕ) → next_of kind k w ≡ some v → length v ≡ length w
next-long kind k w v e = (next-facts kind k w v e).0.long

-- the reading was copied to u, and a step made from there; the output held o before and holds c after
module _ (w : List ℕ) (k : ℕ) (o u : List ℕ) (passed : Passed (reading_order w k (length o))) (is : u ≡ w) where
  -- what the step came to was copied to the output
  next-copied : (kind : List ℕ → Bool) (v c : List ℕ) → next_of kind k u ≡ some v → c ≡ take (length v) v ++ drop (length v) o → (next_of kind k w ≡ some c) × (v ≡ c)
  next-copied kind v c next e =
      let n : next_of kind k w ≡ some v = rw is at next in
      let q : c ≡ v = copied v o c e (passed-room w k (length o) passed ∙ sym (next-long kind k w v n)) in
      (rw q n, sym q)

  pub step-moved : (kind : List ℕ → Bool) (v c : List ℕ) (m : ℕ) → next_of kind k u ≡ some v → m ≡ moves k u (some v) →
      c ≡ take (length v) v ++ drop (length v) o → StepFromSays kind w k o (Ok (O.Moved m)) c
  step-moved kind v c m next counted e =
      let q = next-copied kind v c next e in
      (passed, q.0, counted ∙ ap (λ (x : List ℕ). moves k x (some v)) is ∙ ap (λ (x : List ℕ). moves k w (some x)) q.1)

  pub step-done : (kind : List ℕ → Bool) (m : ℕ) → (next_of kind k u ≡ none) × (m ≡ moves k u none) → StepFromSays kind w k o (Ok (O.Done m)) o
  step-done kind m h = (passed, rw is at h.0, h.1 ∙ ap (λ (x : List ℕ). moves k x none) is, refl)

  pub bracelet-moved : (v c : List ℕ) → next_of bracelet k u ≡ some v → c ≡ take (length v) v ++ drop (length v) o → BraceletFromSays w k o (Ok A.Moved) c
  bracelet-moved v c next e = (passed, (next-copied bracelet v c next e).0)

  pub bracelet-done : next_of bracelet k u ≡ none → BraceletFromSays w k o (Ok A.Done) o
  bracelet-done h = (passed, rw is at h, refl)
