-- What the checks leave to the functions behind them.
--     first-asks, first_found     what filling the output asks, and what it leaves there
--     cap-asks    what lowering the reading to the shades that are counted asks
--     next-asks, next-found, next-done    what the search for the next ring asks from there, and what it answers
use Rattle.words.proofs.Plain.{ℕ, ◌<◌, arith, ◌≡◌, sym, ap, ◌∙◌, true, false, none, some, List, length, take, take_all}
use Rattle.rings.specs.{Counts.counted_necklace, Steps.first_of, Steps.next_of}
use Rattle.refusal.specs.{Order.Passed, Calls.counted_first, Calls.counted_next}
use Rattle.words.specs.Sum.{sum_of}
use Rattle.shades_laws.proofs.Letters.{letters}
use Rattle.shades_fill_inner.specs.Fillable.{Fillable}
use Rattle.shades_cap_inner.specs.Capped.{CountedTo, Cappable, Capped}
use Rattle.shades_cap_inner.proofs.Capping.{counted-long, sum-counted, some-counted, capped-reading, capped-next}
use Rattle.shades_next_inner.specs.{declared.Sought.Sought, Above.Finds}
use Rattle.shades_raise_inner.specs.Ready.{Ready}
use Rattle.shades.proofs.Least.{first-letters}

module _ (n k : ℕ) (cs : List ℕ) (passed : Passed (counted_first n k cs)) where
  -- what filling the output asks
  pub first-asks : (o : List ℕ) → length o ≡ n → Fillable o cs
  first-asks o e = record {
    room = omega (arith, passed.0.1.1);
    size = omega (arith, passed.0.0.0.0.0.0.1);
    shades = omega (arith, passed.0.1.0, passed.0.0.0.0.1.1);
  }

  -- what it leaves there is the first ring
  pub first_found : (l : ℕ) (o : List ℕ) → length o ≡ n → l ≡ sum_of cs → take l o ≡ letters cs → first_of (counted_necklace cs) n k ≡ some o
  first_found l o e q h = first-letters n k cs passed.0.1.0 passed.0.1.1 ∙ ap some (sym h ∙ take_all l o (omega (arith, q, passed.0.1.1)))

module _ (w : List ℕ) (k m : ℕ) (cs : List ℕ) (passed : Passed (counted_next w k m cs)) (j : ℕ) (to : CountedTo cs j) where
  -- some shade is counted
  some-shade : 0 < j
  some-shade = some-counted cs j to (omega (arith, passed.0.1.1, passed.0.0.0.0.0.0.0))

  -- what lowering the reading to the shades that are counted asks
  pub cap-asks : Cappable w j
  cap-asks = record { size = passed.0.0.0.0.0.0.1; some = some-shade; shades = omega (arith, to.within, passed.0.1.0, passed.0.0.0.0.1.1) }

  module _ (t : List ℕ) (capped : Capped w j (take (length w) t)) where
    -- what the search for the next ring asks
    pub next-asks : Ready t (length w) j (take j cs)
    next-asks = record {
      pos = passed.0.0.0.0.0.0.0;
      size = passed.0.0.0.0.0.0.1;
      shades = cap-asks.shades;
      many = counted-long cs j to;
      whole = sum-counted cs j to ∙ passed.0.1.1;
      reading = capped-reading w j (take (length w) t) capped some-shade;
    }

    -- the next ring above the lowered reading is that above the reading
    same_next : next_of (counted_necklace cs) k w ≡ next_of (counted_necklace (take j cs)) j (take (length w) t)
    same_next = sym (capped-next w (take (length w) t) cs j k passed.0.1.0 some-shade to capped)

    -- what it answers is the next ring
    pub next-found : (r : Sought) → Finds t (length w) j (take j cs) r → r.some ≡ true → (o : List ℕ) → o ≡ take (length w) r.ring → next_of (counted_necklace cs) k w ≡ some o
    next-found r a h o q = same_next ∙ a.ring h ∙ ap some (sym q)

    -- or that there is none
    pub next-done : (r : Sought) → Finds t (length w) j (take j cs) r → r.some ≡ false → next_of (counted_necklace cs) k w ≡ none
    next-done r a h = same_next ∙ a.done h
