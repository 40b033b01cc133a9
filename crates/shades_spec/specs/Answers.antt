-- What the two calls promise (01, 'Walks', 'Fixed shade counts'): for each answer, what is asked of the call, what is in the output afterwards, and
-- the ring. Lists: w the reading, cs the counts, o the output before the call and o' after it.
--     FirstSays k cs o r o'      the first ring: o' is the least necklace with the counts, among all readings of n and k in increasing order
--     NextSays w k cs o r o'     the next ring: o' is the least one greater than w
-- That no two answers, nor two outputs, fit one call: proofs/Unique.
use Rattle.std.specs.Prelude.{ℕ, ◌≡◌, List, length, Result, Ok, Err}
use Rattle.std.proofs.Math.Option.{none, some}
use Rattle.rings.specs.Counts.{counted_necklace}
use Rattle.rings.specs.Steps.{first_of, next_of}
use Rattle.refusal.specs.declared.Refusal.{Refusal}
use Rattle.refusal.specs.Order.{Given, Passed}
use Rattle.refusal.specs.Calls.{counted_first, counted_next}
use Rattle.shades_spec.specs.declared.Next.{Next}
use Rattle.shades_spec.specs.declared.Next.TheVariants.{Ring, Done}

-- the first ring; refusals 1, 2, 6
abbrev pub FirstSays : ℕ → List ℕ → List ℕ → Result Unit Refusal → List ℕ → Type 0
FirstSays k cs o (Ok _) o' = Passed (counted_first (length o) k cs) × (first_of (counted_necklace cs) (length o) k ≡ some o')
FirstSays k cs o (Err r) o' = Given (counted_first (length o) k cs) r × (o' ≡ o)

-- the next ring; refusals 1, 2, 3, 4, 6
abbrev pub NextSays : List ℕ → ℕ → List ℕ → List ℕ → Result Next Refusal → List ℕ → Type 0
NextSays w k cs o (Ok Ring) o' = Passed (counted_next w k (length o) cs) × (next_of (counted_necklace cs) k w ≡ some o')
NextSays w k cs o (Ok Done) o' = Passed (counted_next w k (length o) cs) × (next_of (counted_necklace cs) k w ≡ none) × (o' ≡ o)
NextSays w k cs o (Err r) o' = Given (counted_next w k (length o) cs) r × (o' ≡ o)
