-- Sectors looked at part after part. A part u of the sectors of `a` begins at place b, all its sectors have the limit m, and every sector
-- before it is below its limit. A scan of u then settles the sectors up to its end.
--     BelowTo a b, Bad a i      the first b sectors are below their limits; place i is the first that is not
--     Part a b m u              u is the part from place b on, with the limit m
--     part-bad, part-good       the scan stopped within the part, or came to its end
--     nothing                   before the first sector there is none
use Rattle.words.proofs.Plain.{ℕ, ◌+◌, ◌-◌, ◌<◌, ◌≤◌, arith, dec_lt, ◌≡◌, List, length, get_or}
use Rattle.refusal.specs.Calls.{Asked, FirstBad}
use Rattle.check_numbers_inner.specs.Scan.{Scanned}

-- each of the first b sectors is below its limit
abbrev pub BelowTo : Asked → ℕ → Type 0
BelowTo a b = (i : ℕ) → i < b → get_or a.sectors i 0 < a.limit i

-- place i is the first whose sector is not below its limit
abbrev pub Bad : Asked → ℕ → Type 0
Bad a i = FirstBad a.sectors a.limit i

-- u is the part of the sectors from place b on, with the limit m
pub record Part (a : Asked) (b m : ℕ) (u : List ℕ) : Type 0 where
  pub fits : b + length u ≤ length a.sectors
  pub same : (i j : ℕ) → b + j ≡ i → j < length u → get_or a.sectors i 0 ≡ get_or u j 0
  pub limits : (i j : ℕ) → b + j ≡ i → j < length u → a.limit i ≡ m

module _ (a : Asked) (b m : ℕ) (u : List ℕ) (p : Part a b m u) (low : BelowTo a b) (r : ℕ) (s : Scanned u m r) where
  -- the scan stopped at r: every sector before is below its limit
  part-to : BelowTo a (b + r)
  part-to i h = elim (dec_lt i b) [ yes l ↦ low i l | no l ↦ passed (i - b) (omega arith) (omega arith) ]
    where
      passed : (j : ℕ) → b + j ≡ i → j < r → get_or a.sectors i 0 < a.limit i
      passed j e l =
          let w : j < length u = omega (arith, s.within) in
          omega (arith, s.first j l, p.same i j e w, p.limits i j e w)

  -- the scan stopped within the part
  pub part-bad : (i : ℕ) → b + r ≡ i → r < length u → Bad a i
  part-bad i e h =
      record {
        within = omega (arith, p.fits);
        first = λ j l. part-to j (omega arith);
        here = λ l. omega (arith, s.here h, p.same i r e h, p.limits i r e h);
      }

  -- the scan came to the part's end
  pub part-good : length u ≤ r → (i : ℕ) → i ≤ b + length u → BelowTo a i
  part-good h i f j l = part-to j (omega arith)

-- before the first sector there is none
pub nothing : (a : Asked) → BelowTo a 0
nothing a i l = absurd (omega arith)
