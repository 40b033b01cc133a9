-- What the answer's set is worth, by the contract alone.
--     places-set         the places hold the set that was to be chosen, where it has no more than 32 rings of n sectors
--     answer-set         so the readings in the places taken are the greedy choice of 02, 'g'
--     answer-worth       and are worth every sentence of `Worth`, with the answer's own 'full'
--     answer-most        no more than wanted are taken
--     guard-set, guard-worth, guard-most    the same of the guarded choice and `GuardedWorth`
--     rule-most, rule-set                   no more than wanted are taken, and the places hold the choice, by either rule
--     guard-uneven, guard-opposite          so no ring of a guarded answer is even-handed, and none is another's other side
use Rattle.words.proofs.Plain.{ℕ, ◌<◌, ◌≤◌, arith, ◌≡◌, sym, subst, ◌∙◌, Bool, false, List, [], length, get_or, ext_get_or}
use Rattle.rings.specs.Alike.{even_handed, same_ring, mirrored}
use Rattle.set_spec.specs.{Greedy.picked, Greedy.looked_at, Worth.LyndonWords, Worth.Worth, Places.set_in}
use Rattle.set_laws.proofs.Worth.{picked-most, picked-worth}
use Rattle.set_laws.proofs.Places.{place-laid, length-set-in, set-in-at}
use Rattle.guard_spec.specs.{declared.Rule.Rule, declared.Rule.TheVariants.Plain, declared.Rule.TheVariants.Guarded}
use Rattle.guard_spec.specs.Choice.{guarded, guarded_looked, chosen_by}
use Rattle.guard_spec.specs.Worth.{GuardedWorth}
use Rattle.guard_laws.proofs.{Sides.none-mirrored, Sides.none-even, Worth.guarded-most, Worth.guarded-worth}
use Rattle.set_pick_spec.specs.Says.{SetChosen, Chosen, GuardChosen}

-- the places hold the set that was to be chosen
module _ (n k d want : ℕ) (ts : List (List ℕ)) (p : List ℕ) (t : ℕ) (f : Bool) (c : SetChosen n k d want ts p t f) (most : length ts ≤ want) (members : LyndonWords n k ts) where
  pub places-set : set_in n p t ≡ ts
  places-set =
      ext_get_or [] (set_in n p t) ts (length-set-in n p t ∙ c.number) (λ j h. let l : j < t = omega (arith, length-set-in n p t) in
      set-in-at n p t j l ∙ rw c.places (place-laid n ts j c.asked.short (omega (arith, most, c.asked.settable.most-wanted))
      (omega (arith, c.number)) (members j (omega (arith, c.number))).reading.long))

module _ (n k d want : ℕ) (p : List ℕ) (t : ℕ) (f : Bool) (c : Chosen n k d want p t f) where
  pub answer-most : t ≤ want
  answer-most = omega (arith, c.number, picked-most n k d want)

  -- the places hold the greedy choice
  pub answer-set : set_in n p t ≡ picked n k d want
  answer-set = places-set n k d want (picked n k d want) p t f c (picked-most n k d want) (picked-worth n k d want f c.full).members

  pub answer-worth : Worth n k d want (set_in n p t) (looked_at n k d want) f
  answer-worth = subst (λ ts. Worth n k d want ts (looked_at n k d want) f) (sym answer-set) (picked-worth n k d want f c.full)

module _ (n k d want : ℕ) (p : List ℕ) (t : ℕ) (f : Bool) (c : GuardChosen n k d want p t f) where
  some : 0 < n
  some = omega (arith, c.asked.numbers.sized)

  pub guard-most : t ≤ want
  guard-most = omega (arith, c.number, guarded-most n k d want)

  -- the places hold the guarded choice
  pub guard-set : set_in n p t ≡ guarded n k d want
  guard-set = places-set n k d want (guarded n k d want) p t f c (guarded-most n k d want) (guarded-worth n k d want some f c.full).members

  pub guard-worth : GuardedWorth n k d want (set_in n p t) (guarded_looked n k d want) f
  guard-worth = subst (λ ts. GuardedWorth n k d want ts (guarded_looked n k d want) f) (sym guard-set) (guarded-worth n k d want some f c.full)

  -- no ring is even-handed
  pub guard-uneven : (j : ℕ) → j < t → even_handed (get_or (set_in n p t) j []) ≡ false
  guard-uneven j h =
      none-even n d (set_in n p t) some (λ i l. (guard-worth.members i l).reading.long) guard-worth.guarded.spread (omega (arith, c.asked.settable.some-distance)) j
      (omega (arith, length-set-in n p t))

  -- and none is the other side of one, its own or another
  pub guard-opposite : (i j : ℕ) → i < t → j < t → same_ring (get_or (set_in n p t) i []) (mirrored (get_or (set_in n p t) j [])) ≡ false
  guard-opposite i j h l =
      none-mirrored n d (set_in n p t) some (λ x m. (guard-worth.members x m).reading.long) guard-worth.guarded.spread (omega (arith, c.asked.settable.some-distance)) i j
      (omega (arith, length-set-in n p t)) (omega (arith, length-set-in n p t))

-- ---- by either rule

pub rule-most : (rule : Rule) (n k d want : ℕ) (p : List ℕ) (t : ℕ) (f : Bool) → SetChosen n k d want (chosen_by rule n k d want) p t f → t ≤ want
rule-most Plain = answer-most
rule-most Guarded = guard-most

pub rule-set : (rule : Rule) (n k d want : ℕ) (p : List ℕ) (t : ℕ) (f : Bool) → SetChosen n k d want (chosen_by rule n k d want) p t f → set_in n p t ≡ chosen_by rule n k d want
rule-set Plain = answer-set
rule-set Guarded = guard-set
