-- A ring in its place, and its target.
--     slice_at                 a ring in its place
--     passed-at, given-at      its checks, in the list of all
--     step-placed              a target that is placed
--     step-never               no target of a sheet that is ready is refused
use Rattle.words.proofs.Plain.{ℕ, ◌+◌, ◌-◌, ◌*◌, ◌<◌, ◌≤◌, arith, ◌≡◌, refl, sym, subst, Bool, List, length, take, drop}
use Rattle.refusal.specs.{declared.Refusal.Refusal, Order.Passed, Order.Given}
use Rattle.refusal.proofs.Unique.{never_both}
use Rattle.set_spec.specs.Places.{place_at, set_in}
use Rattle.set_laws.proofs.Places.{set-in-at}
use Rattle.std.specs.Prelude.{Result}
use Rattle.sheet_spec.specs.declared.Sheet.{Sheet}
use Rattle.sheet_spec.specs.Says.{target_room, sheet_order, TargetSays}
use Rattle.sheet_print_spec.specs.Prints.{target_order}

pub slice_at : (n j : ℕ) (p : List ℕ) → take (24 * j + n - 24 * j) (drop (24 * j) p) ≡ place_at n p j
slice_at n j p = let e : 24 * j + n - 24 * j ≡ n = omega arith in rw e refl

module _ (o : Sheet) (p : List ℕ) (t : ℕ) where
  -- its checks, in the list of all
  pub passed-at : (j : ℕ) → j < t → Passed (sheet_order o (place_at o.n p j) j target_room) → Passed (target_order o (set_in o.n p t) j)
  passed-at j h s = subst (λ (w : List ℕ). Passed (sheet_order o w j target_room)) (sym (set-in-at o.n p t j h)) s

  at-passed : (j : ℕ) → j < t → Passed (target_order o (set_in o.n p t) j) → Passed (sheet_order o (place_at o.n p j) j target_room)
  at-passed j h s = subst (λ (w : List ℕ). Passed (sheet_order o w j target_room)) (set-in-at o.n p t j h) s

  pub given-at : (j : ℕ) → j < t → (r : Refusal) → Given (sheet_order o (place_at o.n p j) j target_room) r → Given (target_order o (set_in o.n p t) j) r
  given-at j h r s = subst (λ (w : List ℕ). Given (sheet_order o w j target_room) r) (sym (set-in-at o.n p t j h)) s

-- what the call says of its slice, said of the place
pub step-placed : (o : Sheet) (p : List ℕ) (i : ℕ) (last : Bool) (b : List ℕ) (d e : Result ℕ Refusal) (b' : List ℕ) →
    TargetSays o (take (24 * i + o.n - 24 * i) (drop (24 * i) p)) i last b d b' → d ≡ e → TargetSays o (place_at o.n p i) i last b e b'
step-placed o p i last b d e b' s q = rw (slice_at o.n i p, q) at s

module _ (o : Sheet) (p : List ℕ) (t i : ℕ) (h : i < t) (b : List ℕ) (room : target_room ≤ length b) (pass : Passed (target_order o (set_in o.n p t) i)) where
  in-room : Passed (sheet_order o (place_at o.n p i) i (length b))
  in-room = ((at-passed o p t i h pass).0, room)

  pub step-never : (r : Refusal) → Given (sheet_order o (place_at o.n p i) i (length b)) r → ⊥
  step-never r g = never_both (sheet_order o (place_at o.n p i) i (length b)) r g in-room
