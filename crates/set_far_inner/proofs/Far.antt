-- Whether two readings are at least d apart.
--     surplus-more, counts-sixteen     one shade more, and there are 16
--     far-counts                       the shade counts tell
--     far-told                         they do not, and the library tells
use Rattle.std.specs.{Prelude.Result, Prelude.Ok, Prelude.Err, Result.result_unwrap_or}
use Rattle.words.proofs.Plain.{ℕ, suc, ◌+◌, ◌-◌, ◌*◌, ◌≤◌, arith, ◌≡◌, refl, Bool, true, not, List, ltb, length, le-ltb}
use Rattle.words.proofs.{Search.length-tab, Search.get_d-tab, Sequence.sec}
use Rattle.rings.specs.{Alike.apart, Counts.occurs, Counts.counts_of}
use Rattle.ring_home_laws.proofs.Counts.{surplus, surplus-cong, surplus-apart}
use Rattle.refusal.specs.{declared.Refusal.Refusal, Order.Passed, Calls.two_readings}
use Rattle.refusal.proofs.Unique.{never_both}
use Rattle.home_spec.specs.Says.{ToldSays}
use Rattle.set_spec.specs.Greedy.{far_from}

-- one shade more
pub surplus-more : (f g : ℕ → ℕ) (s x r : ℕ) → x ≡ surplus s f g → x ≤ 255 * s → r ≡ f s - g s → f s ≤ 255 → (x + r ≡ surplus (s + 1) f g) × (x + r ≤ 255 * (s + 1))
unfolding surplus
surplus-more f g s x r e b h m = let q : s + 1 ≡ suc s = omega arith in rw q (omega arith, omega arith)

-- there are 16 shades
pub counts-sixteen : (v a : List ℕ) → a ≡ counts_of 16 v → length a ≡ 16
unfolding counts_of
counts-sixteen v a e = rw e (length-tab 16 (λ j. occurs j v))

-- the shade counts tell
pub far-counts : (d : ℕ) (v w a b : List ℕ) → length v ≡ length w → a ≡ counts_of 16 v → b ≡ counts_of 16 w →
    (x : ℕ) → x ≡ surplus 16 (sec a) (sec b) → d ≤ x → true ≡ far_from d v w
unfolding far_from counts_of
far-counts d v w a b l p q x e h =
    let s = surplus-cong 16 (sec a) (sec b) (λ i. occurs i v) (λ i. occurs i w) (λ i m. rw p (get_d-tab 16 (λ j. occurs j v) i 0 m)) (λ i m. rw q (get_d-tab 16 (λ j. occurs j w) i 0 m)) in
    rw (le-ltb (apart v w) d (omega (arith, s, surplus-apart 16 v w l))) refl

-- they do not: what the library tells, which does not refuse readings that pass its checks
pub far-told : (d k : ℕ) (v w : List ℕ) (r : Result Bool Refusal) → Passed (two_readings v w k) → ToldSays (two_readings v w k) (ltb (apart v w) d) r →
    not (result_unwrap_or r true) ≡ far_from d v w
unfolding far_from
far-told d k v w (Ok b) p s = rw s.1 refl
far-told d k v w (Err r) p s = absurd (never_both (two_readings v w k) r s p)
