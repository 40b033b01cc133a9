-- What follows from the promises of the strip's calls, whatever the code behind them (02, request l).
--     written-strip     where n, k and the output's length pass the checks the strip is written
--     written-long      what is written has k ^ n sectors
--     written_once      each reading of n and k stands at exactly one place of it
--     written-told      n neighbouring sectors of it, round its end too, tell their place: no other answer fits
use Rattle.words.proofs.Plain.{ℕ, ◌^◌, ◌<◌, ◌≤◌, arith, ◌≡◌, refl, sym, subst, List, length}
use Rattle.words.specs.Readings.{Reading}
use Rattle.limits_spec.specs.Limits.{Listable}
use Rattle.std.specs.Prelude.{Result, Ok, Err}
use Rattle.refusal.specs.declared.Refusal.{Refusal}
use Rattle.strip_spec.specs.{Strip.strip, Says.StripSays, Says.PlaceSays}
use Rattle.strip_spec.specs.Places.{window, OnceEach, OnePlace}
use Rattle.strip_laws.proofs.Pieces.{length-strip, strip-shades}
use Rattle.strip_laws.proofs.Once.{window-reading, once, window-place}
use Rattle.strip_spec.proofs.Unique.{never-refused, one-telling}
use Rattle.strip.proofs.Telling.{reading-passed}

-- where n, k and the output's length pass the checks the strip is written
pub written-strip : (n k : ℕ) (o : List ℕ) (a : Result Unit Refusal) (u : List ℕ) → Listable 4096 k n → length o ≡ k ^ n → StripSays n k o a u → a ≡ Ok tt
written-strip n k o (Ok _) u l e s = refl
written-strip n k o (Err r) u l e s = absurd (never-refused n k (length o) r l e s.0)

module _ (n k : ℕ) (o u : List ℕ) (s : StripSays n k o (Ok tt) u) where
  pos : 0 < n
  pos = omega (arith, s.0.sized.0)

  two : 2 ≤ k
  two = s.0.shaded.0

  -- it has k ^ n sectors
  pub written-long : length u ≡ k ^ n
  written-long = rw s.2 (length-strip n k pos (omega (arith, two)))

  -- each reading stands at exactly one place of it
  pub written_once : OnceEach n k u
  written_once = rw s.2 (once n k pos two)

  module _ (p : ℕ) (b : p < k ^ n) where
    reads : Reading n k (window n (strip n k) p)
    reads = window-reading n k (strip n k) (omega (arith, length-strip n k pos (omega (arith, two)))) (strip-shades n k pos (omega (arith, two))) p

    place : PlaceSays (window n (strip n k) p) k (Ok p)
    place =
        let e = reads.long in (
          reading-passed n k (window n (strip n k) p) s.0.sized s.0.shaded reads,
          subst (λ (m : ℕ). k ^ m ≤ 4096) (sym e) s.0.few,
          subst (λ (m : ℕ). OnePlace (strip m k) (window n (strip n k) p) p) (sym e) (window-place n k pos two p (omega (arith, length-strip n k pos (omega (arith, two))))),
        )

    -- the n neighbouring sectors at p tell p
    pub written-told : (a : Result ℕ Refusal) → PlaceSays (window n u p) k a → a ≡ Ok p
    written-told a t = one-telling (window n (strip n k) p) k a (Ok p) (rw s.2 at t) place
