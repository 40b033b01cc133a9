-- Beginnings that are prenecklaces, and repeating one.
--     Copying p s₀ s m    the first m sectors of s repeat the first p of s₀
--     repeat-start, repeat-more, repeat-end    the copying
use Rattle.words.proofs.Plain.{ℕ, ◌+◌, ◌-◌, ◌<◌, ◌≤◌, add-one, arith, ◌≡◌, refl, sym, ◌∙◌, List, length, set, length-set, get_or-set_same, get_or-set_other}
use Rattle.words.proofs.Sequence.{sec}
use Rattle.ring_laws.proofs.Run.{Run, lyn-self, same, run-through}
use Rattle.shades_next_inner.specs.Runs.{Repeatable, Repeats}

-- the first m sectors of s repeat the first p of s₀
pub record Copying (p : ℕ) (s₀ s : List ℕ) (m : ℕ) : Type 0 where
  pub long : length s ≡ length s₀
  pub to : m ≤ length s₀
  pub keeps : (i : ℕ) → i < p → sec s i ≡ sec s₀ i
  pub run : Run (sec s) m p

-- the first p sectors themselves
pub repeat-start : (s : List ℕ) (p : ℕ) → Repeatable s p → Copying p s s p
repeat-start s p r = record { long = refl; to = r.fits; keeps = λ i h. refl; run = lyn-self (sec s) p r.pos r.lyn }

-- one sector more
pub repeat-more : (p : ℕ) (s₀ s : List ℕ) (m : ℕ) → Copying p s₀ s m → m < length s → Copying p s₀ (set s m (sec s (m - p))) (m + 1)
repeat-more p s₀ s m c h = record {
  long = length-set s m (sec s (m - p)) ∙ c.long;
  to = omega (arith, c.long);
  keeps = λ i k. other i (omega (arith, c.run.fits)) ∙ c.keeps i k;
  run = rw (add-one m) (same (sec (set s m (sec s (m - p)))) m p (run-through (sec s) (sec (set s m (sec s (m - p)))) m p (λ i k. sym (other i k)) c.run) here);
}
  where
    other : (i : ℕ) → i < m → sec (set s m (sec s (m - p))) i ≡ sec s i
    other i k = get_or-set_other s m i (sec s (m - p)) 0 (λ e. omega arith)

    here : sec (set s m (sec s (m - p))) m ≡ sec (set s m (sec s (m - p))) (m - p)
    here = get_or-set_same s m (sec s (m - p)) 0 h ∙ sym (other (m - p) (omega (arith, c.run.pos, c.run.fits)))

-- all sectors
pub repeat-end : (p : ℕ) (s₀ s : List ℕ) (m : ℕ) → Copying p s₀ s m → length s ≤ m → Repeats p s₀ s
repeat-end p s₀ s m c h = let e : m ≡ length s = omega (arith, c.to, c.long) in record { long = c.long; keeps = c.keeps; run = rw e at c.run }
