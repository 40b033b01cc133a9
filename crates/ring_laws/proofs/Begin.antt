-- The two forms of a prenecklace agree (001, Theorem 1): 'each ending is not below the beginning of the same length', which is how it is defined, and
-- 'a beginning, possibly the whole, of some necklace, of whatever length'.
--     begins    a prenecklace begins a necklace: its run goes on until n times lyn sectors are filled
--     begun     whatever begins a necklace is a prenecklace
use Rattle.words.proofs.Plain.{ℕ, ◌+◌, ◌-◌, ◌*◌, ◌%◌, ◌<◌, ◌≤◌, arith, ◌≡◌, refl, sym, ap, ◌∙◌, true, List, ◌++◌, length, get_or, length-append, List·get_d-append}
use Rattle.words.proofs.{Plain.get_or-append-add, Search.length-tab, Search.get_d-tab, Sequence.sec}
use native.Mathlib.Nat.{mod-lt, mul-mod_left, le-mul_of_pos_right}
use Rattle.words.specs.{Search.tab, Readings.Reading}
use Rattle.words.proofs.Split.{lt, eq, gt, tri}
use Rattle.rings.specs.Necklace.{necklace}
use Rattle.rings.specs.Prenecklace.{prenecklace, Begins, lyn}
use Rattle.ring_laws.proofs.Run.{Run, pre-shorter, pre-through, run-through}
use Rattle.ring_laws.proofs.Repeat.{rep, rep-run, run_rep}
use Rattle.ring_laws.proofs.Words.{pre-of, of-pre, necklace-prenecklace}
use Rattle.ring_laws.proofs.Lyndon.{run-necklace, lyn-run}

module _ (n k : ℕ) (w : List ℕ) (z : 0 < n) (reading : Reading n k w) (h : prenecklace w ≡ true) where
  run : Run (sec w) n (lyn w)
  run = rw reading.long at (lyn-run w (omega (arith, reading.long)) h)

  -- n times lyn is no less than n
  far : n ≤ n * lyn w
  far = le-mul_of_pos_right n run.pos

  -- the run's next sectors
  more : List ℕ
  more = tab (n * lyn w - n) (λ m. get_or w ((n + m) % lyn w) 0)

  length_more : length more ≡ n * lyn w - n
  unfolding more
  length_more = length-tab (n * lyn w - n) (λ m. get_or w ((n + m) % lyn w) 0)

  more-at : (m : ℕ) → m < n * lyn w - n → get_or more m 0 ≡ get_or w ((n + m) % lyn w) 0
  unfolding more
  more-at m b = get_d-tab (n * lyn w - n) (λ m. get_or w ((n + m) % lyn w) 0) m 0 b

  long : length (w ++ more) ≡ n * lyn w
  long = omega (arith, length-append w more, length_more, reading.long, far)

  all : (m : ℕ) → m < n * lyn w → rep (lyn w) (sec w) m ≡ get_or (w ++ more) m 0
  all m b =
      elim (tri m n) [
        | lt e ↦ sym (List·get_d-append w more 0 m (omega (arith, reading.long)) ∙ run_rep (sec w) n (lyn w) run m e)
        | eq e ↦ behind (omega arith)
        | gt e ↦ behind (omega arith)
      ]
    where
      behind : n ≤ m → rep (lyn w) (sec w) m ≡ get_or (w ++ more) m 0
      behind l =
          let e : length w + (m - n) ≡ m = omega (arith, reading.long) in
          let f : n + (m - n) ≡ m = omega arith in
          sym (ap (λ (x : ℕ). get_or (w ++ more) x 0) (sym e) ∙ get_or-append-add w more (m - n) 0 ∙ more-at (m - n) (omega arith) ∙ ap (λ (x : ℕ). get_or w (x % lyn w) 0) f)

  whole : necklace (w ++ more) ≡ true
  whole =
      run-necklace (w ++ more) (lyn w)
      (rw long (run-through (rep (lyn w) (sec w)) (sec (w ++ more)) (n * lyn w) (lyn w) all (rep-run (sec w) (n * lyn w) (lyn w) run.pos (omega (arith, far, run.fits)) run.lyn)))
      (rw long (mul-mod_left n (lyn w)))

  -- a prenecklace begins a necklace over the same shades
  pub begins : Begins k w
  begins =
      record {
        rest = more;
        shades = record { long = refl; shades = λ i b. rw (more-at i (omega (arith, length_more))) (reading.shades ((n + i) % lyn w) (omega (arith, mod-lt (n + i) run.pos, run.fits))) };
        whole = whole;
      }

-- whatever begins a necklace is a prenecklace
pub begun : (k : ℕ) (w : List ℕ) → Begins k w → prenecklace w ≡ true
begun k w b =
    let v = w ++ b.rest in
    of-pre w (pre-through (sec v) (sec w) (length w) (λ m l. List·get_d-append w b.rest 0 m l)
    (pre-shorter (sec v) (length v) (length w) (omega (arith, length-append w b.rest)) (pre-of v (necklace-prenecklace v b.whole))))
