-- A necklace of period d is a Lyndon word of length d repeated (000, section 1.1).
--     necklace_by d w        w is a necklace with the period d
--     beginning-lyndon      its first d sectors are a Lyndon word, and repeated they are the necklace
--     repeated-necklace     a Lyndon word of length d, repeated up to a multiple of d, is a necklace of period d that begins with it
use Rattle.words.proofs.Plain.{ℕ, ◌%◌, ◌<◌, ◌≤◌, ◌∣◌, arith, ◌≡◌, sym, ap, subst, ◌∙◌, Bool, true, ◌&&◌, List, eqb, length, get_or, take, ext_get_or}
use Rattle.words.proofs.Plain.{length-take-le, get_or-take, eq-eqb, eqb-true}
use native.Mathlib.Nat.{mod-lt, mod-eq_of_lt, mod-eq-zero_of_dvd}
use Rattle.words.specs.Readings.{Reading}
use Rattle.words.proofs.Split.{both, both_left, both_right}
use Rattle.words.proofs.{Search.length-tab, Search.get_d-tab, Sequence.sec}
use Rattle.rings.specs.Necklace.{necklace, period, lyndon}
use Rattle.rings.specs.Next.{repeated}
use Rattle.ring_laws.proofs.Run.{Lyn, Run, lyn-through, run-through}
use Rattle.ring_laws.proofs.Repeat.{rep, rep-run, run_rep}
use Rattle.ring_laws.proofs.{Words.necklace-prenecklace, Classes.period-lyn}
use Rattle.ring_laws.proofs.Lyndon.{run-necklace, period-run, lyndon-of, of-lyndon, lyn-run}

-- a necklace with the period d
unfoldable pub necklace_by : ℕ → List ℕ → Bool
necklace_by d w = necklace w && eqb (period w) d

-- ---- a word repeated, sector by sector

repeated-length : (n : ℕ) (u : List ℕ) → length (repeated n u) ≡ n
unfolding repeated
repeated-length n u = length-tab n (λ m. get_or u (m % length u) 0)

repeated-at : (n : ℕ) (u : List ℕ) (m : ℕ) → m < n → get_or (repeated n u) m 0 ≡ get_or u (m % length u) 0
unfolding repeated
repeated-at n u m l = get_d-tab n (λ m. get_or u (m % length u) 0) m 0 l

-- the first d sectors of a necklace of period d are a Lyndon word, and repeated they are the necklace
pub beginning-lyndon : (n d k : ℕ) (w : List ℕ) → 0 < n → Reading n k w → necklace_by d w ≡ true → Reading d k (take d w) × (lyndon (take d w) ≡ true) × (repeated n (take d w) ≡ w)
unfolding necklace_by
beginning-lyndon n d k w z r h = go run
  where
    neck : necklace w ≡ true
    neck = both_left (necklace w) (eqb (period w) d) h

    run : Run (sec w) (length w) d
    run =
        let e : period w ≡ d = eqb-true (period w) d (both_right (necklace w) (eqb (period w) d) h) in
        subst (Run (sec w) (length w)) (sym (period-lyn w (omega (arith, r.long)) neck) ∙ e) (lyn-run w (omega (arith, r.long)) (necklace-prenecklace w neck))

    go : Run (sec w) (length w) d → Reading d k (take d w) × (lyndon (take d w) ≡ true) × (repeated n (take d w) ≡ w)
    go s = (
      record { long = long; shades = λ i l. rw (get_or-take d w i 0 l) (r.shades i (omega (arith, s.fits, r.long))) },
      lyndon-of (take d w) (omega (arith, long, s.pos)) (rw long (lyn-through (sec w) (sec (take d w)) d (λ i l. sym (get_or-take d w i 0 l)) s.lyn)),
      ext_get_or 0 (repeated n (take d w)) w (repeated-length n (take d w) ∙ sym r.long) (λ i l. at i (rw (repeated-length n (take d w)) at l)),
    )
      where
        long : length (take d w) ≡ d
        long = length-take-le d w s.fits

        at : (i : ℕ) → i < n → get_or (repeated n (take d w)) i 0 ≡ get_or w i 0
        at i l =
            repeated-at n (take d w) i l ∙ ap (λ (x : ℕ). get_or (take d w) (i % x) 0) long ∙ get_or-take d w (i % d) 0 (mod-lt i s.pos) ∙ sym
            (run_rep (sec w) (length w) d s i (omega (arith, r.long)))

-- a Lyndon word of length d, repeated up to a multiple of d, is a necklace of period d that begins with it
pub repeated-necklace : (n d k : ℕ) (u : List ℕ) → 0 < d → d ≤ n → d ∣ n → Reading d k u → lyndon u ≡ true → Reading n k (repeated n u) ×
    (necklace_by d (repeated n u) ≡ true) × (take d (repeated n u) ≡ u)
unfolding necklace_by
repeated-necklace n d k u z b q r h = (
  record { long = long; shades = λ i l. rw (at i l) (r.shades (i % d) (mod-lt i z)) },
  both (necklace (repeated n u)) (eqb (period (repeated n u)) d) (run-necklace (repeated n u) d run whole) (eq-eqb (period (repeated n u)) d (period-run (repeated n u) d run whole)),
  ext_get_or 0 (take d (repeated n u)) u (short ∙ sym r.long) (λ i l. begin i (rw short at l)),
)
  where
    long : length (repeated n u) ≡ n
    long = repeated-length n u

    at : (i : ℕ) → i < n → get_or (repeated n u) i 0 ≡ get_or u (i % d) 0
    at i l = repeated-at n u i l ∙ ap (λ (x : ℕ). get_or u (i % x) 0) r.long

    run : Run (sec (repeated n u)) (length (repeated n u)) d
    run =
        rw long
        (run-through (rep d (sec u)) (sec (repeated n u)) n d (λ i l. sym (at i l)) (rep-run (sec u) n d z b (subst (λ (x : ℕ). Lyn (sec u) x) r.long (of-lyndon u (omega (arith, r.long)) h))))

    whole : length (repeated n u) % d ≡ 0
    whole = rw long (mod-eq-zero_of_dvd d q)

    short : length (take d (repeated n u)) ≡ d
    short = length-take-le d (repeated n u) (omega (arith, long))

    begin : (i : ℕ) → i < d → get_or (take d (repeated n u)) i 0 ≡ get_or u i 0
    begin i l = get_or-take d (repeated n u) i 0 l ∙ at i (omega arith) ∙ ap (λ (x : ℕ). get_or u x 0) (mod-eq_of_lt l)
