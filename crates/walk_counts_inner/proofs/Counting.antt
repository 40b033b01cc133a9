-- Counting all bytes of some sectors at once.
--     Counting m s cs i     cs has how often each number below m stands in the first i sectors of s
--     count-start, count-more, count-end    the loop over the sectors
--     occurs-le             no shade stands in a word more often than the word is long
--     count-room            no count is above the number of sectors looked at
--     first-counts          the counts of the shades are the first 16 of those of the bytes
use Rattle.words.proofs.Plain.{ℕ, ◌+◌, ◌<◌, ◌≤◌, arith, ◌≡◌, refl, sym, ap, ◌∙◌, List, [], ◌∷◌, length, get_or, take}
use Rattle.words.proofs.Plain.{set, replicate, length-set, length-replicate, get_or-replicate, ext_get_or, get_or-set_same, get_or-set_other, length-take, get_or-take, take_all}
use Rattle.words.proofs.Split.{lt, eq, gt, tri}
use Rattle.words.proofs.Search.{length-tab, get_d-tab}
use Rattle.words.proofs.{Sequence.sec}
use Rattle.rings.specs.Counts.{occurs, counts_of}
use Rattle.shades_tally_inner.proofs.Tallying.{occurs-none, occurs-here, occurs-other, tally-hit, tally-miss}

-- ---- counting

-- cs has how often each number below m stands in the first i sectors of s
pub record Counting (m : ℕ) (s cs : List ℕ) (i : ℕ) : Type 0 where
  pub size : length cs ≡ m
  pub each : (b : ℕ) → b < m → get_or cs b 0 ≡ occurs b (take i s)

-- no sector is looked at yet
pub count-start : (m : ℕ) (s : List ℕ) → Counting m s (replicate m 0) 0
count-start m s = record { size = length-replicate {A = ℕ} m 0; each = λ b h. get_or-replicate m b 0 0 h ∙ sym (occurs-none b) }

-- the next sector
count-sector : (m : ℕ) (s cs : List ℕ) (i : ℕ) → i < length s → Counting m s cs i → sec s i < m → Counting m s (set cs (sec s i) (get_or cs (sec s i) 0 + 1)) (i + 1)
count-sector m s cs i within c h = record {
  size = length-set cs (sec s i) x ∙ c.size;
  each = λ b l. elim (tri (sec s i) b) [ lt q ↦ other b l (λ e. omega arith) | eq q ↦ here b q | gt q ↦ other b l (λ e. omega arith) ];
}
  where
    x : ℕ
    x = get_or cs (sec s i) 0 + 1

    here : (b : ℕ) → sec s i ≡ b → get_or (set cs (sec s i) x) b 0 ≡ occurs b (take (i + 1) s)
    here b q = ap (λ (j : ℕ). get_or (set cs (sec s i) x) j 0) (sym q) ∙ get_or-set_same cs (sec s i) x 0 (omega (arith, c.size)) ∙ tally-hit (sec s i) s
        i (get_or cs (sec s i) 0) within (c.each (sec s i) h) refl ∙ ap (λ (j : ℕ). occurs j (take (i + 1) s)) q

    other : (b : ℕ) → b < m → (sec s i ≡ b → ⊥) → get_or (set cs (sec s i) x) b 0 ≡ occurs b (take (i + 1) s)
    other b l q = get_or-set_other cs (sec s i) b x 0 (λ e. q (sym e)) ∙ tally-miss b s i (get_or cs b 0) within (c.each b l) q

-- the next sector is b
pub count-more : (m : ℕ) (s cs : List ℕ) (i b : ℕ) → i < length s → Counting m s cs i → b ≡ sec s i → b < m → Counting m s (set cs b (get_or cs b 0 + 1)) (i + 1)
count-more m s cs i b within c e h = rw e (count-sector m s cs i within c (omega arith))

-- every sector is looked at
pub count-end : (m : ℕ) (s cs : List ℕ) (i : ℕ) → Counting m s cs i → length s ≤ i → cs ≡ counts_of m s
unfolding counts_of
count-end m s cs i c e =
    ext_get_or 0 cs (counts_of m s) (c.size ∙ sym (length-tab m (λ b. occurs b s))) (λ b h.
    c.each b (omega (arith, c.size)) ∙ ap (occurs b) (take_all i s e) ∙ sym (get_d-tab m (λ x. occurs x s) b 0 (omega (arith, c.size))))

-- no shade stands in a word more often than the word is long
pub occurs-le : (b : ℕ) (w : List ℕ) → occurs b w ≤ length w
occurs-le b [] = omega (arith, occurs-none b)
occurs-le b (a ∷ w) =
    elim (tri a b) [
      | lt q ↦ omega (arith, occurs-le b w, occurs-other a b w (λ e. omega arith))
      | eq q ↦ omega
          (arith, occurs-le b w, occurs-here a b w q)
      | gt q ↦ omega (arith, occurs-le b w, occurs-other a b w (λ e. omega arith))
    ]

-- no count is above the number of sectors looked at
pub count-room : (m : ℕ) (s cs : List ℕ) (i b : ℕ) → Counting m s cs i → b < m → get_or cs b 0 ≤ i
count-room m s cs i b c h = omega (arith, c.each b h, occurs-le b (take i s), length-take i s)

-- ---- the shades among the bytes

-- the counts of the shades are the first 16 of those of the bytes
pub first-counts : (w all : List ℕ) → all ≡ counts_of 256 w → take 16 all ≡ counts_of 16 w
unfolding counts_of
first-counts w all e =
    ext_get_or 0 (take 16 all) (counts_of 16 w) (omega (arith, long, length-take 16 all, length-tab 16 (λ x. occurs x w))) (λ x l.
    let m : x < 16 = omega (arith, length-take 16 all) in
    get_or-take 16 all x 0 m ∙ rw e (get_d-tab 256 (λ y. occurs y w) x 0 (omega arith)) ∙ sym (get_d-tab 16 (λ y. occurs y w) x 0 m))
  where
    long : length all ≡ 256
    long = rw e (length-tab 256 (λ x. occurs x w))
