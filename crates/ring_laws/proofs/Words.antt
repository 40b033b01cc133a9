-- From lists to sequences: what the tests prenecklace and necklace say of the sectors.
--     pre-of, of-pre        prenecklace w, and Pre of its sectors
--     turned                the sectors of a turn are the turned sectors
--     neck-of, of-neck      necklace w, and Neck of its sectors
--     necklace-prenecklace  a necklace is a prenecklace
use Rattle.words.proofs.Plain.{ℕ, ◌+◌, ◌-◌, ◌<◌, ◌≤◌, arith, ◌≡◌, refl, sym, ◌∙◌, true, List, length, get_or, take, drop, length-drop, length-take-le, get_or-take}
use Rattle.words.proofs.{Plain.get_or-drop, Search.all-at, Search.all_of, Lex.up_to-not-less, Lex.not-less-up_to}
use Rattle.words.specs.Turn.{turn}
use Rattle.words.proofs.Sequence.{sec, from, recast}
use Rattle.words.proofs.Turn.{length-turn, turn_low, turn-high}
use Rattle.rings.specs.{Necklace.necklace, Necklace.not_above_turn, Prenecklace.prenecklace, Prenecklace.ending_holds}
use Rattle.ring_laws.proofs.Run.{Pre}
use Rattle.ring_laws.proofs.Repeat.{Turned, Neck, neck-pre}

module _ (w : List ℕ) where
  -- the beginning and the ending of one length
  begin-length : (i : ℕ) → length (take (length w - i) w) ≡ length w - i
  begin-length i = length-take-le (length w - i) w (omega arith)

  part-lengths : (i : ℕ) → length (take (length w - i) w) ≡ length (drop i w)
  part-lengths i = begin-length i ∙ sym (length-drop i w)

  begin-at : (i m : ℕ) → m < length w - i → get_or (take (length w - i) w) m 0 ≡ get_or w m 0
  begin-at i m h = get_or-take (length w - i) w m 0 h

  ending_at : (i m : ℕ) → get_or (drop i w) m 0 ≡ get_or w (i + m) 0
  ending_at i m = get_or-drop i w m 0

  pub pre-of : prenecklace w ≡ true → Pre (sec w) (length w)
  unfolding prenecklace ending_holds
  pre-of h i l =
      up_to-not-less (take (length w - i) w) (drop i w) (part-lengths i) (all-at (length w) (ending_holds w) h i (omega (arith, l.bound)))
      (rw (begin-length i)
      (recast (from i (sec w)) (sec w) (sec (drop i w)) (sec (take (length w - i) w)) (length w - i) (λ m b. sym (ending_at i m)) (λ m b. sym (begin-at i m b)) l))

  pub of-pre : Pre (sec w) (length w) → prenecklace w ≡ true
  unfolding prenecklace ending_holds
  of-pre pre =
      all_of (length w) (ending_holds w) (λ i b.
      not-less-up_to (take (length w - i) w) (drop i w) (part-lengths i) (λ l.
      pre i
      (recast (sec (drop i w)) (sec (take (length w - i) w)) (from i (sec w)) (sec w) (length w - i) (λ m c. ending_at i m) (λ m c. begin-at i m c)
      (rw (begin-length i) at l))))

  pub turned : (i : ℕ) → i ≤ length w → Turned (sec w) (length w) i (sec (turn i w))
  turned i h = record { low = turn_low i w; high = turn-high i w h }

  -- two sequences that are the same turn agree
  one-turn : (i : ℕ) (s t : ℕ → ℕ) → i < length w → Turned (sec w) (length w) i s → Turned (sec w) (length w) i t → (m : ℕ) → m < length w → s m ≡ t m
  one-turn i s t h p q m b = go (Rattle.words.proofs.Split.tri (i + m) (length w))
    where
      past : length w ≤ i + m → s m ≡ t m
      past e = p.high m (i + m - length w) (omega arith) b ∙ sym (q.high m (i + m - length w) (omega arith) b)

      go : Rattle.words.proofs.Split.Tri (i + m) (length w) → s m ≡ t m
      go (Rattle.words.proofs.Split.Tri.lt e) = p.low m (i + m) refl e ∙ sym (q.low m (i + m) refl e)
      go (Rattle.words.proofs.Split.Tri.eq e) = past (omega arith)
      go (Rattle.words.proofs.Split.Tri.gt e) = past (omega arith)

  pub neck-of : necklace w ≡ true → Neck (sec w) (length w)
  unfolding necklace not_above_turn
  neck-of h i t b turns l =
      up_to-not-less w (turn i w) (sym (length-turn i w (omega arith))) (all-at (length w) (not_above_turn w) h i b)
      (recast t (sec w) (sec (turn i w)) (sec w) (length w) (one-turn i t (sec (turn i w)) b turns (turned i (omega arith))) (λ m c. refl) l)

  pub of-neck : Neck (sec w) (length w) → necklace w ≡ true
  unfolding necklace not_above_turn
  of-neck neck =
      all_of (length w) (not_above_turn w)
      (λ i b. not-less-up_to w (turn i w) (sym (length-turn i w (omega arith))) (λ l. neck i (sec (turn i w)) b (turned i (omega arith)) l))

  -- a necklace is a prenecklace
  pub necklace-prenecklace : necklace w ≡ true → prenecklace w ≡ true
  necklace-prenecklace h = of-pre (neck-pre (sec w) (length w) (λ i. sec (turn i w)) (λ i b. turned i (omega arith)) (neck-of h))
