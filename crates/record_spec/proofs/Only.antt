-- What the reader looks at: the start, the output, and of the catalogue no more than the 68 bytes from the start on, since a record's head has 4 and n, which is at most 64,
-- is the most bytes that its sectors take.
--     drop-take              what is left of a beginning is a beginning of what is left
--     opening t              those bytes of a part t
--     opening-record, opening-given     the record that t begins with is good, or refused, exactly as it is there
--     trimmed                the answer is that for a catalogue of these bytes, with anything before them
--     only-record            so two catalogues that agree there have one answer and one output, refusals and End included
--     past_end               where the start is past the end, it is Cut whatever the bytes are
use Rattle.words.proofs.Plain.{ℕ, zero, suc, ◌+◌, ◌<◌, ◌≤◌, arith, ◌≡◌, refl, sym, ap, ◌∙◌, ◌⊎◌, inl, inr, List, [], ◌∷◌, ◌++◌, length, get_or, take, drop}
use Rattle.words.proofs.Plain.{replicate, length-append, length-take, length-drop, length-replicate, get_or-take, take-take, drop_at}
use Rattle.refusal.specs.{declared.Refusal.Refusal, declared.Refusal.TheVariants.Cut, Order.Given}
use Rattle.std.specs.Prelude.{Result, Ok, Err, Option, Some, None}
use Rattle.record_spec.specs.{declared.Kind.Kind, declared.Record.Record, Says.Read, Says.ReadSays}
use Rattle.record_spec.specs.Layout.{Marked, MarkedBack, kind_by_mark, body_length, n_of, k_of, body_of, stored_ring}
use Rattle.record_spec.specs.Order.{Known, behind_order, record_order, read_order, After2, After7, GoodRecord}
use Rattle.record_spec.proofs.{Forms.few_bytes, Unique.one-read}

-- what is left of a beginning is a beginning of what is left
pub drop-take : (m n : ℕ) (l : List ℕ) → drop m (take (m + n) l) ≡ take n (drop m l)
drop-take zero n l = let e : 0 + n ≡ n = omega arith in rw e
drop-take (suc m) n [] = let e : suc m + n ≡ suc (m + n) = omega arith in rw e (none n)
  where
    none : (n : ℕ) → [] ≡ take {A = ℕ} n []
    none zero = refl
    none (suc n) = refl
drop-take (suc m) n (x ∷ l) = let e : suc m + n ≡ suc (m + n) = omega arith in rw e (drop-take m n l)

-- the bytes that a record can have
abbrev pub opening : List ℕ → List ℕ
opening t = take 68 t

module _ (t : List ℕ) where
  at : (i : ℕ) → i < 68 → get_or (opening t) i 0 ≡ get_or t i 0
  at i h = get_or-take 68 t i 0 h

  same-n : n_of (opening t) ≡ n_of t
  same-n = at 2 (omega arith)

  same-k : k_of (opening t) ≡ k_of t
  same-k = at 3 (omega arith)

  -- the bytes behind the head, and the sectors that they hold, where n and k are good
  few : (x : Kind) → After2 t → body_length x (n_of t) (k_of t) ≤ 64
  few x h = omega (arith, few_bytes (n_of t) (k_of t) x h.1)

  same_body : (x : Kind) → After2 t → body_of x (opening t) ≡ body_of x t
  same_body x h = rw (same-n, same-k, drop-take 4 64 t) (take-take (body_length x (n_of t) (k_of t)) 64 (drop 4 t) (few x h))

  same-ring : (x : Kind) → After2 t → stored_ring x (opening t) ≡ stored_ring x t
  same-ring x h = rw (same_body x h, same-n, same-k)

  -- each check tells the same of both
  marked-there : (x : Kind) → Marked t x → Marked (opening t) x
  marked-there x m = rw (at 0 (omega arith), at 1 (omega arith)) m

  back-there : MarkedBack t → MarkedBack (opening t)
  back-there m = rw (at 0 (omega arith), at 1 (omega arith)) m

  back-here : MarkedBack (opening t) → MarkedBack t
  back-here m = rw (at 0 (omega arith), at 1 (omega arith)) at m

  known-there : Known t ⊎ MarkedBack t → Known (opening t) ⊎ MarkedBack (opening t)
  known-there (inl k) = inl (k.0, marked-there k.0 k.1)
  known-there (inr m) = inr (back-there m)

  known-here : Known (opening t) ⊎ MarkedBack (opening t) → Known t ⊎ MarkedBack t
  known-here (inl k) = inl (k.0, rw (at 0 (omega arith), at 1 (omega arith)) at k.1)
  known-here (inr m) = inr (back-here m)

  after-head : 4 ≤ length t → 4 ≤ length (opening t)
  after-head h = simp length-take (omega arith)

  same_kind : kind_by_mark (opening t) ≡ kind_by_mark t
  unfolding kind_by_mark
  same_kind = rw (at 1 (omega arith), kind_by_mark)

  after2 : After2 t → After2 (opening t)
  after2 h = (rw same-n h.0, rw same-k h.1)

  after7 : (x : Kind) → After7 x t → After7 x (opening t)
  after7 x h = (after2 h.0, rw (same-n, same-k, length-take) (omega (arith, few x h.0)))

  good : (x : Kind) → GoodRecord x t → GoodRecord x (opening t)
  good x h = (after7 x h.0, rw (same_body x h.0.0, same-n, same-k) h.1)

  -- a record that is good is good there
  pub opening-record : (s : ℕ) (b : List ℕ) (n k : ℕ) (x : Kind) (next : ℕ) (d : List ℕ) → Read t s b n k x next d → Read (opening t) s b n k x next d
  opening-record s b n k x next d f =
      record {
        good = good x f.good;
        marked = marked-there x f.marked;
        sectors = f.sectors ∙ sym same-n;
        shades = f.shades ∙ sym same-k;
        follows = f.follows;
        ring = rw (same-ring x f.good.0.0) f.ring;
      }

  -- what stands behind the mark is refused so there
  opening-behind : (x : Kind) (s : ℕ) (r : Refusal) → Given (behind_order x t s) r → Given (behind_order x (opening t) s) r
  opening-behind x s r (inl (inl (inl (e, k)))) = inl (inl (inl (e, rw same-n k)))
  opening-behind x s r (inl (inl (inr (h, (e, k))))) = inl (inl (inr (rw same-n h, (e, rw same-k k))))
  opening-behind x s r (inl (inr (h, (e, k)))) =
      inl (inr (after2 h, (e, λ l. k (omega (arith, few x h, rw (same-n, same-k, length-take) at l)))))
  opening-behind x s r (inr (h, u)) = inr (after7 x h, rw (same_body x h.0, same-n, same-k) u)

  -- a record that is refused is refused so there
  pub opening-given : (s : ℕ) (r : Refusal) → Given (record_order t s) r → Given (record_order (opening t) s) r
  opening-given s r (inl (inl (inl (e, h)))) = inl (inl (inl (e, λ l. h (omega (arith, rw length-take at l)))))
  opening-given s r (inl (inl (inr (h, (e, k))))) = inl (inl (inr (after-head h, (e, λ q. k (known-here q)))))
  opening-given s r (inl (inr ((h, m), (e, k)))) = inl (inr ((after-head h, known-there m), (e, λ q. k (λ b. q (back-there b)))))
  opening-given s r (inr (((h, m), q), u)) =
      inr (((after-head h, known-there m), λ b. q (back-here b)), rw same_kind (opening-behind (kind_by_mark t) s r u))

-- ---- any catalogue

-- the answer is that for a catalogue of these bytes, with anything before them
trimmed : (c : List ℕ) (s : ℕ) (b : List ℕ) (r : Result (Option Record) Refusal) (d : List ℕ) → s ≤ length c → ReadSays c s b r d → ReadSays (replicate s 0 ++ opening (drop s c)) s b r d
trimmed c s b r d l = go r
  where
    t : List ℕ
    t = drop s c

    part : drop s (replicate s 0 ++ opening t) ≡ opening t
    part = drop_at (replicate s 0) (opening t) s (length-replicate s 0)

    long : length (replicate s 0 ++ opening t) ≡ s + length (opening t)
    long = length-append (replicate s 0) (opening t) ∙ ap (λ (x : ℕ). x + length (opening t)) (length-replicate s 0)

    some : s < length c → s < length (replicate s 0 ++ opening t)
    some h = omega (arith, long, length-take 68 t, length-drop s c)

    go : (r : Result (Option Record) Refusal) → ReadSays c s b r d → ReadSays (replicate s 0 ++ opening t) s b r d
    go (Ok (Some r)) (e, h, f) = (e, some h, rw part (opening-record t s b r.n r.k r.kind r.next d f))
    go (Ok None) (e, h, f) = (e, omega (arith, long, length-take 68 t, length-drop s c), f)
    go (Err r) (g, f) = (refuse g, f)
      where
        refuse : Given (read_order c s (length b)) r → Given (read_order (replicate s 0 ++ opening t) s (length b)) r
        refuse (inl (inl g)) = inl (inl g)
        refuse (inl (inr (h, (e, k)))) = absurd (k l)
        refuse (inr (h, (i, k))) = inr ((h.0, omega (arith, long)), (some i, rw part (opening-given t s r k)))

-- two catalogues that agree on the 68 bytes from the start on have one answer and one output
pub only-record : (c c' : List ℕ) (s : ℕ) (b : List ℕ) (q r : Result (Option Record) Refusal) (u v : List ℕ) → s ≤ length c → s ≤ length c' → opening (drop s c) ≡ opening (drop s c') →
    ReadSays c s b q u → ReadSays c' s b r v → (q ≡ r) × (u ≡ v)
only-record c c' s b q r u v l l' e f g =
    one-read (replicate s 0 ++ opening (drop s c)) s b q r u v (trimmed c s b q u l f) (rw e (trimmed c' s b r v l' g))

-- where the start is past the end, it is Cut whatever the bytes are, and the output is as it was
pub past_end : (c : List ℕ) (s : ℕ) (b : List ℕ) (r : Result (Option Record) Refusal) (d : List ℕ) → length b ≡ 64 → length c < s → ReadSays c s b r d → (r ≡ Err (Cut s)) × (d ≡ b)
past_end c s b r d e h f = one-read c s b r (Err (Cut s)) d b f (inl (inr (e, (refl, λ l. omega arith))), refl)
