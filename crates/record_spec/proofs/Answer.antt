-- The reader's order computes its answer: `entry_of c s m` is the answer for the catalogue c, the start s and an output of m bytes.
--     end-passed, good-passed   where the start is the end, and where a good record stands there, every check has passed
--     begins t y, known t       the mark, as tests
--     behind_tests, record_tests, read_tests    the tests of the checks
--     entry_of c s m             the answer
--     fixed                     an answer that the contract allows is that one
use Rattle.words.proofs.Plain.{ℕ, ◌+◌, ◌<◌, arith, ◌≡◌, ◌∙◌, ◌⊎◌, inl, inr, Bool, true, false, not, ◌&&◌, ◌||◌, Option, none, some, List, leb, ltb, eqb, length}
use Rattle.words.proofs.Plain.{get_or, drop, lt-ltb, le-ltb}
use Rattle.rings.specs.Necklace.{necklace}
use Rattle.refusal.specs.{declared.Refusal.Refusal, Order.Passed}
use Rattle.refusal.proofs.Facts.{Tells, both-tell, either-tell, not-tell, at-most-tells, below-tells, equal-tells, same-tells, within, within-tells}
use Rattle.refusal.proofs.Tests.{Tests, one, all, when, ◌▹◌, answer, given-answer, passed-answer}
use Rattle.record_spec.specs.{declared.Kind.Kind, declared.Kind.TheVariants.Front, declared.Kind.TheVariants.Packed}
use Rattle.std.specs.Prelude.{Result, Ok, Err, Some, None}
use Rattle.std.specs.Prelude.{Option as Maybe}
use Rattle.record_spec.specs.{declared.Record.Record, Says.entry, Says.ReadSays}
use Rattle.record_spec.specs.Layout.{MarkBegins, Marked, kind_by_mark, body_length, is_clear, n_of, k_of, body_of, stored_ring}
use Rattle.record_spec.specs.Order.{Known, behind_order, record_order, read_order, GoodRecord}
use Rattle.record_spec.proofs.Forms.{kind-is, behind-passed}

-- at the end every check has passed, and in a good record too
pub end-passed : (c : List ℕ) (s m : ℕ) → m ≡ 64 → s ≡ length c → Passed (read_order c s m)
end-passed c s m e l = ((e, omega arith), λ h. absurd (omega arith))

pub good-passed : (c : List ℕ) (s m : ℕ) (x : Kind) → m ≡ 64 → s < length c → Marked (drop s c) x → GoodRecord x (drop s c) → Passed (read_order c s m)
good-passed c s m x e l k g = ((e, omega arith), λ h. behind-passed x (drop s c) s k g)

-- ---- the mark

unfoldable pub begins : List ℕ → ℕ → Bool
begins t y = eqb (get_or t 0 0) 0x52 && eqb (get_or t 1 0) y

pub begins-tells : (t : List ℕ) (y : ℕ) → Tells (begins t y) (MarkBegins t y)
unfolding begins
begins-tells t y = both-tell (equal-tells (get_or t 0 0) 0x52) (equal-tells (get_or t 1 0) y)

-- a known mark
unfoldable pub known : List ℕ → Bool
known t = begins t 0x46 || begins t 0x50

pub known_tells : (t : List ℕ) → Tells (known t) (Known t)
unfolding known
known_tells t = record { passed = λ k. both.passed (to k.0 k.1); holds = λ e. from (both.holds e) }
  where
    both : Tells (begins t 0x46 || begins t 0x50) (Marked t Front ⊎ Marked t Packed)
    both = either-tell (begins-tells t 0x46) (begins-tells t 0x50)

    to : (x : Kind) → Marked t x → Marked t Front ⊎ Marked t Packed
    to Front m = inl m
    to Packed m = inr m

    from : Marked t Front ⊎ Marked t Packed → Known t
    from (inl m) = (Front, m)
    from (inr m) = (Packed, m)

-- ---- the tests

unfoldable pub behind_tests : (x : Kind) (t : List ℕ) (s : ℕ) → Tests (behind_order x t s)
behind_tests x t s =
    (one (within 1 (n_of t) 64) (within-tells 1 (n_of t) 64)
    ▹ one (within 2 (k_of t) 16) (within-tells 2 (k_of t) 16)
    ▹ one (leb (4 + body_length x (n_of t) (k_of t)) (length t)) (at-most-tells (4 + body_length x (n_of t) (k_of t)) (length t)))
    ▹ (all (λ i. ltb (get_or (stored_ring x t) i 0) (k_of t)) (λ i. below-tells (get_or (stored_ring x t) i 0) (k_of t))
    ▹ one (is_clear x (n_of t) (k_of t) (body_of x t)) (same-tells (is_clear x (n_of t) (k_of t) (body_of x t)))
    ▹ one (necklace (stored_ring x t)) (same-tells (necklace (stored_ring x t))))

unfoldable pub record_tests : (t : List ℕ) (s : ℕ) → Tests (record_order t s)
record_tests t s =
    one (leb 4 (length t)) (at-most-tells 4 (length t))
    ▹ one (known t || begins t 0x42) (either-tell (known_tells t) (begins-tells t 0x42))
    ▹ one (not (begins t 0x42)) (not-tell (begins-tells t 0x42))
    ▹ behind_tests (kind_by_mark t) t s

unfoldable pub read_tests : (c : List ℕ) (s m : ℕ) → Tests (read_order c s m)
read_tests c s m =
    one (eqb m 64) (equal-tells m 64)
    ▹ one (leb s (length c)) (at-most-tells s (length c))
    ▹ when (ltb s (length c)) (below-tells s (length c)) (record_tests (drop s c) s)

-- ---- the answer

-- the refusal, or else the record, or the end
unfoldable pub refused_or : Option Refusal → Result (Maybe Record) Refusal → Result (Maybe Record) Refusal
refused_or none e = e
refused_or (some r) e = Err r

unfoldable pub record_entry : List ℕ → ℕ → Result (Maybe Record) Refusal
record_entry t s = entry (n_of t) (k_of t) (kind_by_mark t) (s + 4 + body_length (kind_by_mark t) (n_of t) (k_of t))

unfoldable pub entry_of : List ℕ → ℕ → ℕ → Result (Maybe Record) Refusal
entry_of c s m = refused_or (answer (read_tests c s m)) (elim (ltb s (length c)) [ true ↦ record_entry (drop s c) s | false ↦ Ok None ])

-- where every check has passed
passed_entry : (c : List ℕ) (s m : ℕ) → Passed (read_order c s m) → entry_of c s m ≡ elim (ltb s (length c)) [ true ↦ record_entry (drop s c) s | false ↦ Ok None ]
unfolding entry_of refused_or
passed_entry c s m p = rw (passed-answer (read_tests c s m) p)

-- an answer that the contract allows is the computed one
pub fixed : (c : List ℕ) (s : ℕ) (b : List ℕ) (r : Result (Maybe Record) Refusal) (d : List ℕ) → ReadSays c s b r d → entry_of c s (length b) ≡ r
unfolding entry_of record_entry refused_or
fixed c s b (Ok (Some r)) d h =
    let t = drop s c in
    let g = h.2 in
    let e : entry (n_of t) (k_of t) r.kind (s + 4 + body_length r.kind (n_of t) (k_of t)) ≡ entry r.n r.k r.kind r.next = cc (g.sectors, g.shades, g.follows) in
    passed_entry c s (length b) (good-passed c s (length b) r.kind h.0 h.1 g.marked g.good)
    ∙ rw (lt-ltb s (length c) h.1, kind-is t r.kind g.marked) e
fixed c s b (Ok None) d h =
    passed_entry c s (length b) (end-passed c s (length b) h.0 h.1)
    ∙ rw (le-ltb s (length c) (omega (arith, h.1)))
fixed c s b (Err r) d h = rw (given-answer (read_tests c s (length b)) r h.0)
