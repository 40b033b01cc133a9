-- A record, and bytes behind it.
--     read-joined, read-parted    a record that bytes a hold is read as it is where bytes follow a, and the other way round
--     read-own                    so the bytes that a record takes are read as it is
--     given-joined                of 68 bytes or more a refusal does not depend on what follows
use Rattle.words.proofs.Plain.{ℕ, ◌+◌, ◌<◌, ◌≤◌, arith, ◌≡◌, refl, sym, ap, ◌∙◌, ◌⊎◌, inl, inr, Option, none, some, List, [], ◌++◌, length, get_or, take, drop}
use Rattle.words.proofs.Plain.{length-append, length-drop, length-take, take-append-drop, List·get_d-append, take-append-le, drop-append-le}
use Rattle.refusal.specs.{declared.Refusal.Refusal, Order.Passed, Order.Given}
use Rattle.refusal.proofs.Unique.{one-refusal, never_both}
use Rattle.refusal.proofs.Tests.{Answers, answer, answered}
use Rattle.record_spec.specs.{declared.Kind.Kind, Says.Read}
use Rattle.record_spec.specs.Layout.{MarkedBack, body_length, n_of, k_of, body_of, stored_ring}
use Rattle.record_spec.specs.Order.{Known, record_order, GoodRecord}
use Rattle.record_spec.proofs.{Forms.kind-is, Forms.behind-passed, Answer.record_tests}
use Rattle.record_spec.proofs.Only.{opening, opening-record, opening-given}

module _ (a y : List ℕ) (x : Kind) (h : 4 + body_length x (n_of a) (k_of a) ≤ length a) where
  byte : (i : ℕ) → i < 4 → get_or (a ++ y) i 0 ≡ get_or a i 0
  byte i l = List·get_d-append a y 0 i (omega arith)

  pub same-n : n_of (a ++ y) ≡ n_of a
  same-n = byte 2 (omega arith)

  pub same-k : k_of (a ++ y) ≡ k_of a
  same-k = byte 3 (omega arith)

  pub same_body : body_of x (a ++ y) ≡ body_of x a
  same_body = rw (same-n, same-k, drop-append-le 4 a y (omega arith)) (take-append-le (body_length x (n_of a) (k_of a)) (drop 4 a) y (simp length-drop (omega arith)))

  pub same-ring : stored_ring x (a ++ y) ≡ stored_ring x a
  same-ring = rw (same_body, same-n, same-k)

  longer : length a ≤ length (a ++ y)
  longer = omega (arith, length-append a y)

  pub read-joined : (s : ℕ) (b : List ℕ) (n k next : ℕ) (d : List ℕ) → Read a s b n k x next d → Read (a ++ y) s b n k x next d
  read-joined s b n k next d r =
      let g = r.good in
      record {
        good = ((((rw same-n g.0.0.0), rw same-k g.0.0.1), rw (same-n, same-k) (omega (arith, longer, h))), rw (same_body, same-n, same-k) g.1);
        marked = rw (byte 0 (omega arith), byte 1 (omega arith)) r.marked;
        sectors = r.sectors ∙ sym same-n;
        shades = r.shades ∙ sym same-k;
        follows = r.follows;
        ring = rw same-ring r.ring;
      }

  pub read-parted : (s : ℕ) (b : List ℕ) (n k next : ℕ) (d : List ℕ) → Read (a ++ y) s b n k x next d → Read a s b n k x next d
  read-parted s b n k next d r =
      let g = r.good in
      record {
        good = (((rw same-n at g.0.0.0, rw same-k at g.0.0.1), h), rw (same_body, same-n, same-k) at g.1);
        marked = rw (byte 0 (omega arith), byte 1 (omega arith)) at r.marked;
        sectors = r.sectors ∙ same-n;
        shades = r.shades ∙ same-k;
        follows = r.follows;
        ring = rw same-ring at r.ring;
      }

-- the bytes that a record takes
pub read-own : (t : List ℕ) (s : ℕ) (b : List ℕ) (n k : ℕ) (x : Kind) (m : ℕ) (d : List ℕ) → Read t s b n k x (s + m) d → Read (take m t) s b n k x (s + length (take m t)) d
read-own t s b n k x m d r = rw long (read-parted (take m t) (drop m t) x fits s b n k (s + m) d (rw (take-append-drop m t) r))
  where
    size : m ≡ 4 + body_length x (n_of t) (k_of t)
    size = let e : body_length x n k ≡ body_length x (n_of t) (k_of t) = rw (r.sectors, r.shades) refl in omega (arith, r.follows, e)

    long : length (take m t) ≡ m
    long = omega (arith, length-take m t, size, r.good.0.1)

    there : (i : ℕ) → i < 4 → get_or (take m t) i 0 ≡ get_or t i 0
    there i l = sym (List·get_d-append (take m t) (drop m t) 0 i (omega (arith, long, size))) ∙ ap (λ (z : List ℕ). get_or z i 0) (take-append-drop m t)

    fits : 4 + body_length x (n_of (take m t)) (k_of (take m t)) ≤ length (take m t)
    fits = rw (there 2 (omega arith), there 3 (omega arith)) (omega (arith, long, size))

-- ---- refusals

-- where every check has passed, so it has of the bytes that a record can have
opened : (t : List ℕ) (s : ℕ) → Passed (record_order t s) → Passed (record_order (opening t) s)
opened t s p = go p.0.0.1
  where
    go : Known t ⊎ MarkedBack t → Passed (record_order (opening t) s)
    go (inr m) = absurd (p.0.1 m)
    go (inl (x, m)) =
        let g : GoodRecord x t = rw (kind-is t x m) at p.1 in
        let r : Read t s [] (n_of t) (k_of t) x (s + 4 + body_length x (n_of t) (k_of t)) (stored_ring x t ++ drop (n_of t) []) =
        record { good = g; marked = m; sectors = refl; shades = refl; follows = refl; ring = refl } in
        let q = opening-record t s [] (n_of t) (k_of t) x (s + 4 + body_length x (n_of t) (k_of t)) (stored_ring x t ++ drop (n_of t) []) r in
        behind-passed x (opening t) s q.marked q.good

-- what is refused of the bytes that a record can have is refused of all
opening-back : (t : List ℕ) (s : ℕ) (r : Refusal) → Given (record_order (opening t) s) r → Given (record_order t s) r
opening-back t s r g = go (answer (record_tests t s)) (answered (record_tests t s))
  where
    go : (u : Option Refusal) → Answers (record_order t s) u → Given (record_order t s) r
    go none p = absurd (never_both (record_order (opening t) s) r g (opened t s p))
    go (some q) h = rw (one-refusal (record_order (opening t) s) q r (opening-given t s q h) g) at h

pub given-joined : (t y : List ℕ) (s : ℕ) (r : Refusal) → 68 ≤ length t → Given (record_order t s) r → Given (record_order (t ++ y) s) r
given-joined t y s r l g = opening-back (t ++ y) s r (rw (take-append-le 68 t y l) (opening-given t s r g))
