-- Writing a record has one answer, and leaves the lent buffer in one way.
--     record_bytes x k w           the bytes of the record of kind x of the ring of w in k shades
--     home_below                  the home reading of a reading that passed the checks is of k shades
--     placed-bytes, bytes-placed  the part that begins at the place is those bytes and what was behind them; and a part that is so holds the record
--     wrote-bytes                 the whole buffer
--     one-write                   no two answers satisfy the contract, the buffer included
use Rattle.words.proofs.Plain.{ℕ, ◌+◌, ◌<◌, arith, ◌≡◌, refl, sym, ap, ◌∙◌, List, ◌++◌, length, take, drop, length-take, length-drop, take-append-drop}
use Rattle.words.proofs.Plain.{drop_at}
use Rattle.rings.specs.Home.{home}
use Rattle.ring_home_laws.proofs.Home.{length-home, home-reading}
use Rattle.refusal.specs.{declared.Refusal.Refusal, Order.Passed, Order.Given, Calls.Below, Calls.one_reading}
use Rattle.refusal.proofs.Unique.{one-refusal, never_both}
use Rattle.std.specs.Prelude.{Result, Ok, Err}
use Rattle.record_spec.specs.declared.Kind.{Kind}
use Rattle.record_spec.specs.Layout.{body_length, stored, n_of, k_of, body_of}
use Rattle.record_spec.specs.Writes.{write_order, RecordPlaced, Wrote, WriteSays}
use Rattle.record_spec.proofs.Forms.{length-stored, some_bytes}
use Rattle.record_spec.proofs.Laid.{bytes, laid-sectors, whole}

-- the record of a reading
abbrev pub record_bytes : Kind → ℕ → List ℕ → List ℕ
record_bytes x k w = bytes x (length w) k (stored x k (home w))

-- a reading that passed the checks: its home reading has its shades
pub home_below : (w : List ℕ) (k : ℕ) → Passed (one_reading w k) → Below (home w) (λ i. k)
home_below w k g i l =
    let z : 0 < length w = g.0.0.0.0.0.0.0 in
    (home-reading w z (length w) k (record { long = refl; shades = g.0.0.0.1 })).shades i (omega (arith, length-home w z))

module _ (w : List ℕ) (k : ℕ) (x : Kind) (g : Passed (one_reading w k)) where
  pub some : 0 < length w
  some = g.0.0.0.0.0.0.0

  -- the bytes of its home reading
  pub length-home-stored : length (stored x k (home w)) ≡ body_length x (length w) k
  length-home-stored = length-stored x k (home w) ∙ ap (λ (i : ℕ). body_length x i k) (length-home w some)

  pub length-record : length (record_bytes x k w) ≡ 4 + body_length x (length w) k
  length-record = omega (arith, length-home-stored)

  -- the part that begins at the place
  pub placed-bytes : (t u : List ℕ) → RecordPlaced w k x t u → u ≡ record_bytes x k w ++ drop (4 + body_length x (length w) k) t
  placed-bytes t u h =
      whole x u (length w) k (stored x k (home w)) (omega (
        arith,
        long,
        length-take (body_length x (n_of u) (k_of u)) (drop 4 u),
        length-drop 4 u,
        some_bytes (length w) k x some g.0.0.0.0.1,
      )) h.marked h.sectors h.shades h.ring
      ∙ ap (λ (v : List ℕ). record_bytes x k w ++ v) h.behind
    where
      long : length (body_of x u) ≡ body_length x (length w) k
      long = ap (λ (v : List ℕ). length v) (sym h.ring) ∙ length-home-stored

  -- the other way round
  pub bytes-placed : (t u : List ℕ) → u ≡ record_bytes x k w ++ drop (4 + body_length x (length w) k) t → RecordPlaced w k x t u
  bytes-placed t u e =
      rw e (record {
        marked = (refl, refl);
        sectors = refl;
        shades = refl;
        ring = sym (laid-sectors x (length w) k (stored x k (home w)) (drop (4 + body_length x (length w) k) t) length-home-stored);
        behind = drop_at (record_bytes x k w) (drop (4 + body_length x (length w) k) t) (4 + body_length x (length w) k) length-record;
      })

  -- the whole buffer
  pub wrote-bytes : (b : List ℕ) (p e : ℕ) (d : List ℕ) → Wrote w k x b p e d → d ≡ take p b ++ (record_bytes x k w ++ drop (4 + body_length x (length w) k) (drop p b))
  wrote-bytes b p e d h =
      sym (take-append-drop p d)
      ∙ ap (λ (v : List ℕ). v ++ drop p d) h.before
      ∙ ap (λ (v : List ℕ). take p b ++ v) (placed-bytes (drop p b) (drop p d) h.here)

module _ (w : List ℕ) (k : ℕ) (x : Kind) (b : List ℕ) (p : ℕ) where
  -- never both written and refused
  never : (e : ℕ) (d : List ℕ) (r : Refusal) → Wrote w k x b p e d → Given (write_order w k x (drop p b) p) r → ⊥
  never e d r h g = never_both (write_order w k x (drop p b) p) r g (h.passed, h.fits)

  -- one answer, and one buffer after it
  pub one-write : (r t : Result ℕ Refusal) (d f : List ℕ) → WriteSays w k x b p r d → WriteSays w k x b p t f → (r ≡ t) × (d ≡ f)
  one-write (Ok e) (Ok a) d f g h =
      (ap Ok (g.follows ∙ sym h.follows), wrote-bytes w k x g.passed b p e d g ∙ sym (wrote-bytes w k x h.passed b p a f h))
  one-write (Ok e) (Err t) d f g h = absurd (never e d t g h.0)
  one-write (Err r) (Ok a) d f g h = absurd (never a f r h g.0)
  one-write (Err r) (Err t) d f g h = (ap Err (one-refusal (write_order w k x (drop p b) p) r t g.0 h.0), g.1 ∙ sym h.1)
