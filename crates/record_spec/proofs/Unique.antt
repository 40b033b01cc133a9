-- Reading a record has one answer, and leaves the lent output in one way.
--     written_of t b r      what the output holds after the answer r, where it held b before
--     one-read             no two answers satisfy the contract, the output included
use Rattle.words.proofs.Plain.{ℕ, ◌≡◌, sym, ap, ◌∙◌, List, ◌++◌, drop}
use Rattle.std.specs.Prelude.{Result, Ok, Err, Option, Some, None}
use Rattle.refusal.specs.declared.Refusal.{Refusal}
use Rattle.record_spec.specs.{declared.Record.Record, Layout.stored_ring, Says.ReadSays}
use Rattle.record_spec.proofs.Answer.{fixed}

-- the output after an answer; t is the part of the catalogue that begins at the start
abbrev pub written_of : List ℕ → List ℕ → Result (Option Record) Refusal → List ℕ
written_of t b (Ok (Some r)) = stored_ring r.kind t ++ drop r.n b
written_of t b (Ok None) = b
written_of t b (Err r) = b

-- the answer determines the output
pub written : (c : List ℕ) (s : ℕ) (b : List ℕ) (r : Result (Option Record) Refusal) (d : List ℕ) → ReadSays c s b r d → d ≡ written_of (drop s c) b r
written c s b (Ok (Some r)) d h = h.2.ring
written c s b (Ok None) d h = h.2
written c s b (Err r) d h = h.1

-- one answer, and one output after it
pub one-read : (c : List ℕ) (s : ℕ) (b : List ℕ) (x y : Result (Option Record) Refusal) (u v : List ℕ) → ReadSays c s b x u → ReadSays c s b y v → (x ≡ y) × (u ≡ v)
one-read c s b x y u v p q =
    let e : x ≡ y = sym (fixed c s b x u p) ∙ fixed c s b y v q in
    (e, written c s b x u p ∙ ap (written_of (drop s c) b) e ∙ sym (written c s b y v q))
