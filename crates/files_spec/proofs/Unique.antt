-- A catalogue shows one text, and has one verdict.
--     filled-bytes      what the writer leaves in a buffer that has just the room is the record's bytes
--     bytes-filled      and of a reading that passes the checks the record's bytes are that
--     one-shown         a record shows one text
--     same-entry        the reader has one answer, whatever its output held before
--     one-through       so has what is left from a place on
--     one-tells         and a whole catalogue
use Rattle.words.proofs.Plain.{ℕ, ◌+◌, arith, ◌≡◌, refl, sym, ap, subst, ◌∙◌, List, [], ◌++◌, append-nil, length, take, drop, drop_of_length-le}
use Rattle.std.specs.Prelude.{Result, Ok, Err, Option, Some, None}
use Rattle.refusal.specs.{declared.Refusal.Refusal, Order.Passed, Calls.one_reading}
use Rattle.record_spec.specs.{declared.Kind.Kind, declared.Record.Record, Layout.body_length, Says.ReadSays}
use Rattle.record_spec.proofs.{Answer.fixed, Laws.output-front}
use Rattle.record_spec.proofs.Wrote.{record_bytes, length-record, bytes-placed, wrote-bytes}
use Rattle.files_spec.specs.declared.Job.{Job}
use Rattle.files_spec.specs.declared.Job.TheVariants as J
use Rattle.files_spec.specs.Shows.{other_kind, Filled, Shows}
use Rattle.files_spec.specs.Catalogues.{Through, over, bad, further, ShowsAll}

-- ---- a record

pub filled-bytes : (w : List ℕ) (k : ℕ) (x : Kind) (t : List ℕ) → Filled w k x t → t ≡ record_bytes x k w
filled-bytes w k x t f =
    let h = f.written in
    let e : drop (4 + body_length x (length w) k) (drop 0 f.room) ≡ [] = drop_of_length-le f.room {i = 4 + body_length x (length w) k} (omega (arith, h.follows, f.same)) in
    wrote-bytes w k x h.passed f.room 0 (length t) t h ∙ ap (λ (z : List ℕ). record_bytes x k w ++ z) e ∙ append-nil (record_bytes x k w)

pub bytes-filled : (w : List ℕ) (k : ℕ) (x : Kind) → Passed (one_reading w k) → Filled w k x (record_bytes x k w)
bytes-filled w k x g =
    record {
      room = record_bytes x k w;
      same = refl;
      written =
          record {
            passed = g;
            fits = omega (arith, length-record w k x g);
            follows = length-record w k x g;
            before = refl;
            here = bytes-placed w k x g (record_bytes x k w) (record_bytes x k w) (sym (ap (λ (z : List ℕ). record_bytes x k w ++ z) none ∙ append-nil (record_bytes x k w)));
          };
    }
  where
    none : drop (4 + body_length x (length w) k) (record_bytes x k w) ≡ []
    none = drop_of_length-le (record_bytes x k w) {i = 4 + body_length x (length w) k} (omega (arith, length-record w k x g))

pub one-shown : (j : Job) (s n k : ℕ) (x : Kind) (w t u : List ℕ) → Shows j s n k x w t → Shows j s n k x w u → t ≡ u
one-shown J.Read s n k x w t u p q = p ∙ sym q
one-shown J.Move s n k x w t u p q = filled-bytes w k (other_kind x) t p ∙ sym (filled-bytes w k (other_kind x) u q)

-- ---- the reader's answer

pub same-entry : (c : List ℕ) (s : ℕ) (o q : List ℕ) (e f : Result (Option Record) Refusal) (d g : List ℕ) → length o ≡ 64 → length q ≡ 64 → ReadSays c s o e d → ReadSays c s q f g → e ≡ f
same-entry c s o q e f d g l m p r =
    let k : length o ≡ length q = l ∙ sym m in
    sym (fixed c s o e d p) ∙ rw k (fixed c s q f g r)

-- ---- what is left

-- what follows an answer of the reader at s, where that is a record
abbrev Rest : (j : Job) (c : List ℕ) (s : ℕ) (v : Result Unit Refusal) (text : List ℕ) → Result (Option Record) Refusal → Type 0
Rest j c s v text (Ok (Some r)) =
    (o : List ℕ) × (d : List ℕ) × (t : List ℕ) × (u : List ℕ) × ReadSays c s o (Ok (Some r)) d × Shows j s r.n r.k r.kind (take r.n d) t × Through j c r.next v u × (text ≡ t ++ u)
Rest j c s v text (Ok None) = Unit
Rest j c s v text (Err r) = Unit

pub one-through : (j : Job) (c : List ℕ) (s : ℕ) (v w : Result Unit Refusal) (t u : List ℕ) → Through j c s v t → Through j c s w u → (v ≡ w) × (t ≡ u)
one-through j c s v w t u (over o p) (over q r) = (refl, refl)
one-through j c s v w t u (over o p) (bad r q m h) = absurd (let e = same-entry c s o q (Ok None) (Err r) o q p.0 m p h in cc)
one-through j c s v w t u (over o p) (further r q d y h g k) = absurd (let e = same-entry c s o q (Ok None) (Ok (Some r)) o d p.0 h.0 p h in cc)
one-through j c s v w t u (bad r o l p) (over q h) = absurd (let e = same-entry c s o q (Err r) (Ok None) o q l h.0 p h in cc)
one-through j c s v w t u (bad r o l p) (bad r' q m h) =
    let e = same-entry c s o q (Err r) (Err r') o q l m p h in
    let f : r ≡ r' = cc in
    rw f (refl, refl)
one-through j c s v w t u (bad r o l p) (further r' q d y h g k) = absurd (let e = same-entry c s o q (Err r) (Ok (Some r')) o d l h.0 p h in cc)
one-through j c s v w t u (further r o d y h g k) (over q p) = absurd (let e = same-entry c s o q (Ok (Some r)) (Ok None) d q h.0 p.0 h p in cc)
one-through j c s v w t u (further r o d y h g k) (bad r' q m p) = absurd (let e = same-entry c s o q (Ok (Some r)) (Err r') d q h.0 m h p in cc)
one-through j c s v w t u (further {text = z} r o d y h g k) (further {text = z'} r' o' d' y' h' g' k') =
    go (λ a b q. one-through j c r.next v a z b k q)
    (subst (Rest j c s w u) (same-entry c s o' o (Ok (Some r')) (Ok (Some r)) d' d h'.0 h.0 h' h) (o', d', y', z', h', g', k', refl))
  where
    go : ((a : Result Unit Refusal) (b : List ℕ) → Through j c r.next a b → (v ≡ a) × (z ≡ b)) → Rest j c s w u (Ok (Some r)) → (v ≡ w) × (y ++ z ≡ u)
    go f (q, i, a, b, m, l, p, e) =
        let same : take r.n i ≡ take r.n d = output-front c s q r i m ∙ sym (output-front c s o r d h) in
        let l' : Shows j s r.n r.k r.kind (take r.n d) a = rw same at l in
        let one = f w b p in
        (one.0, ap (λ (k₁ : List ℕ). k₁ ++ z) (one-shown j s r.n r.k r.kind (take r.n d) y a g l') ∙ ap (λ (k₁ : List ℕ). a ++ k₁) one.1 ∙ sym e)

pub one-tells : (j : Job) (c : List ℕ) (v w : Result Unit Refusal) (t u : List ℕ) → ShowsAll j c v t → ShowsAll j c w u → (v ≡ w) × (t ≡ u)
one-tells j c v w t u p q = one-through j c 0 v w t u p q
