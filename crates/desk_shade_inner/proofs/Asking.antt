-- From what is told of the words to what the question prints.
--     no_floats, no-eight            where they are none, or no such
--     spelt-floats, put-floats       where they are such
--     no-shade, put-shade            k stands in front of them
use Rattle.words.proofs.Plain.{ℕ, ◌+◌, ◌-◌, ◌*◌, ◌≤◌, arith, ◌≡◌, sym, ap, subst, ◌∙◌, true, false, List, [], ◌∷◌, ◌++◌, map, append-nil, length}
use Rattle.words.proofs.Plain.{take, drop, length-drop, length-append, length-take-le, take-add}
use Rattle.text_spec.specs.{Decimal.decimal, Text.hex_of}
use Rattle.text_words_spec.specs.Words.{Nibbles}
use Rattle.std.specs.Prelude.{Result, Some, None}
use Rattle.refusal.specs.declared.Refusal.{Refusal}
use Rattle.strip_spec.specs.Strip.{joined}
use Rattle.strip_spec.proofs.Joined.{joined-append}
use Rattle.sight_spec.specs.Rings.{rings_in}
use Rattle.desk_spec.specs.{Floats.float_of, Sights.AsLong, Answers.ShadesSays}
use Rattle.desk_spec.specs.Questions.{EachNibbles, ReadsShade, Replies}
use Rattle.desk_spec.proofs.{Sights.length-alike, Sights.rings-joined, Questions.words-one}
use Rattle.desk_texts_inner.specs.Says.{Answered}
use Rattle.desk_texts_inner.proofs.Putting.{answered-on, put-good, put_as}
use Rattle.desk_words_inner.specs.Says.{HeadSays}
use Rattle.desk_words_inner.proofs.{Heads.rest-words, Shapes.rest_all}
use Rattle.desk_rings_inner.specs.Says.{ReadsRings, EndToEnd}
use Rattle.desk_eight_inner.specs.Says.{AllEight}
use Rattle.desk_shade_inner.specs.Says.{ReadsFloats, ShadesAsked, FloatsTold}
use Rattle.desk_shade_inner.proofs.Eights.{each_more, each-old, each-new, last_of, nibbles-joined}

-- ---- words

-- all words but the last, and the last
pub record Parted (u : List ℕ) : Type 0 where
  pub front : List (List ℕ)
  pub last : List ℕ
  pub reads : ReadsRings u (front, last)
  pub eight : AsLong 8 front
  pub size : length last ≡ 8
  pub many : 2 ≤ length front

part : (u : List ℕ) (us : List (List ℕ)) (r : List ℕ) → ReadsFloats u (us ++ (r ∷ [])) → Parted u
part u us r x =
    record {
      front = us;
      last = r;
      reads = record { rings = each-old Nibbles us r x.digits; sectors = each-new Nibbles us r x.digits; words = x.words };
      eight = each-old (λ w. length w ≡ 8) us r x.eight;
      size = each-new (λ w. length w ≡ 8) us r x.eight;
      many = omega (arith, x.three, length-append us (r ∷ []));
    }

parted : (u : List ℕ) (ts : List (List ℕ)) → ReadsFloats u ts → Parted u
parted u ts x =
    let p = last_of ts (omega (arith, x.three)) in
    part u p.0 p.1 (subst (ReadsFloats u) p.2 x)

-- no words of digits
pub no_floats : (u : List ℕ) → ((q : List (List ℕ) × List ℕ) → ReadsRings u q → ⊥) → (ts : List (List ℕ)) → ReadsFloats u ts → ⊥
no_floats u n ts x = let p = parted u ts x in n (p.front, p.last) p.reads

module _ (u s : List ℕ) (l m : ℕ) (p : EndToEnd u s l m) where
  size : length p.last ≡ m - l
  size = sym (ap length p.reading) ∙ length-take-le (m - l) (drop l s) (omega (arith, length-drop l s, p.room))

  rings-size : length (joined p.ts) ≡ l
  rings-size = sym (ap length p.rings) ∙ length-take-le l s (omega (arith, p.order, p.room))

  -- words of digits, but no such
  pub no-eight : AllEight u l m false → (ts : List (List ℕ)) → ReadsFloats u ts → ⊥
  no-eight f ts x =
      let q = parted u ts x in
      let e = words-one q.front p.ts q.last p.last q.reads.rings p.reads.rings q.reads.sectors p.reads.sectors (sym q.reads.words ∙ p.reads.words) in
      let n : m - l ≡ 8 = sym size ∙ sym (ap length e.1) ∙ q.size in
      let j : l ≡ 8 * length q.front = sym rings-size ∙ sym (ap (λ (y : List (List ℕ)). length (joined y)) e.0) ∙ length-alike 8 q.front q.eight in
      f n (omega (arith, n, j, q.many)) (q.front, q.last) q.reads q.eight

  module _ (y : AllEight u l m true) where
    abbrev all : List (List ℕ)
    all = p.ts ++ (p.last ∷ [])

    all-eight : AsLong 8 all
    all-eight = each_more (λ w. length w ≡ 8) p.ts p.last (y.2 (p.ts, p.last) p.reads) (size ∙ y.0)

    end_to_end_lem : take m s ≡ joined all
    unfolding joined
    end_to_end_lem =
        let e : m ≡ l + (m - l) = omega (arith, p.order) in
        ap (λ (x : ℕ). take x s) e ∙ take-add l (m - l) s ∙ ap (λ (x : List ℕ). x ++ take (m - l) (drop l s)) p.rings ∙ ap (λ (x : List ℕ). joined p.ts ++ x) p.reading
        ∙ ap (λ (x : List ℕ). joined p.ts ++ x) (sym (append-nil p.last)) ∙ sym (joined-append p.ts (p.last ∷ []))

    all-nibbles : EachNibbles all
    all-nibbles = each_more Nibbles p.ts p.last p.reads.rings p.reads.sectors

    -- what is asked of the digits end to end
    pub spelt-floats : (24 ≤ length (take m s)) × (length (take m s) ≡ m) × Nibbles (take m s)
    spelt-floats =
        let z = length-take-le m s p.room in
        (omega (arith, z, y.1), z, rw end_to_end_lem (nibbles-joined all all-nibbles))

    asked : ReadsFloats u all
    asked =
        record {
          digits = all-nibbles;
          eight = all-eight;
          three = omega (arith, y.1, length-take-le m s p.room, ap length end_to_end_lem, length-alike 8 all all-eight);
          words = p.reads.words;
        }

    told : rings_in 8 (take m s) ≡ all
    told = ap (rings_in 8) end_to_end_lem ∙ rings-joined 8 all (omega arith) all-eight

    pub put-floats : (k : ℕ) (b : List ℕ) (at : ℕ) (r : Result ℕ Refusal) (b' : List ℕ) → Answered (FloatsTold k (take m s)) b at r b' → Answered (Replies (ReadsFloats u) (ShadesAsked k)) b at r b'
    put-floats k b at r b' x = put-good (ReadsFloats u) (ShadesAsked k) b at r b' all asked (answered-on _ _ (λ t z. subst (λ ts. ShadesAsked k ts t) told z) b at r b' x)

-- ---- k in front of them

module _ (t : List ℕ) where
  pub no-shade : HeadSays t None → (q : ℕ × List (List ℕ)) → ReadsShade t q → ⊥
  no-shade h (k, []) x = absurd (omega (arith, x.three))
  no-shade h (k, v ∷ vs) x = h k (map hex_of v) (map (map hex_of) vs) x.short x.words

  module _ (j at : ℕ) (h : HeadSays t (Some (j, at))) (b : List ℕ) (p : ℕ) (r : Result ℕ Refusal) (b' : List ℕ) where
    pub put-shade : Answered (Replies (ReadsFloats (take (length t - at) (drop at t))) (ShadesAsked j)) b p r b' →
        Answered (Replies (ReadsShade t) (λ q. ShadesSays q.0 (map float_of q.1))) b p r b'
    put-shade x = put_as _ _ _ _ on back b p r b' (rw (rest_all t at) at x)
      where
        on : (ts : List (List ℕ)) → ReadsFloats (drop at t) ts → (y : ℕ × List (List ℕ)) × ReadsShade t y × ((u : List ℕ) → ShadesAsked j ts u → ShadesSays y.0 (map float_of y.1) u)
        on ts s = (
          (j, ts),
          record { short = h.0; digits = s.digits; eight = s.eight; three = s.three; words = h.2 ∙ ap (λ (y : List (List ℕ)). decimal j ∷ y) s.words },
          λ u y. y,
        )

        back : (q : ℕ × List (List ℕ)) → ReadsShade t q → (ts : List (List ℕ)) × ReadsFloats (drop at t) ts
        back q y = (q.1, record { digits = y.digits; eight = y.eight; three = y.three; words = rest-words t j at h q.0 _ y.words })
