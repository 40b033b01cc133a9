-- A target of its pieces.
--     cell-fits          its text, where its place was computed
--     home-le, home_fits    the reading turned home
--     fits-skip, fits-where    a text where it is called for
--     target_fits        the whole, where the page was computed
use Rattle.words.proofs.Plain.{ℕ, ◌+◌, ◌/◌, ◌%◌, ◌<◌, ◌≤◌, arith, ◌≡◌, refl, sym, ap, ◌∙◌, Bool, true, false, not, ◌||◌, List, [], ◌++◌, eqb, length}
use Rattle.words.specs.Turn.{turn}
use Rattle.rings.specs.Home.{shift, home}
use Rattle.ring_home_laws.proofs.Home.{home-turn-of, shift-lt}
use Rattle.text_form_inner.specs.Fits.{Fits}
use Rattle.text_form_inner.proofs.Fits.{fits-none, fits_more}
use Rattle.picture_spec.specs.Text.{ring_picture, tail_text}
use Rattle.sheet_spec.specs.declared.Sheet.{Sheet}
use Rattle.sheet_spec.specs.Layout.{per_page, across, down}
use Rattle.sheet_spec.specs.Text.{cell_head, cell_foot, cell_text, leaf_head, foot_text, where_true, page_opening, closing, target_text}

pub cell-fits : (o : Sheet) (i : ℕ) (w : List ℕ) (per x y : ℕ) → per ≡ per_page o.size o.columns → x ≡ across o.size o.columns (i % per) → y ≡ down o.size o.columns (i % per) →
    (b : List ℕ) (at r : ℕ) (b' : List ℕ) →
    Fits 17792 b at (((cell_head x y o.size (length w) ++ ring_picture o.tone o.k w) ++ tail_text (length w)) ++ cell_foot o.size i w) r b' → Fits 17792 b at (cell_text o i w) r b'
unfolding cell_text
cell-fits o i w per x y e f g b at r b' h =
    let p : x ≡ across o.size o.columns (i % per_page o.size o.columns) = f ∙ ap (λ (z : ℕ). across o.size o.columns (i % z)) e in
    let q : y ≡ down o.size o.columns (i % per_page o.size o.columns) = g ∙ ap (λ (z : ℕ). down o.size o.columns (i % z)) e in
    rw (p, q) at h

pub home-le : (w : List ℕ) (i : ℕ) → i ≡ shift w → 0 < length w → i ≤ length w
home-le w i e z = omega (arith, e, shift-lt w z)

pub home_fits : (w : List ℕ) (i : ℕ) → i ≡ shift w → (v : List ℕ) → v ≡ turn i w → (o : Sheet) (j : ℕ) (b : List ℕ) (at r : ℕ) (b' : List ℕ) →
    Fits 17792 b at (cell_text o j v) r b' → Fits 17792 b at (cell_text o j (home w)) r b'
home_fits w i e v t o j b at r b' f =
    let x : v ≡ home w = t ∙ ap (λ (z : ℕ). turn z w) e ∙ sym (home-turn-of w) in
    rw x at f

-- ---- a text where it is called for

pub fits-skip : (m : ℕ) (c : Bool) (t b : List ℕ) (at : ℕ) → not c ≡ true → Fits m b at (where_true c t) at b
unfolding where_true
fits-skip m false t b at e = fits_more (fits-none b at) m (omega arith)
fits-skip m true t b at e = absurd (let z : ◌≡◌ {A = ℕ} 0 1 = cc in omega arith)

pub fits-where : (m : ℕ) (c : Bool) (t b : List ℕ) (at r : ℕ) (b' : List ℕ) → not c ≡ false → Fits m b at t r b' → Fits m b at (where_true c t) r b'
unfolding where_true
fits-where m true t b at r b' e f = f
fits-where m false t b at r b' e f = absurd (let z : ◌≡◌ {A = ℕ} 0 1 = cc in omega arith)

pub target_fits : (o : Sheet) (i : ℕ) (last : Bool) (w : List ℕ) (per : ℕ) (ends : Bool) → per ≡ per_page o.size o.columns → ends ≡ (last || eqb ((i + 1) % per) 0) →
    (b : List ℕ) (at r : ℕ) (b' : List ℕ) →
    Fits 18432 b at ((where_true (eqb (i % per) 0) leaf_head ++ cell_text o i (home w)) ++ where_true ends (foot_text o (i / per))) r b' → Fits 18432 b at (target_text o i last w) r b'
unfolding target_text page_opening closing
target_fits o i last w per ends e f b at r b' h =
    let x : (where_true (eqb (i % per) 0) leaf_head ++ cell_text o i (home w)) ++ where_true ends (foot_text o (i / per))
    ≡ (where_true (eqb (i % per_page o.size o.columns) 0) leaf_head ++ cell_text o i (home w))
    ++ where_true (last || eqb ((i + 1) % per_page o.size o.columns) 0) (foot_text o (i / per_page o.size o.columns)) =
    ap (λ (z : Bool). (where_true (eqb (i % per) 0) leaf_head ++ cell_text o i (home w)) ++ where_true z (foot_text o (i / per))) f
    ∙ ap (λ (z : ℕ). (where_true (eqb (i % z) 0) leaf_head ++ cell_text o i (home w)) ++ where_true (last || eqb ((i + 1) % z) 0) (foot_text o (i / z))) e in
    rw x at h
