-- A sheet is its pages one after another.
--     cell-of, page-of, ends_of, goes_of    the place of a target on its page
--     filled-page                           the targets that fill a page from place j on, and what follows
--     sheet-pages                           the text of a sheet is its pages one after another
use Rattle.words.proofs.Plain.{ℕ, zero, suc, ◌+◌, ◌-◌, ◌*◌, ◌/◌, ◌%◌, ◌<◌, ◌≤◌, add-one, arith, dec_lt, ◌≡◌, refl, sym, ap, ◌∙◌, ◌⊎◌, inl, inr, ⊎_elim, Bool}
use Rattle.words.proofs.Plain.{true, false, ◌||◌, List, [], ◌∷◌, ◌++◌, append-nil, append_assoc, eqb, length, take, drop, length-take, length-drop}
use Rattle.words.proofs.Plain.{take-append-drop, eq-eqb, ne_eqb}
use native.Mathlib.Nat.{suc-mul, add-mul, one-mul, mul-add-mod_self_right, mod-eq_of_lt, mod_self, div-eq_of_lt-le}
use Rattle.rings.specs.Home.{home}
use Rattle.sheet_spec.specs.{declared.Sheet.Sheet, Layout.per_page, Layout.FitsPage}
use Rattle.sheet_spec.specs.Text.{leaf_head, foot_text, cell_text, where_true, page_opening, closing, target_text, none, sheet_from, sheet_text, cells_from, page_text}
use Rattle.sheet_spec.proofs.Rows.{per-some}
use Rattle.sheet_laws.specs.Pages.{SheetPages, last_page, full_page}

-- ---- the place of a target on its page

module _ (per p j : ℕ) (h : j < per) where
  -- target j of page p stands in cell j of it
  cell-of : (p * per + j) % per ≡ j
  cell-of = mul-add-mod_self_right p per j ∙ mod-eq_of_lt h

  page-of : (p * per + j) / per ≡ p
  page-of = let e : (p + 1) * per ≡ p * per + per = add-mul p 1 per ∙ ap (λ (x : ℕ). p * per + x) (one-mul per) in div-eq_of_lt-le {k = p} per (omega arith) (omega (arith, e))

  next_of : (p * per + j + 1) % per ≡ (j + 1) % per
  next_of = let e : p * per + j + 1 ≡ p * per + (j + 1) = omega arith in rw e (mul-add-mod_self_right p per (j + 1))

  ends_of : j + 1 ≡ per → eqb ((p * per + j + 1) % per) 0 ≡ true
  ends_of e = eq-eqb _ _ (next_of ∙ ap (λ (x : ℕ). x % per) e ∙ mod_self per)

  goes_of : j + 1 < per → eqb ((p * per + j + 1) % per) 0 ≡ false
  goes_of l = ne_eqb ((p * per + j + 1) % per) 0 (λ e. omega (arith, next_of, mod-eq_of_lt l, e))

-- ---- a page

module _ (o : Sheet) (per : ℕ) (is : per ≡ per_page o.size o.columns) (p : ℕ) where
  -- what stands before and behind target j of page p
  opens : (j : ℕ) → j < per → page_opening o (p * per + j) ≡ where_true (eqb j 0) leaf_head
  unfolding page_opening
  opens j h = rw (sym is, cell-of per p j h) refl

  ends : (j : ℕ) (last : Bool) → j < per → (last ≡ true) ⊎ (j + 1 ≡ per) → closing o (p * per + j) last ≡ foot_text o p
  unfolding closing where_true
  ends j last h (inl e) = rw (sym is, e, page-of per p j h) refl
  ends j true h (inr e) = rw (sym is, page-of per p j h) refl
  ends j false h (inr e) = rw (sym is, ends_of per p j h e, page-of per p j h) refl

  goes : (j : ℕ) → j + 1 < per → closing o (p * per + j) false ≡ []
  unfolding closing where_true
  goes j h = rw (sym is, goes_of per p j (omega arith) h) refl

  -- a target with these
  target-ends : (w : List ℕ) (j : ℕ) (last : Bool) → j < per → (last ≡ true) ⊎ (j + 1 ≡ per) →
      target_text o (p * per + j) last w ≡ (where_true (eqb j 0) leaf_head ++ cell_text o (p * per + j) (home w)) ++ foot_text o p
  unfolding target_text
  target-ends w j last h e = rw (opens j h, ends j last h e) refl

  target-goes : (w : List ℕ) (j : ℕ) → j + 1 < per → target_text o (p * per + j) false w ≡ where_true (eqb j 0) leaf_head ++ cell_text o (p * per + j) (home w)
  unfolding target_text
  target-goes w j h = rw (opens j (omega arith), goes j h) (append-nil (where_true (eqb j 0) leaf_head ++ cell_text o (p * per + j) (home w)))

  -- the targets from place j of the page on that fill it, or all that there are, and what follows
  filled-page : (w : List ℕ) (us ws : List (List ℕ)) (j : ℕ) → j + suc (length us) ≤ per → (none ws ≡ true) ⊎ (j + suc (length us) ≡ per) →
      sheet_from o (p * per + j) ((w ∷ us) ++ ws) ≡ (where_true (eqb j 0) leaf_head ++ cells_from o (p * per + j) (w ∷ us)) ++ (foot_text o p ++ sheet_from o (p * per + (j + suc (length us))) ws)
  unfolding sheet_from cells_from where_true
  filled-page w [] ws j h e =
      let i = p * per + j in
      let head = where_true (eqb j 0) leaf_head in
      let q : suc i ≡ p * per + (j + 1) = omega arith in
      ap (λ (x : List ℕ). x ++ sheet_from o (suc i) ws) (target-ends w j (none ws) (omega arith) e)
      ∙ append_assoc (head ++ cell_text o i (home w)) (foot_text o p) (sheet_from o (suc i) ws)
      ∙ ap (λ (x : List ℕ). (head ++ x) ++ (foot_text o p ++ sheet_from o (suc i) ws)) (sym (append-nil (cell_text o i (home w))))
      ∙ ap (λ (x : ℕ). (head ++ (cell_text o i (home w) ++ [])) ++ (foot_text o p ++ sheet_from o x ws)) q
  filled-page w (v ∷ us) ws j h e =
      let i = p * per + j in
      let head = where_true (eqb j 0) leaf_head in
      let q : p * per + (j + 1) ≡ suc i = omega arith in
      let r : j + 1 + suc (length us) ≡ j + suc (suc (length us)) = omega arith in
      let rest = foot_text o p ++ sheet_from o (p * per + (j + suc (suc (length us)))) ws in
      let next = rw (ne_eqb (j + 1) 0 (λ z. omega arith), r, q) at (filled-page v us ws (j + 1) (omega arith) (rw r e)) in
      ap (λ (x : List ℕ). x ++ sheet_from o (suc i) ((v ∷ us) ++ ws)) (target-goes w j (omega arith))
      ∙ ap (λ (x : List ℕ). (head ++ cell_text o i (home w)) ++ x) next
      ∙ sym (append_assoc (head ++ cell_text o i (home w)) (cells_from o (suc i) (v ∷ us)) rest)
      ∙ ap (λ (x : List ℕ). x ++ rest) (append_assoc head (cell_text o i (home w)) (cells_from o (suc i) (v ∷ us)))

  -- the first page, and what follows it
  pub page-first : (us ws : List (List ℕ)) → 0 < length us → length us ≤ per → (none ws ≡ true) ⊎ (length us ≡ per) →
      sheet_from o (p * per) (us ++ ws) ≡ page_text o p us ++ sheet_from o (p * per + length us) ws
  unfolding page_text where_true
  page-first [] ws z h e = absurd (omega arith)
  page-first (w ∷ us) ws z h e =
      let q : p * per + 0 ≡ p * per = omega arith in
      let l : 0 + suc (length us) ≡ suc (length us) = omega arith in
      let cells = cells_from o (p * per) (w ∷ us) in
      let rest = sheet_from o (p * per + suc (length us)) ws in
      let x : sheet_from o (p * per) ((w ∷ us) ++ ws) ≡ (leaf_head ++ cells) ++ (foot_text o p ++ rest) = rw (q, l) at (filled-page w us ws 0 (omega arith) (rw l e)) in
      rw (sym is) (x ∙ append_assoc leaf_head cells (foot_text o p ++ rest) ∙ ap (λ (y : List ℕ). leaf_head ++ y) (sym (append_assoc cells (foot_text o p) rest))
      ∙ sym (append_assoc leaf_head (cells ++ foot_text o p) rest))

-- ---- all pages

abbrev per_of : Sheet → ℕ
per_of o = per_page o.size o.columns

-- one page, and a page with more behind it
alone : (o : Sheet) (p : ℕ) (ws : List (List ℕ)) → 0 < length ws → length ws ≤ per_of o → page_text o p ws ≡ sheet_from o (p * per_of o) ws
unfolding sheet_from
alone o p ws z h =
    let x = rw (append-nil ws) at (page-first o (per_of o) refl p ws [] z h (inl refl)) in
    sym (x ∙ append-nil (page_text o p ws))

with-more : (o : Sheet) (p : ℕ) (ws : List (List ℕ)) → per_of o < length ws → 0 < per_of o →
    page_text o p (take (per_of o) ws) ++ sheet_from o (suc p * per_of o) (drop (per_of o) ws) ≡ sheet_from o (p * per_of o) (take (per_of o) ws ++ drop (per_of o) ws)
with-more o p ws h z =
    let l : length (take (per_of o) ws) ≡ per_of o = simp length-take (omega arith) in
    let e : p * per_of o + length (take (per_of o) ws) ≡ suc p * per_of o = ap (λ (x : ℕ). p * per_of o + x) l ∙ sym (suc-mul p (per_of o)) in
    sym (rw e at (page-first o (per_of o) refl p (take (per_of o) ws) (drop (per_of o) ws) (omega (arith, l)) (omega (arith, l)) (inr l)))

-- by the rings that are left, of which each page takes some
pages : (o : Sheet) → 0 < per_of o → (fuel p : ℕ) (ws : List (List ℕ)) → length ws ≤ fuel → 0 < length ws → SheetPages o p ws (sheet_from o (p * per_of o) ws)
pages o some zero p ws l z = absurd (omega arith)
pages o some (suc fuel) p ws l z =
    elim (dec_lt (per_of o) (length ws)) [
      | yes h ↦
          let d : length (drop (per_of o) ws) ≡ length ws - per_of o = length-drop (per_of o) ws in
          let rest = pages o some fuel (suc p) (drop (per_of o) ws) (omega (arith, d)) (omega (arith, d)) in
          let l : length (take (per_of o) ws) ≡ per_of o = simp length-take (omega arith) in
          rw (take-append-drop (per_of o) ws) at (rw (with-more o p ws h some) at (full_page (take (per_of o) ws) {ws = drop (per_of o) ws} l (omega (arith, d)) rest))
      | no h ↦ let page : SheetPages o p ws (page_text o p ws) = last_page {ws = ws} z (omega arith) in rw (alone o p ws z (omega arith)) at page
    ]

pub sheet-pages : (o : Sheet) (ws : List (List ℕ)) → FitsPage o.size o.columns → 0 < length ws → SheetPages o 0 ws (sheet_text o ws)
sheet-pages o ws f z = let e : 0 * per_of o ≡ 0 = omega arith in rw e at (pages o (per-some o.size o.columns f) (length ws) 0 ws (omega arith) z)
