-- From what is placed to what an input prints.
--     pass-more, wrong-at             one target more, or the first that is refused
--     picked-places                   the places of a set that was picked
--     judge-refused, judge-checked    what is ready, or printed instead
--     own-wrong                       the same of lines
--     prepared-set, refused-set, prepared-lines     what an input asks for
--     steps-sheet                     the steps one after another are the sheet, whatever gives its rings
--     steps-printed, own-printed      and they are what the input prints
use Rattle.words.proofs.Plain.{ℕ, zero, suc, ◌+◌, ◌-◌, ◌<◌, ◌≤◌, arith, dec_lt, ◌≡◌, refl, sym, ap, subst, ◌∙◌, Bool, true, false}
use Rattle.words.proofs.Plain.{false≢true, List, [], ◌∷◌, map, eqb, length, get_or, take, drop, length-map, eq-eqb, ne_eqb}
use Rattle.words.proofs.Split.{lt, eq, gt, tri}
use Rattle.text_words_spec.specs.Words.{PieceAt}
use Rattle.stream_spec.specs.Lines.{lines}
use Rattle.refusal.specs.{declared.Refusal.Refusal}
use Rattle.std.specs.Prelude.{Result, Ok, Err, Some}
use Rattle.refusal.specs.Order.{Passed, Given}
use Rattle.set_spec.specs.Places.{place_at, set_in}
use Rattle.set_laws.proofs.Places.{laid-length, length-set-in, set-in-at}
use Rattle.set_pick_spec.specs.{Order.set_order, Says.SetChosen}
use Rattle.set_pick_spec.proofs.Worth.{rule-most, rule-set}
use Rattle.sheet_spec.specs.{declared.Source.Source, declared.Sheet.Sheet, Text.sheet_text, Text.sheet_from}
use Rattle.sheet_spec.specs.declared.Source.TheVariants as S
use Rattle.sheet_spec.specs.Text as text
use Rattle.sheet_spec.specs.Says.{target_room, sheet_order}
use Rattle.sheet_laws.specs.Placing.{Placing, all, then}
use Rattle.sheet_laws.proofs.Placing.{placing-sheet}
use Rattle.sheet_words_inner.specs.Says.{ReadsAs}
use Rattle.desk_spec.specs.Texts.{refusal_text}
use Rattle.desk_spec.specs.Questions.{good}
use Rattle.program_refusal_spec.specs.Text.{refused_line_text}
use Rattle.sheet_print_spec.specs.Prints.{wrong, whole, target_order, TargetsPrint, rule_of, chosen_for, ChosenPrints, refused, taken}
use Rattle.sheet_print_spec.specs.Prints.{ring_in, own_sheet, OwnPrints, ReadsSheet, PrintsBy, SheetPrints}
use Rattle.sheet_print_spec.proofs.Rings.{rings-at}
use Rattle.sheet_own_inner.specs.Says.{LinesPass, WrongLine}
use Rattle.std.proofs.lemmas.List.{take_rest}
use Rattle.sheet_places_inner.specs.Says.{SetPlaces}
use Rattle.sheet_places_inner.proofs.Places.{passed-at, given-at}
use Rattle.sheet_source_inner.specs.Says.{is_own, BehindLine}
use Rattle.sheet_own_inner.specs.declared.RefusedLine.{RefusedLine}
use Rattle.sheet_print_inner.specs.{declared.Rings.Rings, declared.Job.Job, declared.Stop.Stop}
use Rattle.sheet_print_inner.specs.declared.Rings.TheVariants as R
use Rattle.sheet_print_inner.specs.declared.Stop.TheVariants as P
use Rattle.sheet_print_inner.specs.Says.{AllPass, FirstWrong, CheckedTargets, ReadySet, SetJudged, SetPrepared, ReadyOwn, OwnRings, OwnPrepared, lines_at, RingsReady, Prepared}
use Rattle.sheet_print_inner.specs.Steps.{own_rings, SheetSteps, over, step}

-- ---- the checks of all targets

module _ (o : Sheet) (p : List ℕ) (t : ℕ) where
  -- one target more
  pub pass-more : (j : ℕ) → j < t → Passed (sheet_order o (place_at o.n p j) j target_room) → AllPass o p t j → AllPass o p t (j + 1)
  pass-more j h s a i l =
      elim (dec_lt i j) [
        | yes k ↦ a i k
        | no k ↦ let q : i ≡ j = omega arith in subst (λ (x : ℕ). Passed (target_order o (set_in o.n p t) x)) (sym q) (passed-at o p t j h s)
      ]

  -- the first that is refused
  pub wrong-at : (j : ℕ) (r : Refusal) → j < t → Given (sheet_order o (place_at o.n p j) j target_room) r → AllPass o p t j → FirstWrong o p t r
  wrong-at j r h s a = record { place = j; within = h; before = a; given = given-at o p t j h r s }

-- ---- a set that was picked

module _ (o : Sheet) (p : List ℕ) (t : ℕ) (f : Bool) where
  pub picked-places : SetChosen o.n o.k o.d o.wanted (chosen_for o) p t f → SetPlaces p o.n t
  picked-places c =
      record {
        size = ap length c.places ∙ laid-length (chosen_for o);
        short = c.asked.short;
        most = omega (arith, rule-most (rule_of o.source) o.n o.k o.d o.wanted p t f c, c.asked.settable.most-wanted);
      }

  the-set : SetChosen o.n o.k o.d o.wanted (chosen_for o) p t f → set_in o.n p t ≡ chosen_for o
  the-set c = rule-set (rule_of o.source) o.n o.k o.d o.wanted p t f c

  pub judge-refused : (r : Refusal) → Given (set_order o.n o.k o.d o.wanted) r → SetJudged o p t (Err r)
  judge-refused r g = refused r g refl

  module _ (c : SetChosen o.n o.k o.d o.wanted (chosen_for o) p t f) where
    pub judge-checked : (v : Result Unit Refusal) → (t ≡ 0 → ⊥) → CheckedTargets o p t v → SetJudged o p t v
    judge-checked (Ok _) z s = record { places = picked-places c; asked = c.asked; set = the-set c; some = omega arith; passed = s }
    judge-checked (Err r) z s =
        let e = the-set c in
        let l : s.place < length (chosen_for o) = omega (arith, s.within, c.number) in
        taken c.asked (wrong s.place l (rw e at s.before) r (rw e at s.given) refl)

-- what is ready prints the sheet
ready-prints : (o : Sheet) (p : List ℕ) (t : ℕ) → ReadySet o p t → ChosenPrints o (sheet_text o (set_in o.n p t))
ready-prints o p t r =
    let e = r.set in
    let l = length-set-in o.n p t in
    let q : (i : ℕ) → i < length (set_in o.n p t) → Passed (target_order o (set_in o.n p t) i) = λ i h. r.passed i (omega (arith, l, h)) in
    let x : TargetsPrint o (set_in o.n p t) (sheet_text o (set_in o.n p t)) = whole (omega (arith, l, r.some)) q refl in
    let y : TargetsPrint o (chosen_for o) (sheet_text o (chosen_for o)) = subst (λ (ws : List (List ℕ)). TargetsPrint o ws (sheet_text o ws)) e x in
    subst (λ (ws : List (List ℕ)). ChosenPrints o (sheet_text o ws)) (sym e) (taken r.asked y)

-- ---- rings of one's own

module _ (o : Sheet) (ls : List (List ℕ)) (q : Sheet) (is : q ≡ own_sheet o ls) where
  -- of a line that is refused
  pub own-wrong : (f : ℕ) (x : RefusedLine) → WrongLine q ls x.refusal x.line → OwnPrepared o ls f (Err (P.Wrong x))
  own-wrong f x w = wrong w.place w.within (rw is at w.before) x.refusal (rw is at w.given) (ap (refused_line_text x.refusal) w.number)

  -- what is ready prints the sheet
  own-prints : (t : ℕ) → ReadyOwn q ls t → OwnPrints o ls (sheet_text q (map ring_in ls))
  own-prints t r =
      let q : LinesPass q ls (length ls) = λ i h. r.passed i (omega (arith, r.number, h)) in
      whole (omega (arith, r.number, r.some)) (rw is at q) (ap (λ (x : Sheet). sheet_text x (map ring_in ls)) is)

-- ---- an input

-- what it prints, by where its rings come from
by-set : (a : Source) (o : Sheet) (ls : List (List ℕ)) (t : List ℕ) → is_own a ≡ false → ChosenPrints o t → PrintsBy a o ls t
by-set S.Guarded o ls t e x = x
by-set S.Plain o ls t e x = x
by-set S.Own o ls t e x = absurd (false≢true (sym e))

by-own : (a : Source) (o : Sheet) (ls : List (List ℕ)) (t : List ℕ) → is_own a ≡ true → OwnPrints o ls t → PrintsBy a o ls t
by-own S.Guarded o ls t e x = absurd (false≢true e)
by-own S.Plain o ls t e x = absurd (false≢true e)
by-own S.Own o ls t e x = x

own-source : (a : Source) → is_own a ≡ true → a ≡ S.Own
own-source S.Guarded e = absurd (false≢true e)
own-source S.Plain e = absurd (false≢true e)
own-source S.Own e = refl

module _ (s : List ℕ) (e : ℕ) (at : PieceAt 10 s e) where
  module _ (o : Sheet) (l : ReadsAs (take e s) (Some o)) where
    module _ (set : is_own o.source ≡ false) where
      set-reads : length s - e ≤ 1 → (x : List ℕ) → ChosenPrints o x → SheetPrints s x
      set-reads h x y =
          let reads : ReadsSheet s (o, lines (drop (e + 1) s)) = record { at = e; ends = at; line = l; behind = refl; alone = λ n. omega arith } in
          good (o, lines (drop (e + 1) s)) reads (by-set o.source o (lines (drop (e + 1) s)) x set y)

      pub prepared-set : length s - e ≤ 1 → (a : Rings) → SetPrepared o (Ok a) → RingsReady s o a
      prepared-set h (R.Set p t) y = (y, set-reads h _ (ready-prints o p t y))
      prepared-set h (R.Own f t) y = absurd y

      pub refused-set : length s - e ≤ 1 → (r : Refusal) → SetPrepared o (Err r) → SheetPrints s (refusal_text r)
      refused-set h r y = set-reads h _ y

    module _ (own : is_own o.source ≡ true) (f : ℕ) (b : BehindLine s e f) where
      own-reads : (x : List ℕ) → OwnPrints o (lines (drop f s)) x → SheetPrints s x
      own-reads x y =
          let reads : ReadsSheet s (o, lines (drop f s)) = record { at = e; ends = at; line = l; behind = ap lines b.same; alone = λ n. absurd (n (own-source o.source own)) } in
          good (o, lines (drop f s)) reads (by-own o.source o (lines (drop f s)) x own y)

      rings-ready : (q : Sheet) (a : Rings) → OwnRings o (lines (drop f s)) f q a → RingsReady s q a
      rings-ready q (R.Set p t) y = absurd y
      rings-ready q (R.Own g t) y =
          rw y.1 (b.within, y.2, own-reads _ (own-prints o (lines (drop f s)) q y.0 t y.2))

      prepared-own : (r : Result Job Stop) → OwnPrepared o (lines (drop f s)) f r → Prepared s r
      prepared-own (Ok j) y = rings-ready j.sheet j.rings y
      prepared-own (Err (P.Refused r)) y = own-reads _ y
      prepared-own (Err (P.Wrong x)) y = own-reads _ y

      -- the same of a slice to the end
      pub prepared-lines : (r : Result Job Stop) → OwnPrepared o (lines (take (length s - f) (drop f s))) f r → Prepared s r
      prepared-lines r j = prepared-own r (rw (take_rest s f) at j)

-- ---- step after step

none-drop : (ws : List (List ℕ)) (i : ℕ) → i < length ws → text.none (drop (suc i) ws) ≡ eqb (i + 1) (length ws)
none-drop [] i h = absurd (omega arith)
none-drop (w ∷ []) zero h = refl
none-drop (w ∷ v ∷ ws) zero h = sym (ne_eqb (0 + 1) (suc (suc (length ws))) (λ e. omega arith))
none-drop (w ∷ ws) (suc i) h =
    none-drop ws i (omega arith)
    ∙ elim (tri (i + 1) (length ws)) [
      | lt l ↦ ne_eqb (i + 1) (length ws) (λ e. omega arith) ∙ sym (ne_eqb (suc i + 1) (suc (length ws)) (λ e. omega arith))
      | eq e ↦ eq-eqb (i + 1) (length ws) e ∙ sym (eq-eqb (suc i + 1) (suc (length ws)) (omega arith))
      | gt l ↦ absurd (omega arith)
    ]

drop_at : (ws : List (List ℕ)) (i : ℕ) → i < length ws → drop i ws ≡ get_or ws i [] ∷ drop (suc i) ws
drop_at [] i h = absurd (omega arith)
drop_at (w ∷ ws) zero h = refl
drop_at (w ∷ ws) (suc i) h = drop_at ws i (omega arith)

drop-none : (ws : List (List ℕ)) (i : ℕ) → length ws ≤ i → drop i ws ≡ []
drop-none [] zero h = refl
drop-none [] (suc i) h = refl
drop-none (w ∷ ws) zero h = absurd (omega arith)
drop-none (w ∷ ws) (suc i) h = drop-none ws i (omega arith)

-- where `ring` gives the rings ws
module _ (o : Sheet) (ring : ℕ → List ℕ) (ws : List (List ℕ)) (gives : (i : ℕ) → i < length ws → get_or ws i [] ≡ ring i) where
  steps-placing : {i : ℕ} {x : List ℕ} → SheetSteps o ring (length ws) i x → Placing o i (drop i ws) x
  steps-placing over = rw (drop-none ws (length ws) (omega arith)) all
  steps-placing (step {i} {m} {b} {b'} h s q) =
      let d : drop i ws ≡ ring i ∷ drop (suc i) ws = drop_at ws i h ∙ ap (λ (w : List ℕ). w ∷ drop (suc i) ws) (gives i h) in
      rw d (then (rw (sym (none-drop ws i h)) at s) (steps-placing q))

  pub steps-sheet : {x : List ℕ} → SheetSteps o ring (length ws) 0 x → x ≡ sheet_text o ws
  steps-sheet s = placing-sheet o (steps-placing s)

-- the steps of a sheet that is ready are what the input prints: of a set, and of rings of one's own
module _ (s : List ℕ) (o : Sheet) (p : List ℕ) (f t : ℕ) {x : List ℕ} where
  pub steps-printed : RingsReady s o (R.Set p t) → SheetSteps o (place_at o.n p) t 0 x → SheetPrints s x
  steps-printed r q =
      let ws = set_in o.n p t in
      let l = length-set-in o.n p t in
      rw (steps-sheet o (place_at o.n p) ws (λ i h. set-in-at o.n p t i (omega (arith, l, h))) (rw (sym l) at q)) r.1

  pub own-printed : RingsReady s o (R.Own f t) → SheetSteps o (own_rings (lines_at s f)) t 0 x → SheetPrints s x
  own-printed r q =
      let ls = lines_at s f in
      let l : t ≡ length (map ring_in ls) = r.1.number ∙ sym (length-map ls ring_in) in
      rw (steps-sheet o (own_rings ls) (map ring_in ls) (λ i h. rings-at ls i (omega (arith, length-map ls ring_in, h))) (rw l at q)) r.2
