-- What is placed target after target is the sheet.
--     placed-take        what stands in the buffer is the target's text
--     placing-sheet      the texts one after another are the sheet's text
use Rattle.words.proofs.Plain.{ℕ, suc, ◌+◌, ◌≤◌, arith, ◌≡◌, refl, sym, ap, ◌∙◌, List, [], ◌∷◌, ◌++◌, length, take, drop, sets-eq, take_at}
use Rattle.text_spec.specs.Put.{Placed}
use Rattle.sheet_spec.specs.{declared.Sheet.Sheet, Says.TargetSays}
use Rattle.sheet_spec.specs.Text.{none, target_text, sheet_from, sheet_text}
use Rattle.sheet_laws.specs.Placing.{Placing, all, then}

pub placed-take : (b t : List ℕ) (m : ℕ) (b' : List ℕ) → Placed b 0 t m b' → length t ≤ length b → take m b' ≡ t
placed-take b t m b' p h =
    let e : m ≡ length t = omega (arith, p.next) in
    ap (take m) (p.bytes ∙ sets-eq t b 0 (omega arith)) ∙ take_at t (drop (0 + length t) b) m (sym e)

pub placing-sheet : (o : Sheet) {i : ℕ} {ws : List (List ℕ)} {t : List ℕ} → Placing o i ws t → t ≡ sheet_from o i ws
unfolding sheet_from
placing-sheet o all = refl
placing-sheet o (then {i} {m} {w} {b} {b'} {t} {ws} p q) =
    let x = placed-take b (target_text o i (none ws) w) m b' p.1 (omega (arith, p.0.1, p.1.next, p.2)) in
    ap (λ (y : List ℕ). y ++ t) x ∙ ap (λ (y : List ℕ). target_text o i (none ws) w ++ y) (placing-sheet o q)
