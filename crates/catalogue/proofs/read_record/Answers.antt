-- `catalogue::read_record` meets its contract: a record is refused as the part of the catalogue that begins at the start is.
use Rattle.words.proofs.Needs.{ℕ, ◌-◌, ◌<◌, ◌≡◌, arith, rules, inr, List, length, take, drop, take_all, length-drop}
use Rattle.std.specs.Prelude.{Err}
use Rattle.refusal.specs.declared.Refusal.{Refusal}
use Rattle.refusal.proofs.Handed.{handed_on}
use Rattle.record_spec.specs.Says.{ReadSays}
use Rattle.record_body_inner.specs.Steps.{RecordSays}
use Rattle.catalogue.proofs.read_record.Goals as goal

-- the part is handed on by its length
refused : (c : List ℕ) (s : ℕ) (b : List ℕ) (r : Refusal) (d : List ℕ) → length b ≡ 64 → s < length c → RecordSays (take (length c - s) (drop s c)) s b (Err r) d → ReadSays c s b (Err r) d
refused c s b r d z l h =
    let g = rw (take_all (length c - s) (drop s c) (simp length-drop (omega arith))) at h in
    (inr ((z, omega (arith, l)), (l, g.0)), g.1)

pub returns-in_err-record : goal.returns-in_err-record
returns-in_err-record c =
    rw (handed_on _ c.from_residual.ensures.1)
    (refused c.args.catalogue.now c.args.start c.args.out.now _ _ (search rules) (search rules) c.in_err-record.ensures)
