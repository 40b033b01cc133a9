-- Only the first bytes of a line tell what it prints.
--     said-tells                            by the program
--     one-said, said-prints, said-anyhow    what an input prints, however it was cut
use Rattle.words.proofs.Plain.{ℕ, ◌≡◌, List, []}
use Rattle.stream_spec.specs.Texts.{Prints, Tells, BlockRun}
use Rattle.stream_spec.proofs.{Unique.one-prints, Cut.run-prints, Cut.cut-anyhow}
use Rattle.report_laws.proofs.Kept.{report-tells}
use Rattle.desk_inner.proofs.Telling.{desk-tells}
use Rattle.stream_kind_inner.specs.{declared.Kind.Kind, declared.Kind.TheVariants.Count, declared.Kind.TheVariants.Desk}
use Rattle.stream_kind_inner.specs.Says.{Said, most_of}

pub said-tells : (kind : Kind) → Tells (Said kind) (most_of kind)
unfolding Said
said-tells Count = report-tells
said-tells Desk = desk-tells

-- an input prints one text, and a run prints it, however the input was cut
pub one-said : (kind : Kind) (s t u : List ℕ) → Prints (Said kind) s t → Prints (Said kind) s u → t ≡ u
one-said kind s t u p q = one-prints (Said kind) (said-tells kind).one s t u p q

pub said-prints : (kind : Kind) (s text : List ℕ) → BlockRun (Said kind) (most_of kind) [] s text → Prints (Said kind) s text
said-prints kind s text r = run-prints (Said kind) (most_of kind) (said-tells kind) s text r

pub said-anyhow : (kind : Kind) (s t u : List ℕ) → BlockRun (Said kind) (most_of kind) [] s t → BlockRun (Said kind) (most_of kind) [] s u → t ≡ u
said-anyhow kind s t u p q = cut-anyhow (Said kind) (most_of kind) (said-tells kind) s t u p q
