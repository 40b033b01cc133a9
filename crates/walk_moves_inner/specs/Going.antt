-- What `advance` comes to. It serves the code alone: the steps' own contract is `walk_spec`, specs/Says.
use Rattle.std.specs.Prelude.{ℕ, ◌<◌, ◌≡◌, List, Option, Some, None}
use Rattle.std.proofs.Math.Option.{none, some}
use Rattle.rings.specs.Prenecklace.{lyn}
use Rattle.rings.specs.Steps.{next_of, moves}
use Rattle.walk_kind_laws.specs.declared.Kind.{Kind}
use Rattle.walk_kind_laws.specs.declared.Kind.TheVariants.{Necklace}
use Rattle.walk_moves_inner.specs.declared.Reached.{Reached}
use Rattle.walk_kind_laws.specs.Kinds.{kind_of}

-- where it answers a lyn the ring is the next of the kind after the one that it started from, and the lyn is its own; else there is none of the kind, and where
-- there is no necklace more the ring is as it was
abbrev pub FoundAt : Kind → ℕ → List ℕ → List ℕ → Option ℕ → ℕ → Type 0
FoundAt kind k start ring (Some p) m = (next_of (kind_of kind) k start ≡ some ring) × (m ≡ moves k start (some ring)) × (lyn ring ≡ p) × (0 < p)
FoundAt kind k start ring None m = (next_of (kind_of kind) k start ≡ none) × (m ≡ moves k start none) × (kind ≡ Necklace → ring ≡ start)

abbrev pub Found : Kind → ℕ → List ℕ → List ℕ → Reached → Type 0
Found kind k start ring r = FoundAt kind k start ring r.lyn r.moves
