-- What writing one record as a front record promises; it serves the code alone.
--     Fronted p u         the record p, written as the front record of its front ring, is u
use Rattle.std.specs.Prelude.{ℕ, ◌≡◌, List, drop}
use Rattle.record_spec.specs.declared.Kind.TheVariants.{Front}
use Rattle.record_spec.specs.Layout.{n_of, k_of, bytes}
use Rattle.converter_spec.specs.Sides.{Side, SideMarked, front_ring}

abbrev pub Fronted : List ℕ → List ℕ → Type 0
Fronted p u = (x : Side) → SideMarked p x → u ≡ bytes Front (n_of p) (k_of p) (front_ring x (drop 4 p))
