-- The words that nearly every law speaks, from the libraries of the logic, so that a file names them in one line: numbers and their order, tests, equations, cases, lists
-- and their places. Nothing is defined here.
pub use Prim.Native.Nat.{ℕ, ◌≤◌, ◌<◌, ◌-◌, ◌+◌, suc, zero, ◌*◌, ◌%◌, ◌^◌, ◌/◌, ◌∣◌, min, zero-le}
pub use native.Mathlib.Numerals.{add-one}
pub use native.Mathlib.Omega.{arith}
pub use native.Mathlib.Decide.{dec_lt}
pub use mathlib.Core.Path.{◌≡◌, refl, ◌∙◌, sym, ap, subst}
pub use mathlib.Core.Logic.{inr, inl, ⊎_elim, ◌⊎◌, ◌↔◌}
pub use mathlib.Core.Bool.{true, false, Bool, ◌&&◌, not, false≢true, true≢false, ◌||◌}
pub use mathlib.Core.Option.{some, none, Option}
pub use mathlib.Core.List.{List, [], ◌∷◌, ◌++◌, append_assoc, map, append-nil, reverse, reverse-cons, reverse-reverse, map-append, reverse-append}
pub use mathlib.Core.List.{append_cancel_left}
pub use lib.Dec.{eqb, ltb, T, leb}
pub use lib.ListN.{length, get_or, take, length-take, drop, length-append, length-drop, length-set, set, replicate, get_or-append as List·get_d-append, length-replicate}
pub use lib.ListN.{drop_of_length-le, take-append-drop, length-reverse, length-map, get_or-eq_default as List·get_d-eq-default, get_or-replicate, replicate-append-replicate}
pub use lib.Seq.{length-take-le, take_all, get_or-take, ext_get_or, take_at, get_or-append-add, get_or-drop, drop-drop, get_or-set_same, get_or-set_other, take-suc}
pub use lib.Seq.{drop_at, take-take, take-suc-set, take-add, get_or_at, take-append_seam, sets-eq, drop-cons, drop-append-add, get_or-append_seam, split_at}
pub use lib.Seq.{take-append-le, set-set, drop-append-le, sets, take-length, drop-length, set_out, set-get_or, set_at, set-append_seam, drop-append_seam}
pub use lib.Seq.{length-sets}
pub use borrow.Author.Tests.{eq-eqb, ne_eqb, eqb-true, not-true, not-false, lt-ltb, ltb-true, le-ltb, ltb-false, eqb-false, leb-true, le-leb}
pub use borrow.Author.Count.{below_more}
