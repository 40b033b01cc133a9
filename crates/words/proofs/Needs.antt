-- What proofs that a function meets its contract speak: the words of laws (Plain), and the rules by which `search` answers the plain needs of code. They stand apart, so that
-- laws need not read the rules.
pub use borrow.Author.Rules.{rules}
pub use Rattle.words.proofs.Plain.{ℕ, ◌≤◌, ◌<◌, ◌-◌, ◌+◌, suc, zero, ◌*◌, ◌%◌, ◌^◌, ◌/◌, ◌∣◌, min, zero-le, add-one, arith, dec_lt, ◌≡◌, refl, ◌∙◌, sym}
pub use Rattle.words.proofs.Plain.{ap, subst, inr, inl, ⊎_elim, ◌⊎◌, ◌↔◌, true, false, Bool, ◌&&◌, not, false≢true, true≢false, ◌||◌, some, none, Option}
pub use Rattle.words.proofs.Plain.{List, [], ◌∷◌, ◌++◌, append_assoc, map, append-nil, reverse, reverse-cons, reverse-reverse, map-append}
pub use Rattle.words.proofs.Plain.{reverse-append, append_cancel_left, eqb, ltb, T, leb, length, get_or, take, length-take, drop, length-append}
pub use Rattle.words.proofs.Plain.{length-drop, length-set, set, replicate, List·get_d-append, length-replicate, drop_of_length-le, take-append-drop}
pub use Rattle.words.proofs.Plain.{length-reverse, length-map, List·get_d-eq-default, get_or-replicate, replicate-append-replicate, length-take-le}
pub use Rattle.words.proofs.Plain.{take_all, get_or-take, ext_get_or, take_at, get_or-append-add, get_or-drop, drop-drop, get_or-set_same, get_or-set_other}
pub use Rattle.words.proofs.Plain.{take-suc, drop_at, take-take, take-suc-set, take-add, get_or_at, take-append_seam, sets-eq, drop-cons, drop-append-add}
pub use Rattle.words.proofs.Plain.{get_or-append_seam, split_at, take-append-le, set-set, drop-append-le, sets, take-length, drop-length, set_out}
pub use Rattle.words.proofs.Plain.{set-get_or, set_at, set-append_seam, drop-append_seam, length-sets, eq-eqb, ne_eqb, eqb-true, not-true, not-false}
pub use Rattle.words.proofs.Plain.{lt-ltb, ltb-true, le-ltb, ltb-false, eqb-false, leb-true, le-leb, below_more}
