-- A verb by its names, one after another.
--     named-yes, named-no    by the test of one name
--     named-then             a name, and what follows it
--     either-then            two names, and what follows them
use Rattle.words.proofs.Plain.{ℕ, ◌≡◌, sym, ap, ◌∙◌, Bool, true, false, List}
use Rattle.words.specs.Order.{same}
use Rattle.std.specs.Prelude.{Option, Some}
use Rattle.desk_spec.specs.{declared.Verb.Verb, Verbs.named}

pub named-yes : (t name : List ℕ) (v : Verb) (next : Option Verb) → same t name ≡ true → Some v ≡ named t name v next
named-yes t name v next e = sym (ap (λ (b : Bool). elim b [ true ↦ Some v | false ↦ next ]) e)

pub named-no : (t name : List ℕ) (v : Verb) (next : Option Verb) → same t name ≡ false → next ≡ named t name v next
named-no t name v next e = sym (ap (λ (b : Bool). elim b [ true ↦ Some v | false ↦ next ]) e)

-- what follows a name may be said otherwise
pub named-then : (t name : List ℕ) (v : Verb) (r x y : Option Verb) → r ≡ named t name v x → x ≡ y → r ≡ named t name v y
named-then t name v r x y p q = p ∙ ap (λ (z : Option Verb). named t name v z) q

-- and what follows two names
pub either-then : (t a b : List ℕ) (u v : Verb) (r x y : Option Verb) → r ≡ named t a u (named t b v x) → x ≡ y → r ≡ named t a u (named t b v y)
either-then t a b u v r x y p q = p ∙ ap (λ (z : Option Verb). named t a u (named t b v z)) q
