-- The verb of a word, group after group.
--     first-known    the first group that knows the word is the first of all, from either end
use Rattle.words.proofs.Plain.{◌≡◌, refl}
use Rattle.std.specs.Prelude.{Option, Some, None}
use Rattle.std.specs.Option.{option_or}
use Rattle.desk_spec.specs.{declared.Verb.Verb, Verbs.or_else}

pub first-known : (a b c d e f g : Option Verb) →
    option_or (option_or (option_or (option_or (option_or (option_or a b) c) d) e) f) g ≡ or_else a (or_else b (or_else c (or_else d (or_else e (or_else f g)))))
first-known (Some v) b c d e f g = refl
first-known None (Some v) c d e f g = refl
first-known None None (Some v) d e f g = refl
first-known None None None (Some v) e f g = refl
first-known None None None None (Some v) f g = refl
first-known None None None None None (Some v) g = refl
first-known None None None None None None g = refl
