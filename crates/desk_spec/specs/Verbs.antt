-- The verb of a word.
--     is_known f     it is a verb's name
--     verb_of t      the verb whose name the word t is; each group of verbs has its own (about_of, both_of, count_of, step_of, strip_of, camera_of, shades_of)
use Rattle.std.specs.Prelude.{ℕ, Bool, true, false, List, Option, Some, None}
use Rattle.words.specs.Order.{same}
use Rattle.text_spec.specs.Ascii.{ascii}
use Rattle.desk_spec.specs.declared.Step.TheVariants as Steps
use Rattle.desk_spec.specs.declared.About.TheVariants.{Class, Home, Even, Place, Step}
use Rattle.desk_spec.specs.declared.Both.TheVariants.{Same, Apart}
use Rattle.desk_spec.specs.declared.Verb.{Verb}
use Rattle.desk_spec.specs.declared.Verb.TheVariants.{About, Both, Many, Stock, Strip, Sight, First, After, Shade}

-- v where the word is this name, else what follows
abbrev pub named : List ℕ → List ℕ → Verb → Option Verb → Option Verb
named t name v next = elim (same t name) [ true ↦ Some v | false ↦ next ]

-- the first that is known
abbrev pub or_else : Option Verb → Option Verb → Option Verb
or_else (Some v) next = Some v
or_else None next = next

abbrev pub is_known : Option Verb → Bool
is_known (Some v) = true
is_known None = false

unfoldable pub about_of : List ℕ → Option Verb
about_of t = named t (ascii "class") (About Class) (named t (ascii "home") (About Home) (named t (ascii "even") (About Even) (named t (ascii "place") (About Place) None)))

unfoldable pub both_of : List ℕ → Option Verb
both_of t = named t (ascii "same") (Both Same) (named t (ascii "apart") (Both Apart) None)

unfoldable pub count_of : List ℕ → Option Verb
count_of t = named t (ascii "many") Many (named t (ascii "stock") Stock None)

unfoldable pub step_of : List ℕ → Option Verb
step_of t =
    named t (ascii "next") (About (Step Steps.Necklace))
    (named t (ascii "lyndon") (About (Step Steps.Lyndon))
    (named t (ascii "prenecklace") (About (Step Steps.Prenecklace)) (named t (ascii "bracelet") (About (Step Steps.Bracelet)) None)))

unfoldable pub strip_of : List ℕ → Option Verb
strip_of t = named t (ascii "strip") Strip None

-- what a camera asks
unfoldable pub camera_of : List ℕ → Option Verb
camera_of t = named t (ascii "sight") Sight (named t (ascii "shade") Shade None)

unfoldable pub shades_of : List ℕ → Option Verb
shades_of t = named t (ascii "first") First (named t (ascii "after") After None)

unfoldable pub verb_of : List ℕ → Option Verb
verb_of t = or_else (about_of t) (or_else (both_of t) (or_else (count_of t) (or_else (step_of t) (or_else (strip_of t) (or_else (camera_of t) (shades_of t))))))
