-- What makes the output for a line.
--     refused-room, refused_says        a refusal's line has room
--     line-malformed, line-numbers      the output for a malformed line, and for one of numbers
--     numbers-refused, numbers-chosen   the output for numbers that are refused, and for others
--     places-fit                        the places of an answer can be printed
use Rattle.std.specs.Prelude.{None, Some}
use Rattle.words.proofs.Plain.{ℕ, ◌^◌, ◌<◌, ◌≤◌, arith, ◌≡◌, refl, ap, ◌∙◌, Bool, List, ◌++◌, eqb, length, length-append}
use Rattle.refusal.specs.{declared.Refusal.Refusal, declared.Refusal.TheVariants.Line, Numbers.number_of, Order.Given}
use Rattle.text_spec.specs.{Text.refused_line, Put.Placed}
use Rattle.text_spec.proofs.{Digits.length-decimal, Put.length-refused}
use Rattle.guard_spec.specs.{declared.Rule.Rule, Choice.chosen_by}
use Rattle.set_spec.specs.Places.{set_in}
use Rattle.set_laws.proofs.Places.{laid-length}
use Rattle.set_pick_spec.specs.{Order.set_order, Says.SetChosen}
use Rattle.set_pick_spec.proofs.Worth.{rule-most, rule-set}
use Rattle.set_text_spec.specs.Text.{ring_texts, taken_text, set_text}
use Rattle.set_line_spec.specs.Line.{SpellSays}
use Rattle.set_text_spec.specs.Prints.{set_room, refused, chosen, malformed, spelt, PrintedBy, whole}
use Rattle.set_text_spec.proofs.Lengths.{length-rings, length_taken}
use Rattle.set_text_inner.specs.Says.{Rings}
use Rattle.set_output.specs.Says.{SetNumbersSay, RefusedSetSays}

-- a number's line has room
pub refused-room : (x : ℕ) → x < 10 ^ 20 → length (refused_line x) ≤ set_room
refused-room x h = omega (arith, length-refused x, length-decimal 19 x h)

-- the line of the refusal's own number
pub refused_says : (r : Refusal) (x : ℕ) → x ≡ number_of r → x < 10 ^ 20 → (b : List ℕ) (y : ℕ) (b' : List ℕ) → Placed b 0 (refused_line x) y b' → RefusedSetSays r b y b'
refused_says r x e h b y b' q = record { fits = rw e at (refused-room x h); placed = rw e at q }

-- a malformed line, and a line of numbers
pub line-malformed : (rule : Rule) (s b : List ℕ) (y : ℕ) (b' : List ℕ) → set_room ≤ length b → SpellSays s None → RefusedSetSays Line b y b' → PrintedBy rule s b y b'
line-malformed rule s b y b' h p q = whole h (refused_line (number_of Line)) (malformed p refl) q.fits q.placed

pub line-numbers : (rule : Rule) (s b : List ℕ) (y : ℕ) (b' : List ℕ) (n k d want : ℕ) → set_room ≤ length b → SpellSays s (Some (n, k, d, want)) →
    SetNumbersSay rule n k d want b y b' → PrintedBy rule s b y b'
line-numbers rule s b y b' n k d want h p q = whole h q.text (spelt n k d want p q.says) q.fits q.placed

module _ (rule : Rule) (n k d want : ℕ) where
  pub numbers-refused : (r : Refusal) → Given (set_order n k d want) r → (b : List ℕ) (x : ℕ) (b' : List ℕ) → RefusedSetSays r b x b' → SetNumbersSay rule n k d want b x b'
  numbers-refused r g b x b' q = record { text = refused_line (number_of r); says = refused r g refl; fits = q.fits; placed = q.placed }

  module _ (p : List ℕ) (t : ℕ) (f : Bool) (c : SetChosen n k d want (chosen_by rule n k d want) p t f) where
    -- the places of an answer can be printed
    pub places-fit : Rings p n t
    places-fit =
        record {
          size = ap length c.places ∙ laid-length (chosen_by rule n k d want);
          short = c.asked.short;
          most = omega (arith, rule-most rule n k d want p t f c, c.asked.settable.most-wanted);
        }

    text-fits : length (ring_texts (set_in n p t) ++ taken_text t f) ≤ set_room
    text-fits =
        omega (arith, length-append (ring_texts (set_in n p t)) (taken_text t f), length-rings n p t places-fit.short, length_taken t f places-fit.most, places-fit.most)

    -- the rings in the places and the last line are the set's text
    text-is : ring_texts (set_in n p t) ++ taken_text t f ≡ set_text (chosen_by rule n k d want) (eqb (length (chosen_by rule n k d want)) want)
    unfolding set_text
    text-is = rw (rule-set rule n k d want p t f c, c.number, c.full) refl

    pub numbers-chosen : (b : List ℕ) (x : ℕ) (b' : List ℕ) → Placed b 0 (ring_texts (set_in n p t) ++ taken_text t f) x b' → SetNumbersSay rule n k d want b x b'
    numbers-chosen b x b' q = record { text = ring_texts (set_in n p t) ++ taken_text t f; says = chosen c.asked text-is; fits = text-fits; placed = q }
