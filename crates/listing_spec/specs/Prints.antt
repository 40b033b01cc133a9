-- The whole output for an input (01, 'The listing program'): the listing of the numbers that it spells, or the line of its refusal.
--     most_printed              the listing program's limit of Too many
--     ListPrints s text        text is the whole output for the input s
-- That an input has at most one output: proofs/Unique.
use Rattle.std.specs.Prelude.{ℕ, ◌≡◌, List, Ok, Err}
use Rattle.refusal.specs.declared.Refusal.{Refusal}
use Rattle.refusal.specs.Numbers.{number_of}
use Rattle.text_spec.specs.Text.{refused_line}
use Rattle.limits_spec.specs.Limits.{most_listed}
use Rattle.plan_spec.specs.Plan.{PlanSays}
use Rattle.listing_spec.specs.Listing.{Listing}

-- 2 to the power 24
abbrev pub most_printed : ℕ
most_printed = most_listed

pub data ListPrints (s text : List ℕ) : Type 0 where
  listed : (k n : ℕ) → PlanSays most_printed s (Ok (k, n)) → Listing k n text → ListPrints s text
  refused : (r : Refusal) → PlanSays most_printed s (Err r) → text ≡ refused_line (number_of r) → ListPrints s text
