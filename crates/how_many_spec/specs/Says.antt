-- What the calls that count rings promise (02, request f: 'in this report Too many begins above 2 to the power 32, not 24').
--     most_counted                    the greatest power that is not Too many
--     CountSays kind k n a           what the answer a promises about the readings of a kind, necklaces or Lyndon words, of n sectors and k shades
-- A number is that of the readings of the kind, by definition (`rings`, Steps.how_many): how it is worked out is not promised. The refusals are those of `limits`,
-- 1, 2, 12 in that order. That no numbers have two answers: proofs/Unique.
use Rattle.std.specs.Prelude.{ℕ, ◌^◌, ◌≡◌, Bool, List, Result, Ok, Err}
use Rattle.rings.specs.Steps.{how_many}
use Rattle.refusal.specs.declared.Refusal.{Refusal}
use Rattle.refusal.specs.Order.{Given}
use Rattle.limits_spec.specs.Limits.{Listable, numbers_order}

-- 2 to the power 32
abbrev pub most_counted : ℕ
most_counted = 2 ^ 32

abbrev pub CountSays : (List ℕ → Bool) → ℕ → ℕ → Result ℕ Refusal → Type 0
CountSays kind k n (Ok x) = Listable most_counted k n × (x ≡ how_many kind n k)
CountSays kind k n (Err r) = Given (numbers_order most_counted k n) r
