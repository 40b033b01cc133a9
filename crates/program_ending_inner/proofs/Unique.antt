-- What a program says, it says in one way.
--     one-say         no two answers satisfy the contract, the buffer included
--     say-within      a text lies in the buffer, which keeps its length
--     said-as         the text of an ending, once it is known which ending it is
use Rattle.words.proofs.Plain.{ℕ, ◌≤◌, arith, ◌≡◌, sym, ap, ◌∙◌, List, length}
use Rattle.text_spec.specs.Put.{Placed}
use Rattle.text_spec.proofs.Put.{placed-length}
use Rattle.program_ending_inner.specs.{declared.Ending.Ending, Text.SaySays.small, Text.SaySays.said}
use Rattle.program_ending_inner.specs.Text.{ending_text, say_room, EndingSaid, SaySays}

one_placed : (b : List ℕ) (at : ℕ) (t : List ℕ) (r q : ℕ) (d f : List ℕ) → Placed b at t r d → Placed b at t q f → (r ≡ q) × (d ≡ f)
one_placed b at t r q d f g h = (g.next ∙ sym h.next, g.bytes ∙ sym h.bytes)

pub one-say : (e : Ending) (b : List ℕ) (r q : ℕ) (d f : List ℕ) → SaySays e b r d → SaySays e b q f → (r ≡ q) × (d ≡ f)
one-say e b r q d f (small l x y) (small m z w) = (x ∙ sym z, y ∙ sym w)
one-say e b r q d f (small l x y) (said m h) = absurd (omega arith)
one-say e b r q d f (said l g) (small m z w) = absurd (omega arith)
one-say e b r q d f (said l g) (said m h) = one_placed b 0 (ending_text e) r q d f g.placed h.placed

pub say-within : (e : Ending) (b : List ℕ) (r : ℕ) (d : List ℕ) → SaySays e b r d → r ≤ length d
say-within e b r d (small l x y) = omega (arith, x)
say-within e b r d (said l g) = omega (arith, g.fits, g.placed.next, placed-length b 0 (ending_text e) r d g.placed)

pub said-as : (e f : Ending) (b : List ℕ) (r : ℕ) (b' : List ℕ) → e ≡ f → length (ending_text f) ≤ say_room → Placed b 0 (ending_text f) r b' → EndingSaid e b r b'
said-as e f b r b' q l p = rw q (record { fits = l; placed = p })
