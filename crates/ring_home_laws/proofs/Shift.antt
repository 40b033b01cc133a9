-- Which turns the shift cannot be, from what two turns have in common. It is what a search for the shift rests on that goes over the reading
-- with two places and never looks back.
--     before-turned    two readings turned on by no more than they agree stand to one another as before
--     never-shift      where the turn by a is below that by b at place m for the first time, the shift is none of b, .., b + m
--     alike-shift      where the turns by i and by a greater j are one, the shift is less than j
use Rattle.words.proofs.Plain.{ℕ, ◌+◌, ◌-◌, ◌<◌, ◌≤◌, arith, ◌≡◌, refl, sym, ap, ◌∙◌, true, List, length, get_or}
use Rattle.words.specs.{Order.before, Turn.turn}
use Rattle.words.proofs.{Split.clash, Lex.less-before, Lex.up_to-not-before}
use Rattle.words.proofs.Turn.{length-turn, turn_low, turn-turn, turn-again}
use Rattle.rings.specs.Home.{shift, home}
use Rattle.ring_home_laws.proofs.Home.{shift-lt, home-turn-of, home-least, shift-first}

-- u and v agree at the first m places, and at place m u is smaller
pub record Below (u v : List ℕ) (m : ℕ) : Type 0 where
  pub inside : m < length v
  pub agree : (x : ℕ) → x < m → get_or u x 0 ≡ get_or v x 0
  pub less : get_or u m 0 < get_or v m 0

-- turned on by no more than they agree, the smaller of two readings stays before the other
pub before-turned : (u v : List ℕ) (m t : ℕ) → length u ≡ length v → Below u v m → t ≤ m → before (turn t u) (turn t v) ≡ true
before-turned u v m t e b h = less-before (turn t u) (turn t v) (left ∙ e ∙ sym right) (record { at = m - t; bound = omega (arith, b.inside, right); agree = agrees; less = less })
  where
    left : length (turn t u) ≡ length u
    left = length-turn t u (omega (arith, b.inside))

    right : length (turn t v) ≡ length v
    right = length-turn t v (omega (arith, b.inside))

    agrees : (x : ℕ) → x < m - t → get_or (turn t u) x 0 ≡ get_or (turn t v) x 0
    agrees x l = turn_low t u x (t + x) refl (omega (arith, b.inside)) ∙ b.agree (t + x) (omega arith) ∙ sym (turn_low t v x (t + x) refl (omega (arith, b.inside)))

    less : get_or (turn t u) (m - t) 0 < get_or (turn t v) (m - t) 0
    less = omega (arith, b.less, turn_low t u (m - t) m (omega arith) (omega (arith, b.inside)), turn_low t v (m - t) m (omega arith) b.inside)

-- where the turn by a is below that by b at place m for the first time, the shift is none of b, .., b + m
pub never-shift : (w : List ℕ) (a b m t : ℕ) → a ≤ length w → b ≤ length w → Below (turn a w) (turn b w) m → t ≤ m → b + t ≡ shift w → ⊥
never-shift w a b m t h k l d e = on (turn-again a t w z h (omega (arith, long)))
  where
    long : m < length w
    long = omega (arith, l.inside, length-turn b w k)

    z : 0 < length w
    z = omega (arith, long)

    smaller : before (turn t (turn a w)) (turn t (turn b w)) ≡ true
    smaller = before-turned (turn a w) (turn b w) m t (length-turn a w h ∙ sym (length-turn b w k)) l d

    here : turn t (turn b w) ≡ home w
    here = turn-turn b t w (omega (arith, shift-lt w z)) ∙ ap (λ x. turn x w) e ∙ sym (home-turn-of w)

    on : (q : ℕ) × (q < length w) × (turn t (turn a w) ≡ turn q w) → ⊥
    on (q, o, f) = clash (before (turn q w) (home w)) (rw (f, here) at smaller) (up_to-not-before (turn q w) (home w) (home-least w z q o))

-- where the turns by i and by a greater j are one, the shift is less than j
pub alike-shift : (w : List ℕ) (i j : ℕ) → 0 < length w → i < j → turn i w ≡ turn j w → j ≤ shift w → ⊥
alike-shift w i j z l e h =
    let t = shift w - j in
    let on : turn (i + t) w ≡ home w = sym (turn-turn i t w (omega (arith, shift-lt w z))) ∙ ap (turn t) e ∙ turn-turn j t w
    (omega (arith, shift-lt w z)) ∙ ap (λ x. turn x w) (omega arith) ∙ sym (home-turn-of w) in
    omega (arith, shift-first w z (i + t) on)
