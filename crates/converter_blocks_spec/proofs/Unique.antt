-- Checking a block, and converting it, has one answer.
--     torn-damage      records that are good up to a place, and the beginning of one more there, are Cut there
--     one-stretch      no two answers of checking a block satisfy the promise
--     one-turn         nor two of converting it, the output included
use Rattle.words.proofs.Plain.{ℕ, ◌+◌, ◌<◌, ◌≤◌, arith, dec_lt, ◌≡◌, refl, sym, ap, ◌∙◌, Bool, true, false, true≢false, List, [], ◌++◌, append-nil, length, take}
use Rattle.words.proofs.Plain.{drop, length-drop, length-take, take-append-drop, drop_of_length-le}
use Rattle.refusal.specs.{declared.Refusal.Refusal, declared.Refusal.TheVariants.Cut, Numbers.place_of, Order.Given}
use Rattle.converter_spec.specs.{Reads.old_order}
use Rattle.converter_spec.specs.Converts.{Sound, Turned, Damaged}
use Rattle.converter_spec.specs.Converts.Damaged.{here}
use Rattle.converter_spec.proofs.Unique.{one-turned, one-damage, sound-damaged}
use Rattle.std.specs.Prelude.{Result, Ok, Err}
use Rattle.converter_blocks_spec.specs.Blocks.{nothing, begun, Stays, StretchSays, Unturned, TurnSays}
use Rattle.converter_blocks_spec.specs.Blocks.Unturned.{room, damaged}
use Rattle.converter_blocks_spec.proofs.{Joined.damage-joined, Places.broken-moved}

-- good records, and the beginning of one more
pub torn-damage : (b : List ℕ) (m : ℕ) → m ≤ length b → Sound (take m b) → 0 < length (drop m b) → Given (old_order (drop m b) 0) (Cut 0) → Damaged b 0 (Cut m)
torn-damage b m l s z h =
    let e : m + 0 ≡ m = omega arith in
    let f : 0 + length (take m b) ≡ m = omega (arith, length-take m b) in
    let k : Given (old_order (drop m b) m) (Cut m) = rw e at (broken-moved (drop m b) 0 m (Cut 0) h) in
    rw (take-append-drop m b) at (damage-joined (take m b) (drop m b) 0 (Cut m) s (rw f (here z k)))

-- all of it
pub all : (b : List ℕ) (m : ℕ) → drop m b ≡ [] → take m b ≡ b
all b m e = sym (append-nil (take m b)) ∙ ap (λ (t : List ℕ). take m b ++ t) (sym e) ∙ take-append-drop m b

all-long : (b : List ℕ) (m : ℕ) → m ≤ length b → drop m b ≡ [] → m ≡ length b
all-long b m l e = let z : length (drop m b) ≡ 0 = rw e in omega (arith, z, length-drop m b)

-- an answer, by what the whole block is
data Told (b : List ℕ) (last : Bool) (v : Result ℕ Refusal) : Type 0 where
  whole : v ≡ Ok (length b) → Sound b → Told b last v
  torn : (m : ℕ) → v ≡ Ok m → last ≡ false → Damaged b 0 (Cut m) → Told b last v
  bad : (r : Refusal) → v ≡ Err r → Stays last r → Damaged b 0 r → Told b last v

told : (b : List ℕ) (last : Bool) (v : Result ℕ Refusal) → StretchSays b last v → Told b last v
told b true (Ok m) (l, s, e) = let f = all b m e in whole (ap Ok (all-long b m l e)) (rw f at s)
told b false (Ok m) (l, s, nothing e) = let f = all b m e in whole (ap Ok (all-long b m l e)) (rw f at s)
told b false (Ok m) (l, s, begun h) =
    elim (dec_lt 0 (length (drop m b))) [
      | yes z ↦ torn m refl refl (torn-damage b m l s z h)
      | no z ↦ (let e : drop m b ≡ [] = drop_of_length-le b {i = m} (omega (arith, length-drop m b, z)) in let f = all b m e in whole (ap Ok (all-long b m l e)) (rw f at s))
    ]
told b last (Err r) (d, k) = bad r refl k d

-- a refusal that stays is no Cut
stays-cut : (last : Bool) (r : Refusal) (m : ℕ) → last ≡ false → Stays last r → r ≡ Cut m → ⊥
stays-cut true r m e k f = absurd (true≢false e)
stays-cut false r m e k f = k m f

one_told : (b : List ℕ) (last : Bool) (v w : Result ℕ Refusal) → Told b last v → Told b last w → v ≡ w
one_told b last v w (whole e s) (whole f t) = e ∙ sym f
one_told b last v w (whole e s) (torn m f g d) = absurd (sound-damaged b 0 (Cut m) s d)
one_told b last v w (whole e s) (bad r f k d) = absurd (sound-damaged b 0 r s d)
one_told b last v w (torn m e f c) (whole g s) = absurd (sound-damaged b 0 (Cut m) s c)
one_told b last v w (torn m e f c) (torn n g h d) = e ∙ ap Ok (ap place_of (one-damage b 0 (Cut m) (Cut n) c d)) ∙ sym g
one_told b last v w (torn m e f c) (bad r g k d) = absurd (stays-cut last r m f k (one-damage b 0 r (Cut m) d c))
one_told b last v w (bad q e j c) (whole f s) = absurd (sound-damaged b 0 q s c)
one_told b last v w (bad q e j c) (torn m f g d) = absurd (stays-cut last q m g j (one-damage b 0 q (Cut m) c d))
one_told b last v w (bad q e j c) (bad r f k d) = e ∙ ap Err (one-damage b 0 q r c d) ∙ sym f

pub one-stretch : (b : List ℕ) (last : Bool) (v w : Result ℕ Refusal) → StretchSays b last v → StretchSays b last w → v ≡ w
one-stretch b last v w g h = one_told b last v w (told b last v g) (told b last w h)

-- ---- converting

-- a list is its beginning and the rest
joined : (m : ℕ) (d f : List ℕ) → take m d ≡ take m f → drop m d ≡ drop m f → d ≡ f
joined m d f e g = sym (take-append-drop m d) ∙ ap (λ (t : List ℕ). t ++ drop m d) e ∙ ap (λ (t : List ℕ). take m f ++ t) g ∙ take-append-drop m f

one-unturned : (b : List ℕ) (last : Bool) (m : ℕ) (r q : Refusal) → Unturned b last m r → Unturned b last m q → r ≡ q
one-unturned b last m r q (room e f) (room g h) = e ∙ sym g
one-unturned b last m r q (room e f) (damaged g h) = absurd (f g)
one-unturned b last m r q (damaged e f) (room g h) = absurd (h e)
one-unturned b last m r q (damaged e f) (damaged g h) = one-damage b 0 r q f.0 h.0

-- records are not refused
clash : (b : List ℕ) (last : Bool) (n m : ℕ) (r : Refusal) → n ≡ length b → StretchSays b last (Ok m) → Unturned b last n r → ⊥
clash b last n m r l s (room e f) = f l
clash b last n m r l s (damaged e f) = let z : ◌≡◌ {A = ℕ} 0 1 = ap which (one-stretch b last (Ok m) (Err r) s f) in omega arith
  where
    which : Result ℕ Refusal → ℕ
    which (Ok i) = 0
    which (Err i) = 1

-- one answer, and one output after it
pub one-turn : (b : List ℕ) (last : Bool) (o : List ℕ) (v w : Result ℕ Refusal) (d f : List ℕ) → TurnSays b last o v d → TurnSays b last o w f → (v ≡ w) × (d ≡ f)
one-turn b last o (Ok m) (Ok n) d f (l, s, t, e) (k, r, u, g) =
    let q = one-stretch b last (Ok m) (Ok n) s r in
    let i : n ≡ m = ap bytes_of (sym q) in
    let u' : Turned (take m b) (take m f) = rw i at u in
    let g' : drop m f ≡ drop m o = rw i at g in
    (q, joined m d f (one-turned (take m b) (take m d) (take m f) t u') (e ∙ sym g'))
  where
    bytes_of : Result ℕ Refusal → ℕ
    bytes_of (Ok i) = i
    bytes_of (Err i) = 0
one-turn b last o (Ok m) (Err r) d f (l, s, t, e) (x, y) = absurd (clash b last (length o) m r l s x)
one-turn b last o (Err r) (Ok m) d f (x, y) (l, s, t, e) = absurd (clash b last (length o) m r l s x)
one-turn b last o (Err r) (Err q) d f (x, y) (z, w) = (ap Err (one-unturned b last (length o) r q x z), y ∙ sym w)
