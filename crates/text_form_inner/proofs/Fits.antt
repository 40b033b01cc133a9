-- Texts placed one behind another, with the room that they take.
--     fits-none          nothing placed
--     fits-append        a text behind a text takes both their rooms
--     fits-room          what is left of the room
--     fits-length        the buffer keeps its length
--     fits_more          a greater room
use Rattle.words.proofs.Plain.{ℕ, ◌+◌, ◌≤◌, arith, ◌≡◌, List, [], ◌++◌, length, length-append}
use Rattle.text_spec.proofs.Put.{placed-none, placed-append, placed-length}
use Rattle.text_form_inner.specs.Fits.{Fits}

pub fits-none : (b : List ℕ) (at : ℕ) → Fits 0 b at [] at b
fits-none b at =
    let e : at + 0 ≡ at = omega arith in
    record { short = omega arith; placed = rw e at (placed-none b at) }

module _ {m : ℕ} {b : List ℕ} {at : ℕ} {s : List ℕ} {r : ℕ} {b' : List ℕ} (f : Fits m b at s r b') where
  pub fits-append : {o : ℕ} {t : List ℕ} {q : ℕ} {b'' : List ℕ} → Fits o b' r t q b'' → Fits (m + o) b at (s ++ t) q b''
  fits-append {o} {t} {q} {b''} g =
      record { short = omega (arith, length-append s t, f.short, g.short); placed = placed-append b at s r b' t q b'' f.placed g.placed }

  pub fits-length : length b' ≡ length b
  fits-length = placed-length b at s r b' f.placed

  pub fits-room : (o : ℕ) → at + (m + o) ≤ length b → r + o ≤ length b'
  fits-room o h = omega (arith, f.short, f.placed.next, fits-length)

  pub fits_more : (o : ℕ) → m ≤ o → Fits o b at s r b'
  fits_more o h = record { short = omega (arith, f.short); placed = f.placed }
