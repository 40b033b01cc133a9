-- What the reader's contract gives its callers, beside that the answer is one (Unique) and what it looks at (Only).
--     length-body, length-ring                    a record that is not cut has the bytes of n sectors, and n sectors
--     length-sectors                              the same where a sector is a byte
--     uncut, read_length                          a record that was read is not cut, and the numbers of the answer tell how many bytes it has
--     output-front, output-rest                   the front ring stands in the first n bytes of the output, and the others are as they were
--     front-necklace                              the front ring is a necklace
--     next-inside                                 the next record starts in the catalogue or at its end, past this one
use Rattle.words.proofs.Plain.{ℕ, ◌+◌, ◌<◌, ◌≤◌, arith, ◌≡◌, sym, ap, ◌∙◌, true, List, length, take, drop, length-drop, length-take-le, take_at, drop_at}
use Rattle.std.specs.Prelude.{Ok, Some}
use Rattle.rings.specs.Necklace.{necklace}
use Rattle.record_spec.specs.{declared.Kind.Kind, declared.Kind.TheVariants.Front, declared.Record.Record}
use Rattle.record_spec.specs.Layout.{body_length, n_of, k_of, body_of, stored_ring, sectors_of}
use Rattle.record_spec.specs.Says.{ReadSays}
use Rattle.record_spec.proofs.Forms.{length-shown}

-- a record that is not cut has the bytes of n sectors
pub length-body : (x : Kind) (t : List ℕ) → 4 + body_length x (n_of t) (k_of t) ≤ length t → length (body_of x t) ≡ body_length x (n_of t) (k_of t)
length-body x t h = length-take-le (body_length x (n_of t) (k_of t)) (drop 4 t) (simp length-drop (omega arith))

-- and n sectors
pub length-ring : (x : Kind) (t : List ℕ) → 4 + body_length x (n_of t) (k_of t) ≤ length t → length (stored_ring x t) ≡ n_of t
length-ring x t h = length-shown x (n_of t) (k_of t) (body_of x t) (length-body x t h)

-- where a sector is a byte
pub length-sectors : (t : List ℕ) → 4 + n_of t ≤ length t → length (sectors_of t) ≡ n_of t
length-sectors t h = length-ring Front t h

-- ---- the front ring

module _ (c : List ℕ) (s : ℕ) (b : List ℕ) (r : Record) (d : List ℕ) (h : ReadSays c s b (Ok (Some r)) d) where
  -- the record is not cut
  pub uncut : 4 + body_length r.kind (n_of (drop s c)) (k_of (drop s c)) ≤ length (drop s c)
  uncut = h.2.good.0.1

  -- the numbers of the answer are those of the record
  pub read_length : body_length r.kind r.n r.k ≡ body_length r.kind (n_of (drop s c)) (k_of (drop s c))
  read_length = ap (λ (i : ℕ). body_length r.kind i r.k) h.2.sectors ∙ ap (λ (i : ℕ). body_length r.kind (n_of (drop s c)) i) h.2.shades

  long : length (stored_ring r.kind (drop s c)) ≡ r.n
  long = length-ring r.kind (drop s c) uncut ∙ sym h.2.sectors

  -- the first n bytes of the output are the front ring
  pub output-front : take r.n d ≡ stored_ring r.kind (drop s c)
  output-front = rw h.2.ring (take_at (stored_ring r.kind (drop s c)) (drop r.n b) r.n long)

  -- the others are as they were
  pub output-rest : drop r.n d ≡ drop r.n b
  output-rest = rw h.2.ring (drop_at (stored_ring r.kind (drop s c)) (drop r.n b) r.n long)

  -- the front ring is a necklace
  pub front-necklace : necklace (take r.n d) ≡ true
  front-necklace = rw output-front h.2.good.1.1

  -- the next record starts past this one, in the catalogue or at its end
  pub next-inside : (s < r.next) × (r.next ≤ length c)
  next-inside = omega (arith, length-drop s c, h.1, uncut, h.2.follows, read_length)
