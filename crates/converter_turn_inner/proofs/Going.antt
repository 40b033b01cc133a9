-- Going through a good old catalogue c record by record and writing front records to o: what stands before the place p is done.
--     Going c o p                  the loop's invariant
--     going-room                   where the record at p ends
--     going-first, going_on        it holds at 0, and behind a record that was written
--     going-ended                  where the catalogue ends, all of it is written
use Rattle.words.proofs.Plain.{ℕ, ◌+◌, ◌-◌, ◌<◌, ◌≤◌, arith, ◌≡◌, refl, sym, ap, ◌∙◌, List, [], ◌++◌, append-nil, append_assoc, length, get_or, take, drop}
use Rattle.words.proofs.Plain.{length-append, length-drop, drop_of_length-le, length-take-le, take_at, drop_at, take_all, get_or-take, get_or-drop, drop-drop}
use Rattle.record_spec.specs.{declared.Kind.TheVariants.Front, Order.After9}
use Rattle.record_spec.specs.Layout.{n_of, k_of, sectors_of}
use Rattle.record_spec.proofs.{Laid.bytes, Only.drop-take}
use Rattle.converter_spec.specs.Sides.{Side, SideMarked, front_ring}
use Rattle.converter_spec.specs.{Converts.Sound, Converts.Turned, Converts.Sound.ended, Converts.Sound.more}
use Rattle.converter_spec.specs.Converts.Turned.{done, replaced}
use Rattle.converter_turn_inner.specs.Fronts.{Fronted}
use Rattle.converter_spec.proofs.Fronts.{front-n, bytes-front}

-- p is inside, what is left is good, and with what becomes of it the whole is converted
pub record Going (c o : List ℕ) (p : ℕ) : Type 0 where
  pub inside : p ≤ length c
  pub long : length o ≡ length c
  pub left : Sound (drop p c)
  pub turned : (v : List ℕ) → Turned (drop p c) v → Turned c (take p o ++ v)

pub going-first : (c o : List ℕ) → Sound c → length o ≡ length c → Going c o 0
going-first c o s e = record { inside = omega arith; long = e; left = s; turned = λ v h. h }

-- the first record of what is left
record Here (t : List ℕ) : Type 0 where
  side : Side
  marked : SideMarked t side
  good : After9 t
  rest : Sound (drop (4 + n_of t) t)

here_of : (t : List ℕ) → Sound t → 0 < length t → Here t
here_of t (ended e) l = absurd (let z : length t ≡ 0 = rw e in omega (arith, z))
here_of t (more x m a r) l = record { side = x; marked = m; good = a; rest = r }

-- the record that was written
written : (t : List ℕ) (x : Side) (u : List ℕ) → SideMarked t x → Fronted (take (4 + n_of t) t) u → u ≡ bytes Front (n_of t) (k_of t) (front_ring x (sectors_of t))
written t x u m f = rw (at 2 (omega arith), at 3 (omega arith), drop-take 4 (n_of t) t) at (f x (rw (at 0 (omega arith), at 1 (omega arith)) m))
  where
    at : (i : ℕ) → i < 4 → get_or (take (4 + n_of t) t) i 0 ≡ get_or t i 0
    at i l = get_or-take (4 + n_of t) t i 0 (omega arith)

module _ (c o : List ℕ) (p : ℕ) (g : Going c o p) (l : p < length c) where
  abbrev t : List ℕ
  t = drop p c

  h : Here t
  h = here_of t g.left (simp length-drop (omega arith))

  size : n_of t ≡ get_or c (p + 2) 0
  size = get_or-drop p c 2 0

  -- where the record ends
  pub going-room : (p + 2 < length c) × (1 ≤ get_or c (p + 2) 0) × (p + 4 + get_or c (p + 2) 0 ≤ length c)
  going-room = omega (arith, size, h.good.0.1, h.good.0.0.0.0, length-drop p c)

  -- behind it
  pub going_on : (e : ℕ) (u q : List ℕ) → e ≡ p + 4 + get_or c (p + 2) 0 → Fronted (take (e - p) (drop p c)) u → q ≡ take p o ++ (u ++ drop (e - p) (drop p o)) → Going c q e
  going_on e u q k f s =
      record {
        inside = omega (arith, going-room);
        long = rw s (omega (
          arith,
          length-append (take p o) (u ++ drop (e - p) (drop p o)),
          length-append u (drop (e - p) (drop p o)),
          head,
          wide,
          length-drop (e - p) (drop p o),
          length-drop p o,
          g.long,
          going-room,
          size,
        ));
        left = rw ahead at h.rest;
        turned = λ v w. rw (whole v) (g.turned (u ++ v) (here v w));
      }
    where
      ends : e - p ≡ 4 + n_of t
      ends = omega (arith, size)

      ahead : drop (4 + n_of t) t ≡ drop e c
      ahead = let j : p + (4 + n_of t) ≡ e = omega (arith, size) in drop-drop (4 + n_of t) p c ∙ ap (λ (i : ℕ). drop i c) j

      front : u ≡ bytes Front (n_of t) (k_of t) (front_ring h.side (sectors_of t))
      front = written t h.side u h.marked (rw ends at f)

      wide : length u ≡ 4 + n_of t
      wide = rw front (omega (arith, front-n t h.good h.side))

      head : length (take p o) ≡ p
      head = length-take-le p o (omega (arith, g.long))

      -- what becomes of what is left, with this record before it
      here : (v : List ℕ) → Turned (drop e c) v → Turned t (u ++ v)
      here v w =
          replaced h.side h.marked h.good (bytes-front t h.good h.side (u ++ v) v (ap (λ (i : List ℕ). i ++ v) front))
          (rw (drop_at u v (4 + n_of t) wide, ahead) w)

      -- what stands before e
      whole : (v : List ℕ) → take e q ++ v ≡ take p o ++ (u ++ v)
      whole v =
          ap (λ (i : List ℕ). i ++ v) (ap (take e) (s ∙ sym (append_assoc (take p o) u (drop (e - p) (drop p o)))) ∙ take_at (take p o ++ u)
          (drop (e - p) (drop p o)) e (omega (arith, length-append (take p o) u, head, wide, size)))
          ∙ append_assoc (take p o) u v

-- where the catalogue ends, all of it is written
pub going-ended : (c o : List ℕ) (p : ℕ) → Going c o p → length c ≤ p → Turned c o
going-ended c o p g l =
    rw (take_all p o (omega (arith, g.long)), append-nil o) at (g.turned [] (done (drop_of_length-le c {i = p} l) refl))
