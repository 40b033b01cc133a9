-- A time through the catalogue, block after block.
--     fit-still                        lent and given back, there is as much room
--     reached-none                     before the first block
--     at_on, at_done, at-stopped       behind a block: another is read, or none
--     at-ends, at-within               how a time ends with a block
--     written-through, through-whole   how both times ended
use Rattle.words.proofs.Plain.{ℕ, ◌+◌, ◌<◌, ◌≤◌, arith, ◌≡◌, refl, sym, inl, inr, Bool, true, false, true≢false, List, [], ◌++◌, eqb, length}
use Rattle.words.proofs.Plain.{take, length-append, length-take, eqb-true}
use Rattle.words.proofs.Split.{passes, fails, test}
use Rattle.converter_spec.specs.{Converts.Damaged, Converts.Turned.done}
use Rattle.converter_spec.specs.Converts.Sound.{ended as none}
use Rattle.converter_blocks_spec.specs.Passes.{moved}
use Rattle.converter_blocks_spec.proofs.Joined.{sound-joined, damage-joined, turned-joined}
use Rattle.converter_blocks_spec.proofs.Places.{number-moved, damage-moved, damage-placed}
use Rattle.converter_blocks_spec.proofs.Through.{goes_on}
use Rattle.program_ending_inner.specs.declared.Ending.{Ending}
use Rattle.program_ending_inner.specs.declared.Ending.TheVariants as E
use Rattle.program_passes_inner.specs.Passes.{limit, failed_of, same_end, Course, goes_further, EndWithin, finish_at}
use Rattle.program_passes_inner.specs.Passes.Course.{On, Done, Stopped}
use Rattle.program_passes_inner.proofs.Courses.{too_far}
use Rattle.converter_pass_inner.specs.Says.{most_block, BuffersFit, Why, BlockBecomes, AtSays}
use Rattle.converter_pass_inner.specs.Says.AtSays.{unread, read}
use Rattle.converter_program_inner.specs.Says.{Reached, StopSays, PassSays, WrittenSays, ThroughSays}
use Rattle.converter_program_inner.specs.Says.ThroughSays.{stopped, whole}

pub fit-still : (b d f g : List ℕ) → BuffersFit b d → length f ≡ length b → length g ≡ length d → BuffersFit f g
fit-still b d f g r k l = record { some = omega (arith, r.some); short = omega (arith, r.short); same = omega (arith, r.same) }

pub reached-none : (w : Bool) → Reached w 0
reached-none false = ([], refl, none refl)
reached-none true = ([], [], refl, done refl refl)

-- ---- behind a block

on-reached : (w : Bool) (p : ℕ) (b d : List ℕ) (m : ℕ) → BlockBecomes w p b false d (On m) → Reached w p → Reached w (p + m)
on-reached false p b d m k (c, l, s) = (c ++ take m b, omega (arith, length-append c (take m b), length-take m b, k.1.0), sound-joined c (take m b) s k.1.1)
on-reached true p b d m k (c, f, l, t) =
    (c ++ take m b, f ++ take m d, omega (arith, length-append c (take m b), length-take m b, k.1.0), turned-joined c (take m b) f (take m d) t k.2)

done-reached : (w : Bool) (p : ℕ) (b : List ℕ) (last : Bool) (d : List ℕ) (m : ℕ) → BlockBecomes w p b last d (Done m) → Reached w p → Reached w (p + m)
done-reached false p b last d m k (c, l, s) = (c ++ b, omega (arith, length-append c b, k.1), sound-joined c b s k.2)
done-reached true p b last d m k (c, f, l, t) = (c ++ b, f ++ take m d, omega (arith, length-append c b, k.1), turned-joined c b f (take m d) t k.3)

why-stops : (w : Bool) (p : ℕ) (b : List ℕ) (last : Bool) (t : Ending) → Why w p b last t → Reached w p → StopSays w t
why-stops true p b last t (inl e) q = rw e refl
why-stops true p b last t (inr e) q = rw e refl
why-stops false p b last t (r, h, e) (c, l, s) =
    let k : p + 0 ≡ 0 + length c = omega (arith, l) in
    let d : Damaged b (0 + length c) (moved p r) = rw k at (damage-moved b 0 p r h.0) in
    rw e (refl, (c ++ b, moved p r, damage-joined c b 0 (moved p r) s d, sym (number-moved p r), sym ((damage-placed b 0 r h.0).1 p)))

failed-stops : (w : Bool) → StopSays w (failed_of w)
failed-stops false = refl
failed-stops true = refl

module _ (w : Bool) (p : ℕ) (b d : List ℕ) (v : Course) (q : Reached w p) where
  -- a block that is not the last has a whole record
  pub at_on : (m : ℕ) → v ≡ On m → 68 ≤ length b → AtSays w p b d v → (0 < m) × (m ≤ length b) × Reached w (p + m)
  at_on m e l (unread f) = absurd (cc)
  at_on m e l (read true n i k) = let h : BlockBecomes w p (take n b) true (take n d) (On m) = rw e at k in absurd (true≢false h.0)
  at_on m e l (read false n i k) =
      let h : BlockBecomes w p (take n b) false (take n d) (On m) = rw e at k in
      let j : length (take n b) ≡ length b = omega (arith, i, length-take n b) in
      (goes_on (take n b) m h.1 (omega (arith, j, l)), omega (arith, j, h.1.0), on-reached w p (take n b) (take n d) m h q)

  pub at_done : (m : ℕ) → v ≡ Done m → AtSays w p b d v → (m ≤ length b) × Reached w (p + m)
  at_done m e (unread f) = absurd (cc)
  at_done m e (read last n i k) =
      let h : BlockBecomes w p (take n b) last (take n d) (Done m) = rw e at k in
      (omega (arith, h.1, length-take n b), done-reached w p (take n b) last (take n d) m h q)

  pub at-stopped : (t : Ending) → v ≡ Stopped t → AtSays w p b d v → StopSays w t
  at-stopped t e (unread f) = let g : t ≡ failed_of w = cc in rw g (failed-stops w)
  at-stopped t e (read last n i k) = let h : BlockBecomes w p (take n b) last (take n d) (Stopped t) = rw e at k in why-stops w p (take n b) last t h q

module _ (w : Bool) (p : ℕ) (b d : List ℕ) (q : Reached w p) where
  -- how a time ends with a block
  pub at-ends : (v : Course) → 68 ≤ length b → goes_further p v ≡ false → AtSays w p b d v → PassSays w (finish_at p v)
  at-ends (On m) l e h = (p + m, too_far p m e, (at_on w p b d (On m) q m refl l h).2)
  at-ends (Done m) l e h = (at_done w p b d (Done m) q m refl h).1
  at-ends (Stopped t) l e h = at-stopped w p b d (Stopped t) q t refl h

  pub at-within : (v : Course) → p < limit → length b ≤ most_block → AtSays w p b d v → EndWithin p v
  at-within (On m) i l h = tt
  at-within (Done m) i l h = omega (arith, (at_done w p b d (Done m) q m refl h).0)
  at-within (Stopped t) i l h = tt

-- ---- how a time ended

-- both went through
pub written-through : (e a : ℕ) (t : Ending) → Reached true a → t ≡ same_end e a → WrittenSays e t
unfolding same_end
written-through e a t h f =
    elim (test (eqb e a)) [
      | passes g ↦ let q : Reached true e = rw (eqb-true e a g) h in inl (q, rw (g, same_end) at f)
      | fails g ↦ let q : t ≡ E.Changed = rw (g, same_end) at f in inr (rw q refl)
    ]

pub through-whole : (e : ℕ) (t : Ending) → Reached false e → WrittenSays e t → ThroughSays t
through-whole e t q (inl h) = whole e q h.0 h.1
through-whole e t q (inr h) = stopped true h
