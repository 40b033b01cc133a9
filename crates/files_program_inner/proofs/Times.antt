-- What becomes of a time through the file.
--     roomy-still                      lent and given back, there is as much room
--     reached-none                     before the first block
--     at_on, at_done, at-stopped       behind a block: another is read, or none
--     at-ends, at-within               how a time ends with a block
--     written-told, through-written    how both times ended
use Rattle.words.proofs.Plain.{ℕ, ◌+◌, ◌*◌, ◌<◌, ◌≤◌, arith, ◌≡◌, refl, sym, ap, ◌∙◌, ◌⊎◌, inl, inr, Bool, true, false, true≢false, List, [], ◌++◌, eqb, length}
use Rattle.words.proofs.Plain.{take, drop, length-append, length-take, length-drop, eqb-true}
use Rattle.words.proofs.Split.{passes, fails, test}
use Rattle.refusal.specs.{declared.Refusal.Refusal, Numbers.number_of, Numbers.place_of}
use Rattle.std.specs.Prelude.{Result, Ok, Err}
use Rattle.program_ending_inner.specs.declared.Ending.{Ending}
use Rattle.program_ending_inner.specs.declared.Ending.TheVariants as E
use Rattle.program_passes_inner.specs.Passes.{limit, same_end, Course, goes_further, EndWithin, finish_at}
use Rattle.program_passes_inner.specs.Passes.Course.{On, Done, Stopped}
use Rattle.program_passes_inner.proofs.Courses.{too_far}
use Rattle.files_spec.specs.{declared.Job.Job, declared.How.How, declared.Taken.Taken, Shows.last_text}
use Rattle.files_spec.specs.declared.How.TheVariants as H
use Rattle.files_spec.specs.Blocks.{Records, none, BadRecord, Left, TakenSays}
use Rattle.files_spec.proofs.Cut.{records-joined, told_over, told-bad}
use Rattle.files_time_inner.specs.{declared.Time.Time, Says.file_failed_of, Says.refused_of}
use Rattle.files_time_inner.specs.declared.Time.TheVariants.{Only, First, Second}
use Rattle.files_pass_inner.specs.Says.{most, RoomyFile, turn_of, FileTurnSays, FileAtSays}
use Rattle.files_pass_inner.specs.Says.FileTurnSays.{gone, unwritten}
use Rattle.files_pass_inner.specs.Says.FileAtSays.{unread, read}
use Rattle.files_program_inner.specs.Says.{once_for, FileReached, FileTold, Broken, FileStopSays, FilePassSays, FileWrittenSays, FileThroughSays}
use Rattle.files_program_inner.specs.Says.FileThroughSays.{stopped, whole}

pub roomy-still : (b d f g : List ℕ) → RoomyFile b d → length f ≡ length b → length g ≡ length d → RoomyFile f g
roomy-still b d f g r k l = record { some = omega (arith, r.some); small = record { short = omega (arith, r.small.short); room = omega (arith, r.small.room) } }

-- ---- which course a block takes

on-is : (w : Time) (h : Result How Refusal) (n m : ℕ) → turn_of w h n ≡ On m → (h ≡ Ok H.On) × (n ≡ m)
on-is w (Ok H.On) n m e = (refl, cc)
on-is w (Ok H.Over) n m e = absurd (cc)
on-is w (Err r) n m e = absurd (cc)

done-is : (w : Time) (h : Result How Refusal) (n m : ℕ) → turn_of w h n ≡ Done m → (h ≡ Ok H.Over) × (n ≡ m)
done-is w (Ok H.On) n m e = absurd (cc)
done-is w (Ok H.Over) n m e = (refl, cc)
done-is w (Err r) n m e = absurd (cc)

stopped-is : (w : Time) (h : Result How Refusal) (n : ℕ) (t : Ending) → turn_of w h n ≡ Stopped t → (r : Refusal) × (h ≡ Err r) × (refused_of w r ≡ t)
stopped-is w (Ok H.On) n t e = absurd (cc)
stopped-is w (Ok H.Over) n t e = absurd (cc)
stopped-is w (Err r) n t e = (r, refl, cc)

-- ---- behind a block

pub reached-none : (j : Job) → FileReached j 0
reached-none j = ([], [], refl, none)

-- the records before it, and its own
on-reached : (j : Job) (p : ℕ) (b : List ℕ) (last : Bool) (u : Taken) (t : List ℕ) → TakenSays j p b last u t → FileReached j p → FileReached j (p + u.used)
on-reached j p b last u t s (c, x, l, r) =
    let e : 0 + length c ≡ p = omega (arith, l) in
    let m = take u.used b in
    (c ++ m, x ++ s.shown, omega (arith, length-append c m, length-take u.used b, s.inside), records-joined j 0 c x m s.shown r (rw e s.records))

reached-told : (j : Job) (e : ℕ) → FileReached j e → FileTold j e
reached-told j e (c, x, l, r) = (c, x ++ last_text j (Ok tt), l, told_over j c x r)

reached-broken : (j : Job) (p : ℕ) (b : List ℕ) (last : Bool) (r : Refusal) → FileReached j p → BadRecord last b p r → Broken j r
reached-broken j p b last r (c, x, l, s) h = (c ++ b, x ++ last_text j (Err r), told-bad j c x b last r s (rw l h))

refused-stops : (j : Job) (w : Time) (r : Refusal) → Broken j r → FileStopSays j w (refused_of w r)
refused-stops j Only r h = (refl, (r, h))
refused-stops j First r h = (refl, (r, h, refl, refl))
refused-stops j Second r h = refl

failed-stops : (j : Job) (w : Time) → FileStopSays j w (file_failed_of w)
failed-stops j Only = λ e. cc
failed-stops j First = λ e. cc
failed-stops j Second = refl

module _ (j : Job) (w : Time) (p : ℕ) (q : FileReached j p) (v : Course) where
  -- a block that is not the last has a whole record
  turn_on : (b : List ℕ) (last : Bool) (d : List ℕ) (m : ℕ) → v ≡ On m → 68 ≤ length b → FileTurnSays j w p b last d v → (0 < m) × (m ≤ length b) × FileReached j (p + m)
  turn_on b last d m e l (unwritten f g) = absurd (cc)
  turn_on b last d m e l (gone u t s f g) =
      let k = on-is w u.how u.used m (sym g ∙ e) in
      let h : Left j u.place (drop u.used b) last (Ok H.On) s.behind = rw k.0 at s.left in
      let i = k.1 in
      (omega (arith, i, h.1, length-drop u.used b), omega (arith, i, s.inside), rw i at (on-reached j p b last u t s q))

  -- behind the last none follows
  turn_last : (b d : List ℕ) (m : ℕ) → v ≡ On m → FileTurnSays j w p b true d v → ⊥
  turn_last b d m e (unwritten f g) = cc
  turn_last b d m e (gone u t s f g) =
      let k = on-is w u.how u.used m (sym g ∙ e) in
      let h : Left j u.place (drop u.used b) true (Ok H.On) s.behind = rw k.0 at s.left in
      true≢false h.0

  turn-done : (b : List ℕ) (last : Bool) (d : List ℕ) (m : ℕ) → v ≡ Done m → FileTurnSays j w p b last d v → (m ≤ length b) × FileTold j (p + m)
  turn-done b last d m e (unwritten f g) = absurd (cc)
  turn-done b last d m e (gone u t s f g) =
      let i = (done-is w u.how u.used m (sym g ∙ e)).1 in
      (omega (arith, i, s.inside), rw i at (reached-told j (p + u.used) (on-reached j p b last u t s q)))

  turn_stopped : (b : List ℕ) (last : Bool) (d : List ℕ) (t : Ending) → v ≡ Stopped t → FileTurnSays j w p b last d v → FileStopSays j w t
  turn_stopped b last d t e (unwritten f g) = let k : t ≡ E.Unwritten = cc in rw k f
  turn_stopped b last d t e (gone u x s f g) =
      let k = stopped-is w u.how u.used t (sym g ∙ e) in
      let h : Left j u.place (drop u.used b) last (Err k.0) s.behind = rw k.1 at s.left in
      let a : BadRecord last (drop u.used b) (p + u.used) k.0 = rw s.place at h.0 in
      rw (sym k.2) (refused-stops j w k.0 (reached-broken j (p + u.used) (drop u.used b) last k.0 (on-reached j p b last u x s q) a))

  pub at_on : (b d : List ℕ) (m : ℕ) → v ≡ On m → 68 ≤ length b → FileAtSays j w p b d v → (0 < m) × (m ≤ length b) × FileReached j (p + m)
  at_on b d m e l (unread f) = absurd (cc)
  at_on b d m e l (read true n i h) = absurd (turn_last (take n b) d m e h)
  at_on b d m e l (read false n i h) =
      let j : length (take n b) ≡ length b = omega (arith, i, length-take n b) in
      let k = turn_on (take n b) false d m e (omega (arith, j, l)) h in
      (k.0, omega (arith, j, k.1), k.2)

  pub at_done : (b d : List ℕ) (m : ℕ) → v ≡ Done m → FileAtSays j w p b d v → (m ≤ length b) × FileTold j (p + m)
  at_done b d m e (unread f) = absurd (cc)
  at_done b d m e (read last n i h) = let k = turn-done (take n b) last d m e h in (omega (arith, k.0, length-take n b), k.1)

  pub at-stopped : (b d : List ℕ) (t : Ending) → v ≡ Stopped t → FileAtSays j w p b d v → FileStopSays j w t
  at-stopped b d t e (unread f) = let k : t ≡ file_failed_of w = cc in rw k (failed-stops j w)
  at-stopped b d t e (read last n i h) = turn_stopped (take n b) last d t e h

module _ (j : Job) (w : Time) (p : ℕ) (b d : List ℕ) (q : FileReached j p) where
  -- how a time ends with a block
  pub at-ends : (v : Course) → 68 ≤ length b → goes_further p v ≡ false → FileAtSays j w p b d v → FilePassSays j w (finish_at p v)
  at-ends (On m) l e h = (p + m, too_far p m e, (at_on j w p q (On m) b d m refl l h).2)
  at-ends (Done m) l e h = (at_done j w p q (Done m) b d m refl h).1
  at-ends (Stopped t) l e h = at-stopped j w p q (Stopped t) b d t refl h

  pub at-within : (v : Course) → p < limit → length b ≤ most → FileAtSays j w p b d v → EndWithin p v
  at-within (On m) i l h = tt
  at-within (Done m) i l h = omega (arith, (at_done j w p q (Done m) b d m refl h).0)
  at-within (Stopped t) i l h = tt

-- ---- how a time ended

-- the two ends compared
pub written-told : (j : Job) (e a : ℕ) (t : Ending) → FileTold j a → t ≡ same_end e a → FileWrittenSays j e t
unfolding same_end
written-told j e a t h f =
    elim (test (eqb e a)) [
      | passes g ↦ let q : FileTold j e = rw (eqb-true e a g) h in inl (q, rw (g, same_end) at f)
      | fails g ↦ let q : t ≡ E.Changed = rw (g, same_end) at f in inr (rw q refl)
    ]

-- ---- the whole

pub through-written : (j : Job) (e : ℕ) (t : Ending) → once_for j ≡ false → FileWrittenSays j e t → FileThroughSays j t
through-written j e t k (inl h) = whole e h.0 h.1
through-written j e t k (inr h) = stopped Second k h
