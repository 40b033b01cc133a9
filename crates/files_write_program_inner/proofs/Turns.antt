-- What becomes of a block, and of a time through the input.
--     lines-roomy                      lent and given back, there is as much room
--     reached-none                     before the first block
--     line_on, line-done, line-stopped     behind a block
--     too_long, written-through, both-through    how a time ended, and both
--     handed-second                    only the second time a write can fail
use Rattle.words.proofs.Plain.{ℕ, ◌+◌, ◌*◌, ◌<◌, ◌≤◌, arith, ◌≡◌, refl, sym, ap, ◌∙◌, ◌⊎◌, inl, inr, Bool, true, false, true≢false, List, [], ◌∷◌, ◌++◌, eqb}
use Rattle.words.proofs.Plain.{length, take, length-append, length-take, eqb-true}
use native.Mathlib.Nat.{mul-le-mul_right}
use Rattle.words.proofs.Split.{passes, fails, test}
use Rattle.text_spec.specs.Ascii.{newline}
use Rattle.refusal.specs.declared.Refusal.{Refusal}
use Rattle.record_spec.specs.declared.Kind.{Kind}
use Rattle.stream_spec.specs.Lines.{ended}
use Rattle.program_ending_inner.specs.declared.Ending.{Ending}
use Rattle.program_ending_inner.specs.declared.Ending.TheVariants as E
use Rattle.program_passes_inner.specs.Passes.{same_end}
use Rattle.files_text_inner.specs.Room.{record_room}
use Rattle.files_write_spec.specs.{Inputs.LinesWrite, Inputs.FirstRefused, RingLines.most_kept}
use Rattle.files_write_spec.proofs.Cut as C
use Rattle.files_write_spec.proofs.Cut.{gone-none, gone-on, gone-last, gone-refused, last-refused, gone-few}
use Rattle.std.specs.Prelude.{Ok, Err, Some, None}
use Rattle.files_write_ending_inner.specs.declared.Time.{Time}
use Rattle.files_write_ending_inner.specs.declared.Time.TheVariants.{First, Second}
use Rattle.files_write_ending_inner.specs.{declared.Ended.Ended, declared.Ended.TheVariants.Line, declared.Ended.TheVariants.As}
use Rattle.files_write_ending_inner.specs.Endings.{line_refused_of, line_failed_of, HandedOn}
use Rattle.files_write_program_inner.specs.declared.Gone.{Gone}
use Rattle.files_write_program_inner.specs.Says.{RoomyLines, LinesThrough, LineStopSays, LinePassSays, LineWrittenSays}
use Rattle.files_write_program_inner.specs.Says.{LineTurnSays, gone, bad, unwritten, LineLastSays, over, worse, unsaid}
use Rattle.files_write_program_inner.specs.Says.{LineAtSays, unread, full, some, last, LineThroughSays, stopped, whole}

pub lines-roomy : (b l d f g h : List ℕ) → RoomyLines b l d → length f ≡ length b → length g ≡ length l → length h ≡ length d → RoomyLines f g h
lines-roomy b l d f g h r i j k = record { some = omega (arith, r.some); short = omega (arith, r.short); kept = j ∙ r.kept; room = rw (i, k) r.room }

-- a part of a block has room too, and so has a line
pub part_room : (n m d : ℕ) → n ≤ m → m * record_room ≤ d → n * record_room ≤ d
part_room n m d l h = omega (arith, mul-le-mul_right {m = n} {n = m} record_room l)

-- only the second time a write can fail
pub handed-second : (w : Time) (r : Bool) → HandedOn w r → r ≡ false → w ≡ Second
handed-second First r h e = absurd (true≢false (sym (h refl) ∙ e))
handed-second Second r h e = refl

-- ---- behind a block

-- the input so far, whose lines all write
abbrev pub Reached : Kind → ℕ → List ℕ → ℕ → Type 0
Reached x at u n = (c : List ℕ) × (length c ≡ at) × C.Gone x c u n

pub reached-none : (x : Kind) (l : List ℕ) → Reached x 0 (take 0 l) 0
reached-none x l = ([], refl, gone-none x)

pub reached-few : (x : Kind) (at : ℕ) (u : List ℕ) (n : ℕ) → Reached x at u n → n ≤ at
reached-few x at u n (c, l, g) = omega (arith, l, gone-few x c u n g)

refused-stops : (x : Kind) (w : Time) (c : List ℕ) (r : Refusal) (n : ℕ) → FirstRefused x c n r → LineStopSays x w (line_refused_of w r n)
refused-stops x First c r n h = (refl, (c, h))
refused-stops x Second c r n h = refl

failed-stops : (x : Kind) (w : Time) → LineStopSays x w (line_failed_of w)
failed-stops x First = refl
failed-stops x Second = refl

module _ (x : Kind) (w : Time) (at : ℕ) (u : List ℕ) (n : ℕ) (q : Reached x at u n) where
  turn_on : (s o l d : List ℕ) (g : Gone) → LineTurnSays x w u s n o (Ok (Some g)) l d → (g.used ≡ length s) × (g.len ≤ length l) × Reached x (at + g.used) (take g.len l) g.lines
  turn_on s o l d g (bad r h e) = absurd (cc)
  turn_on s o l d g (unwritten f e) = absurd (cc)
  turn_on s o l d g (gone r h e) =
      let z : g ≡ record { used = length s; len = r.len; lines = r.lines } = cc in
      let used : g.used ≡ length s = rw z refl in
      let held : g.len ≡ r.len = rw z refl in
      let ends : g.lines ≡ r.lines = rw z refl in
      let on = gone-on x q.0 u n q.2 s h.1.text (take g.len l) g.lines h.1.says (rw held h.1.line) (ends ∙ h.2) in
      (used, omega (arith, held, h.0), (q.0 ++ s, omega (arith, used, q.1, length-append q.0 s), on))

  turn-done : (s o l d : List ℕ) → LineTurnSays x w u s n o (Ok None) l d → ⊥
  turn-done s o l d (gone r h e) = cc
  turn-done s o l d (bad r h e) = cc
  turn-done s o l d (unwritten f e) = cc

  turn_stopped : (s o l d : List ℕ) (t : Ended) → LineTurnSays x w u s n o (Err t) l d → LineStopSays x w t
  turn_stopped s o l d t (gone r h e) = absurd (cc)
  turn_stopped s o l d t (unwritten f e) = let k : t ≡ As E.Unwritten = cc in rw k f
  turn_stopped s o l d t (bad r (i, a, b, h) e) =
      let c = take i s in
      let on = gone-on x q.0 u n q.2 c h.text (take most_kept (Rattle.stream_spec.specs.Lines.under u c)) (n + length (ended u c)) h.writes refl refl in
      let f = gone-refused x (q.0 ++ c) _ _ on r.why h.refused in
      let y : t ≡ line_refused_of w r.why r.number = cc in
      rw (y, h.number) (refused-stops x w _ r.why _ f)

  last_on : (o d : List ℕ) (g : Gone) → LineLastSays x w u n o (Ok (Some g)) d → ⊥
  last_on o d g (over r h e) = cc
  last_on o d g (worse r h e) = cc
  last_on o d g (unsaid f e) = cc

  last_done : (o d : List ℕ) → LineLastSays x w u n o (Ok None) d → LinesThrough x at
  last_done o d (over r h e) = (q.0, _, q.1, gone-last x q.0 u n q.2 h.0.text h.0.says)
  last_done o d (worse r h e) = absurd (cc)
  last_done o d (unsaid f e) = absurd (cc)

  last-stopped : (o d : List ℕ) (t : Ended) → LineLastSays x w u n o (Err t) d → LineStopSays x w t
  last-stopped o d t (over r h e) = absurd (cc)
  last-stopped o d t (unsaid f e) = let k : t ≡ As E.Unwritten = cc in rw k f
  last-stopped o d t (worse r (a, h, f) e) =
      let y : t ≡ line_refused_of w r.why r.number = cc in
      rw (y, f) (refused-stops x w q.0 r.why (n + 1) (last-refused x q.0 u n q.2 r.why a h))

  pub line_on : (b o l d : List ℕ) (g : Gone) → 0 < length b → LineAtSays x w u b n o (Ok (Some g)) l d →
      (0 < g.used) × (g.used ≤ length b) × (g.len ≤ length l) × Reached x (at + g.used) (take g.len l) g.lines
  line_on b o l d g z (unread f) = absurd (cc)
  line_on b o l d g z (full h) = let i = turn_on b o l d g h in (omega (arith, i.0, z), omega (arith, i.0), i.1, i.2)
  line_on b o l d g z (some j y f h) = let i = turn_on (take j b) o l d g h in (omega (arith, i.0, length-take j b, y, f), omega (arith, i.0, length-take j b), i.1, i.2)
  line_on b o l d g z (last h) = absurd (last_on o d g h)

  pub line-done : (b o l d : List ℕ) → LineAtSays x w u b n o (Ok None) l d → LinesThrough x at
  line-done b o l d (unread f) = absurd (cc)
  line-done b o l d (full h) = absurd (turn-done b o l d h)
  line-done b o l d (some j y f h) = absurd (turn-done (take j b) o l d h)
  line-done b o l d (last h) = last_done o d h

  pub line-stopped : (b o l d : List ℕ) (t : Ended) → LineAtSays x w u b n o (Err t) l d → LineStopSays x w t
  line-stopped b o l d t (unread f) = let k : t ≡ line_failed_of w = cc in rw k (failed-stops x w)
  line-stopped b o l d t (full h) = turn_stopped b o l d t h
  line-stopped b o l d t (some j y f h) = turn_stopped (take j b) o l d t h
  line-stopped b o l d t (last h) = last-stopped o d t h

-- ---- how a time ended

-- too long, behind lines that all write
pub too_long : (x : Kind) (w : Time) (at : ℕ) (u : List ℕ) (n : ℕ) → Rattle.program_passes_inner.specs.Passes.limit ≤ at → Reached x at u n → LineStopSays x w (As E.TooLong)
too_long x w at u n h (c, l, g) = (c, g.text, omega (arith, l, h), g.writes)

-- the two ends compared
pub written-through : (x : Kind) (e a : ℕ) (t : Ending) → LinesThrough x a → t ≡ same_end e a → LineWrittenSays x e (As t)
unfolding same_end
written-through x e a t h f =
    elim (test (eqb e a)) [
      | passes g ↦ let q : LinesThrough x e = rw (eqb-true e a g) h in inl (q, ap As (rw (g, same_end) at f))
      | fails g ↦ let q : t ≡ E.Changed = rw (g, same_end) at f in inr (rw q refl)
    ]

pub both-through : (x : Kind) (e : ℕ) (t : Ended) → LineWrittenSays x e t → LineThroughSays x t
both-through x e t (inl h) = whole e h.0 h.1
both-through x e t (inr h) = stopped Second h
