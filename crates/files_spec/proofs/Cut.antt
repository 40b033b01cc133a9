-- However a catalogue is cut into blocks, it shows the same.
--     records-through      good records, and then what stands behind them
--     run-through          a run shows what the whole catalogue shows from its place on
--     run-tells            a run from the beginning
--     cut-anyhow           so two runs of one catalogue have one verdict and show one text
--     records-joined       records of two blocks
--     told_over, told-bad  a catalogue that is good records, and one in which bytes that are refused stand behind them
use Rattle.words.proofs.Plain.{ℕ, ◌+◌, ◌<◌, ◌≤◌, arith, ◌≡◌, refl, sym, ap, ◌∙◌, inr, Bool, true, false, true≢false, List, [], ◌++◌, append_assoc}
use Rattle.words.proofs.Plain.{append-nil, length, take, drop, replicate, length-append, length-drop, length-take, take-append-drop, drop_of_length-le}
use Rattle.words.proofs.Plain.{drop-drop, drop_at}
use Rattle.std.specs.Prelude.{Result, Ok, Err}
use Rattle.refusal.specs.{declared.Refusal.Refusal, Order.Given}
use Rattle.record_spec.specs.{Order.record_order}
use Rattle.files_spec.specs.{declared.Job.Job, declared.How.How, Shows.last_text}
use Rattle.files_spec.specs.declared.How.TheVariants.{On, Over}
use Rattle.files_spec.specs.Catalogues.{Through, over, bad, further, ShowsAll}
use Rattle.files_spec.specs.Blocks.{One, Records, none, more, BadRecord, Left, file_block, FileReaches, verdict_of, Blockwise, part, rest}
use Rattle.files_spec.proofs.{Unique.one-tells, Joined.read-joined, Joined.given-joined}

-- ---- good records

-- a good record, and what stands behind it
one-through : (j : Job) (c : List ℕ) (s : ℕ) (a x z : List ℕ) (v : Result Unit Refusal) (u : List ℕ) → One j s a x → drop s c ≡ a ++ z → Through j c (s + length a) v u → Through j c s v (x ++ u)
one-through j c s a x z v u o e h =
    let g = o.read in
    let l : length (drop s c) ≡ length a + length z = ap length e ∙ length-append a z in
    let q = read-joined a z o.kind g.good.0.1 s o.before o.n o.k (s + length a) o.after g in
    further {s = s} (record { n = o.n; k = o.k; kind = o.kind; next = s + length a }) o.before o.after x (o.room, omega (arith, l, length-drop s c, g.good.0.1), rw e q) o.shows h

pub records-through : (j : Job) (c : List ℕ) (p : ℕ) (b t z : List ℕ) (v : Result Unit Refusal) (u : List ℕ) → Records j p b t → drop p c ≡ b ++ z → Through j c (p + length b) v u →
    Through j c p v (t ++ u)
records-through j c p b t z v u none e h = let q : p + 0 ≡ p = omega arith in rw q at h
records-through j c p b t z v u (more {b = b'} {t = t'} a x r o) e h =
    let f : drop p c ≡ b' ++ (a ++ z) = e ∙ append_assoc b' a z in
    let g : drop (p + length b') c ≡ a ++ z = sym (drop-drop (length b') p c) ∙ ap (drop (length b')) f ∙ drop_at b' (a ++ z) (length b') refl in
    let l : p + length (b' ++ a) ≡ p + length b' + length a = omega (arith, length-append b' a) in
    rw (append_assoc t' x u) (records-through j c p b' t' (a ++ z) v (x ++ u) r f (one-through j c (p + length b') a x z v u o g (rw l at h)))

-- ---- what is left behind them

-- any output of the reader's length
abbrev blank : List ℕ
blank = replicate 64 0

blank-long : length blank ≡ 64
blank-long = refl

ends : (j : Job) (c : List ℕ) (s : ℕ) → s ≡ length c → Through j c s (Ok tt) (last_text j (Ok tt))
ends j c s e = over blank (blank-long, e, refl)

stops : (j : Job) (c : List ℕ) (s : ℕ) (r : Refusal) → s < length c → Given (record_order (drop s c) s) r → Through j c s (Err r) (last_text j (Err r))
stops j c s r l g = bad {s = s} r blank (blank-long) (inr ((blank-long, omega arith), (l, g)), refl)

-- what is left of the catalogue at s begins with what is left of the block, b, and goes on unless that was the last
bad-stops : (j : Job) (c : List ℕ) (s : ℕ) (b z : List ℕ) (last : Bool) (r : Refusal) → drop s c ≡ b ++ z → (last ≡ true → z ≡ []) → BadRecord last b s r →
    Through j c s (Err r) (last_text j (Err r))
bad-stops j c s b z true r e f h =
    let q : drop s c ≡ b = e ∙ ap (λ (y : List ℕ). b ++ y) (f refl) ∙ append-nil b in
    stops j c s r (omega (arith, ap length q, length-drop s c, h.enough)) (rw q h.given)
bad-stops j c s b z false r e f h =
    stops j c s r (omega (arith, ap length e, length-append b z, length-drop s c, h.enough)) (rw e (given-joined b z s r h.enough h.given))

left-through : (j : Job) (c : List ℕ) (s : ℕ) (b z : List ℕ) (last : Bool) (w : Result How Refusal) (v : Result Unit Refusal) (t : List ℕ) → s ≤ length c → drop s c ≡ b ++ z →
    (last ≡ true → z ≡ []) → Left j s b last w t → verdict_of w v → Through j c s v t
left-through j c s b z last (Ok On) v t m e f h k = absurd k
left-through j c s b z last (Ok Over) v t m e f (p, q, r) k =
    let y : drop s c ≡ [] = e ∙ ap (λ (i : List ℕ). i ++ z) q ∙ f p in
    rw (k, r) (ends j c s (omega (arith, ap length y, length-drop s c)))
left-through j c s b z last (Err r) v t m e f (p, q) k = rw (k, q) (bad-stops j c s b z last r e f p)

-- ---- a block

-- the catalogue from p on is the first e bytes of the block, the rest of the block, and what follows it
module _ (c : List ℕ) (p m e : ℕ) (l : e ≤ length (file_block c p m)) where
  abbrev b : List ℕ
  b = file_block c p m

  abbrev z : List ℕ
  z = drop m (drop p c)

  cut : drop p c ≡ take e b ++ (drop e b ++ z)
  cut = sym (take-append-drop m (drop p c)) ∙ ap (λ (y : List ℕ). y ++ z) (sym (take-append-drop e b)) ∙ append_assoc (take e b) (drop e b) z

  long : length (take e b) ≡ e
  long = omega (arith, length-take e b)

  behind : drop (p + e) c ≡ drop e b ++ z
  behind = sym (drop-drop e p c) ∙ ap (drop e) cut ∙ drop_at (take e b) (drop e b ++ z) e long

  inside : p ≤ length c → p + e ≤ length c
  inside h = omega (arith, ap length cut, length-append (take e b) (drop e b ++ z), long, length-drop p c)

  nothing : (last : Bool) → FileReaches c p m last → last ≡ true → z ≡ []
  nothing true h k = rw (drop-drop m p c) (drop_of_length-le c {i = p + m} h)
  nothing false h k = absurd (true≢false (sym k))

  -- the records of the block, and then what is left
  taken-through : (j : Job) (t : List ℕ) (v : Result Unit Refusal) (u : List ℕ) → Records j p (take e b) t → Through j c (p + e) v u → Through j c p v (t ++ u)
  taken-through j t v u r h = records-through j c p (take e b) t (drop e b ++ z) v u r cut (rw long h)

pub run-through : (j : Job) (c : List ℕ) (p : ℕ) (v : Result Unit Refusal) (t : List ℕ) → p ≤ length c → Blockwise j c p v t → Through j c p v t
run-through j c p v t l (part {u = u} m w x s e r) =
    let h : Left j w.place (drop w.used (file_block c p m)) false (Ok On) s.behind = rw e at s.left in
    let f = s.place in
    let q : x ≡ s.shown = s.whole ∙ ap (λ (y : List ℕ). s.shown ++ y) h.2 ∙ append-nil s.shown in
    let k = inside c p m w.used s.inside l in
    let g : Through j c (p + w.used) v u = rw f at (run-through j c w.place v u (omega (arith, f, k)) r) in
    rw q (taken-through c p m w.used s.inside j s.shown v u s.records g)
run-through j c p v t l (rest m last w x q s k) =
    let f = s.place in
    let i = inside c p m w.used s.inside l in
    let h = rw f at s.left in
    rw s.whole (taken-through c p m w.used s.inside j s.shown v s.behind s.records
    (left-through j c (p + w.used) (drop w.used (file_block c p m)) (drop m (drop p c)) last w.how v s.behind i
    (behind c p m w.used s.inside) (nothing c p m w.used s.inside last q) h k))

pub run-tells : (j : Job) (c : List ℕ) (v : Result Unit Refusal) (t : List ℕ) → Blockwise j c 0 v t → ShowsAll j c v t
run-tells j c v t r = run-through j c 0 v t (omega arith) r

pub cut-anyhow : (j : Job) (c : List ℕ) (v w : Result Unit Refusal) (t u : List ℕ) → Blockwise j c 0 v t → Blockwise j c 0 w u → (v ≡ w) × (t ≡ u)
cut-anyhow j c v w t u p q = one-tells j c v w t u (run-tells j c v t p) (run-tells j c w u q)

-- ---- records of more blocks

pub records-joined : (j : Job) (p : ℕ) (b t b' t' : List ℕ) → Records j p b t → Records j (p + length b) b' t' → Records j p (b ++ b') (t ++ t')
records-joined j p b t b' t' r none = rw (append-nil b, append-nil t) r
records-joined j p b t b' t' r (more {b = d} {t = u} a x s o) =
    let e : p + length b + length d ≡ p + length (b ++ d) = omega (arith, length-append b d) in
    rw (sym (append_assoc b d a), sym (append_assoc t u x)) (more a x (records-joined j p b t d u r s) (rw e at o))

-- a catalogue that is these records
pub told_over : (j : Job) (c t : List ℕ) → Records j 0 c t → ShowsAll j c (Ok tt) (t ++ last_text j (Ok tt))
told_over j c t r = records-through j c 0 c t [] (Ok tt) (last_text j (Ok tt)) r (sym (append-nil c)) (ends j c (0 + length c) (omega arith))

-- and one in which bytes stand behind them that are refused
pub told-bad : (j : Job) (c t b : List ℕ) (last : Bool) (r : Refusal) → Records j 0 c t → BadRecord last b (length c) r → ShowsAll j (c ++ b) (Err r) (t ++ last_text j (Err r))
told-bad j c t b last r s h =
    let e : 0 + length c ≡ length c = omega arith in
    records-through j (c ++ b) 0 c t b (Err r) (last_text j (Err r)) s refl
    (rw e (bad-stops j (c ++ b) (length c) b [] last r (drop_at c b (length c) refl ∙ sym (append-nil b)) (λ k. refl) h))
