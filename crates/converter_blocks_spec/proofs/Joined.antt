-- An old catalogue a, and bytes b behind it.
--     joined                           a record that a begins with stands in a ++ b as it did
--     sound-joined, damage-joined      behind good records, what b is tells of the whole
--     turned-joined                    the new catalogues stand behind one another too
--     damage-lasts                     a refusal other than Cut stays, whatever follows
use Rattle.words.proofs.Plain.{ℕ, ◌+◌, ◌<◌, ◌≤◌, arith, ◌≡◌, refl, sym, ap, ◌∙◌, inl, inr, List, ◌++◌, length, get_or, drop}
use Rattle.words.proofs.Plain.{length-append, length-drop, List·get_d-append, take-append-le, drop-append-le}
use Rattle.refusal.specs.{declared.Refusal.Refusal, Order.Given}
use Rattle.record_spec.specs.{declared.Kind.TheVariants.Front, Order.After9, Order.behind_order}
use Rattle.record_spec.specs.Layout.{n_of, k_of, sectors_of}
use Rattle.converter_spec.specs.Sides.{Side, SideMarked, front_ring}
use Rattle.converter_spec.specs.{Reads.old_order, Converts.Sound.ended, Converts.Sound.more}
use Rattle.converter_spec.specs.Converts.{Sound, Turned, Damaged, FrontOf}
use Rattle.converter_spec.specs.{Converts.Turned.done, Converts.Turned.replaced, Converts.Damaged.here, Converts.Damaged.later}
use Rattle.converter_spec.proofs.Fronts.{front_long}
use Rattle.converter_blocks_spec.specs.Blocks.{Lasting}

module _ (a b : List ℕ) (l : 4 ≤ length a) where
  byte : (i : ℕ) → i < 4 → get_or (a ++ b) i 0 ≡ get_or a i 0
  byte i h = List·get_d-append a b 0 i (omega arith)

  pub same-n : n_of (a ++ b) ≡ n_of a
  same-n = byte 2 (omega arith)

  same-k : k_of (a ++ b) ≡ k_of a
  same-k = byte 3 (omega arith)

  pub marked-joined : (x : Side) → SideMarked a x → SideMarked (a ++ b) x
  marked-joined x m = rw (byte 0 (omega arith), byte 1 (omega arith)) m

  marked-here : (x : Side) → SideMarked (a ++ b) x → SideMarked a x
  marked-here x m = rw (byte 0 (omega arith), byte 1 (omega arith)) at m

  -- the body, where it is all there
  same_body : 4 + n_of a ≤ length a → sectors_of (a ++ b) ≡ sectors_of a
  same_body h = rw (same-n, drop-append-le 4 a b l) (take-append-le (n_of a) (drop 4 a) b (simp length-drop (omega arith)))

  -- what stands behind it
  pub behind : 4 + n_of a ≤ length a → drop (4 + n_of (a ++ b)) (a ++ b) ≡ drop (4 + n_of a) a ++ b
  behind h = rw same-n (drop-append-le (4 + n_of a) a b h)

  longer : length a ≤ length (a ++ b)
  longer = omega (arith, length-append a b)

  pub good-joined : After9 a → After9 (a ++ b)
  good-joined g =
      let q = same_body g.0.1 in
      (((rw same-n g.0.0.0, rw same-k g.0.0.1), omega (arith, same-n, longer, g.0.1)), ((rw (q, same-k) g.1.0.0, refl), rw q g.1.1))

  behind-joined : (s : ℕ) (r : Refusal) → Lasting r → Given (behind_order Front a s) r → Given (behind_order Front (a ++ b) s) r
  behind-joined s r k (inl (inl (inl (e, f)))) = inl (inl (inl (e, rw same-n f)))
  behind-joined s r k (inl (inl (inr (g, (e, f))))) = inl (inl (inr (rw same-n g, (e, rw same-k f))))
  behind-joined s r k (inl (inr (g, (e, f)))) = absurd (k s e)
  behind-joined s r k (inr (g, f)) =
      let q = same_body g.1 in
      inr (((rw same-n g.0.0, rw same-k g.0.1), omega (arith, same-n, longer, g.1)), rw (q, same-n, same-k) f)

-- a record that is refused otherwise than with Cut is refused so
pub broken-joined : (a b : List ℕ) (s : ℕ) (r : Refusal) → Lasting r → Given (old_order a s) r → Given (old_order (a ++ b) s) r
broken-joined a b s r k (inl (inl (e, l))) = absurd (k s e)
broken-joined a b s r k (inl (inr (l, (e, f)))) = inl (inr (omega (arith, longer a b l), (e, λ m. f (m.0, marked-here a b l m.0 m.1))))
broken-joined a b s r k (inr ((l, (x, m)), f)) = inr ((omega (arith, longer a b l), (x, marked-joined a b l x m)), behind-joined a b l s r k f)

-- ---- good records

-- a head is there
pub long : (a : List ℕ) → After9 a → 4 ≤ length a
long a g = omega (arith, g.0.1)

pub sound-joined : (a b : List ℕ) → Sound a → Sound b → Sound (a ++ b)
sound-joined a b (ended e) h = rw e h
sound-joined a b (more x m g r) h =
    more {t = a ++ b} x (marked-joined a b (long a g) x m) (good-joined a b (long a g) g) (rw (behind a b (long a g) g.0.1) (sound-joined (drop (4 + n_of a) a) b r h))

pub damage-joined : (a b : List ℕ) (s : ℕ) (r : Refusal) → Sound a → Damaged b (s + length a) r → Damaged (a ++ b) s r
damage-joined a b s r (ended e) h =
    let k : s + length a ≡ s = rw e (omega arith) in
    let q : Damaged b s r = rw k at h in
    rw e q
damage-joined a b s r (more x m g q) h =
    let k : s + length a ≡ s + 4 + n_of a + length (drop (4 + n_of a) a) = omega (arith, length-drop (4 + n_of a) a, g.0.1) in
    later {t = a ++ b} {s = s} {r = r} x (marked-joined a b (long a g) x m) (good-joined a b (long a g) g)
    (rw (behind a b (long a g) g.0.1, same-n a b (long a g)) (damage-joined (drop (4 + n_of a) a) b (s + 4 + n_of a) r q (rw k at h)))

pub damage-lasts : (a b : List ℕ) (s : ℕ) (r : Refusal) → Lasting r → Damaged a s r → Damaged (a ++ b) s r
damage-lasts a b s r k (here l h) = here {t = a ++ b} (omega (arith, length-append a b)) (broken-joined a b s r k h)
damage-lasts a b s r k (later x m g d) =
    later {t = a ++ b} {s = s} {r = r} x (marked-joined a b (long a g) x m) (good-joined a b (long a g) g)
    (rw (behind a b (long a g) g.0.1, same-n a b (long a g)) (damage-lasts (drop (4 + n_of a) a) b (s + 4 + n_of a) r k d))

-- ---- the new catalogue

-- the front record of a record of a
front-joined : (a b u v : List ℕ) (x : Side) → After9 a → FrontOf x a u → FrontOf x (a ++ b) (u ++ v)
front-joined a b u v x g f =
    record {
      marked = rw (byte u v z 0 (omega arith), byte u v z 1 (omega arith)) f.marked;
      sectors = same-n a b w ∙ f.sectors ∙ sym (same-n u v z);
      shades = same-k a b w ∙ f.shades ∙ sym (same-k u v z);
      ring = ap (front_ring x) (same_body a b w g.0.1) ∙ f.ring ∙ sym (same_body u v z (omega (arith, front_long a g x u f, f.sectors)));
    }
  where
    w : 4 ≤ length a
    w = long a g

    z : 4 ≤ length u
    z = omega (arith, front_long a g x u f)

pub turned-joined : (a b u v : List ℕ) → Turned a u → Turned b v → Turned (a ++ b) (u ++ v)
turned-joined a b u v (done e f) h = rw (e, f) h
turned-joined a b u v (replaced x m g f r) h =
    replaced {t = a ++ b} {u = u ++ v} x (marked-joined a b (long a g) x m) (good-joined a b (long a g) g) (front-joined a b u v x g f)
    (rw (behind a b (long a g) g.0.1, same-n a b (long a g), drop-append-le (4 + n_of a) u v (front_long a g x u f)) (turned-joined (drop (4 + n_of a) a) b (drop (4 + n_of a) u) v r h))
