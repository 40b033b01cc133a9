-- What the loop of `advance` knows, over plain lists: `Stands` is `Walked` of the theory, with lyn as the number that rises.
--     stands-start          at the start
--     stands-low            what raising asks for
--     full-necklace         a ring of which no place can be raised is a necklace
--     stands-none           no place can be raised: there is none of the kind
--     stands-rises          each move raises lyn
--     stands-found          the next prenecklace is of the kind
--     stands_on             it is not
--     Risen, risen          so what is known behind a place that was raised
use Rattle.std.specs.Prelude.{Some, None}
use Rattle.words.proofs.Plain.{ℕ, ◌+◌, ◌-◌, ◌<◌, ◌≤◌, add-one, arith, ◌≡◌, refl, sym, ap, ◌∙◌, ⊎_elim, ◌⊎◌, inl, inr, true, false, List, length, get_or}
use Rattle.words.specs.{Order.before, Order.up_to, Readings.Reading}
use Rattle.words.proofs.Split.{clash, lt, eq, gt, tri}
use Rattle.words.proofs.Lex.{ahead, equal, behind, lex, before-irrefl, before-not-up_to}
use Rattle.words.proofs.Sequence.{sec}
use Rattle.rings.specs.{Necklace.necklace, Prenecklace.lyn}
use Rattle.rings.specs.Next.{last_low, raised, repeated, next_prenecklace}
use Rattle.ring_laws.proofs.{Run.Run, Bound.lyn-rises}
use Rattle.ring_laws.proofs.Lyndon.{run-necklace}
use Rattle.ring_laws.proofs.Next.{low-le, low-at, low-none, length-next, next-is-run, next-lyn-low}
use Rattle.ring_laws.proofs.Walk.{Walked, walk_start_lem, walk-found, walk-on, walk-done}
use Rattle.walk_kind_laws.specs.declared.Kind as K
use Rattle.walk_kind_laws.specs.Kinds.{kind_of, kind_at, ReadyToStep}
use Rattle.walk_kind_laws.proofs.ByLyn.{kind-only, kind-at, kind-full}
use Rattle.walk_moves_inner.specs.Going.{FoundAt}

-- where every sector is k - 1 the ring is a necklace
full-necklace : (k : ℕ) (v : List ℕ) → Reading (length v) k v → 0 < length v → last_low k v ≡ 0 → necklace v ≡ true
full-necklace k v r z e =
    run-necklace v 1 (record { pos = omega arith; fits = z; again = λ i j q b. top i b ∙ sym (top j (omega arith)); lyn = λ i a b. absurd (omega arith) }) (omega arith)
  where
    top : (i : ℕ) → i < length v → get_or v i 0 ≡ k - 1
    top i b = omega (arith, low-none k v i (omega arith) b, r.shades i b)

-- lyn is 0 where the step stands at its start, and the ring's own once it has moved; the moves are at most as many
pub record Stands (kind : K.Kind) (k : ℕ) (start ring : List ℕ) (p m : ℕ) : Type 0 where
  pub walked : Walked (kind_of kind) k start ring m
  pub few : m ≤ p
  pub short : p < length start
  pub lyn-is : (p ≡ 0) ⊎ (p ≡ lyn ring)

-- the ring was raised at place i, and is next: what is then known; it is of each kind where i is the last place, and else by the test of its kind
pub record Risen (kind : K.Kind) (k : ℕ) (start : List ℕ) (p m i : ℕ) (next : List ℕ) : Type 0 where
  pub fits : i ≤ length next
  pub long : length next ≡ length start
  pub short : p < length start
  pub rises : p < i
  pub last : i ≡ length next → FoundAt kind k start next (Some i) (m + 1)
  pub found : kind_at kind (length next) i ≡ true → FoundAt kind k start next (Some i) (m + 1)
  pub on : kind_at kind (length next) i ≡ false → Stands kind k start next i (m + 1)

module _ {kind : K.Kind} {k : ℕ} {start : List ℕ} (ready : ReadyToStep k start) where
  pub stands-start : Stands kind k start start 0 0
  stands-start =
      record { walked = walk_start_lem (kind_of kind) k start ready.reading ready.pre; few = omega arith; short = ready.pos; lyn-is = inl refl }

  module _ {ring : List ℕ} {p m i : ℕ} (at : Stands kind k start ring p m) (low : i ≡ last_low k ring) where
    own : Reading (length ring) k ring
    own = rw at.walked.long at.walked.reading

    -- the place to raise is in the ring, and the sector there is no byte's greatest
    pub stands-low : (a : ℕ) → i ≡ a + 1 → (a < length ring) × (get_or ring a 0 < 255)
    stands-low a e =
        let q : last_low k ring - 1 ≡ a = omega (arith, low) in
        (omega (arith, low, low-le k ring), omega (arith, rw q at (low-at k ring (rw (← low) (let z : 0 < i = omega arith in z))), ready.few))

    -- no place can be raised: there is none of the kind, and a step by necklaces has not moved, since the last ring is a necklace
    pub stands-none : i ≡ 0 → FoundAt kind k start ring None m
    unfolding kind_of
    stands-none e =
        let d = walk-done (kind_of kind) k start ring m at.walked (sym low ∙ e) in
        (d.0, d.1, λ n. still (ap (λ (x : K.Kind). kind_of x ring) n ∙ full-necklace k ring own (omega (arith, at.walked.long, ready.pos)) (sym low ∙ e)))
      where
        still : kind_of kind ring ≡ true → ring ≡ start
        still q =
            elim (lex start ring) [
              | ahead l ↦ clash (before ring ring) (at.walked.met ring at.walked.reading q l) (before-irrefl ring)
              | equal d ↦ sym d
              | behind l ↦ clash (up_to start ring) at.walked.past (before-not-up_to start ring l)
            ]

    -- each move raises lyn
    stands-rises : 0 < i → p < i
    stands-rises z =
        ⊎_elim (λ e. omega arith)
        (λ e. let r = lyn-rises k ring own (omega (arith, at.walked.long, ready.pos)) at.walked.pre (omega arith) (omega (arith, at.short, at.walked.long)) in omega arith)
        at.lyn-is

    module _ (z : 0 < i) {next : List ℕ} (moved : next ≡ repeated (length ring) (raised i ring)) where
      lifted : 0 < last_low k ring
      lifted = rw (← low) z

      moved-next : next ≡ next_prenecklace k ring
      unfolding next_prenecklace
      moved-next = rw low at moved

      moved-long : length next ≡ length ring
      moved-long = ap length moved-next ∙ length-next k ring

      next-run : Run (sec (next_prenecklace k ring)) (length (next_prenecklace k ring)) i
      next-run = rw low (next-is-run k ring lifted at.walked.pre)

      -- whether the next prenecklace is of the kind
      next-kind : kind_of kind (next_prenecklace k ring) ≡ kind_at kind (length next) i
      next-kind = rw moved-next (kind-at kind (next_prenecklace k ring) i next-run)

      -- it is of the kind
      stands-found : kind_at kind (length next) i ≡ true → FoundAt kind k start next (Some i) (m + 1)
      stands-found q =
          let f = walk-found (kind_of kind) k start ring m at.walked (kind-only kind) lifted (next-kind ∙ q) in
          (rw moved-next f.0, rw (moved-next, add-one m) f.1, rw moved-next (next-lyn-low k ring lifted at.walked.pre ∙ sym low), z)

      -- it is not
      stands_on : kind_at kind (length next) i ≡ false → Stands kind k start next i (m + 1)
      stands_on q =
          record {
            walked = rw (moved-next, add-one m) (walk-on (kind_of kind) k start ring m at.walked (kind-only kind) lifted (next-kind ∙ q));
            few = omega (arith, at.few, stands-rises z);
            short =
                elim (tri i (length start)) [
                  | lt l ↦ l
                  | eq l ↦ clash (kind_at kind (length next) i) (rw (moved-long, at.walked.long, l) (kind-full kind (length start))) q
                  | gt l ↦ absurd (omega (arith, low-le k ring, at.walked.long))
                ];
            lyn-is = inr (rw moved-next (low ∙ sym (next-lyn-low k ring lifted at.walked.pre)));
          }

      pub risen : Risen kind k start p m i next
      risen =
          record {
            fits = omega (arith, low, low-le k ring, moved-long);
            long = moved-long ∙ at.walked.long;
            short = at.short;
            rises = stands-rises z;
            last = λ e. stands-found (rw e (kind-full kind (length next)));
            found = stands-found;
            on = stands_on;
          }
