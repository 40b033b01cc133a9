-- `picture_ring_inner::run_at` meets its contract.
use Rattle.words.proofs.Needs.{ℕ, ◌≡◌, refl, sym, ap, ◌∙◌, List, [], ◌∷◌, length, take, drop, get_or, eqb}
use Rattle.words.proofs.Split.{passes, fails, test}
use borrow.Author.Tests.{tests}
use Rattle.std.proofs.Common.{rules, arith}
use Rattle.std.specs.List.{prefix_len}
use Rattle.std.proofs.lemmas.List.{take_rest}
use Rattle.std.proofs.lemmas.List.Folds.{length-prefix_len}
use Rattle.std.proofs.lemmas.Iterator.{YieldsList-from_slice}
use Rattle.std.proofs.lemmas.Iterator.Consumers.{YieldsList-at, count_from_yields_List}
use Rattle.std.proofs.lemmas.Iterator.Search.{YieldsList-from_take_while}
use Rattle.picture_spec.specs.Arcs.{reach}
use Rattle.picture_ring_inner.proofs.run_at.Goals as goal

-- the front of one shade
front-reach : (s : ℕ) (w : List ℕ) → prefix_len (λ x. eqb x s) w ≡ reach s w
unfolding reach
front-reach s [] = refl
front-reach s (t ∷ w) = elim (test (eqb t s)) [ passes e ↦ rw (e, reach) (omega (arith, front-reach s w)) | fails e ↦ rw (e, reach) refl ]

pub returns : goal.returns
returns c =
    let s = get_or c.args.ring.now c.args.i 0 in
    let w = drop c.args.i c.args.ring.now in
    let n : c.count.result ≡ length (take (prefix_len (λ (x : ℕ). eqb x s) w) w) =
    count_from_yields_List _ _ c.count.ensures.ran
    (YieldsList-from_take_while _ (λ (x : ℕ). eqb x s) (YieldsList-at c.take_while.ensures.source (YieldsList-from_slice w (c.iter.ensures.rest ∙ take_rest c.args.ring.now c.args.i)))
    c.take_while.ensures.closure c.take_while.ensures.done (λ x r q k. search (rules, tests))) in
    n ∙ length-prefix_len (λ (x : ℕ). eqb x s) w ∙ front-reach s w
