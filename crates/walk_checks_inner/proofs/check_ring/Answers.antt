-- `walk_checks_inner::check_ring` meets its contract: behind the check of the numbers the first scan settles the sectors up to n, and the second those past n.
use Rattle.words.proofs.Needs.{rules}
use Rattle.words.proofs.Needs.{arith, ◌≡◌, refl, inl, inr, true, length}
use Rattle.walk_checks_inner.proofs.Sectors.{head-good, tail-bad, tail-good}
use Rattle.refusal.proofs.More.{numbers-passed}
use Rattle.walk_checks_inner.proofs.check_ring.Goals as goal

pub returns-then-past-n : goal.returns-then-past-n
returns-then-past-n c =
    let g = numbers-passed c.args.n c.args.n c.args.k Unit (λ q. tt) c.in_ok-check_numbers.ensures in
    let l : length c.args.ring ≡ 64 = search rules in
    let low = head-good c.args.n c.args.k c.args.ring true (omega arith) _ c.first_bad-at.ensures c.if-at-n.false in
    inl (inl (inl (inr (g, (_, refl, tail-bad c.args.n c.args.k c.args.ring true (omega arith) low l _ c.first_bad-past.ensures c.if-past-n.true)))))

pub returns : goal.returns
returns c =
    let g = numbers-passed c.args.n c.args.n c.args.k Unit (λ q. tt) c.in_ok-check_numbers.ensures in
    let l : length c.args.ring ≡ 64 = search rules in
    let low = head-good c.args.n c.args.k c.args.ring true (omega arith) _ c.first_bad-at.ensures c.if-at-n.false in
    ((((g, tail-good c.args.n c.args.k c.args.ring true (omega arith) low l _ c.first_bad-past.ensures c.if-past-n.false), tt), tt), refl)
