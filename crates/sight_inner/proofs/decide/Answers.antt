-- `sight_inner::decide` meets its contract: what is near from the front and what from behind, put together (Both).
use Rattle.words.proofs.Needs.{length}
use Rattle.sight_inner.proofs.Both.{alone-inside, back_some, back_fits, many-front, many-behind, one_each, nobody, seen_front, seen_back}
use Rattle.sight_inner.proofs.decide.Goals as goal

pub which_near-front-requires : goal.which_near-front-requires
which_near-front-requires c = (c.requires.0, c.requires.1)

pub which_near-behind-requires : goal.which_near-behind-requires
which_near-behind-requires c = (
  back_some c.args.most c.args.rings.now c.args.reading.now c.args.back.now c.requires.0 c.requires.2,
  back_fits c.args.most c.args.rings.now c.args.reading.now c.args.back.now c.requires.0 c.requires.2 c.requires.1,
)

pub nearest_to-t-requires : goal.nearest_to-t-requires
nearest_to-t-requires c =
    (c.requires.0, alone-inside c.args.most (length c.args.reading.now) c.args.rings.now c.args.reading.now c.in-One.j (rw c.in-One.is at c.which_near-front.ensures))

pub nearest_to-t-requires-in-One-behind-2 : goal.nearest_to-t-requires-in-One-behind-2
nearest_to-t-requires-in-One-behind-2 c = (
  back_some c.args.most c.args.rings.now c.args.reading.now c.args.back.now c.requires.0 c.requires.2,
  alone-inside c.args.most (length c.args.back.now)
      c.args.rings.now c.args.back.now c.in-One-behind-2.j (rw c.in-One-behind-2.is at c.which_near-behind.ensures),
)

pub returns-in-Many : goal.returns-in-Many
returns-in-Many c =
    many-front c.args.most c.args.rings.now c.args.reading.now c.args.back.now c.requires.0 c.requires.2 (rw c.in-Many.is at c.which_near-front.ensures)

pub returns-in-Many-behind : goal.returns-in-Many-behind
returns-in-Many-behind c =
    many-behind c.args.most c.args.rings.now c.args.reading.now c.args.back.now c.requires.0 c.requires.2 (rw c.in-Many-behind.is at c.which_near-behind.ensures)

pub returns-in-One-behind : goal.returns-in-One-behind
returns-in-One-behind c =
    one_each c.args.most c.args.rings.now c.args.reading.now c.args.back.now c.requires.0 c.requires.2 c.in-One.j c.in-One-behind.field-0
    (rw c.in-One.is at c.which_near-front.ensures) (rw c.in-One-behind.is at c.which_near-behind.ensures)

pub returns-in-Nobody-behind : goal.returns-in-Nobody-behind
returns-in-Nobody-behind c =
    seen_front c.args.most c.args.rings.now c.args.reading.now c.args.back.now c.requires.0 c.requires.2 c.in-One.j _ _ (rw c.in-One.is at c.which_near-front.ensures)
    (rw c.in-Nobody-behind.is at c.which_near-behind.ensures) c.nearest_to-t.ensures

pub returns-in-Many-behind-2 : goal.returns-in-Many-behind-2
returns-in-Many-behind-2 c =
    many-behind c.args.most c.args.rings.now c.args.reading.now c.args.back.now c.requires.0 c.requires.2 (rw c.in-Many-behind-2.is at c.which_near-behind.ensures)

pub returns-in-One-behind-2 : goal.returns-in-One-behind-2
returns-in-One-behind-2 c =
    seen_back c.args.most c.args.rings.now c.args.reading.now c.args.back.now c.requires.0 c.requires.2 c.in-One-behind-2.j _ _
    (rw c.in-Nobody.is at c.which_near-front.ensures) (rw c.in-One-behind-2.is at c.which_near-behind.ensures) c.nearest_to-t-in-One-behind-2.ensures

pub returns-in-Nobody-behind-2 : goal.returns-in-Nobody-behind-2
returns-in-Nobody-behind-2 c =
    nobody c.args.most c.args.rings.now c.args.reading.now c.args.back.now c.requires.0 c.requires.2 (rw c.in-Nobody.is at c.which_near-front.ensures)
    (rw c.in-Nobody-behind-2.is at c.which_near-behind.ensures)
