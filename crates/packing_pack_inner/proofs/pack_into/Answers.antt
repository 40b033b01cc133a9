-- `packing_pack_inner::pack_into` meets its contract. The loop's invariant: the written bytes and the held bits are the taken sectors as one number.
use Rattle.words.proofs.Plain.{◌-◌, arith, sym, ◌∙◌, length-set}
use Rattle.packing_laws.proofs.Moving.{held-lt}
use Rattle.packing_pack_inner.proofs.Packs.{packs-start, packs-on, packs-fits, packs-room, packs-given, packs-end, last-room, packs-last}
use Rattle.packing_pack_inner.proofs.pack_into.Goals as goal

pub loop-i-init : goal.loop-i-init
loop-i-init c = packs-start _ _ _ c.requires.0 c.requires.1 c.requires.2

pub bounds-sectors-i : goal.bounds-sectors-i
bounds-sectors-i c = omega arith

pub appended-rest-requires : goal.appended-rest-requires
appended-rest-requires c = (held-lt _ _ c.loop-i.invariant.moved.held (omega arith), c.loop-i.invariant.narrow)

pub overflow_add-held : goal.overflow_add-held
overflow_add-held c = omega (arith, c.loop-i.invariant.few, c.loop-i.invariant.narrow)

pub overflow_add-i : goal.overflow_add-i
overflow_add-i c = omega arith

pub loop-i-smaller-then-held-lt8 : goal.loop-i-smaller-then-held-lt8
loop-i-smaller-then-held-lt8 c = omega arith

pub loop-i-preserved-then-held-lt8 : goal.loop-i-preserved-then-held-lt8
loop-i-preserved-then-held-lt8 c = packs-on _ _ _ _ _ _ _ c.loop-i.invariant (omega arith) _ c.appended-rest.ensures (omega arith)

pub upper-requires : goal.upper-requires
upper-requires c =
    (omega (arith, c.loop-i.invariant.few, c.loop-i.invariant.narrow), packs-fits _ _ _ _ _ _ _ c.loop-i.invariant (omega arith) _ c.appended-rest.ensures (omega arith))

pub bounds-out-j : goal.bounds-out-j
bounds-out-j c = packs-room _ _ _ _ _ _ _ c.loop-i.invariant (omega arith) _ c.appended-rest.ensures (omega arith)

pub lower-rest-requires : goal.lower-rest-requires
lower-rest-requires c = omega (arith, c.loop-i.invariant.few, c.loop-i.invariant.narrow)

pub overflow_add-j : goal.overflow_add-j
overflow_add-j c =
    omega (arith, packs-room _ _ _ _ _ _ _ c.loop-i.invariant (omega arith) _ c.appended-rest.ensures (omega arith))

pub loop-i-smaller : goal.loop-i-smaller
loop-i-smaller c = omega arith

pub loop-i-preserved : goal.loop-i-preserved
loop-i-preserved c =
    packs-given _ _ _ _ _ _ _ c.loop-i.invariant (omega arith) _ c.appended-rest.ensures (omega arith) _ _
    c.upper.ensures c.lower-rest.ensures

pub highest-requires : goal.highest-requires
highest-requires c =
    (omega (arith, c.loop-i.invariant.few), omega (arith, c.loop-i.invariant.moved.held, held-lt _ _ c.loop-i.invariant.moved.held (omega (arith, c.loop-i.invariant.few))))

pub bounds-out-j-then-held-gt0 : goal.bounds-out-j-then-held-gt0
bounds-out-j-then-held-gt0 c = last-room _ _ _ _ _ _ _ c.loop-i.invariant (omega arith) (omega arith)

pub shape_of-out-then-held-gt0 : goal.shape_of-out-then-held-gt0
shape_of-out-then-held-gt0 c = simp length-set (c.loop-i.invariant.long ∙ sym c.requires.2)

pub returns-then-held-gt0 : goal.returns-then-held-gt0
returns-then-held-gt0 c = packs-last _ _ _ _ _ _ _ c.loop-i.invariant (omega arith) (omega arith) _ c.highest.ensures

pub shape_of-out-else-held-gt0 : goal.shape_of-out-else-held-gt0
shape_of-out-else-held-gt0 c = c.loop-i.invariant.long ∙ sym c.requires.2

pub returns-else-held-gt0 : goal.returns-else-held-gt0
returns-else-held-gt0 c = packs-end _ _ _ _ _ _ _ c.loop-i.invariant (omega arith) (omega arith)
