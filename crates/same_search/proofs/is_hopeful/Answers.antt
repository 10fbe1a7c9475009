use Rattle.same_search.proofs.Laws.{hope-marked, hope-unlike, hope-placed}
use Rattle.same_search.proofs.is_hopeful.Goals as goal

pub returns-then-dead-d-eq1 : goal.returns-then-dead-d-eq1
returns-then-dead-d-eq1 c = hope-marked c.args.sides.o1.now c.args.sides.o2.now c.args.sides.ok.now c.args.k1.now c.args.k2.now c.args.dead.now c.args.placed.ren.now c.args.placed.from c.args.d c.if-dead-d-eq1.true

pub returns-then-k1-from : goal.returns-then-k1-from
returns-then-k1-from c = hope-unlike c.args.sides.o1.now c.args.sides.o2.now c.args.sides.ok.now c.args.k1.now c.args.k2.now c.args.dead.now c.args.placed.ren.now c.args.placed.from c.args.d c.if-dead-d-eq1.false c.if-k1-from.true

pub returns : goal.returns
returns c = hope-placed c.args.sides.o1.now c.args.sides.o2.now c.args.sides.ok.now c.args.k1.now c.args.k2.now c.args.dead.now c.args.placed.ren.now c.args.placed.from c.args.d c.if-dead-d-eq1.false c.if-k1-from.false c.placeable.ensures
