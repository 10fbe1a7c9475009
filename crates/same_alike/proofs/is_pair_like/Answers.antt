use Rattle.same_alike.proofs.Pairs.{pair-column, pair-self, pair-taken, pair-order}
use Rattle.same_alike.proofs.is_pair_like.Goals as goal

pub returns-then-ok-a : goal.returns-then-ok-a
returns-then-ok-a c = pair-column c.args.sides.o2.now c.args.sides.ok.now c.args.tau.now c.args.a c.args.b c.if-ok-a.true

pub returns-then-a-b : goal.returns-then-a-b
returns-then-a-b c = pair-self c.args.sides.o2.now c.args.sides.ok.now c.args.tau.now c.args.a c.args.b c.if-ok-a.false c.if-a-b.true

pub returns-then-x-y : goal.returns-then-x-y
returns-then-x-y c = pair-taken c.args.sides.o2.now c.args.sides.ok.now c.args.tau.now c.args.a c.args.b c.if-ok-a.false c.if-a-b.false c.if-x-y.true

pub returns : goal.returns
returns c = pair-order c.args.sides.o2.now c.args.sides.ok.now c.args.tau.now c.args.a c.args.b c.if-ok-a.false c.if-a-b.false c.if-x-y.false
