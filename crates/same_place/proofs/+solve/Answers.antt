use Rattle.std.proofs.Common.{arith}
use Rattle.same_place.proofs.Laws.{all_placed, trying_start, prefix-next, trying-not, trying-next, trying-found, trying-end}
use Rattle.same_place.proofs.+solve.Goals as goal
use Rattle.same_place.proofs.+solve.Goals.{then-placeable+else-solve, else-placeable}

pub returns-then-from-n : goal.returns-then-from-n
returns-then-from-n t c = all_placed _ _ _ c.requires c.if-from-n.true

pub loop-d-init : goal.loop-d-init
loop-d-init t c = trying_start _ _ _ c.requires c.if-from-n.false

pub solve-requires : goal.solve-requires
solve-requires t c =
    (omega (arith, c.decreases, c.requires.upto, c.if-from-n.false), prefix-next _ _ _ c.requires c.if-from-n.false c.loop-d.d c.loop-d.invariant c.loop-d-test.true)

pub returns-then-solve : goal.returns-then-solve
returns-then-solve t c = trying-found _ _ _ c.requires c.if-from-n.false c.loop-d.invariant c.loop-d-test.true c.placeable.ensures c.if-placeable.true c.solve.ensures c.if-solve.true

pub loop-d-preserved : goal.loop-d-preserved
loop-d-preserved t c =
    let s = c.requires in
    let l = c.if-from-n.false in
    let v = c.loop-d.invariant in
    let i = c.loop-d-test.true in
    let p = c.placeable.ensures in
    elim c.if-placeable.branch [ then-placeable+else-solve w ↦ trying-next _ _ _ s l v i p w.if-placeable.true w.solve.ensures w.if-solve.false w.ren-is | else-placeable w ↦ trying-not _ _ _ s l v i p w.if-placeable.false w.ren-is ]

pub returns : goal.returns
returns t c = trying-end _ _ _ c.requires c.if-from-n.false c.loop-d.invariant c.loop-d-test.false
