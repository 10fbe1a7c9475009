use native.Mathlib.Omega.{arith}
use Rattle.same_mirror.proofs.Passing.{mark-start, mark-same, mark-more, mark-own}
use Rattle.same_mirror.proofs.mark.Goals as goal
use Rattle.same_mirror.proofs.mark.Goals.{then-cand-turn+then-is_alike, then-cand-turn+else-is_alike, else-cand-turn}

pub bounds-dead-d : goal.bounds-dead-d
bounds-dead-d c = omega (arith, c.requires.0, c.requires.2)

pub loop-e-init : goal.loop-e-init
loop-e-init c = mark-start c.requires.2

pub is_alike-requires : goal.is_alike-requires
is_alike-requires c = (c.requires.0, c.requires.2, c.loop-e-test.true)

pub spread-requires : goal.spread-requires
spread-requires c = c.requires.0

pub loop-e-preserved : goal.loop-e-preserved
loop-e-preserved c =
    let v = c.loop-e.invariant in
    let i = c.loop-e-test.true in
    elim c.if-cand-turn.branch [ then-cand-turn+then-is_alike w ↦ mark-more v i w.dead-is w.spread.ensures c.requires.1 (w.is_alike.ensures w.if-is_alike.true) (omega (arith, w.left-is, w.pay-left.ensures)) | then-cand-turn+else-is_alike w ↦ mark-same v i w.dead-is (omega (arith, w.left-is, w.pay-left.ensures)) | else-cand-turn w ↦ mark-same v i w.dead-is (omega (arith, w.left-is)) ]

pub returns : goal.returns
returns c = record { upper_bound = c.loop-e.invariant.paid; by_index = λ p g a. c.loop-e.invariant.marked p g (mark-own c.args.dead.now g a) }
