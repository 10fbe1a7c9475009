use Rattle.writing_visit.proofs.Passed.{turn_step, turn_end}
use lib.ListN.{length-set}
use mathlib.Core.Path.{refl}
use native.Mathlib.Omega.{arith}
use Rattle.writing_visit.proofs.number_in_turn.Goals as goal

pub loop-a-preserved : goal.loop-a-preserved
loop-a-preserved c = let i = c.loop-a.invariant in
    let p = c.requires in
    let t = c.loop-a-test.true in
    (simp length-set i.0, (simp length-set i.1.0, turn_step i.1.1 (omega (arith, t, p.n_in_bounds.0, i.0)) (omega (arith, t, p.n_in_bounds.1, i.1.0)) refl refl))

pub returns : goal.returns
returns c = turn_end c.loop-a.invariant.1.1 c.loop-a-test.false
