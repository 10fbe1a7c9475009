use Rattle.writing_visit.proofs.Passed.{cleared-step, cleared-end}
use mathlib.Core.Path.{refl}
use native.Mathlib.Omega.{arith}
use Rattle.writing_visit.proofs.clear.Goals as goal

pub loop-a-preserved : goal.loop-a-preserved
loop-a-preserved c = let i = c.loop-a.invariant in
    let p = c.requires in
    let t = c.loop-a-test.true in
    (omega (arith, i.0), (cleared-step i.1.0 i.0 (omega (arith, i.1.0.long, t, p.0)) refl, cleared-step i.1.1 i.0 (omega (arith, i.1.1.long, t, p.1)) refl))

pub returns : goal.returns
returns c = let i = c.loop-a.invariant in record { cleared = cleared-end i.1.0 c.loop-a-test.false; cleared_2 = cleared-end i.1.1 c.loop-a-test.false }
