use borrow.Author.Tests.{eqb-true}
use Rattle.writing_visit.proofs.Passed.{up-less, held_up, held-cast}
use Prim.Native.Nat.{◌<◌}
use native.Mathlib.Omega.{arith}
use Rattle.writing_visit.proofs.is_above.Goals as goal

pub loop-preserved : goal.loop-preserved
loop-preserved c = let i = c.loop.invariant in
    let n = c.requires.nested in
    let some : 0 < c.loop.a = omega (arith, c.if-a-to.false) in
    (omega (arith, up-less n some i.0, i.0), held_up n some i.0 i.1)

pub returns : goal.returns
returns c = λ e. held-cast (eqb-true _ _ e) c.loop.invariant.1
