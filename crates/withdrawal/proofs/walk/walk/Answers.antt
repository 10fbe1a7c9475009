use mathlib.Core.Path.{◌∙◌}
use Rattle.withdrawal.proofs.Walking.{said, seen_same}
use Rattle.register.proofs.Rules.{valid-is}
use Rattle.withdrawal.proofs.Walking.{seen_start, seen_other, seen-unsure, walked_end, walked-listed}
use Rattle.register.specs.Layout.{count as entries}
use Rattle.same_model.specs.Same.{molecule}
use native.Mathlib.Omega.{arith}
use Prim.Native.Nat.{◌<◌}
use Rattle.withdrawal.proofs.walk.walk.Goals as goal
use Rattle.withdrawal.proofs.walk.walk.Goals.{in-Other, in-Unsure}

pub loop-p-init : goal.loop-p-init
loop-p-init c = seen_start _ _

pub tag-requires : goal.tag-requires
tag-requires c = let p = c.requires.size_in_bounds in (omega (arith, (valid-is _ p.1).few, c.loop-p-test.true, c.count-count.ensures), p.0)

pub returns-in-Listed : goal.returns-in-Listed
returns-in-Listed c = walked-listed _ _ c.loop-p.invariant (omega (arith, c.loop-p-test.true, c.count-count.ensures)) c.tag.ensures (said _ c.body-body.ensures c.in-Listed.is c.judge-v.ensures)

pub loop-p-preserved : goal.loop-p-preserved
loop-p-preserved c = let a = c.args in
    let l : c.loop-p.p < entries a.held.now = omega (arith, c.loop-p-test.true, c.count-count.ensures) in
    elim c.match-v.branch [
      | in-Other w ↦ seen_same a.held.now (molecule a.tables.atoms.now a.tables.bonds.now a.tables.n a.tables.m) w.unsure-is (seen_other _ _ c.loop-p.invariant l (said _ c.body-body.ensures w.in-Other.is c.judge-v.ensures))
      | in-Unsure w ↦ seen-unsure _ _ c.loop-p.invariant l (said _ c.body-body.ensures w.in-Unsure.is c.judge-v.ensures) (w.unsure-is ∙ w.or-unsure.ensures)
    ]

pub returns : goal.returns
returns c = walked_end _ _ c.loop-p.invariant (omega (arith, c.loop-p-test.false, c.count-count.ensures)) c.conclude.ensures
