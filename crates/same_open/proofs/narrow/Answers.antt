use mathlib.Core.Path.{refl}
use native.Mathlib.Omega.{arith}
use Rattle.same_open.proofs.Laws.{class-told}
use Rattle.same_open.proofs.Seeking.{narrow_start, narrow_step, narrow-end, keeps-own, keeps-facing}
use Rattle.same_open.proofs.narrow.Goals as goal
use Rattle.same_open.proofs.narrow.Goals.{then-b-v, else-b-v}

pub loop-b-init : goal.loop-b-init
loop-b-init c = narrow_start

pub overflow_mul-mask : goal.overflow_mul-mask
overflow_mul-mask c = omega (arith, class-told _ _ c.class.ensures, c.requires.0, c.requires.2)

pub overflow_add-mask : goal.overflow_add-mask
overflow_add-mask c = omega (arith, class-told _ _ c.class.ensures, c.requires.0, c.requires.2)

pub offset_bounds-allowed-class : goal.offset_bounds-allowed-class
offset_bounds-allowed-class c = omega (arith, class-told _ _ c.class.ensures, c.requires.0, c.requires.2)

pub bounds-allowed-class : goal.bounds-allowed-class
bounds-allowed-class c = omega (arith, class-told _ _ c.class.ensures, c.requires.0, c.requires.2)

pub loop-b-preserved : goal.loop-b-preserved
loop-b-preserved c = narrow_step c.loop-b.invariant c.loop-b-test.true (elim c.if-b-v.branch [ then-b-v w ↦ keeps-facing c.requires.1 c.loop-b-test.true w.if-b-v.true w.class.ensures w.mask-is | else-b-v w ↦ keeps-own c.loop-b-test.true w.mask-is ]) (omega (arith, c.requires.0, c.loop-b-test.true)) refl

pub returns : goal.returns
returns c = record { by_index = narrow-end c.loop-b.invariant c.loop-b-test.false; fact = c.loop-b.invariant.dead }
