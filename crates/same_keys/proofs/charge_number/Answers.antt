use mir.Facts.{to_z-of_z, Fits-nat_abs}
use Rattle.same_keys.proofs.Mixing.{charge-below, charge-above}
use Rattle.same_keys.proofs.charge_number.Goals as goal

pub returns-then-c-lt0 : goal.returns-then-c-lt0
returns-then-c-lt0 c = charge-below c.args.c (simp (to_z-of_z c.ranges.c) at c.if-c-lt0.true)

pub overflow_cast-result : goal.overflow_cast-result
overflow_cast-result c = let r = to_z-of_z c.ranges.c in
    simp r ((charge-above c.args.c (simp r at c.if-c-lt0.false)).0, Fits-nat_abs tt c.ranges.c)

pub returns : goal.returns
returns c = let r = to_z-of_z c.ranges.c in
    simp r (charge-above c.args.c (simp r at c.if-c-lt0.false)).1
