use Prim.Native.Nat.{◌%◌}
use native.Mathlib.Omega.{arith}
use Rattle.same_mirror.proofs.Checking.{all_start, all-step, all_end, refused, faced-next, faced-all}
use Rattle.same_mirror.proofs.has_same_faces.Goals as goal
use Rattle.same_mirror.proofs.has_same_faces.Goals.{then-d-n+else-not-is_faced, else-d-n}

pub loop-i-init : goal.loop-i-init
loop-i-init c = all_start

pub overflow_cast-j : goal.overflow_cast-j
overflow_cast-j c = omega (arith, c.requires.0, c.requires.1 (c.loop-i.i % 64) c.if-d-n.true, c.loop-i-test.true)

pub overflow_add-j : goal.overflow_add-j
overflow_add-j c = omega (arith, c.requires.0, c.requires.1 (c.loop-i.i % 64) c.if-d-n.true, c.loop-i-test.true)

pub is_faced-requires : goal.is_faced-requires
is_faced-requires c = record { n_le_max_same = c.requires; i_lt_allowed_masks = omega (arith, c.requires.0, c.requires.1 (c.loop-i.i % 64) c.if-d-n.true, c.loop-i-test.true) }

pub returns-then-not-is_faced : goal.returns-then-not-is_faced
returns-then-not-is_faced c = refused

pub loop-i-preserved : goal.loop-i-preserved
loop-i-preserved c = all-step c.loop-i.invariant (omega (arith, c.loop-i-test.true))
    (elim c.if-d-n.branch [ then-d-n+else-not-is_faced w ↦ faced-next c.args.allowed.now c.args.like.now c.loop-i.invariant w.if-d-n.true (w.is_faced.ensures w.if-not-is_faced.false) | else-d-n w ↦ (λ k. absurd (omega (arith, w.if-d-n.false))) ])

pub returns : goal.returns
returns c = λ h. faced-all c.args.allowed.now c.args.like.now c.requires.0 (all_end c.loop-i.invariant c.loop-i-test.false)
