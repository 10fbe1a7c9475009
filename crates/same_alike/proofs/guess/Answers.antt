use native.Mathlib.Omega.{arith}
use mathlib.Core.Path.{refl}
use Rattle.same_alike.proofs.Pairs.{told-size, size-kept}
use Rattle.same_alike.proofs.guess.Goals as goal
use Rattle.same_alike.proofs.guess.Goals.{then-v-w, else-v-w}

pub tell-requires : goal.tell-requires
tell-requires c = (c.requires.0, c.requires.1, c.requires.3, c.requires.4)

pub tell-requires-2 : goal.tell-requires-2
tell-requires-2 c = (c.requires.0, c.requires.2, c.requires.3, c.requires.4)

pub loop-v-init : goal.loop-v-init
loop-v-init c = (omega arith, told-size c.args.weights.w.now c.args.n c.args.k2.now c.args.e refl c.tell.ensures.keys_after c.requires.3, told-size c.args.weights.w.now c.args.n c.args.k2.now c.args.d refl c.tell-2.ensures.keys_after c.requires.3)

pub partner-w-requires : goal.partner-w-requires
partner-w-requires c = (c.requires.0, c.loop-v-test.true)

pub overflow_cast-tau : goal.overflow_cast-tau
overflow_cast-tau c = omega (arith, c.partner-w.ensures, c.requires.0)

pub bounds-tau-v : goal.bounds-tau-v
bounds-tau-v c = omega (arith, c.loop-v-test.true, c.requires.0)

pub is_shared-requires : goal.is_shared-requires
is_shared-requires c = (c.requires.0, c.loop-v-test.true)

pub tell-requires-then-v-w : goal.tell-requires-then-v-w
tell-requires-then-v-w c = (c.requires.0, c.loop-v-test.true, c.loop-v.invariant.1, c.requires.4)

pub tell-requires-then-v-w-2 : goal.tell-requires-then-v-w-2
tell-requires-then-v-w-2 c = (c.requires.0, c.partner-w.ensures, c.loop-v.invariant.2, c.requires.4)

pub loop-v-preserved : goal.loop-v-preserved
loop-v-preserved c =
    elim c.if-v-w.branch [ then-v-w w ↦ (omega arith, told-size c.args.weights.w.now c.args.n c.loop-v.ka c.loop-v.v w.ka-is w.tell-then-v-w.ensures.keys_after c.loop-v.invariant.1, told-size c.args.weights.w.now c.args.n c.loop-v.kb c.partner-w.result w.kb-is w.tell-then-v-w-2.ensures.keys_after c.loop-v.invariant.2) | else-v-w w ↦ (omega arith, size-kept w.ka-is c.loop-v.invariant.1, size-kept w.kb-is c.loop-v.invariant.2) ]
