use Rattle.register.proofs.Paths.{used-at, after_next, after-end}
use native.Mathlib.Omega.{arith}
use mathlib.Core.Path.{refl, ◌∙◌}
use Rattle.register.specs.Adding.{after_with}
use Rattle.register.proofs.store.store_all.Goals as goal

pub loop-k-init : goal.loop-k-init
unfolding after_with
loop-k-init c = (refl, refl, omega arith)

pub store-requires : goal.store-requires
store-requires c = let u = used-at _ _ _ c.count-n.ensures c.end_before-e.ensures.value in
    (omega arith, omega arith, omega arith, omega arith)

pub loop-k-preserved : goal.loop-k-preserved
loop-k-preserved c = (c.store.ensures ∙ after_next _ _ _ _ _ _ _ c.loop-k.invariant.0, c.store.auto.r ∙ c.loop-k.invariant.1, omega arith)

pub shape_of-r : goal.shape_of-r
shape_of-r c = c.loop-k.invariant.1

pub returns : goal.returns
returns c = let z = c.loop-k.invariant.2 in
    after-end _ _ _ _ _ _ _ c.loop-k.invariant.0 (omega arith) c.count-n.ensures c.end_before-e.ensures.value
