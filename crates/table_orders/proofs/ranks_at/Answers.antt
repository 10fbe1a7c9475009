use native.Mathlib.Omega.{arith}
use mathlib.Core.Path.{◌∙◌}
use Rattle.table_orders.proofs.Laws.{byte_one, filling-start, filling-more, filling-pass, filling-take, filling-end}
use Rattle.table_orders.proofs.ranks_at.Goals as goal
use Rattle.table_orders.proofs.ranks_at.Goals.{then-touches, else-touches}

pub loop-k-init : goal.loop-k-init
loop-k-init c = filling-start c.args.h (c.from-k.ensures ∙ byte_one _) c.requires.a_len

pub touches-requires : goal.touches-requires
touches-requires c = omega (arith, filling-more c.loop-k.invariant c.loop-k-test.true)

pub rank_of-requires : goal.rank_of-requires
rank_of-requires c = let l = filling-more c.loop-k.invariant c.loop-k-test.true in (omega arith, omega arith)

pub overflow_add-i : goal.overflow_add-i
overflow_add-i c = omega (arith, filling-more c.loop-k.invariant c.loop-k-test.true)

pub loop-k-smaller : goal.loop-k-smaller
loop-k-smaller c = omega (arith, filling-more c.loop-k.invariant c.loop-k-test.true)

pub loop-k-preserved : goal.loop-k-preserved
loop-k-preserved c = let w = c.loop-k.invariant in
    let h = c.loop-k-test.true in
    let o = c.touches.ensures in
    elim c.if-touches.branch [
      | then-touches v ↦ filling-take w h o v.if-touches.true v.rank_of.ensures v.four-is v.k-is
      | else-touches v ↦ filling-pass w h o v.if-touches.false v.four-is v.k-is
    ]

pub returns : goal.returns
returns c = filling-end c.loop-k.invariant c.loop-k-test.false
