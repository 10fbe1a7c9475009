use native.Mathlib.Omega.{arith}
use native.Mathlib.Nat.{div-lt_iff_lt-mul, mod-lt}
use mathlib.Core.Path.{ap, ◌∙◌}
use Rattle.loops.proofs.Loops.{edited-start, filled-step, filled-end}
use Rattle.table_graph.specs.Graph.{flag}
use Rattle.same_drawing.proofs.fill_matches.Goals as goal

pub loop-i-init : goal.loop-i-init
loop-i-init c = edited-start

pub may_go-requires : goal.may_go-requires
may_go-requires c = let d = (div-lt_iff_lt-mul {k = 64} {x = c.loop-i.i} {y = c.args.n} (omega arith)).1 (omega (arith, c.loop-i-test.true)) in
    (omega (arith, c.requires.0), omega (arith, mod-lt c.loop-i.i {m = 64} (omega arith)))

pub loop-i-preserved : goal.loop-i-preserved
loop-i-preserved c = filled-step c.loop-i.invariant _ c.loop-i-test.true (c.flag.ensures ∙ ap flag c.may_go.ensures)

pub returns : goal.returns
returns c = filled-end c.loop-i.invariant (omega (arith, c.requires)) c.loop-i-test.false
