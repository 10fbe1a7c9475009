use native.Mathlib.Omega.{arith}
use mir.Val.{SFits}
use mir.Syntax.{w32}
use mir.Facts.{to_z-of_z}
use borrow.Author.Rules.{sfits_of}
use mathlib.Core.Path.{ap, ◌∙◌}
use Rattle.table.specs.Limits.{SECOND}
use Rattle.table.specs.Cells.{number, bond_cell}
use Rattle.reader.proofs.Bridges.{away-start, away-step}
use Rattle.reader.proofs.bridge.near.Goals as goal

pub loop-i-init : goal.loop-i-init
loop-i-init c = away-start

pub loop-i-preserved : goal.loop-i-preserved
loop-i-preserved c = let e : SFits w32 (bond_cell c.args.bonds.now c.loop-i.i SECOND) = sfits_of c.number-arg-1.given in
    away-step (c.number-y.ensures ∙ ap number (to_z-of_z e)) c.loop-i.invariant

pub returns : goal.returns
returns c = record { all = λ e k l. c.loop-i.invariant.all e k (omega (arith, l, c.loop-i-test.false)) }
