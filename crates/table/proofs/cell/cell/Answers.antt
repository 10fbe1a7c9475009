use mir.Val.{SFits}
use mir.Syntax.{w32}
use lib.ListN.{get_or}
use mir.Facts.{sfits_lit, to_z-of_z}
use borrow.Author.Rules.{sfits_of}
use lib.ListN.{get_or-eq_default}
use lib.IntN.{pos}
use mathlib.Core.Path.{sym}
use Rattle.table.proofs.cell.cell.Goals as goal

pub returns-then-i-t : goal.returns-then-i-t
returns-then-i-t c = let a = c.args in
    let e : SFits w32 (get_or a.t.now a.i (pos 0)) = sfits_of c.result-1.given in
    record { value = to_z-of_z e; sfits = simp (to_z-of_z e) e }

pub returns : goal.returns
returns c = record { value = sym (get_or-eq_default c.args.t.now (pos 0) c.if-i-t.false); sfits = sfits_lit tt }
