use mathlib.Core.Path.{sym}
use Rattle.table_orders.proofs.Laws.{odd-four}
use Rattle.table_orders.proofs.odd_four.Goals as goal

pub returns : goal.returns
returns c = let a = c.args in
    simp (c.flip_if-3.ensures, c.flip_if-2.ensures, c.flip_if-second.ensures, c.flip_if-first.ensures, c.flip_if.ensures) (sym (odd-four a.a a.b a.c a.d))
