use mathlib.Core.Path.{sym, ap, ◌∙◌}
use mathlib.Core.Bool.{Bool}
use lib.ListN.{length}
use Rattle.parity.specs.Mark.{other_mark, mark_if}
use Rattle.table.specs.Cells.{mark}
use Rattle.table.specs.Orders.{at_end}
use Rattle.table.proofs.Orders.{turned_none}
use Rattle.table_orders.proofs.Laws.{four-ranks, turned-told}
use Rattle.table_orders.proofs.turned_mark.Goals as goal

pub returns-then-k-eq0 : goal.returns-then-k-eq0
returns-then-k-eq0 c = let a = c.args in sym (turned_none (at_end a.ranks.now a.bonds.now) a.bonds.now a.m a.atoms.now a.a.0 (sym c.atom_number-k.ensures ∙ c.if-k-eq0.true))

pub ranks_at-r-requires : goal.ranks_at-r-requires
ranks_at-r-requires c = let a = c.args in record { m_le_max_bonds = (c.requires.a_lt_max_atoms.1, c.requires.a_lt_max_atoms.2); a_len = four-ranks a.atoms.now a.bonds.now a.m a.a.0 (at_end a.ranks.now a.bonds.now a.a.0) c.atom_number-h.ensures (λ e. c.if-k-eq0.false (c.atom_number-k.ensures ∙ e)) c.requires.a_bound.1 }

pub returns-then-odd_four : goal.returns-then-odd_four
returns-then-odd_four c = let a = c.args in
    let l = four-ranks a.atoms.now a.bonds.now a.m a.a.0 (at_end a.ranks.now a.bonds.now a.a.0) c.atom_number-h.ensures (λ e. c.if-k-eq0.false (c.atom_number-k.ensures ∙ e)) c.requires.a_bound.1 in
    let t = turned-told (at_end a.ranks.now a.bonds.now) a.atoms.now a.bonds.now a.m a.a.0 c.atom_number-h.ensures c.ranks_at-r.ensures (ap length c.ranks_at-r.ensures ∙ l) c.odd_four.ensures in
    c.other_mark.ensures ∙ ap other_mark c.atom_number-k.ensures ∙ sym (t ∙ ap (λ (x : Bool). mark_if x (mark a.atoms.now a.a.0)) c.if-odd_four.true)

pub returns : goal.returns
returns c = let a = c.args in
    let l = four-ranks a.atoms.now a.bonds.now a.m a.a.0 (at_end a.ranks.now a.bonds.now a.a.0) c.atom_number-h.ensures (λ e. c.if-k-eq0.false (c.atom_number-k.ensures ∙ e)) c.requires.a_bound.1 in
    let t = turned-told (at_end a.ranks.now a.bonds.now) a.atoms.now a.bonds.now a.m a.a.0 c.atom_number-h.ensures c.ranks_at-r.ensures (ap length c.ranks_at-r.ensures ∙ l) c.odd_four.ensures in
    c.atom_number-k.ensures ∙ sym (t ∙ ap (λ (x : Bool). mark_if x (mark a.atoms.now a.a.0)) c.if-odd_four.false)
