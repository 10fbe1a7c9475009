use mathlib.Core.Path.{sym, ◌∙◌}
use Rattle.writing_marks.proofs.Laws.{turned-nothing}
use Rattle.writing_marks.proofs.turn.Goals as goal

pub returns-then-none_marked : goal.returns-then-none_marked
returns-then-none_marked c = let p = c.requires.written_value in
    turned-nothing _ _ _ _ _ p.1 p.0 (sym c.none_marked.ensures ∙ c.if-none_marked.true)

pub turn_marked-requires : goal.turn_marked-requires
turn_marked-requires c = let p = c.requires in
    record { valid = p.valid; m_value = p.m_value; bonds_fit = p.bonds_fit; numbered = p.numbered; n_in_bounds = p.written_value.1 }

pub returns : goal.returns
returns c = c.turn_marked.ensures
