use native.Mathlib.Omega.{arith}
use Rattle.writing_marks.proofs.Laws.{turned-all}
use Rattle.writing_marks.proofs.turn_marked.Goals as goal

pub fill_ranks-requires : goal.fill_ranks-requires
fill_ranks-requires c = let p = c.requires in
    record { bonds_fit = p.bonds_fit; numbered = p.numbered; m_in_bounds = omega (arith, p.valid.bonds_few) }

pub fill_marks-requires : goal.fill_marks-requires
fill_marks-requires c = let p = c.requires in
    record { valid = p.valid; m_value = p.m_value; m_in_bounds = (omega (arith, p.valid.bonds_few), p.n_in_bounds) }

pub returns : goal.returns
returns c = let w = c.fill_marks in
    turned-all c.fill_ranks.ensures _ _ _ (omega (arith, c.requires.n_in_bounds, w.auto.written)) w.ensures
