use native.Mathlib.Omega.{arith}
use mathlib.Core.Path.{refl, ◌∙◌}
use Rattle.writing_marks.proofs.Laws.{ranked-start, ranked-step, ranked-end}
use Rattle.writing_marks.proofs.fill_ranks.Goals as goal

pub loop-b-init : goal.loop-b-init
loop-b-init c = (ranked-start c.args.bonds.now c.requires.bonds_fit c.requires.numbered _, refl)

pub bond_ranks-requires : goal.bond_ranks-requires
bond_ranks-requires c = record { bonds_fit = c.requires.bonds_fit; numbered = c.requires.numbered; b_lt_m = (c.loop-b-test.true, omega (arith, c.requires.m_in_bounds, c.loop-b.invariant.1)) }

pub loop-b-preserved : goal.loop-b-preserved
loop-b-preserved c = let l = c.loop-b in
    let w = c.bond_ranks in
    (ranked-step c.args.bonds.now c.requires.bonds_fit c.requires.numbered l.b l.ranks _ l.invariant.0 c.loop-b-test.true (omega (arith, c.requires.m_in_bounds, l.invariant.1)) w.ensures, w.auto.ranks ∙ l.invariant.1)

pub shape_of-ranks : goal.shape_of-ranks
shape_of-ranks c = c.loop-b.invariant.1

pub returns : goal.returns
returns c = ranked-end c.loop-b.invariant.0 c.loop-b-test.false
