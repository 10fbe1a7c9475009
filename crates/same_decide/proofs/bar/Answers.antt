use mathlib.Core.Path.{refl}
use native.Mathlib.Omega.{arith}
use Rattle.same_drawing.proofs.Drawn.{drawable}
use Rattle.same_decide.proofs.Barring.{apart_by}
use Rattle.same_decide.proofs.bar.Goals as goal

pub fill_part-requires : goal.fill_part-requires
fill_part-requires c = record { drawable = drawable (record { atoms = c.args.pair.second.atoms.now; bonds = c.args.pair.second.bonds.now; n = c.args.pair.n; m = c.args.pair.second.m }) c.args.row2.now c.requires.valid_2 c.requires.n_le_max_same.0 c.requires.n_le_max_same.2; p_value = refl }

pub first_difference-requires : goal.first_difference-requires
first_difference-requires c = (c.requires.n_le_max_same.1, c.requires.valid.bonds_few, omega arith)

pub clash-requires : goal.clash-requires
clash-requires c = record { drawable = drawable (record { atoms = c.args.pair.first.atoms.now; bonds = c.args.pair.first.bonds.now; n = c.args.pair.n; m = c.args.pair.first.m }) c.args.row.now c.requires.valid c.requires.n_le_max_same.0 c.requires.n_le_max_same.1; n_le_max_same = (c.requires.n_le_max_same.0, omega (arith, (c.first_difference.ensures _ c.in_ok-from.was).1)) }

pub returns : goal.returns
returns c = λ to e. let w = c.clash.ensures to e in (w.0, apart_by c.args.row.now c.args.row2.now _ c.args.to2 c.requires.n_le_max_same.0 c.fill_open-2.ensures c.fill_open.ensures c.fill_part.ensures c.fill_allowed.ensures w.1)
