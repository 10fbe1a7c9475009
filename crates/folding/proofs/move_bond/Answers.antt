use mathlib.Core.Path.{ap, ◌∙◌}
use lib.ListN.{get_or}
use Rattle.table_graph.proofs.Sums.{row-cells}
use Rattle.folding.specs.Links.{none}
use Rattle.folding.proofs.Paths.{row-kind, bond-first, bond-second, bond-moved}
use Rattle.folding.proofs.move_bond.Goals as goal

pub returns-then-first-ge-MAX_ATOMS : goal.returns-then-first-ge-MAX_ATOMS
returns-then-first-ge-MAX_ATOMS c = let r = row-cells c.args.bonds.now c.args.b.0 c.get_bond-row.result (c.get_bond-row.ensures.value, c.get_bond-row.ensures.bond_fits) c.requires.0 in
    let pe = c.number_of-first.ensures ∙ ap (λ i. get_or c.args.numbers.now i none) (c.number.ensures ∙ r.0) in
    let pf = c.number_of-second.ensures ∙ ap (λ i. get_or c.args.numbers.now i none) (c.number-2.ensures ∙ r.1) in
    bond-first c.args.numbers.now c.args.b.0 c.args.bonds.now c.args.k pe pf c.if-first-ge-MAX_ATOMS.true

pub returns-then-second-ge-MAX_ATOMS : goal.returns-then-second-ge-MAX_ATOMS
returns-then-second-ge-MAX_ATOMS c = let r = row-cells c.args.bonds.now c.args.b.0 c.get_bond-row.result (c.get_bond-row.ensures.value, c.get_bond-row.ensures.bond_fits) c.requires.0 in
    let pe = c.number_of-first.ensures ∙ ap (λ i. get_or c.args.numbers.now i none) (c.number.ensures ∙ r.0) in
    let pf = c.number_of-second.ensures ∙ ap (λ i. get_or c.args.numbers.now i none) (c.number-2.ensures ∙ r.1) in
    bond-second c.args.numbers.now c.args.b.0 c.args.bonds.now c.args.k pe pf c.if-first-ge-MAX_ATOMS.false c.if-second-ge-MAX_ATOMS.true

pub returns : goal.returns
returns c = let r = row-cells c.args.bonds.now c.args.b.0 c.get_bond-row.result (c.get_bond-row.ensures.value, c.get_bond-row.ensures.bond_fits) c.requires.0 in
    let pe = c.number_of-first.ensures ∙ ap (λ i. get_or c.args.numbers.now i none) (c.number.ensures ∙ r.0) in
    let pf = c.number_of-second.ensures ∙ ap (λ i. get_or c.args.numbers.now i none) (c.number-2.ensures ∙ r.1) in
    bond-moved c.args.numbers.now c.args.b.0 c.args.bonds.now c.args.k pe pf c.if-first-ge-MAX_ATOMS.false c.if-second-ge-MAX_ATOMS.false c.requires.1 (row-kind c.args.bonds.now c.args.b.0 c.get_bond-row.result (c.get_bond-row.ensures.value, c.get_bond-row.ensures.bond_fits) c.requires.0) c.bond_of-moved.ensures c.put_bond.ensures
