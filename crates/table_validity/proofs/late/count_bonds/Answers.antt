use Prim.Native.Nat.{◌<◌}
use native.Mathlib.Omega.{arith}
use mathlib.Core.Path.{◌≡◌, ap, ◌∙◌}
use lib.ListN.{length, length-set}
use Rattle.loops.proofs.Loops.{length-up_to}
use Rattle.table.specs.Sound.{bond_degree}
use Rattle.table_validity.proofs.Degrees.{degrees-start, degrees-bound, second-bound, degrees-step}
use Rattle.table_validity.proofs.late.count_bonds.Goals as goal

pub loop-i-init : goal.loop-i-init
loop-i-init c = (omega arith, degrees-start c.args.bonds.now c.requires.degrees_value)

pub bond_number-requires : goal.bond_number-requires
bond_number-requires c = (omega (arith, c.requires.ends.few), omega arith)

pub count_end-requires : goal.count_end-requires
count_end-requires c = let a = c.loop-i in
    let l = c.loop-i-test.true in
    let w = c.requires.ends in
    let bs = c.args.bonds.now in
    let k = degrees-bound bs a.i (length c.args.degrees.now) a.invariant.1 c.bond_number.result in
    let n = ap length a.invariant.1 ∙ length-up_to (bond_degree bs a.i) 0 (length c.args.degrees.now) in
    (omega (arith, c.bond_number.ensures, w.order a.i l, w.second a.i l, n), omega (arith, k, w.few, l))

pub bond_number-requires-in-loop-i : goal.bond_number-requires-in-loop-i
bond_number-requires-in-loop-i c = (omega (arith, c.requires.ends.few), omega arith)

pub count_end-requires-in-loop-i : goal.count_end-requires-in-loop-i
count_end-requires-in-loop-i c = let a = c.loop-i in
    let l = c.loop-i-test.true in
    let w = c.requires.ends in
    let bs = c.args.bonds.now in
    let e = c.bond_number in
    let f = c.bond_number-in-loop-i in
    let d = c.count_end.ensures in
    let less : e.result < f.result = omega (arith, e.ensures, f.ensures, w.order a.i l) in
    let k = second-bound a.degrees e.result f.result a.i less (degrees-bound bs a.i (length c.args.degrees.now) a.invariant.1) in
    let n = ap length d ∙ length-set a.degrees e.result _ ∙ ap length a.invariant.1 ∙ length-up_to (bond_degree bs a.i) 0 (length c.args.degrees.now) in
    (omega (arith, f.ensures, w.second a.i l, n), rw d (omega (arith, k, w.few, l)))

pub loop-i-preserved : goal.loop-i-preserved
loop-i-preserved c = let a = c.loop-i in
    let l = c.loop-i-test.true in
    let w = c.requires.ends in
    let bs = c.args.bonds.now in
    let e = c.bond_number in
    let f = c.bond_number-in-loop-i in
    (omega arith, degrees-step bs a.i (length c.args.degrees.now) a.invariant.1 e.ensures f.ensures (omega (arith, e.ensures, f.ensures, w.order a.i l)) c.count_end.ensures c.count_end-in-loop-i.ensures)

pub shape_of-degrees : goal.shape_of-degrees
shape_of-degrees c = ap length c.loop-i.invariant.1 ∙ length-up_to (bond_degree c.args.bonds.now c.loop-i.i) 0 (length c.args.degrees.now)

pub returns : goal.returns
returns c = let i = c.loop-i.i in
    let d : i ≡ c.args.m = omega (arith, c.loop-i.invariant.0) in
    c.loop-i.invariant.1 ∙ simp d
