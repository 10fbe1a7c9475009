use mathlib.Core.Path.{refl, sym, ◌∙◌}
use Prim.Native.Nat.{ℕ}
use native.Mathlib.Omega.{arith}
use lib.ListN.{length-replicate}
use lib.Seq.{length-take-le}
use Rattle.table_graph.specs.Graph.{matching_of}
use Rattle.matching_skip.specs.Skip.{later_than}
use Rattle.same_decide.specs.Decide.{sketch}
use Rattle.same_decide.proofs.Walk.{walking-first, walking-next, walking_skip, skip-fewer, skip-reply, fewer, first-length}
use Rattle.same_decide.proofs.Rows.{first-hit, first-none}
use Rattle.same_decide.proofs.Barring.{first-apart}
use Rattle.same_decide.proofs.first_row.Goals as goal

pub ask-more-requires : goal.ask-more-requires
ask-more-requires c = record { valid = c.requires.valid; m_in_bounds = c.requires.m1_in_bounds.0 }

pub loop-more-init : goal.loop-more-init
loop-more-init c = let k = first-length _ c.args.pair.first.m c.args.row1.now c.requires.m1_in_bounds.0 c.ask-more.ensures in
    (walking-first _ _ _ _ (omega (arith, c.requires.m1_in_bounds.0)) c.args.row1.now (sym k) c.ask-more.ensures, refl, refl)

pub slice_bounds-bar-end : goal.slice_bounds-bar-end
slice_bounds-bar-end c = let k = first-length _ c.args.pair.first.m c.args.row1.now c.requires.m1_in_bounds.0 c.ask-more.ensures in
    omega (arith, c.requires.m1_in_bounds.0, c.loop-more.invariant.0.long)

pub slice_bounds-bar-end-in-loop-more : goal.slice_bounds-bar-end-in-loop-more
slice_bounds-bar-end-in-loop-more c = let k = first-length _ c.args.pair.first.m c.args.row1.now c.requires.m1_in_bounds.0 c.ask-more.ensures in
    sym (length-take-le c.args.pair.first.m c.loop-more.row1 (omega (arith, c.requires.m1_in_bounds.0, c.loop-more.invariant.0.long)))

pub bar-requires : goal.bar-requires
bar-requires c = let k = first-length _ c.args.pair.first.m c.args.row1.now c.requires.m1_in_bounds.0 c.ask-more.ensures in
    let l = length-take-le c.args.pair.first.m c.loop-more.row1 (omega (arith, c.requires.m1_in_bounds.0, c.loop-more.invariant.0.long)) in
    record { valid = c.requires.valid; valid_2 = c.requires.valid_2; n_le_max_same = (c.requires.fewer.few, omega (arith, l), omega (arith, c.requires.valid_2.bonds_few, length-replicate {A = ℕ} 1100 0)) }

pub skip-more-requires : goal.skip-more-requires
skip-more-requires c = let k = first-length _ c.args.pair.first.m c.args.row1.now c.requires.m1_in_bounds.0 c.ask-more.ensures in
    record { valid = c.requires.valid; n_le_max_same = (c.requires.fewer.few, omega (arith, c.requires.m1_in_bounds.0, c.loop-more.invariant.0.long), (c.in-Some.ensures _ refl).0); row_value = c.loop-more.invariant.0.good c.loop-more-test.true }

pub loop-more-smaller-in-Some : goal.loop-more-smaller-in-Some
loop-more-smaller-in-Some c = let k = first-length _ c.args.pair.first.m c.args.row1.now c.requires.m1_in_bounds.0 c.ask-more.ensures in
    skip-fewer _ _ _ _ (omega (arith, c.requires.m1_in_bounds.0)) c.loop-more.invariant.0 c.loop-more-test.true c.in-Some.to (c.in-Some.ensures _ refl).0 (first-apart c.args.pair.first.keys.now c.args.pair.second.keys.now c.args.pair.ok.now c.requires.valid c.requires.valid_2 c.requires.bonds1_value.0 c.requires.bonds1_value.1 c.requires.fewer.few c.requires.bounded.based c.requires.fewer.bounded.based (c.in-Some.ensures _ refl).1) (skip-reply (later_than (matching_of c.args.pair.first.atoms.now c.args.pair.first.bonds.now c.args.pair.n c.args.pair.first.m) c.args.pair.first.m c.in-Some.to c.loop-more.row1) c.loop-more.invariant.0.long c.skip-more.ensures)

pub loop-more-preserved-in-Some : goal.loop-more-preserved-in-Some
loop-more-preserved-in-Some c = let k = first-length _ c.args.pair.first.m c.args.row1.now c.requires.m1_in_bounds.0 c.ask-more.ensures in
    (walking_skip _ _ _ _ (omega (arith, c.requires.m1_in_bounds.0)) c.loop-more.invariant.0 c.loop-more-test.true c.in-Some.to (c.in-Some.ensures _ refl).0 (first-apart c.args.pair.first.keys.now c.args.pair.second.keys.now c.args.pair.ok.now c.requires.valid c.requires.valid_2 c.requires.bonds1_value.0 c.requires.bonds1_value.1 c.requires.fewer.few c.requires.bounded.based c.requires.fewer.bounded.based (c.in-Some.ensures _ refl).1) (skip-reply (later_than (matching_of c.args.pair.first.atoms.now c.args.pair.first.bonds.now c.args.pair.n c.args.pair.first.m) c.args.pair.first.m c.in-Some.to c.loop-more.row1) c.loop-more.invariant.0.long c.skip-more.ensures), c.loop-more.invariant.1, c.loop-more.invariant.2)

pub slice_bounds-second_row-end : goal.slice_bounds-second_row-end
slice_bounds-second_row-end c = let k = first-length _ c.args.pair.first.m c.args.row1.now c.requires.m1_in_bounds.0 c.ask-more.ensures in
    omega (arith, c.requires.m1_in_bounds.0, c.loop-more.invariant.0.long)

pub slice_bounds-second_row-end-in-None : goal.slice_bounds-second_row-end-in-None
slice_bounds-second_row-end-in-None c = let k = first-length _ c.args.pair.first.m c.args.row1.now c.requires.m1_in_bounds.0 c.ask-more.ensures in
    sym (length-take-le c.args.pair.first.m c.loop-more.row1 (omega (arith, c.requires.m1_in_bounds.0, c.loop-more.invariant.0.long)))

pub second_row-requires : goal.second_row-requires
second_row-requires c = record { valid = c.requires.valid; valid_2 = c.requires.valid_2; bonds1_value = c.requires.bonds1_value; row1_value = c.loop-more.invariant.0.good c.loop-more-test.true; m2_in_bounds = omega (arith, c.requires.m1_in_bounds.1, c.loop-more.invariant.1); fewer = record { few = c.requires.fewer.few; room = omega (arith, c.requires.fewer.room, c.loop-more.invariant.2); bounded = c.requires.fewer.bounded }; bounded = c.requires.bounded }

pub shape_of-row1-then-second_row : goal.shape_of-row1-then-second_row
shape_of-row1-then-second_row c = let k = first-length _ c.args.pair.first.m c.args.row1.now c.requires.m1_in_bounds.0 c.ask-more.ensures in
    c.loop-more.invariant.0.long ∙ k

pub shape_of-row2-then-second_row : goal.shape_of-row2-then-second_row
shape_of-row2-then-second_row c = c.second_row.ensures.long ∙ c.loop-more.invariant.1

pub returns-then-second_row : goal.returns-then-second_row
returns-then-second_row c = let k = first-length _ c.args.pair.first.m c.args.row1.now c.requires.m1_in_bounds.0 c.ask-more.ensures in
    first-hit _ _ (sketch _ _ _ _ _) _ (sketch _ _ _ _ _) c.args.row1.now c.args.row2.now c.args.ren.now c.requires.m1_in_bounds.0 k c.loop-more.invariant.0 c.loop-more-test.true c.loop-more.invariant.1 c.loop-more.invariant.2 c.second_row.ensures c.if-second_row.true

pub ask-more-requires-in-None : goal.ask-more-requires-in-None
ask-more-requires-in-None c = let k = first-length _ c.args.pair.first.m c.args.row1.now c.requires.m1_in_bounds.0 c.ask-more.ensures in
    record { valid = c.requires.valid; m_in_bounds = omega (arith, c.requires.m1_in_bounds.0, c.loop-more.invariant.0.long) }

pub loop-more-smaller : goal.loop-more-smaller
loop-more-smaller c = let k = first-length _ c.args.pair.first.m c.args.row1.now c.requires.m1_in_bounds.0 c.ask-more.ensures in
    fewer _ _ _ _ (omega (arith, c.requires.m1_in_bounds.0)) c.loop-more.invariant.0 c.loop-more-test.true (sym c.second_row.ensures.told ∙ c.if-second_row.false) c.ask-more-in-None.ensures

pub loop-more-preserved : goal.loop-more-preserved
loop-more-preserved c = let k = first-length _ c.args.pair.first.m c.args.row1.now c.requires.m1_in_bounds.0 c.ask-more.ensures in
    (walking-next _ _ _ _ (omega (arith, c.requires.m1_in_bounds.0)) c.loop-more.invariant.0 c.loop-more-test.true (sym c.second_row.ensures.told ∙ c.if-second_row.false) c.ask-more-in-None.ensures, c.second_row.ensures.long ∙ c.loop-more.invariant.1, c.second_row.ensures.size ∙ c.loop-more.invariant.2)

pub shape_of-row1 : goal.shape_of-row1
shape_of-row1 c = let k = first-length _ c.args.pair.first.m c.args.row1.now c.requires.m1_in_bounds.0 c.ask-more.ensures in
    c.loop-more.invariant.0.long ∙ k

pub shape_of-row2 : goal.shape_of-row2
shape_of-row2 c = c.loop-more.invariant.1

pub returns : goal.returns
returns c = let k = first-length _ c.args.pair.first.m c.args.row1.now c.requires.m1_in_bounds.0 c.ask-more.ensures in
    first-none _ _ (sketch _ _ _ _ _) _ (sketch _ _ _ _ _) c.args.row1.now c.args.row2.now c.args.ren.now c.requires.m1_in_bounds.0 k c.loop-more.invariant.0 c.loop-more-test.false c.loop-more.invariant.1 c.loop-more.invariant.2
