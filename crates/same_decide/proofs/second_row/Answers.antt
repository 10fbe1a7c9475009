use mathlib.Core.Path.{refl, sym, ◌∙◌}
use native.Mathlib.Omega.{arith}
use lib.Seq.{length-take-le}
use Rattle.matching.proofs.Enumeration.{row-length}
use Rattle.loops.proofs.Loops.{and_left}
use Rattle.table_graph.specs.Graph.{matching_of}
use Rattle.matching_skip.specs.Skip.{later_than}
use Rattle.same_decide.specs.Decide.{sketch}
use Rattle.same_decide.proofs.Walk.{walking-first, walking-next, walking_skip, skip-fewer, skip-reply, fewer, first-length}
use Rattle.same_decide.proofs.Rows.{ready, ready-row, drawn-ways, second-hit, second_none}
use Rattle.same_decide.proofs.Barring.{second-apart}
use Rattle.same_decide.proofs.second_row.Goals as goal

pub row_sum-z1-requires : goal.row_sum-z1-requires
row_sum-z1-requires c = record { drawable = ready-row c.args.row1.now c.requires.valid c.requires.fewer.few c.requires.row1_value; low = c.requires.bounded.low_keys }

pub fill_orders-requires : goal.fill_orders-requires
fill_orders-requires c = record { drawable = ready-row c.args.row1.now c.requires.valid c.requires.fewer.few c.requires.row1_value; low = c.requires.bounded.low_base }

pub ask-more-requires : goal.ask-more-requires
ask-more-requires c = record { valid = c.requires.valid_2; m_in_bounds = c.requires.m2_in_bounds }

pub loop-more-init : goal.loop-more-init
loop-more-init c = let k = first-length _ c.args.pair.second.m c.args.row2.now c.requires.m2_in_bounds c.ask-more.ensures in
    (walking-first _ _ _ _ (omega (arith, c.requires.m2_in_bounds)) c.args.row2.now (sym k) c.ask-more.ensures, refl)

pub slice_bounds-note_row-end : goal.slice_bounds-note_row-end
slice_bounds-note_row-end c = let k = first-length _ c.args.pair.second.m c.args.row2.now c.requires.m2_in_bounds c.ask-more.ensures in
    omega (arith, c.requires.m2_in_bounds, c.loop-more.invariant.0.long)

pub slice_bounds-note_row-end-in-loop-more : goal.slice_bounds-note_row-end-in-loop-more
slice_bounds-note_row-end-in-loop-more c = let k = first-length _ c.args.pair.second.m c.args.row2.now c.requires.m2_in_bounds c.ask-more.ensures in
    sym (length-take-le c.args.pair.second.m c.loop-more.row2 (omega (arith, c.requires.m2_in_bounds, c.loop-more.invariant.0.long)))

pub note_row-requires : goal.note_row-requires
note_row-requires c = let k = first-length _ c.args.pair.second.m c.args.row2.now c.requires.m2_in_bounds c.ask-more.ensures in
    record { drawable = ready _ c.requires.valid_2 c.requires.fewer.few (omega (arith, c.requires.m2_in_bounds, c.loop-more.invariant.0.long)); low = c.requires.fewer.bounded.low_keys }

pub slice_bounds-bar_second-end : goal.slice_bounds-bar_second-end
slice_bounds-bar_second-end c = let k = first-length _ c.args.pair.second.m c.args.row2.now c.requires.m2_in_bounds c.ask-more.ensures in
    omega (arith, c.requires.m2_in_bounds, c.loop-more.invariant.0.long)

pub slice_bounds-bar_second-end-in-loop-more : goal.slice_bounds-bar_second-end-in-loop-more
slice_bounds-bar_second-end-in-loop-more c = let k = first-length _ c.args.pair.second.m c.args.row2.now c.requires.m2_in_bounds c.ask-more.ensures in
    sym (length-take-le c.args.pair.second.m c.loop-more.row2 (omega (arith, c.requires.m2_in_bounds, c.loop-more.invariant.0.long)))

pub bar_second-requires : goal.bar_second-requires
bar_second-requires c = let k = first-length _ c.args.pair.second.m c.args.row2.now c.requires.m2_in_bounds c.ask-more.ensures in
    let l1 = row-length c.args.pair.first.m c.args.row1.now (and_left _ _ c.requires.row1_value) in
    let l2 = length-take-le c.args.pair.second.m c.loop-more.row2 (omega (arith, c.requires.m2_in_bounds, c.loop-more.invariant.0.long)) in
    record { valid = c.requires.valid; valid_2 = c.requires.valid_2; n_le_max_same = (c.requires.fewer.few, omega (arith, l1), omega (arith, l2)) }

pub skip-more-requires : goal.skip-more-requires
skip-more-requires c = let k = first-length _ c.args.pair.second.m c.args.row2.now c.requires.m2_in_bounds c.ask-more.ensures in
    record { valid = c.requires.valid_2; n_le_max_same = (c.requires.fewer.few, omega (arith, c.requires.m2_in_bounds, c.loop-more.invariant.0.long), (c.in-Some.ensures _ refl).0); row_value = c.loop-more.invariant.0.good c.loop-more-test.true }

pub loop-more-smaller-in-Some : goal.loop-more-smaller-in-Some
loop-more-smaller-in-Some c = let k = first-length _ c.args.pair.second.m c.args.row2.now c.requires.m2_in_bounds c.ask-more.ensures in
    skip-fewer _ _ _ _ (omega (arith, c.requires.m2_in_bounds)) c.loop-more.invariant.0 c.loop-more-test.true c.in-Some.to (c.in-Some.ensures _ refl).0 (second-apart c.args.pair.first.keys.now c.args.pair.second.keys.now c.args.pair.ok.now c.requires.valid c.requires.valid_2 c.requires.bonds1_value.0 c.requires.bonds1_value.1 c.requires.fewer.few c.requires.bounded.based c.requires.fewer.bounded.based c.args.row1.now c.requires.row1_value (c.in-Some.ensures _ refl).1) (skip-reply (later_than (matching_of c.args.pair.second.atoms.now c.args.pair.second.bonds.now c.args.pair.n c.args.pair.second.m) c.args.pair.second.m c.in-Some.to c.loop-more.row2) c.loop-more.invariant.0.long c.skip-more.ensures)

pub loop-more-preserved-in-Some : goal.loop-more-preserved-in-Some
loop-more-preserved-in-Some c = let k = first-length _ c.args.pair.second.m c.args.row2.now c.requires.m2_in_bounds c.ask-more.ensures in
    (walking_skip _ _ _ _ (omega (arith, c.requires.m2_in_bounds)) c.loop-more.invariant.0 c.loop-more-test.true c.in-Some.to (c.in-Some.ensures _ refl).0 (second-apart c.args.pair.first.keys.now c.args.pair.second.keys.now c.args.pair.ok.now c.requires.valid c.requires.valid_2 c.requires.bonds1_value.0 c.requires.bonds1_value.1 c.requires.fewer.few c.requires.bounded.based c.requires.fewer.bounded.based c.args.row1.now c.requires.row1_value (c.in-Some.ensures _ refl).1) (skip-reply (later_than (matching_of c.args.pair.second.atoms.now c.args.pair.second.bonds.now c.args.pair.n c.args.pair.second.m) c.args.pair.second.m c.in-Some.to c.loop-more.row2) c.loop-more.invariant.0.long c.skip-more.ensures), c.loop-more.invariant.1)

pub slice_bounds-place-end : goal.slice_bounds-place-end
slice_bounds-place-end c = let k = first-length _ c.args.pair.second.m c.args.row2.now c.requires.m2_in_bounds c.ask-more.ensures in
    omega (arith, c.requires.m2_in_bounds, c.loop-more.invariant.0.long)

pub slice_bounds-place-end-in-None : goal.slice_bounds-place-end-in-None
slice_bounds-place-end-in-None c = let k = first-length _ c.args.pair.second.m c.args.row2.now c.requires.m2_in_bounds c.ask-more.ensures in
    sym (length-take-le c.args.pair.second.m c.loop-more.row2 (omega (arith, c.requires.m2_in_bounds, c.loop-more.invariant.0.long)))

pub place-requires : goal.place-requires
place-requires c = let k = first-length _ c.args.pair.second.m c.args.row2.now c.requires.m2_in_bounds c.ask-more.ensures in
    record { drawable = ready _ c.requires.valid_2 c.requires.fewer.few (omega (arith, c.requires.m2_in_bounds, c.loop-more.invariant.0.long)); fewer = record { few = c.requires.fewer.few; room = omega (arith, c.requires.fewer.room, c.loop-more.invariant.1); bounded = c.requires.fewer.bounded } }

pub shape_of-row2-then-place : goal.shape_of-row2-then-place
shape_of-row2-then-place c = let k = first-length _ c.args.pair.second.m c.args.row2.now c.requires.m2_in_bounds c.ask-more.ensures in
    c.loop-more.invariant.0.long ∙ k

pub returns-then-place : goal.returns-then-place
returns-then-place c = let k = first-length _ c.args.pair.second.m c.args.row2.now c.requires.m2_in_bounds c.ask-more.ensures in
    second-hit _ _ _ _ (sketch _ _ _ _ _) c.args.row2.now c.args.ren.now c.requires.m2_in_bounds k c.loop-more.invariant.0 c.loop-more-test.true c.loop-more.invariant.1 (drawn-ways (sketch _ _ _ _ _) c.args.row1.now c.args.pair.ok.now (sketch _ _ _ _ _) _ c.row_sum-z1.ensures c.fill_orders.ensures c.place.ensures) c.if-place.true

pub ask-more-requires-in-None : goal.ask-more-requires-in-None
ask-more-requires-in-None c = let k = first-length _ c.args.pair.second.m c.args.row2.now c.requires.m2_in_bounds c.ask-more.ensures in
    record { valid = c.requires.valid_2; m_in_bounds = omega (arith, c.requires.m2_in_bounds, c.loop-more.invariant.0.long) }

pub loop-more-smaller : goal.loop-more-smaller
loop-more-smaller c = let k = first-length _ c.args.pair.second.m c.args.row2.now c.requires.m2_in_bounds c.ask-more.ensures in
    let p = drawn-ways (sketch _ _ _ _ _) c.args.row1.now c.args.pair.ok.now (sketch _ _ _ _ _) _ c.row_sum-z1.ensures c.fill_orders.ensures c.place.ensures in
    fewer _ _ _ _ (omega (arith, c.requires.m2_in_bounds)) c.loop-more.invariant.0 c.loop-more-test.true (sym p.told ∙ c.if-place.false) c.ask-more-in-None.ensures

pub loop-more-preserved : goal.loop-more-preserved
loop-more-preserved c = let k = first-length _ c.args.pair.second.m c.args.row2.now c.requires.m2_in_bounds c.ask-more.ensures in
    let p = drawn-ways (sketch _ _ _ _ _) c.args.row1.now c.args.pair.ok.now (sketch _ _ _ _ _) _ c.row_sum-z1.ensures c.fill_orders.ensures c.place.ensures in
    (walking-next _ _ _ _ (omega (arith, c.requires.m2_in_bounds)) c.loop-more.invariant.0 c.loop-more-test.true (sym p.told ∙ c.if-place.false) c.ask-more-in-None.ensures, p.long ∙ c.loop-more.invariant.1)

pub shape_of-row2 : goal.shape_of-row2
shape_of-row2 c = let k = first-length _ c.args.pair.second.m c.args.row2.now c.requires.m2_in_bounds c.ask-more.ensures in
    c.loop-more.invariant.0.long ∙ k

pub returns : goal.returns
returns c = let k = first-length _ c.args.pair.second.m c.args.row2.now c.requires.m2_in_bounds c.ask-more.ensures in
    second_none _ _ _ _ (sketch _ _ _ _ _) c.args.row2.now c.args.ren.now c.requires.m2_in_bounds k c.loop-more.invariant.0 c.loop-more-test.false c.loop-more.invariant.1
