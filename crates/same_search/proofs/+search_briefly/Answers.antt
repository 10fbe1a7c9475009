use Rattle.std.proofs.Common.{arith}
use Rattle.same_place.proofs.Laws.{images-below, prefix-next}
use Rattle.same_search.proofs.Brief.{brief-placed, brief-start, brief-spent, brief-not, brief-found, brief-next, brief-end}
use Rattle.same_search.proofs.+search_briefly.Goals as goal
use Rattle.same_search.proofs.+search_briefly.Goals.{then-placeable+else-tried, else-placeable}

pub returns-then-from-n : goal.returns-then-from-n
returns-then-from-n t c = brief-placed _ _ _ c.requires _ c.if-from-n.true

pub loop-d-init : goal.loop-d-init
loop-d-init t c = brief-start _ _ _ c.requires c.if-from-n.false _

pub returns-then-left-eq0 : goal.returns-then-left-eq0
returns-then-left-eq0 t c = brief-spent _ _ _ c.requires c.if-from-n.false c.loop-d.invariant

pub placeable-requires : goal.placeable-requires
placeable-requires t c =
    record { a_lt_max_same = (omega (arith, c.requires.upto, c.requires.few, c.if-from-n.false), omega (arith, c.requires.few, c.loop-d-test.true)); by_index = images-below _ _ _ c.requires c.if-from-n.false (c.loop-d.invariant.trying (omega (arith, c.if-left-eq0.false))) }

pub search_briefly-tried-requires : goal.search_briefly-tried-requires
search_briefly-tried-requires t c =
    (omega (arith, c.decreases, c.requires.upto, c.if-from-n.false), prefix-next _ _ _ c.requires c.if-from-n.false c.loop-d.d (c.loop-d.invariant.trying (omega (arith, c.if-left-eq0.false))) c.loop-d-test.true)

pub returns-then-tried : goal.returns-then-tried
returns-then-tried t c = brief-found _ _ _ c.requires c.if-from-n.false c.loop-d.invariant c.loop-d-test.true (omega (arith, c.if-left-eq0.false)) c.placeable.ensures c.if-placeable.true c.search_briefly-tried.ensures c.if-tried.true

pub loop-d-preserved : goal.loop-d-preserved
loop-d-preserved t c =
    let s = c.requires in
    let l = c.if-from-n.false in
    let v = c.loop-d.invariant in
    let i = c.loop-d-test.true in
    let p = c.placeable.ensures in
    elim c.if-placeable.branch [ then-placeable+else-tried w ↦ brief-next _ _ _ s l v i (omega (arith, c.if-left-eq0.false)) p w.if-placeable.true w.search_briefly-tried.ensures w.if-tried.false w.ren-is w.left-is | else-placeable w ↦ brief-not _ _ _ s l v i (omega (arith, c.if-left-eq0.false)) p w.if-placeable.false w.ren-is w.left-is ]

pub returns : goal.returns
returns t c = brief-end _ _ _ c.requires c.if-from-n.false c.loop-d.invariant c.loop-d-test.false
