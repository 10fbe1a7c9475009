use Rattle.same_open.proofs.Seeking.{search-out, search-dead, search-next}
use Rattle.same_open.proofs.+search.Goals as goal
use Rattle.same_open.proofs.+search.Goals.{then-cand-v-eq1+then-narrow+else-tried, then-cand-v-eq1+else-narrow, else-cand-v-eq1}

pub loop-d-preserved : goal.loop-d-preserved
loop-d-preserved t c =
    let v = c.loop-d.invariant in
    let i = c.loop-d-test.true in
    let l = c.if-left-eq0.false in
    elim c.if-cand-v-eq1.branch [ then-cand-v-eq1+then-narrow+else-tried w ↦ search-next v i l w.narrow.ensures.by_index w.search-tried.ensures w.if-tried.false w.left-is | then-cand-v-eq1+else-narrow w ↦ search-dead v i l w.narrow.ensures.fact w.if-narrow.false | else-cand-v-eq1 w ↦ search-out v i l c.choose-v.ensures w.if-cand-v-eq1.false ]
