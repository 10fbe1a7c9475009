use Rattle.std.proofs.Common.{◌-◌, arith}
use lib.Dec.{ltb}
use Rattle.same_mirror.proofs.Passing.{pass-over, pass-dead, pass-next, pass-marked, nowhere, some_left, none-marked, pass-start}
use Rattle.same_mirror.proofs.+search.Goals as goal
use Rattle.same_mirror.proofs.+search.Goals.{then-cand-v+then-narrow_near+else-tried+then-left-spent, then-cand-v+then-narrow_near+else-tried+else-left-spent, then-cand-v+else-narrow_near, else-cand-v}

pub loop-d-preserved : goal.loop-d-preserved
loop-d-preserved t c =
    let v = c.loop-d.invariant in
    let i = c.loop-d-test.true in
    let l = c.if-left-eq0.false in
    elim c.if-cand-v.branch [ then-cand-v+then-narrow_near+else-tried+then-left-spent w ↦ pass-marked v i l (omega (arith, w.left-is, w.mark-left.ensures.upper_bound, w.search-tried.ensures.left_le_budget)) w.dead-is (w.mark-left.ensures.by_index c.args.quest.p.now) (nowhere w.narrow_near.ensures.by_index w.search-tried.ensures.fact w.if-tried.false (some_left w.search-tried.result.left (ltb 300 (c.loop-d.left - 1 - w.search-tried.result.left)) w.if-left-spent.true)) | then-cand-v+then-narrow_near+else-tried+else-left-spent w ↦ pass-next v i l (omega (arith, w.left-is, w.search-tried.ensures.left_le_budget)) w.dead-is (λ k. nowhere w.narrow_near.ensures.by_index w.search-tried.ensures.fact w.if-tried.false (omega (arith, w.left-is, k))) | then-cand-v+else-narrow_near w ↦ pass-dead v i l (omega (arith, w.left-is)) w.dead-is w.narrow_near.ensures.fact w.if-narrow_near.false | else-cand-v w ↦ pass-over v i l (omega (arith, w.left-is)) w.dead-is c.choose-v.ensures w.if-cand-v.false ]

pub loop-d-init : goal.loop-d-init
loop-d-init t c = pass-start none-marked
