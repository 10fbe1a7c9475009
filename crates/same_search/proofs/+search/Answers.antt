use Rattle.std.proofs.Common.{arith}
use Rattle.same_place.proofs.Laws.{all_placed, images-below, prefix-next, trying-end}
use Rattle.same_search.proofs.Laws.{search-start, search-not, search-sums, level-next, search-found, prefix-after, marks-ask, search-next}
use Rattle.same_search.proofs.+search.Goals as goal
use Rattle.same_search.proofs.+search.Goals.{then-is_hopeful+then-tell-sum1+else-search, then-is_hopeful+else-tell-sum1, else-is_hopeful}

pub returns-then-from-n : goal.returns-then-from-n
returns-then-from-n t c = all_placed _ _ _ c.requires.prefix c.if-from-n.true

pub tell-sum1-requires : goal.tell-sum1-requires
tell-sum1-requires t c = (c.requires.prefix.few, omega (arith, c.requires.prefix.upto, c.if-from-n.false), c.requires.level.keeps.long1, c.requires.nears.0)

pub loop-d-init : goal.loop-d-init
loop-d-init t c = search-start c.requires.prefix c.requires.level c.if-from-n.false

pub is_hopeful-requires : goal.is_hopeful-requires
is_hopeful-requires t c =
    record { from_lt_max_same = (omega (arith, c.requires.prefix.upto, c.requires.prefix.few, c.if-from-n.false), omega (arith, c.requires.prefix.few, c.loop-d-test.true)); by_index = images-below _ _ _ c.requires.prefix c.if-from-n.false c.loop-d.invariant.trying }

pub tell-requires : goal.tell-requires
tell-requires t c = (c.requires.prefix.few, c.loop-d-test.true, c.requires.level.keeps.long2, c.requires.nears.1)

pub search-requires : goal.search-requires
search-requires t c =
    let s = c.requires.prefix in
    let l = c.if-from-n.false in
    let v = c.loop-d.invariant in
    let i = c.loop-d-test.true in
    (omega (arith, c.decreases, s.upto, l), (prefix-next _ _ _ s l c.loop-d.d v.trying i, (level-next s c.requires.level l v i c.is_hopeful.ensures c.if-is_hopeful.true c.tell-sum1.ensures.keys_after c.tell.ensures.keys_after, c.requires.nears)))

pub returns-then-search : goal.returns-then-search
returns-then-search t c = search-found c.requires.prefix c.requires.level c.if-from-n.false c.loop-d.invariant c.loop-d-test.true c.is_hopeful.ensures c.if-is_hopeful.true c.search.ensures c.if-search.true

pub mark-requires : goal.mark-requires
mark-requires t c =
    let s = c.requires.prefix in
    let l = c.if-from-n.false in
    let v = c.loop-d.invariant in
    let i = c.loop-d-test.true in
    let h = c.is_hopeful.ensures in
    let y = c.if-is_hopeful.true in
    let r = c.search.ensures in
    let e = c.if-search.false in
    let m = marks-ask s c.requires.level l v i h y r e in
    record { prefix = (prefix-after s c.requires.level l v i h y r e, omega (arith, s.upto, l), i, c.requires.level.keeps.long2, c.requires.nears.1); d_value = m.0; hopeless = m.1 }

pub loop-d-preserved : goal.loop-d-preserved
loop-d-preserved t c =
    let s = c.requires.prefix in
    let q = c.requires.level in
    let l = c.if-from-n.false in
    let v = c.loop-d.invariant in
    let i = c.loop-d-test.true in
    let h = c.is_hopeful.ensures in
    elim c.if-is_hopeful.branch [ then-is_hopeful+then-tell-sum1+else-search w ↦ search-next s q l v i h w.if-is_hopeful.true w.search.ensures w.if-search.false w.mark.ensures w.ren-is w.dead-is | then-is_hopeful+else-tell-sum1 w ↦ search-sums s q l v i c.tell-sum1.ensures.value w.tell.ensures.value w.if-tell-sum1.false w.ren-is w.dead-is | else-is_hopeful w ↦ search-not s q l v i h w.if-is_hopeful.false w.ren-is w.dead-is ]

pub returns : goal.returns
returns t c = trying-end _ _ _ c.requires.prefix c.if-from-n.false c.loop-d.invariant.trying c.loop-d-test.false
