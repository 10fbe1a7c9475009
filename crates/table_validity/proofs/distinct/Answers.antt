use native.Mathlib.Omega.{arith}
use mathlib.Core.Path.{refl, sym, ap, ◌∙◌}
use mathlib.Core.Bool.{not}
use Rattle.loops.proofs.Loops.{left-start, left-pass, left-fail, left_end}
use Rattle.table.specs.Valid.{fresh, distinct}
use Rattle.table.proofs.Keys.{both-same, first-differs, second-differs}
use Rattle.table_validity.proofs.distinct.Goals as goal
use Rattle.table_validity.proofs.distinct.Goals.{else-first-t-via-then-first-t+else-second-t, else-first-t-via-else-first-t}

pub rows-init : goal.rows-init
rows-init c = (refl, left-start)

pub bounds-t-i : goal.bounds-t-i
bounds-t-i c = let e = c.requires.by_index c.rows.i c.rows-test.true in omega (arith, e.inside)

pub bounds-t-i-in-rows : goal.bounds-t-i-in-rows
bounds-t-i-in-rows c = let e = c.requires.by_index c.rows.i c.rows-test.true in e.inside

pub loop-j-init : goal.loop-j-init
loop-j-init c = (c.rows.invariant.0, left-start)

pub bounds-t-p : goal.bounds-t-p
bounds-t-p c = let e = c.requires.by_index c.loop-j.j (omega arith) in
    omega (arith, e.inside)

pub bounds-t-p-then-first-t : goal.bounds-t-p-then-first-t
bounds-t-p-then-first-t c = let e = c.requires.by_index c.loop-j.j (omega arith) in
    e.inside

pub loop-j-preserved : goal.loop-j-preserved
loop-j-preserved c =
    let v = c.loop-j.invariant in
    let i = c.requires.by_index c.rows.i c.rows-test.true in
    let j = c.requires.by_index c.loop-j.j (omega arith) in
    elim c.else-first-t.branch [
      | else-first-t-via-then-first-t+else-second-t w ↦ (v.0, left-pass v.1 c.loop-j-test.true (ap not (second-differs i j w.if-first-t.true w.if-second-t.false-raw)))
      | else-first-t-via-else-first-t w ↦ (v.0, left-pass v.1 c.loop-j-test.true (ap not (first-differs i j w.if-first-t.false)))
    ]

pub rows-preserved : goal.rows-preserved
unfolding fresh
rows-preserved c = (c.loop-j.invariant.0, left-pass c.rows.invariant.1 c.rows-test.true (left_end c.loop-j.invariant.1 c.loop-j-test.false))

pub returns-after-rows : goal.returns-after-rows
unfolding distinct
returns-after-rows c = c.rows.invariant.0 ∙ sym (left_end c.rows.invariant.1 c.rows-test.false)

pub returns-then-second-t : goal.returns-then-second-t
unfolding distinct fresh
returns-then-second-t c = let d = c.loop-j in
    let r = c.rows in
    let at = c.requires.by_index in
    let i = at r.i c.rows-test.true in
    let j = at d.j (omega arith) in
    sym
    (left-fail r.invariant.1 c.rows-test.true
    (left-fail d.invariant.1 c.loop-j-test.true (ap not (both-same i j c.if-first-t.true c.if-second-t.true-raw))))
