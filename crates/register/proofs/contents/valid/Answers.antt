use native.Mathlib.Omega.{arith}
use mathlib.Core.Path.{sym, ap, ◌∙◌}
use borrow.Author.Tests.{not-true, not-false}
use Rattle.loops.specs.Loop.{each}
use Rattle.loops.proofs.Loops.{left-start, left-pass, left-fail, left_end}
use Rattle.register.specs.Layout.{valid_entry}
use Rattle.register.proofs.Paths.{valid-not-first, valid-many, valid-each}
use Rattle.register.proofs.contents.valid.Goals as goal

pub returns-then-wide-ne1 : goal.returns-then-wide-ne1
returns-then-wide-ne1 c = valid-not-first c.args.r.now (λ e. omega arith)

pub returns-then-n-gt-MAX_ENTRIES : goal.returns-then-n-gt-MAX_ENTRIES
returns-then-n-gt-MAX_ENTRIES c = valid-many c.args.r.now (omega arith) (omega arith)

pub loop-j-init : goal.loop-j-init
loop-j-init c = left-start

pub returns-then-not-valid_entry : goal.returns-then-not-valid_entry
returns-then-not-valid_entry c = let r = c.args.r.now in
    valid-each r _ (omega arith) (omega arith) (ap (each (valid_entry r) 0) (sym c.count-n.ensures) ∙ left-fail c.loop-j.invariant c.loop-j-test.true (sym c.valid_entry.ensures ∙ not-true _ c.if-not-valid_entry.true-raw))

pub loop-j-preserved : goal.loop-j-preserved
loop-j-preserved c = left-pass c.loop-j.invariant c.loop-j-test.true (sym c.valid_entry.ensures ∙ not-false _ c.if-not-valid_entry.false-raw)

pub returns : goal.returns
returns c = let r = c.args.r.now in
    valid-each r _ (omega arith) (omega arith) (ap (each (valid_entry r) 0) (sym c.count-n.ensures) ∙ left_end c.loop-j.invariant c.loop-j-test.false)
