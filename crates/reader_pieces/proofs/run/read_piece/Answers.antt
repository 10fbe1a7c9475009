use Rattle.std.proofs.lemmas.Result.{err_from_is_err_and}
use native.Mathlib.Omega.{arith}
use mathlib.Core.Path.{◌∙◌}
use Rattle.reader_bytes.specs.Step.{lent}
use Rattle.reader_pieces.proofs.Running.{running-start, running-step, running-refused, running-long, running-end}
use Rattle.reader_pieces.proofs.run.read_piece.Goals as goal

pub loop-i-init : goal.loop-i-init
loop-i-init c = running-start c.requires.from_le_max_text c.requires.ready

pub overflow_sub-from : goal.overflow_sub-from
overflow_sub-from c = omega (arith, c.loop-i.invariant.short)

pub shape_of-atoms-then-from-i : goal.shape_of-atoms-then-from-i
shape_of-atoms-then-from-i c = c.loop-i.invariant.long-atoms

pub shape_of-bonds-then-from-i : goal.shape_of-bonds-then-from-i
shape_of-bonds-then-from-i c = c.loop-i.invariant.long-bonds

pub returns-then-from-i : goal.returns-then-from-i
returns-then-from-i c = running-long c.loop-i.invariant c.loop-i-test.true c.if-from-i.true

pub step-requires : goal.step-requires
step-requires c = record { ready = c.loop-i.invariant.ready; at_lt_max_text = omega (arith, c.if-from-i.false) }

pub shape_of-atoms-in_err-h : goal.shape_of-atoms-in_err-h
shape_of-atoms-in_err-h c = c.step.auto.atoms ∙ c.loop-i.invariant.long-atoms

pub shape_of-bonds-in_err-h : goal.shape_of-bonds-in_err-h
shape_of-bonds-in_err-h c = c.step.auto.bonds ∙ c.loop-i.invariant.long-bonds

pub returns-in_err-h : goal.returns-in_err-h
returns-in_err-h c = let e = err_from_is_err_and c.from_residual.result c.from_residual.ensures.1 in
    rw (e.1, e.2) (running-refused c.loop-i.invariant c.loop-i-test.true c.if-from-i.false (lent c.step.new.hubs c.step.new.openers c.step.new.symbols c.step.new.offsets c.step.new.outsides c.step.new.keys c.step.new.atoms c.step.new.bonds) _ c.in_err-h.ensures)

pub loop-i-preserved : goal.loop-i-preserved
loop-i-preserved c = running-step c.loop-i.invariant c.loop-i-test.true c.if-from-i.false (lent c.step.new.hubs c.step.new.openers c.step.new.symbols c.step.new.offsets c.step.new.outsides c.step.new.keys c.step.new.atoms c.step.new.bonds) c.in_ok-h.ensures c.step.auto.atoms c.step.auto.bonds

pub shape_of-atoms : goal.shape_of-atoms
shape_of-atoms c = c.loop-i.invariant.long-atoms

pub shape_of-bonds : goal.shape_of-bonds
shape_of-bonds c = c.loop-i.invariant.long-bonds

pub returns : goal.returns
returns c = running-end c.loop-i.invariant c.loop-i-test.false
