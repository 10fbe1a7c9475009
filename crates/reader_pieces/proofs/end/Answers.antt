use mathlib.Core.Path.{sym, ◌∙◌}
use borrow.Author.Tests.{not-true, not-false}
use Rattle.reader_pieces.proofs.Guards.{guard_passed, end-stopped, end-told, end-incomplete, end-complete}
use Rattle.reader_pieces.proofs.end.Goals as goal

pub returns-in-Some : goal.returns-in-Some
returns-in-Some c = let a = c.args in rw c.reply.ensures (end-stopped a.p a.atoms.now a.bonds.now (sym c.guard.ensures ∙ c.in-Some.is))

pub returns-then-p-ne0 : goal.returns-then-p-ne0
returns-then-p-ne0 c = let a = c.args in c.refuse.ensures ∙ rw c.blank.ensures (end-told a.p a.atoms.now a.bonds.now (guard_passed a.p a.atoms.now a.bonds.now (sym c.guard.ensures ∙ c.in_default.is)) c.if-p-ne0.true)

pub returns-then-not-complete : goal.returns-then-not-complete
returns-then-not-complete c = let a = c.args in c.refuse-then-not-complete.ensures ∙ rw c.blank-then-not-complete.ensures (end-incomplete a.p a.atoms.now a.bonds.now (guard_passed a.p a.atoms.now a.bonds.now (sym c.guard.ensures ∙ c.in_default.is)) c.if-p-ne0.false (sym c.complete.ensures ∙ not-true _ c.if-not-complete.true-raw))

pub conclude-requires : goal.conclude-requires
conclude-requires c = let a = c.args in let w = (guard_passed a.p a.atoms.now a.bonds.now (sym c.guard.ensures ∙ c.in_default.is)) in (w.room, w.sound)

pub returns : goal.returns
returns c = let a = c.args in c.conclude.ensures ∙ end-complete a.p a.atoms.now a.bonds.now (guard_passed a.p a.atoms.now a.bonds.now (sym c.guard.ensures ∙ c.in_default.is)) c.if-p-ne0.false (sym c.complete.ensures ∙ not-false _ c.if-not-complete.false-raw)
