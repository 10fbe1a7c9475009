use mathlib.Core.Path.{sym, ◌∙◌}
use Rattle.reader_pieces.proofs.Guards.{guard_passed, feed-stopped, feed-told, feed-on}
use Rattle.reader_pieces.proofs.feed.Goals as goal

pub returns-in-Some : goal.returns-in-Some
returns-in-Some c = let a = c.args in rw c.reply.ensures (feed-stopped a.p a.atoms.now a.bonds.now a.piece.now (sym c.guard.ensures ∙ c.in-Some.is))

pub returns-then-p-ne0 : goal.returns-then-p-ne0
returns-then-p-ne0 c = let a = c.args in c.refuse.ensures ∙ feed-told a.p a.atoms.now a.bonds.now a.piece.now (guard_passed a.p a.atoms.now a.bonds.now (sym c.guard.ensures ∙ c.in_default.is)) c.if-p-ne0.true

pub run-requires : goal.run-requires
run-requires c = let a = c.args in (c.if-p-ne0.false, (guard_passed a.p a.atoms.now a.bonds.now (sym c.guard.ensures ∙ c.in_default.is)).sound)

pub returns : goal.returns
returns c = let a = c.args in c.run.ensures ∙ feed-on a.p a.atoms.now a.bonds.now a.piece.now (guard_passed a.p a.atoms.now a.bonds.now (sym c.guard.ensures ∙ c.in_default.is)) c.if-p-ne0.false
