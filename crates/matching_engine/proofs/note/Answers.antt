use mathlib.Core.Path.{sym}
use lib.Seq.{set_out}
use Rattle.matching_engine.proofs.note.Goals as goal

pub returns-else-at-last : goal.returns-else-at-last
returns-else-at-last c = sym (set_out _ _ _ c.if-at-last.false)
