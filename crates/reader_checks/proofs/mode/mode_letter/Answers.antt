use mathlib.Core.Path.{sym}
use Rattle.reading_pieces.specs.State.{mode_letter}
use Rattle.reader_checks.proofs.Modes.{letter-none}
use Rattle.reader_checks.proofs.mode.mode_letter.Goals as goal

pub returns-in_default : goal.returns-in_default
returns-in_default c = sym (letter-none _ c.in_default.not-Symbol1)

pub returns : goal.returns
unfolding mode_letter
returns c = rw c.in-Symbol1.is
