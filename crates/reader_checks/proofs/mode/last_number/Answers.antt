use Rattle.reading_pieces.specs.State.{mode_number}
use borrow.Author.Rules.{rules}
use Rattle.reader_checks.proofs.mode.last_number.Goals as goal

pub returns-in-Plain : goal.returns-in-Plain
unfolding mode_number
returns-in-Plain c = search rules

pub returns-in-AfterC : goal.returns-in-AfterC
unfolding mode_number
returns-in-AfterC c = search rules

pub returns-in-AfterB : goal.returns-in-AfterB
unfolding mode_number
returns-in-AfterB c = search rules
