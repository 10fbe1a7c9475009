use borrow.Author.Rules.{rules}
use Rattle.reading_pieces.specs.State.{blank_state}
use Rattle.reader_pieces.proofs.answer.blank.Goals as goal

pub returns : goal.returns
unfolding blank_state
returns c = search rules
