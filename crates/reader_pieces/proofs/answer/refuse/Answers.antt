use Rattle.reader_pieces.proofs.answer.refuse.Goals as goal

pub returns : goal.returns
returns c = rw (c.reply.ensures, c.clear_from.ensures, c.clear_from-2.ensures)
