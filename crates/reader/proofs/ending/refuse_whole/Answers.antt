use Rattle.reader.proofs.ending.refuse_whole.Goals as goal

pub returns : goal.returns
returns c = rw (c.clear.ensures, c.clear-2.ensures)
