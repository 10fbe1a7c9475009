use Rattle.writing_marks.proofs.put_ranks.Goals as goal

pub returns : goal.returns
returns c = rw (c.rank.ensures, c.rank-2.ensures)
