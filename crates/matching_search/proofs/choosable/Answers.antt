use Rattle.matching_search.proofs.choosable.Goals as goal

pub returns : goal.returns
returns c = rw (c.unpaired.ensures, c.unpaired-2.ensures, c.end_of.ensures, c.end_of-2.ensures)
