use Rattle.matching_certified.proofs.is_fine.Goals as goal

pub returns : goal.returns
returns c = simp (c.end_of-first.ensures, c.end_of-second.ensures)
