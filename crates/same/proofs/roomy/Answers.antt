use Rattle.same.proofs.roomy.Goals as goal

pub returns : goal.returns
returns c = simp (c.enough.ensures, c.enough-2.ensures)
