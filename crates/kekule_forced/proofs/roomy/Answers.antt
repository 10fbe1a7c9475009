use Rattle.kekule_forced.proofs.roomy.Goals as goal

pub returns : goal.returns
returns c = simp c.enough.ensures
