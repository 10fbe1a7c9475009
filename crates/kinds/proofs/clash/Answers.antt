use Rattle.kinds.proofs.clash.Goals as goal

pub returns : goal.returns
returns c = simp c.turned-back.ensures
