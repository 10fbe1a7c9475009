use Rattle.kekule_plain.proofs.ask.Goals as goal

pub returns : goal.returns
returns c = simp c.found_code.ensures c.call.ensures
