use Rattle.same_alike.proofs.partner.Goals as goal

pub returns-then-ka-v : goal.returns-then-ka-v
returns-then-ka-v c = c.requires.1

pub returns-then-kb-w : goal.returns-then-kb-w
returns-then-kb-w c = c.loop-w-test.true

pub returns : goal.returns
returns c = c.requires.1
