use Rattle.register.specs.Layout.{valid_entry}
use Rattle.register.proofs.contents.valid_entry.Goals as goal

pub returns : goal.returns
unfolding valid_entry
returns c = simp (c.end_before.ensures.value, c.length-n.ensures.value, c.start-s.ensures.value)
