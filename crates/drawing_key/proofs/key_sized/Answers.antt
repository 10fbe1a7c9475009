use mathlib.Core.Path.{◌∙◌}
use Rattle.drawing_key.proofs.Filling.{key-summed}
use Rattle.drawing_key.proofs.key_sized.Goals as goal

pub returns : goal.returns
returns g c = c.sum_up.ensures ∙ key-summed _ _ c.fill_atom_keys.ensures
