use mir.Facts.{to_z-of_z}
use mathlib.Core.Path.{◌∙◌}
use Rattle.same_keys.proofs.Mixing.{cells-stirred}
use Rattle.same_keys.proofs.first_key.Goals as goal

pub returns : goal.returns
returns c = c.stir.ensures
    ∙ cells-stirred _ _ _ c.stir-e.ensures c.atom_number.ensures c.stir-i.ensures c.atom_number-2.ensures c.stir-h.ensures c.atom_number-3.ensures
    c.stir-c.ensures (simp (to_z-of_z c.atom_cell.ensures.sfits) at c.charge_number.ensures) c.atom_cell.ensures.value c.atom_number-4.ensures
