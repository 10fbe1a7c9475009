use mathlib.Core.Path.{refl}
use Rattle.table.specs.Valid.{enough}
use Rattle.table_validity.proofs.enough.Goals as goal

pub returns : goal.returns
unfolding enough
returns c = refl
