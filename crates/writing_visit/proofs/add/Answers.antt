use mathlib.Core.Path.{refl}
use Rattle.writing_visit.proofs.add.Goals as goal

pub returns : goal.returns
returns c = record { order_after = refl; number_after = refl; up_after = refl; kind_after = refl }
