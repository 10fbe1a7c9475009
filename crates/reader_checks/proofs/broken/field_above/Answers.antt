use mir.Facts.{to_z-of_z}
use Rattle.reader_checks.specs.Broken.{is_above}
use Rattle.reader_checks.proofs.broken.field_above.Goals as goal

pub returns : goal.returns
unfolding is_above
returns c = rw (c.within.ensures, to_z-of_z (record { sfits = c.struct_told-1.given.1.1.1.1.0.1 }))
