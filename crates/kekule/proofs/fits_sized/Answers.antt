use mathlib.Core.Path.{◌∙◌}
use Rattle.table_graph.proofs.Graph.{built-shape}
use Rattle.kekule.proofs.Kekule.{matching-built}
use Rattle.kekule.proofs.fits_sized.Goals as goal

pub fits-requires : goal.fits-requires
fits-requires g c = built-shape c.build.ensures c.requires.valid c.args.row.now c.requires.m_in_bounds

pub returns : goal.returns
returns g c = c.fits.ensures ∙ matching-built c.build.ensures c.args.row.now
