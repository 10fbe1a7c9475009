use Rattle.reading.specs.Read.{text_rank}
use Rattle.reader.proofs.Ends.{placed-marks, refused-marks}
use Rattle.reader.proofs.ending.place.Goals as goal

pub returns-in_default : goal.returns-in_default
returns-in_default c = let a = c.args in
    refused-marks (text_rank a.keys.now a.bonds.now) a.atoms.now a.bonds.now a.n a.m c.in_default.is c.refuse_whole.ensures

pub returns : goal.returns
returns c = let a = c.args in
    placed-marks (text_rank a.keys.now a.bonds.now) a.atoms.now a.bonds.now a.n a.m c.in-Some.is c.store_marks.ensures
