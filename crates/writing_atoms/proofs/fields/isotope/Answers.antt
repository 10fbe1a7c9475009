use Rattle.buffer.proofs.Laws.{as_is, nothing}
use Rattle.writing_atoms.proofs.Laws.{isotope0, isotope1}
use Rattle.writing_atoms.proofs.fields.isotope.Goals as goal

pub returns-then-i-eq0 : goal.returns-then-i-eq0
returns-then-i-eq0 c = as_is (isotope0 _ c.if-i-eq0.true) (nothing)

pub returns : goal.returns
returns c = as_is (isotope1 _ c.if-i-eq0.false) c.decimal.ensures
