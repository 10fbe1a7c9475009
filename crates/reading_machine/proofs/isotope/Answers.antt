use Rattle.reading_machine.proofs.Letters.{isotope-more}
use Rattle.reading_machine.proofs.isotope.Goals as goal

pub returns : goal.returns
returns c = simp (c.symbol_or-2.ensures, c.to_or.ensures, c.is_digit.ensures) (isotope-more _ _ c.if-k-eq0.false)
