use Rattle.reading_pieces.specs.State.{mode_number}
use mathlib.Core.Path.{◌∙◌}
use Rattle.reader_checks.proofs.mode.mode_number.Goals as goal

pub returns-in-Seq : goal.returns-in-Seq
unfolding mode_number
returns-in-Seq c = c.last_number.ensures ∙ rw c.in-Seq.is

pub returns-in-Bond : goal.returns-in-Bond
unfolding mode_number
returns-in-Bond c = rw c.in-Bond.is

pub returns-in-AtomNext : goal.returns-in-AtomNext
unfolding mode_number
returns-in-AtomNext c = rw c.in-AtomNext.is

pub returns-in-Inside : goal.returns-in-Inside
unfolding mode_number
returns-in-Inside c = rw c.in-Inside.is

pub returns-in-Percent : goal.returns-in-Percent
unfolding mode_number
returns-in-Percent c = rw c.in-Percent.is

pub returns-in-Percent1 : goal.returns-in-Percent1
unfolding mode_number
returns-in-Percent1 c = rw c.in-Percent1.is

pub returns-in-LetterA : goal.returns-in-LetterA
unfolding mode_number
returns-in-LetterA c = rw c.in-LetterA.is

pub returns-in-LetterT : goal.returns-in-LetterT
unfolding mode_number
returns-in-LetterT c = rw c.in-LetterT.is

pub returns-in-Bracket : goal.returns-in-Bracket
unfolding mode_number
returns-in-Bracket c = rw c.in-Bracket.is

pub returns-in-Isotope : goal.returns-in-Isotope
unfolding mode_number
returns-in-Isotope c = rw c.in-Isotope.is

pub returns-in-Symbol1 : goal.returns-in-Symbol1
unfolding mode_number
returns-in-Symbol1 c = rw c.in-Symbol1.is

pub returns-in-Symbolled : goal.returns-in-Symbolled
unfolding mode_number
returns-in-Symbolled c = rw c.in-Symbolled.is

pub returns-in-At1 : goal.returns-in-At1
unfolding mode_number
returns-in-At1 c = rw c.in-At1.is

pub returns-in-At2 : goal.returns-in-At2
unfolding mode_number
returns-in-At2 c = rw c.in-At2.is

pub returns-in-Hydrogen : goal.returns-in-Hydrogen
unfolding mode_number
returns-in-Hydrogen c = rw c.in-Hydrogen.is

pub returns-in-Hydrogens : goal.returns-in-Hydrogens
unfolding mode_number
returns-in-Hydrogens c = rw c.in-Hydrogens.is

pub returns-in-Sign : goal.returns-in-Sign
unfolding mode_number
returns-in-Sign c = rw c.in-Sign.is

pub returns-in-Charged : goal.returns-in-Charged
unfolding mode_number
returns-in-Charged c = rw c.in-Charged.is

pub returns-in-Colon : goal.returns-in-Colon
unfolding mode_number
returns-in-Colon c = rw c.in-Colon.is

pub returns-in-Extension : goal.returns-in-Extension
unfolding mode_number
returns-in-Extension c = rw c.in-Extension.is
