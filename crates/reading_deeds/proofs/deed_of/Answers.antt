use mathlib.Core.Logic.{⊎_elim}
use Rattle.reading_deeds.proofs.Laws.{kept}
use Rattle.reading_deeds.proofs.Modes.{percent-takes, percent1-takes, colon-takes, atom-takes, tens-fit, bracket-fits, isotope-fits, colon-fits, extension-fits, in_sequence, in-bond, at-atom, in_branch, in-bracket, in-isotope, after-letter, after_symbol, after-at, after-mark, after-hydrogen, after-hydrogens, after-sign, after-charge, after-colon, in-extension, tens-does, number-does, astatine, tennessine}
use Rattle.reading_deeds.proofs.deed_of.Goals as goal

pub value-requires : goal.value-requires
value-requires c = percent-takes _ c.requires.fact c.in-Percent.is

pub value-requires-in-Percent1 : goal.value-requires-in-Percent1
value-requires-in-Percent1 c = percent1-takes _ c.requires.fact c.in-Percent1.is

pub numbering-requires : goal.numbering-requires
numbering-requires c = ⊎_elim (λ e. bracket-fits _ _ c.requires.fitting e) (λ w. isotope-fits _ _ c.requires.fitting w.1) c.in-Bracket.is

pub extending-requires : goal.extending-requires
extending-requires c = ⊎_elim (λ e. colon-fits _ _ _ c.requires.fitting e) (λ w. extension-fits _ _ _ c.requires.fact c.requires.fitting w.1) c.in-Colon.is

pub returns-in-Seq : goal.returns-in-Seq
returns-in-Seq c = in_sequence _ _ _ c.in-Seq.is (c.or_atom.ensures _ (c.or_bridge.ensures _ c.between.ensures))

pub returns-in-Bond : goal.returns-in-Bond
returns-in-Bond c = in-bond _ _ _ c.in-Bond.is (c.or_atom-in-Bond.ensures _ (c.or_bridge-in-Bond.ensures _ kept))

pub returns-in-AtomNext : goal.returns-in-AtomNext
returns-in-AtomNext c = at-atom _ _ _ c.in-AtomNext.is (atom-takes _ c.requires.fact c.in-AtomNext.is) (c.or_atom-in-AtomNext.ensures _ kept)

pub returns-in-Inside : goal.returns-in-Inside
returns-in-Inside c = in_branch _ _ _ c.in-Inside.is (c.or_atom-in-Inside.ensures _ c.joint.ensures)

pub returns-in-Percent : goal.returns-in-Percent
returns-in-Percent c = tens-does _ _ _ c.in-Percent.is c.value.ensures.0

pub returns-in-Percent1 : goal.returns-in-Percent1
returns-in-Percent1 c = number-does _ _ _ c.in-Percent1.is (tens-fit _ _ c.requires.fitting c.in-Percent1.is) c.value-in-Percent1.ensures.0 c.value-in-Percent1.ensures.1

pub returns-in-LetterA : goal.returns-in-LetterA
returns-in-LetterA c = astatine _ _ _ c.in-LetterA.is

pub returns-in-LetterT : goal.returns-in-LetterT
returns-in-LetterT c = tennessine _ _ _ c.in-LetterT.is

pub returns-in-Bracket : goal.returns-in-Bracket
returns-in-Bracket c = ⊎_elim (λ e. in-bracket _ _ _ e c.numbering.ensures) (λ w. in-isotope _ _ _ w.1 c.numbering.ensures) c.in-Bracket.is

pub returns-in-Symbol1 : goal.returns-in-Symbol1
returns-in-Symbol1 c = after-letter _ _ _ c.in-Symbol1.is c.second.ensures

pub returns-in-Symbolled : goal.returns-in-Symbolled
returns-in-Symbolled c = after_symbol _ _ _ c.in-Symbolled.is c.marking.ensures

pub returns-in-At1 : goal.returns-in-At1
returns-in-At1 c = after-at _ _ _ c.in-At1.is c.marking-in-At1.ensures

pub returns-in-At2 : goal.returns-in-At2
returns-in-At2 c = after-mark _ _ _ c.in-At2.is c.hydrating.ensures

pub returns-in-Hydrogen : goal.returns-in-Hydrogen
returns-in-Hydrogen c = after-hydrogen _ _ _ c.in-Hydrogen.is c.after_hydrogen.ensures

pub returns-in-Hydrogens : goal.returns-in-Hydrogens
returns-in-Hydrogens c = after-hydrogens _ _ _ c.in-Hydrogens.is c.charging.ensures

pub returns-in-Sign : goal.returns-in-Sign
returns-in-Sign c = after-sign _ _ _ c.in-Sign.is c.after_sign.ensures

pub returns-in-Charged : goal.returns-in-Charged
returns-in-Charged c = after-charge _ _ _ c.in-Charged.is c.closing.ensures

pub returns-in-Colon : goal.returns-in-Colon
returns-in-Colon c = ⊎_elim (λ e. after-colon _ _ _ e (colon-takes _ c.requires.fact e) c.extending.ensures) (λ w. in-extension _ _ _ w.1 c.extending.ensures) c.in-Colon.is
