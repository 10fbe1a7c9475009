use Rattle.reader_bytes.proofs.Parts.{first_plain, first-selected, first-half, first-bracket, first-nothing}
use Rattle.reader_bytes.proofs.first.Goals as goal

pub returns-in-Plain : goal.returns-in-Plain
returns-in-Plain c = λ s o k p y. first_plain _ s o k p _ y _ _ c.requires.has_room c.put_atom.ensures (c.grown.ensures s o k p y _) c.in-Plain.is c.bare.ensures

pub returns-in-Selected : goal.returns-in-Selected
returns-in-Selected c = λ s o k p y. first-selected _ s o k p _ y _ _ c.requires.has_room c.put_atom-in-Selected.ensures (c.grown-in-Selected.ensures s o k p y _) c.in-Selected.is c.bare-in-Selected.ensures

pub returns-in-Half : goal.returns-in-Half
returns-in-Half c = λ s o k p y. first-half _ s o k p _ y _ _ c.requires.has_room c.put_atom-in-Half.ensures (c.grown-in-Half.ensures s o k p y _) c.in-Half.is c.bare-in-Half.ensures

pub returns-in-Bracket : goal.returns-in-Bracket
returns-in-Bracket c = λ s o k p y. first-bracket _ _ c.in-Bracket.is (c.grown-in-Bracket.ensures s o k p y _)

pub returns-in-Nothing : goal.returns-in-Nothing
returns-in-Nothing c = λ s o k p y. first-nothing _ _ c.in-Nothing.is
