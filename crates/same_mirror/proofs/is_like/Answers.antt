use borrow.Author.Tests.{not-false}
use Rattle.same_mirror.proofs.Checking.{refused}
use Rattle.same_mirror.proofs.is_like.Goals as goal

pub returns-then-not-is_onto : goal.returns-then-not-is_onto
returns-then-not-is_onto c = refused

pub has_same_candidates-requires : goal.has_same_candidates-requires
has_same_candidates-requires c = (c.requires, (c.is_onto.ensures (not-false c.is_onto.result c.if-not-is_onto.false-raw)).below)

pub returns-then-not-has_same_candidates : goal.returns-then-not-has_same_candidates
returns-then-not-has_same_candidates c = refused

pub has_same_faces-requires : goal.has_same_faces-requires
has_same_faces-requires c = (c.requires, (c.is_onto.ensures (not-false c.is_onto.result c.if-not-is_onto.false-raw)).below)

pub returns : goal.returns
returns c = λ h.
    record {
      onto = c.is_onto.ensures (not-false c.is_onto.result c.if-not-is_onto.false-raw);
      faces = c.has_same_faces.ensures h;
      candidates = c.has_same_candidates.ensures (not-false c.has_same_candidates.result c.if-not-has_same_candidates.false-raw);
    }
