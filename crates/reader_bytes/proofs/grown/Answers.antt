use native.Mathlib.Omega.{arith}
use Rattle.reader_bytes.proofs.Parts.{room-bond, grown-alone, grown-bonded}
use Rattle.reader_bytes.proofs.grown.Goals as goal

pub returns-then-not-is_bonded : goal.returns-then-not-is_bonded
returns-then-not-is_bonded c = λ s o k p y a. grown-alone _ _ s o k p _ y a _ c.no_fields-none.ensures c.is_bonded.ensures c.if-not-is_bonded.true-raw

pub overflow_add-g-2 : goal.overflow_add-g-2
overflow_add-g-2 c = omega (arith, room-bond c.args.h c.requires.has_room c.is_bonded.ensures c.if-not-is_bonded.false-raw)

pub returns : goal.returns
returns c = λ s o k p y a. grown-bonded _ _ s o k p _ y a _ c.no_fields-none.ensures c.is_bonded.ensures c.if-not-is_bonded.false-raw c.requires.has_room c.kind_of.ensures c.bond_of.ensures c.put_bond.ensures
