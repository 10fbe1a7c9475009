use Rattle.table.proofs.Keys.{never}
use Rattle.writing_atoms.proofs.Common.{passed, below-nine, below_two, common-of}
use native.Mathlib.Omega.{arith}
use borrow.Author.Tests.{eqb-true}
use Rattle.writing_atoms.proofs.fields.is_common.Goals as goal

pub returns-then-not-atom_within : goal.returns-then-not-atom_within
returns-then-not-atom_within c = never

pub returns-then-not-atom_within-2 : goal.returns-then-not-atom_within-2
returns-then-not-atom_within-2 c = never

pub overflow_sub-target : goal.overflow_sub-target
overflow_sub-target c = omega (arith, below-nine _ _ (passed c.atom_within.ensures c.if-not-atom_within.false-raw) c.atom_number-e.ensures)

pub overflow_sub-target-2 : goal.overflow_sub-target-2
overflow_sub-target-2 c = omega (arith, below-nine _ _ (passed c.atom_within.ensures c.if-not-atom_within.false-raw) c.atom_number-e.ensures, below_two _ _ (passed c.atom_within-2.ensures c.if-not-atom_within-2.false-raw) c.atom_number-s.ensures)

pub returns-then-target-sum : goal.returns-then-target-sum
returns-then-target-sum c = never

pub returns : goal.returns
returns c = λ h. common-of (passed c.atom_within.ensures c.if-not-atom_within.false-raw) (passed c.atom_within-2.ensures c.if-not-atom_within-2.false-raw) c.atom_number-e.ensures c.atom_number-s.ensures c.atom_number.ensures c.if-target-sum.false (eqb-true _ _ h)
