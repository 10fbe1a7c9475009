use native.Mathlib.Omega.{arith}
use mathlib.Core.Path.{sym}
use lib.ListN.{get_or-eq_default}
use Rattle.reading_fields.proofs.byte.peek.Goals as goal

pub returns-else-at-s : goal.returns-else-at-s
returns-else-at-s c = record { is = sym (get_or-eq_default c.args.s.now 0 c.if-at-s.false); within = λ h. omega arith }
