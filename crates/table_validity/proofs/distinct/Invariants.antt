use mathlib.Core.Path.{◌≡◌}
use mathlib.Core.Bool.{true, not}
use Rattle.loops.proofs.Loops.{Left}
use Rattle.table.specs.Valid.{same_ends, fresh}
use Rattle.table_validity.proofs.distinct.Given as goal

abbrev pub invariant-loop-j : goal.invariant-loop-j
invariant-loop-j l = (l.fine ≡ true) × Left (λ k. not (same_ends l.t l.i k)) l.i l.j

abbrev pub invariant-rows : goal.invariant-rows
invariant-rows l = (l.fine ≡ true) × Left (fresh l.t) l.m l.i
