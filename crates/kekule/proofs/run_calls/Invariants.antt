use Rattle.kekule.specs.Kekule.{call_on}
use Rattle.kekule.proofs.Calls.{Calling}
use Rattle.kekule.proofs.run_calls.Given as goal

abbrev pub invariant-loop-i : goal.invariant-loop-i
invariant-loop-i l = Calling (λ c r. call_on c l.fn.tables.atoms.now l.fn.tables.bonds.now l.fn.tables.n l.fn.tables.m r) l.calls l.initial.row l.initial.codes l.i l.row l.codes
