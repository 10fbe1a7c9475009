use Rattle.std.proofs.Common.{length, ◌+◌, ◌-◌}
use Rattle.reading_state.specs.State.{steering}
use Rattle.reader.proofs.Turns.{Turn}
use Rattle.reader.proofs.sequence.+branch_sequence.Given as goal

abbrev pub decreases-branch : goal.decreases-branch
decreases-branch l = length l.s.now + 1 - l.at

abbrev pub decreases-sequence : goal.decreases-sequence
decreases-sequence l = length l.s.now + 1 - l.start.at

abbrev pub invariant-sequence-loop-j : goal.invariant-sequence-loop-j
invariant-sequence-loop-j l =
    Turn l.s l.joint l.initial.at (steering l.initial.st l.initial.offsets l.initial.outsides l.initial.keys) l.initial.atoms l.initial.bonds l.at l.fresh (steering l.st l.offsets l.outsides l.keys) l.atoms l.bonds

abbrev pub decreases-sequence-loop-j : goal.decreases-sequence-loop-j
decreases-sequence-loop-j l = length l.s - l.at
