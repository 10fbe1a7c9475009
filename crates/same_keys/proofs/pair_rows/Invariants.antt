use Prim.Native.Nat.{ℕ}
use mathlib.Core.List.{List}
use Rattle.loops.proofs.Loops.{Ran}
use Rattle.same_keys.specs.Keys.{at, pair_cell, told_apart, row_filled}
use Rattle.same_keys.proofs.pair_rows.Given as goal

abbrev pub invariant-loop-a : goal.invariant-loop-a
invariant-loop-a l = Ran (λ (x : ℕ) (s : List ℕ). row_filled l.n (pair_cell (told_apart (at l.fn.ends.firsts.now) (at l.fn.ends.seconds.now) l.fn.ends.m l.n l.keys x)) x s) l.initial.pairs l.n l.a l.pairs
