use Prim.Native.Nat.{ℕ}
use mathlib.Core.Bool.{not}
use Rattle.std.proofs.Common.{rules}
use Rattle.table.specs.Marks.{stray, none_stray}
use Rattle.table.proofs.Ranges.{all_in_range}
use Rattle.table_marks.proofs.none_stray.Goals as goal

pub returns : goal.returns
unfolding none_stray
returns c = all_in_range (λ (b : ℕ). not (stray c.args.bonds.now c.args.m b)) c.args.m c.all.ensures.ran (λ x b q k. search rules)
