use Prim.Native.Nat.{ℕ}
use mathlib.Core.Bool.{not}
use Rattle.std.proofs.Common.{rules}
use Rattle.kinds.specs.Kind.{is_mark}
use Rattle.table.specs.Cells.{kind}
use Rattle.table.specs.Marks.{unmarked}
use Rattle.table.proofs.Ranges.{all_in_range}
use Rattle.table_marks.proofs.unmarked.Goals as goal

pub returns : goal.returns
unfolding unmarked
returns c = all_in_range (λ (b : ℕ). not (is_mark (kind c.args.bonds.now b))) c.args.m c.all.ensures.ran (λ x b q k. search rules)
