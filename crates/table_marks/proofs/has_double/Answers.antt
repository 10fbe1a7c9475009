use Prim.Native.Nat.{ℕ}
use Rattle.std.proofs.Common.{rules}
use Rattle.table.specs.Marks.{double_at, double_count}
use Rattle.table.proofs.Ranges.{any_in_range}
use Rattle.table_marks.proofs.has_double.Goals as goal

pub returns : goal.returns
unfolding double_count
returns c = any_in_range (λ (b : ℕ). double_at c.args.bonds.now c.args.a.0 b) c.args.m c.any.ensures.ran (λ x b q k. search rules)
