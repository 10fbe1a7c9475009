use Prim.Native.Nat.{◌≤◌}
use mathlib.Core.Path.{◌∙◌}
use native.Mathlib.Omega.{arith}
use Rattle.report_lines.proofs.Decimal.{few-digits, fewest-dec}
use Rattle.report_lines.proofs.output.digits.Goals as goal

pub returns : goal.returns
returns c = let few : c.decimal.result ≤ 20 = few-digits c.decimal.result c.args.n (omega arith) c.decimal.ensures.len in
    record { is = c.decimal.ensures.digits ∙ fewest-dec _ _ few c.decimal.ensures.len; within = c.decimal.ensures.in_bounds }
