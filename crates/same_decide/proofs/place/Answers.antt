use Rattle.same_decide.specs.Decide.{sketch}
use Rattle.same_decide.proofs.Rows.{as-ways, no-ways}
use Rattle.same_decide.proofs.place.Goals as goal

pub returns-then-row_sum-z1 : goal.returns-then-row_sum-z1
returns-then-row_sum-z1 c = no-ways _ _ _ (sketch _ _ _ _ _) _ c.row_sum.ensures c.if-row_sum-z1.true _

pub returns : goal.returns
returns c = as-ways _ _ _ (sketch _ _ _ _ _) _ c.row_sum.ensures c.if-row_sum-z1.false c.fill_orders.ensures c.solve.ensures
