use Rattle.std.proofs.Common.{arith, rules}
use Rattle.reading_fields.proofs.Letters.{field_row}
use Rattle.reading_fields.proofs.spelled.row_of.Goals as goal

pub returns : goal.returns
returns c = field_row _ (omega arith) (omega arith) (omega arith) (omega arith) (omega arith) (omega arith) (search rules)
