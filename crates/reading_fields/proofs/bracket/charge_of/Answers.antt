use Rattle.reading_fields.proofs.Fields.{charge-plus, charge-fits, charge-minus}
use Rattle.reading_fields.proofs.bracket.charge_of.Goals as goal

pub returns-then-b-eq43 : goal.returns-then-b-eq43
returns-then-b-eq43 c = record { value = (charge-plus _ _ c.if-b-eq43.true c.requires.1).0; sfits = (charge-plus _ _ c.if-b-eq43.true c.requires.1).1 }

pub overflow_sub-result : goal.overflow_sub-result
overflow_sub-result c = charge-fits _ c.requires.0 c.requires.1

pub returns : goal.returns
returns c = record { value = (charge-minus _ _ c.if-b-eq43.false c.requires.0 c.requires.1).0; sfits = (charge-minus _ _ c.if-b-eq43.false c.requires.0 c.requires.1).1 }
