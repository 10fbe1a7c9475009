use mathlib.Core.Path.{refl}
use Rattle.reader_bytes.proofs.Steps.{fitting, moved-bounded, grammar-refused, goes_on, stepped}
use Rattle.reader_bytes.proofs.step.Goals as goal

pub returns-in_default : goal.returns-in_default
returns-in_default c = grammar-refused c.args.h _ c.requires.ready _ _ c.next.ensures c.onward.ensures c.in_default.is

pub deed_of-deed-requires : goal.deed_of-deed-requires
deed_of-deed-requires c = record { fact = goes_on c.args.h _ c.requires.ready _ c.args.at c.next.ensures c.onward.ensures c.in-Some.is; fitting = fitting c.args.h.mode c.args.h.tens c.args.h.draft c.requires.ready.safe.half }

pub perform-requires : goal.perform-requires
perform-requires c = record { bounded = moved-bounded c.args.h _ {m = c.in-Some.mode} c.requires.ready refl; numbered = c.deed_of-deed.ensures.number; at_lt_max_text = c.requires.at_lt_max_text }

pub returns : goal.returns
returns c = stepped c.args.h _ c.requires.ready _ _ c.next.ensures c.onward.ensures c.in-Some.is c.requires.at_lt_max_text c.deed_of-deed.ensures refl _ c.perform.ensures
