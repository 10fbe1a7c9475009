use Rattle.register.proofs.Paths.{part-is}
use Rattle.register.proofs.Rules.{valid-is}
use native.Mathlib.Omega.{arith}
use Rattle.register.proofs.contents.body.Goals as goal

pub start-s-requires : goal.start-s-requires
start-s-requires c = let p = c.requires in let w = valid-is _ p.1 in (omega (arith, w.few, p.2), p.0)

pub length-requires : goal.length-requires
length-requires c = let p = c.requires in let w = valid-is _ p.1 in (omega (arith, w.few, p.2), p.0)

pub slice_bounds-result-end : goal.slice_bounds-result-end
slice_bounds-result-end c = let p = c.requires in omega (arith, ((valid-is _ p.1).entries _ p.2).inside, c.start-s.ensures.value, c.length.ensures.value)

pub returns : goal.returns
returns c = part-is _ _ _ _ c.start-s.ensures.value c.length.ensures.value
