use native.Mathlib.Omega.{arith}
use Rattle.matching_search.proofs.Reply.{shape_at}
use Rattle.matching_engine.proofs.Taking.{found-by-copy}
use Rattle.matching_engine.proofs.greedy_sized.Goals as goal

pub whole_as_front-used : goal.whole_as_front-used
whole_as_front-used g c = (omega arith, omega arith)

pub greedy-requires : goal.greedy-requires
greedy-requires g c = shape_at c.copy_from_slice.ensures.after c.requires.shape

pub returns : goal.returns
returns g c = found-by-copy c.requires.shape c.copy_from_slice.ensures.after c.greedy.ensures
