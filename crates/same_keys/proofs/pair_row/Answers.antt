use mathlib.Core.Path.{ap, ◌∙◌}
use mathlib.Core.List.{List}
use Prim.Native.Nat.{ℕ}
use Rattle.same_keys.specs.Keys.{pair_cell, row_filled}
use Rattle.same_keys.proofs.pair_row.Goals as goal

pub returns : goal.returns
returns c = c.fill_row.ensures ∙ ap (λ (z : List ℕ). row_filled c.args.n (pair_cell z) c.args.a c.args.pairs.now) c.tell_apart.ensures
