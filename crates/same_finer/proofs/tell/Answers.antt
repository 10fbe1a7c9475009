use mathlib.Core.Path.{ap, ◌∙◌}
use mathlib.Core.List.{List}
use Prim.Native.Nat.{ℕ}
use Rattle.same_keys.specs.Keys.{key_sum}
use Rattle.same_finer.specs.Finer.{finer_told}
use Rattle.same_finer.proofs.tell.Goals as goal

pub returns : goal.returns
unfolding finer_told
returns c = record { keys_after = c.make_finer.ensures; value = c.key_sum.ensures ∙ ap (λ (k : List ℕ). key_sum k c.args.n) c.make_finer.ensures }
