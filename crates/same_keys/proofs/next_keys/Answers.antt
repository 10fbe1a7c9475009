use native.Mathlib.Omega.{arith}
use Rattle.same_keys.proofs.Low.{low-more}
use Rattle.same_keys.proofs.Spreading.{mixed-low-to, as-next}
use Rattle.same_keys.proofs.Filling.{inside-more}
use Rattle.same_keys.proofs.next_keys.Goals as goal

pub spread-requires : goal.spread-requires
spread-requires c = let x = c.mix_all in
    record { inside = (inside-more c.requires.inside (omega (arith, c.requires.n_in_bounds.0, x.auto)), inside-more c.requires.inside c.requires.n_in_bounds.1); low = (mixed-low-to c.args.keys.now c.args.n c.requires.low.0 x.ensures, low-more c.requires.low.1 (omega arith)) }

pub returns : goal.returns
returns c = let x = c.mix_all in
    record { keys_after = as-next _ _ _ _ _ _ c.requires.inside.first c.requires.inside.second x.ensures c.spread.ensures; low_2 = mixed-low-to c.args.keys.now c.args.n c.requires.low.0 x.ensures }
