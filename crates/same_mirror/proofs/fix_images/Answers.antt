use mathlib.Core.Bool.{◌&&◌, not}
use lib.Dec.{eqb}
use lib.ListN.{get_or}
use Rattle.same_mirror.proofs.Checking.{last-test}
use Rattle.same_mirror.proofs.fix_images.Goals as goal

pub fix-fixed-requires : goal.fix-fixed-requires
fix-fixed-requires c = let l = last-test (eqb (get_or c.args.turn.placed.now c.loop-b.b 0) 1 && not (eqb c.loop-b.b c.args.turn.v)) (get_or c.args.turn.ren.now c.loop-b.b 0) c.args.quest.n c.if-placed-b.true in
    (c.requires, l, l)
