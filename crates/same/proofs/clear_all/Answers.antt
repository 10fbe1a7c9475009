use Rattle.same.proofs.Answers.{cleared, none_out}
use Rattle.same.proofs.clear_all.Goals as goal

pub returns : goal.returns
returns c = record { row1_after = cleared c.args.row1.now c.clear.ensures; row2_after = cleared c.args.row2.now c.clear-2.ensures; ren_after = none_out c.args.ren.now c.hand_out.ensures }
