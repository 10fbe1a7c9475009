use Rattle.writer.proofs.Answer.{cleared-all}
use Rattle.writer.proofs.clear_all.Goals as goal

pub returns : goal.returns
returns c = let a = c.args in record { out_after = cleared-all a.out.now c.clear_from.new.out c.clear_from.ensures; ren_after = cleared-all a.ren.now c.clear_numbers.new.ren c.clear_numbers.ensures }
