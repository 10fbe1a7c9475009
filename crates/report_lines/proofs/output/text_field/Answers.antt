use Rattle.buffer.proofs.Laws.{also, as_is}
use Rattle.report_lines.proofs.Format.{no_word, a_word}
use Rattle.report_lines.proofs.output.text_field.Goals as goal

pub returns-then-text-eq0 : goal.returns-then-text-eq0
returns-then-text-eq0 c = as_is (no_word c.args.text.now c.if-text-eq0.true) c.put_all.ensures

pub returns : goal.returns
returns c = as_is (a_word c.args.text.now c.if-text-eq0.false) (also c.put-at.ensures c.put_all-2.ensures)
