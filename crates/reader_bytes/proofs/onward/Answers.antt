use Rattle.reader_bytes.proofs.Steps.{leads-to, leads-up, leads-down}
use Rattle.reader_bytes.proofs.onward.Goals as goal

pub returns-in-To : goal.returns-in-To
returns-in-To c = leads-to _ c.in-To.is

pub returns-in-Up : goal.returns-in-Up
returns-in-Up c = leads-up _ c.in-Up.is

pub returns-else-depth-eq0 : goal.returns-else-depth-eq0
returns-else-depth-eq0 c = leads-down _ c.in-Down.is c.if-depth-eq0.false
