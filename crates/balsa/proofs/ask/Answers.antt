use Rattle.balsa.proofs.Laws.{row-law}
use Rattle.balsa.proofs.ask.Goals as goal

pub returns-in-First : goal.returns-in-First
returns-in-First c = simp c.in-First.is (row-law c.found_code.ensures c.first.ensures)

pub returns-in-Next : goal.returns-in-Next
returns-in-Next c = simp c.in-Next.is (row-law c.found_code-in-Next.ensures c.next.ensures)
