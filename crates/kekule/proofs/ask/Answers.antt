use Rattle.kekule.proofs.ask.Goals as goal

pub returns-in-First : goal.returns-in-First
returns-in-First c = simp c.in-First.is c.ask_first.ensures

pub returns-in-Next : goal.returns-in-Next
returns-in-Next c = simp c.in-Next.is c.search_graph.ensures
