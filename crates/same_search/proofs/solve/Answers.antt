use Rattle.same_search.proofs.Start.{after, prefix-kept, told-yes, told-no}
use Rattle.same_search.proofs.solve.Goals as goal

pub returns-then-tried : goal.returns-then-tried
returns-then-tried c = told-yes _ _ _ c.search_briefly-tried.ensures c.if-tried.true

pub returns-then-tried-ne0 : goal.returns-then-tried-ne0
returns-then-tried-ne0 c = told-no _ _ _ c.search_briefly-tried.ensures c.if-tried.false c.if-tried-ne0.true

pub search_finely-requires : goal.search_finely-requires
search_finely-requires c = prefix-kept c.requires c.search_briefly-tried.ensures.long

pub returns : goal.returns
returns c = after c.search_briefly-tried.ensures.long c.search_finely.ensures
