use Rattle.same_support.proofs.list_near.Goals as goal

pub list_class-count-requires : goal.list_class-count-requires
list_class-count-requires c = c.requires
