use Rattle.same_mirror.proofs.guess.Goals as goal

pub fix_images-stay-requires : goal.fix_images-stay-requires
fix_images-stay-requires c = c.requires.0

pub fix-goes-requires : goal.fix-goes-requires
fix-goes-requires c = c.requires

pub count_open-rest-requires : goal.count_open-rest-requires
count_open-rest-requires c = c.requires.0

pub search-tried-requires : goal.search-tried-requires
search-tried-requires c = (c.requires.0, c.count_open-rest.ensures)
