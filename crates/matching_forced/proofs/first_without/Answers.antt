use mathlib.Core.Path.{refl, ap}
use native.Mathlib.Omega.{arith}
use lib.ListN.{length, length-set}
use Rattle.matching_forced.proofs.Searching.{left-shape, left-roomy, left_back, searched-left}
use Rattle.matching_forced.proofs.first_without.Goals as goal

pub bounds-el-at : goal.bounds-el-at
bounds-el-at c = omega (arith, c.requires.roomy.1.inside, c.requires.shape.third)

pub seek_any-found-requires : goal.seek_any-found-requires
seek_any-found-requires c = record { shape = left-shape c.requires.shape c.requires.roomy.1 refl; roomy = left-roomy c.requires.shape c.requires.roomy.1 refl c.requires.roomy.0 }

pub bounds-el-at-2 : goal.bounds-el-at-2
bounds-el-at-2 c = omega (arith, c.requires.roomy.1.inside, c.requires.shape.third, c.seek_any-found.auto.el, length-set c.args.el.now c.args.b.0 0)

pub shape_of-el : goal.shape_of-el
shape_of-el c = ap length (left_back c.requires.shape c.requires.roomy.1 refl c.seek_any-found.ensures.el_unchanged refl)

pub returns : goal.returns
returns c = record { searched = searched-left c.requires.shape c.requires.roomy.1 refl c.seek_any-found.ensures.searched; el_unchanged = left_back c.requires.shape c.requires.roomy.1 refl c.seek_any-found.ensures.el_unchanged refl }
