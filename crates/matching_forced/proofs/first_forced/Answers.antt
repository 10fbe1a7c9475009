use mathlib.Core.Path.{refl}
use native.Mathlib.Omega.{arith}
use Rattle.matching_forced.proofs.Searching.{shape-both, told-few, told-room, put_front, put-long, put-ones, forced-roomy}
use Rattle.matching_forced.proofs.Replying.{first-given, first_absent}
use Rattle.matching_forced.proofs.first_forced.Goals as goal

pub offset_bounds-pairs-n : goal.offset_bounds-pairs-n
offset_bounds-pairs-n c = omega (arith, told-few c.requires.shape c.requires.roomy.0 c.force-forcing.ensures c.force-forcing.auto.pairs)

pub slice_bounds-seek_any-count : goal.slice_bounds-seek_any-count
slice_bounds-seek_any-count c = told-room c.requires.shape c.requires.roomy.0 c.force-forcing.ensures c.force-forcing.auto.pairs

pub slice_bounds-seek_any-start : goal.slice_bounds-seek_any-start
slice_bounds-seek_any-start c = told-room c.requires.shape c.requires.roomy.0 c.force-forcing.ensures c.force-forcing.auto.pairs

pub seek_any-found-requires : goal.seek_any-found-requires
seek_any-found-requires c = record { shape = shape-both c.requires.shape c.force-forcing.auto.need refl; roomy = forced-roomy c.requires.shape c.requires.roomy.0 c.force-forcing.ensures c.force-forcing.auto.pairs c.force-forcing.auto.need }

pub set_ones-requires : goal.set_ones-requires
set_ones-requires c = put-ones c.requires.shape c.requires.roomy.0 c.force-forcing.ensures c.force-forcing.auto.pairs c.seek_any-found.new.pairs (omega (arith, c.requires.shape.room, c.seek_any-found.auto.row, c.clear.auto.row))

pub clear_pairs-requires : goal.clear_pairs-requires
clear_pairs-requires c = let part = c.seek_any-found.new.pairs in
    omega (arith, put-long c.requires.shape c.requires.roomy.0 c.force-forcing.ensures c.force-forcing.auto.pairs part c.seek_any-found.auto.pairs, told-room c.requires.shape c.requires.roomy.0 c.force-forcing.ensures c.force-forcing.auto.pairs, c.force-forcing.auto.pairs, c.requires.roomy.1)

pub returns-then-found : goal.returns-then-found
returns-then-found c = let wide = c.force-forcing.auto.pairs in
    let part = c.seek_any-found.new.pairs in
    first-given c.requires.shape c.requires.roomy.0 c.force-forcing.ensures wide c.seek_any-found.ensures.searched c.force-forcing.auto.need c.seek_any-found.auto.row c.clear.ensures c.if-found.true
    (put_front c.requires.shape c.requires.roomy.0 c.force-forcing.ensures wide part) c.set_ones.ensures (put-long c.requires.shape c.requires.roomy.0 c.force-forcing.ensures wide part c.seek_any-found.auto.pairs) c.clear_pairs.ensures

pub clear_pairs-requires-2 : goal.clear_pairs-requires-2
clear_pairs-requires-2 c = let part = c.seek_any-found.new.pairs in
    omega (arith, put-long c.requires.shape c.requires.roomy.0 c.force-forcing.ensures c.force-forcing.auto.pairs part c.seek_any-found.auto.pairs, told-room c.requires.shape c.requires.roomy.0 c.force-forcing.ensures c.force-forcing.auto.pairs, c.force-forcing.auto.pairs)

pub returns : goal.returns
returns c = let wide = c.force-forcing.auto.pairs in
    let part = c.seek_any-found.new.pairs in
    first_absent c.requires.shape c.requires.roomy.0 c.force-forcing.ensures wide c.seek_any-found.ensures.searched c.force-forcing.auto.need c.seek_any-found.auto.row c.clear.ensures c.if-found.false
    (put-long c.requires.shape c.requires.roomy.0 c.force-forcing.ensures wide part c.seek_any-found.auto.pairs) c.clear_pairs-2.ensures
