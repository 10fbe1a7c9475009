use mathlib.Core.Path.{refl, sym, ap, ◌∙◌}
use native.Mathlib.Omega.{arith}
use lib.ListN.{length, length-set}
use Rattle.matching_search.proofs.Flags.{never}
use Rattle.matching_forced.proofs.Tables.{ends-long, ends_at}
use Rattle.matching_forced.proofs.Searching.{tables-of, shape-both, shape-again, roomy-again, chosen-again, chosen-ends, taken-less, taken-roomy, left_less, left-roomy, left-shape, left_back, lowest-chosen, told-few, told-room, put_front, put-ones, ones-fit, forced-fewer, forced-roomy, forced-back}
use Rattle.matching_forced.proofs.Following.{kept-is, kept-searched, off-kept, off-searched, following-none, bit-zero, following-skipped, following-found, following-then, without_is, without-searched}
use Rattle.matching_forced.proofs.+later_later_left_later_with_later_without.Goals as goal

pub later-force-forcing-requires : goal.later-force-forcing-requires
later-force-forcing-requires t c = record { bond_tables = tables-of c.requires.shape; roomy = c.requires.roomy }

pub later-set_zeros-requires : goal.later-set_zeros-requires
later-set_zeros-requires t c = ones-fit c.requires.shape c.requires.roomy c.force-forcing.ensures c.force-forcing.auto.pairs c.requires.shape.room

pub later-offset_bounds-pairs-n : goal.later-offset_bounds-pairs-n
later-offset_bounds-pairs-n t c = omega (arith, told-few c.requires.shape c.requires.roomy c.force-forcing.ensures c.force-forcing.auto.pairs)

pub later-slice_bounds-later_left-count : goal.later-slice_bounds-later_left-count
later-slice_bounds-later_left-count t c = told-room c.requires.shape c.requires.roomy c.force-forcing.ensures c.force-forcing.auto.pairs

pub later-slice_bounds-later_left-start : goal.later-slice_bounds-later_left-start
later-slice_bounds-later_left-start t c = told-room c.requires.shape c.requires.roomy c.force-forcing.ensures c.force-forcing.auto.pairs

pub later-later_left-found-requires : goal.later-later_left-found-requires
later-later_left-found-requires t c = (
  omega (arith, forced-fewer c.requires.shape c.requires.roomy c.force-forcing.ensures c.force-forcing.auto.pairs),
  (
    shape-both c.requires.shape c.force-forcing.auto.need c.set_zeros.auto.row,
    (
      forced-roomy c.requires.shape c.requires.roomy c.force-forcing.ensures c.force-forcing.auto.pairs c.force-forcing.auto.need,
      without_is c.requires.shape c.requires.roomy c.force-forcing.ensures c.force-forcing.auto.pairs c.requires.row_value c.set_zeros.ensures,
    ),
  ),
)

pub later-undo-requires : goal.later-undo-requires
later-undo-requires t c = record { ones = put-ones c.requires.shape c.requires.roomy c.force-forcing.ensures c.force-forcing.auto.pairs c.later_left-found.new.pairs (omega arith); by_index = λ k l. ends-long (c.later_left-found.auto.need ∙ c.force-forcing.auto.need) (ends_at (tables-of c.requires.shape) k l) }

pub later-set_ones-requires : goal.later-set_ones-requires
later-set_ones-requires t c = put-ones c.requires.shape c.requires.roomy c.force-forcing.ensures c.force-forcing.auto.pairs c.later_left-found.new.pairs (omega (arith, c.requires.shape.room, c.later_left-found.auto.row, c.set_zeros.auto.row))

pub later-returns-then-found : goal.later-returns-then-found
later-returns-then-found t c = let wide = c.force-forcing.auto.pairs in
    let front = put_front c.requires.shape c.requires.roomy c.force-forcing.ensures wide c.later_left-found.new.pairs in
    let again = forced-back c.requires.shape c.requires.roomy c.force-forcing.ensures wide c.later_left-found.ensures.searched.same front c.undo.ensures in
    record { searched = without-searched c.requires.shape c.requires.roomy c.force-forcing.ensures wide c.requires.row_value c.set_zeros.ensures c.later_left-found.ensures.searched again front (λ y. c.set_ones.ensures) (λ n. absurd (never (sym n ∙ c.if-found.true))); el_unchanged = c.later_left-found.ensures.el_unchanged }

pub later-returns-else-found : goal.later-returns-else-found
later-returns-else-found t c = let wide = c.force-forcing.auto.pairs in
    let front = put_front c.requires.shape c.requires.roomy c.force-forcing.ensures wide c.later_left-found.new.pairs in
    let again = forced-back c.requires.shape c.requires.roomy c.force-forcing.ensures wide c.later_left-found.ensures.searched.same front c.undo.ensures in
    record { searched = without-searched c.requires.shape c.requires.roomy c.force-forcing.ensures wide c.requires.row_value c.set_zeros.ensures c.later_left-found.ensures.searched again front (λ y. absurd (never (sym c.if-found.false ∙ y))) (λ n. refl); el_unchanged = c.later_left-found.ensures.el_unchanged }

pub later_left-lowest_free-requires : goal.later_left-lowest_free-requires
later_left-lowest_free-requires t c = tables-of c.requires.shape

pub later_left-returns-in_default : goal.later_left-returns-in_default
later_left-returns-in_default t c = record { searched = following-none c.requires.shape c.requires.row_value refl c.in_default.ensures; el_unchanged = refl }

pub later_left-bounds-row-b : goal.later_left-bounds-row-b
later_left-bounds-row-b t c = omega (arith, c.requires.shape.room, c.in-Some.ensures.1)

pub later_left-later_with-requires : goal.later_left-later_with-requires
later_left-later_with-requires t c = (omega arith, (c.requires.shape, ((c.requires.roomy, lowest-chosen c.requires.shape c.in-Some.ensures.0 c.in-Some.ensures.1), (c.requires.row_value, c.if-row-b-eq1.true))))

pub later_left-returns-then-later_with : goal.later_left-returns-then-later_with
later_left-returns-then-later_with t c = record { searched = following-found c.requires.shape c.requires.row_value c.in-Some.ensures.0 c.in-Some.ensures.1 c.if-row-b-eq1.true c.later_with.ensures.searched c.if-later_with.true; el_unchanged = c.later_with.ensures.el_unchanged }

pub later_left-first_without-requires : goal.later_left-first_without-requires
later_left-first_without-requires t c = record {
  shape = shape-again c.requires.shape c.later_with.ensures.el_unchanged c.later_with.ensures.searched.same c.later_with.auto.row;
  roomy = (
    roomy-again c.requires.shape c.later_with.ensures.el_unchanged c.later_with.ensures.searched.same c.later_with.auto.pairs c.requires.roomy,
    chosen-again c.requires.shape c.later_with.ensures.el_unchanged c.later_with.ensures.searched.same (lowest-chosen c.requires.shape c.in-Some.ensures.0 c.in-Some.ensures.1),
  );
}

pub later_left-returns-then-row-b-eq1 : goal.later_left-returns-then-row-b-eq1
later_left-returns-then-row-b-eq1 t c = record { searched = following-then c.requires.shape c.requires.row_value c.in-Some.ensures.0 c.in-Some.ensures.1 c.if-row-b-eq1.true c.later_with.ensures.searched c.if-later_with.false c.later_with.ensures.el_unchanged c.first_without.ensures.searched; el_unchanged = c.first_without.ensures.el_unchanged ∙ c.later_with.ensures.el_unchanged }

pub later_left-later_without-requires : goal.later_left-later_without-requires
later_left-later_without-requires t c = (omega arith, (c.requires.shape, ((c.requires.roomy, lowest-chosen c.requires.shape c.in-Some.ensures.0 c.in-Some.ensures.1), (c.requires.row_value, bit-zero c.requires.shape c.requires.row_value c.in-Some.ensures.0 c.in-Some.ensures.1 c.if-row-b-eq1.false))))

pub later_left-returns : goal.later_left-returns
later_left-returns t c = record { searched = following-skipped c.requires.shape c.requires.row_value c.in-Some.ensures.0 c.in-Some.ensures.1 (bit-zero c.requires.shape c.requires.row_value c.in-Some.ensures.0 c.in-Some.ensures.1 c.if-row-b-eq1.false) c.later_without.ensures.searched; el_unchanged = c.later_without.ensures.el_unchanged }

pub later_with-bounds-row-at : goal.later_with-bounds-row-at
later_with-bounds-row-at t c = omega (arith, c.requires.roomy.1.inside, c.requires.shape.room)

pub later_with-mark-requires : goal.later_with-mark-requires
later_with-mark-requires t c = chosen-ends c.requires.shape c.requires.roomy.1

pub later_with-later-found-requires : goal.later_with-later-found-requires
later_with-later-found-requires t c = (
  omega (arith, taken-less c.requires.shape c.requires.roomy.1 c.mark.ensures),
  (
    shape-both c.requires.shape c.mark.auto.need (length-set c.args.row.now c.args.b.0 0),
    (
      taken-roomy c.requires.shape c.requires.roomy.1 c.mark.ensures c.mark.auto.need c.requires.roomy.0,
      kept-is c.requires.shape c.requires.row_value.0 c.requires.roomy.1 c.requires.row_value.1 refl c.mark.ensures,
    ),
  ),
)

pub later_with-mark-requires-2 : goal.later_with-mark-requires-2
later_with-mark-requires-2 t c = ends-long (c.later-found.auto.need ∙ c.mark.auto.need) (chosen-ends c.requires.shape c.requires.roomy.1)

pub later_with-bounds-row-at-then-found : goal.later_with-bounds-row-at-then-found
later_with-bounds-row-at-then-found t c = omega (arith, c.requires.roomy.1.inside, c.requires.shape.room, c.later-found.auto.row, length-set c.args.row.now c.args.b.0 0)

pub later_with-shape_of-row-then-found : goal.later_with-shape_of-row-then-found
later_with-shape_of-row-then-found t c = simp length-set (c.later-found.auto.row ∙ length-set c.args.row.now c.args.b.0 0)

pub later_with-returns-then-found : goal.later_with-returns-then-found
later_with-returns-then-found t c = record { searched = kept-searched c.requires.shape c.requires.row_value.0 c.requires.roomy.1 c.requires.row_value.1 refl c.mark.ensures c.later-found.ensures.searched c.mark-2.ensures (λ y. refl) (λ n. absurd (never (sym n ∙ c.if-found.true))); el_unchanged = c.later-found.ensures.el_unchanged }

pub later_with-shape_of-row-else-found : goal.later_with-shape_of-row-else-found
later_with-shape_of-row-else-found t c = c.later-found.auto.row ∙ length-set c.args.row.now c.args.b.0 0

pub later_with-returns-else-found : goal.later_with-returns-else-found
later_with-returns-else-found t c = record { searched = kept-searched c.requires.shape c.requires.row_value.0 c.requires.roomy.1 c.requires.row_value.1 refl c.mark.ensures c.later-found.ensures.searched c.mark-2.ensures (λ y. absurd (never (sym c.if-found.false ∙ y))) (λ n. refl); el_unchanged = c.later-found.ensures.el_unchanged }

pub later_without-bounds-el-at : goal.later_without-bounds-el-at
later_without-bounds-el-at t c = omega (arith, c.requires.roomy.1.inside, c.requires.shape.third)

pub later_without-later-found-requires : goal.later_without-later-found-requires
later_without-later-found-requires t c = (omega (arith, left_less c.requires.shape c.requires.roomy.1 refl), (left-shape c.requires.shape c.requires.roomy.1 refl, (left-roomy c.requires.shape c.requires.roomy.1 refl c.requires.roomy.0, off-kept c.requires.shape c.requires.row_value.0 c.requires.roomy.1 c.requires.row_value.1 refl)))

pub later_without-bounds-el-at-2 : goal.later_without-bounds-el-at-2
later_without-bounds-el-at-2 t c = omega (arith, c.requires.roomy.1.inside, c.requires.shape.third, c.later-found.auto.el, length-set c.args.el.now c.args.b.0 0)

pub later_without-shape_of-el : goal.later_without-shape_of-el
later_without-shape_of-el t c = ap length (left_back c.requires.shape c.requires.roomy.1 refl c.later-found.ensures.el_unchanged refl)

pub later_without-returns : goal.later_without-returns
later_without-returns t c = record { searched = off-searched c.requires.shape c.requires.row_value.0 c.requires.roomy.1 c.requires.row_value.1 refl c.later-found.ensures.searched; el_unchanged = left_back c.requires.shape c.requires.roomy.1 refl c.later-found.ensures.el_unchanged refl }
