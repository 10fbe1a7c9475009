use mathlib.Core.Path.{refl, sym, ap, ◌∙◌}
use native.Mathlib.Omega.{arith}
use Rattle.std.specs.Prelude.{Ok}
use Rattle.std.proofs.lemmas.Result.{err_from_is_err_and}
use lib.ListN.{length, length-set}
use Rattle.matching_engine.proofs.Tried.{spent}
use Rattle.matching_forced.proofs.Tables.{ends-long, ends_at}
use Rattle.matching_forced.proofs.Searching.{tables-of, shape-both, chosen-ends, taken-less, taken-roomy, taken-found, taken-other, left_less, left-roomy, left-shape, left_back, tried-left, end-all, tried-as, lowest-chosen, choice-told, choice-then, none_stuck, shape-again, roomy-again, chosen-again, total-again, told-few, told-room, put_front, put-ones, forced-fewer, forced-roomy, forced-stuck, forced-back, forced-found, forced-other}
use Rattle.matching_forced.proofs.+choose_seek_with_bond_without_bond.Goals as goal

pub choose-returns-then-stuck : goal.choose-returns-then-stuck
choose-returns-then-stuck t c = record { tried = none_stuck c.requires.need_value c.if-stuck.true; el_unchanged = refl }

pub choose-lowest_free-requires : goal.choose-lowest_free-requires
choose-lowest_free-requires t c = tables-of c.requires.shape

pub choose-returns-in_default : goal.choose-returns-in_default
choose-returns-in_default t c = record { tried = end-all c.requires.shape refl c.in_default.ensures c.blank.ensures c.all_paired.ensures; el_unchanged = refl }

pub choose-returns-then-budget-eq0 : goal.choose-returns-then-budget-eq0
choose-returns-then-budget-eq0 t c = record { tried = spent; el_unchanged = refl }

pub choose-with_bond-requires : goal.choose-with_bond-requires
choose-with_bond-requires t c = (omega arith, (c.requires.shape, (c.requires.roomy, lowest-chosen c.requires.shape c.in-Some.ensures.0 c.in-Some.ensures.1)))

pub choose-returns-in_err-found : goal.choose-returns-in_err-found
choose-returns-in_err-found t c =
    let e = err_from_is_err_and c.from_residual.result c.from_residual.ensures.1 in
    rw (e.1, e.2) (record { tried = choice-told c.requires.shape c.in-Some.ensures.0 c.in-Some.ensures.1 (tried-as c.in_err-found.was c.with_bond.ensures.tried) (λ q. cc); el_unchanged = c.with_bond.ensures.el_unchanged })

pub choose-returns-then-found : goal.choose-returns-then-found
choose-returns-then-found t c = record { tried = choice-told c.requires.shape c.in-Some.ensures.0 c.in-Some.ensures.1 (tried-as (c.in_ok-found.was ∙ ap Ok c.if-found.true) c.with_bond.ensures.tried) (λ q. cc); el_unchanged = c.with_bond.ensures.el_unchanged }

pub choose-without_bond-requires : goal.choose-without_bond-requires
choose-without_bond-requires t c = (
  omega (arith, total-again c.requires.shape c.with_bond.ensures.el_unchanged c.with_bond.ensures.tried.same),
  (
    shape-again c.requires.shape c.with_bond.ensures.el_unchanged c.with_bond.ensures.tried.same c.with_bond.auto.row,
    (
      roomy-again c.requires.shape c.with_bond.ensures.el_unchanged c.with_bond.ensures.tried.same c.with_bond.auto.pairs c.requires.roomy,
      chosen-again c.requires.shape c.with_bond.ensures.el_unchanged c.with_bond.ensures.tried.same (lowest-chosen c.requires.shape c.in-Some.ensures.0 c.in-Some.ensures.1),
    ),
  ),
)

pub choose-returns : goal.choose-returns
choose-returns t c = record { tried = choice-then c.requires.shape c.in-Some.ensures.0 c.in-Some.ensures.1 c.with_bond.ensures.tried (c.in_ok-found.was ∙ ap Ok c.if-found.false) c.with_bond.ensures.el_unchanged c.without_bond.ensures.tried; el_unchanged = c.without_bond.ensures.el_unchanged ∙ c.with_bond.ensures.el_unchanged }

pub seek-offset_bounds-pairs-n : goal.seek-offset_bounds-pairs-n
seek-offset_bounds-pairs-n t c = omega (arith, told-few c.requires.shape c.requires.roomy c.force-forcing.ensures c.force-forcing.auto.pairs)

pub seek-slice_bounds-choose-count : goal.seek-slice_bounds-choose-count
seek-slice_bounds-choose-count t c = told-room c.requires.shape c.requires.roomy c.force-forcing.ensures c.force-forcing.auto.pairs

pub seek-slice_bounds-choose-start : goal.seek-slice_bounds-choose-start
seek-slice_bounds-choose-start t c = told-room c.requires.shape c.requires.roomy c.force-forcing.ensures c.force-forcing.auto.pairs

pub seek-choose-got-requires : goal.seek-choose-got-requires
seek-choose-got-requires t c = (
  omega (arith, forced-fewer c.requires.shape c.requires.roomy c.force-forcing.ensures c.force-forcing.auto.pairs),
  (
    shape-both c.requires.shape c.force-forcing.auto.need refl,
    (
      forced-roomy c.requires.shape c.requires.roomy c.force-forcing.ensures c.force-forcing.auto.pairs c.force-forcing.auto.need,
      forced-stuck c.requires.shape c.requires.roomy c.force-forcing.ensures c.force-forcing.auto.pairs,
    ),
  ),
)

pub seek-undo-requires : goal.seek-undo-requires
seek-undo-requires t c = record { ones = put-ones c.requires.shape c.requires.roomy c.force-forcing.ensures c.force-forcing.auto.pairs c.choose-got.new.pairs (omega arith); by_index = λ k l. ends-long (c.choose-got.auto.need ∙ c.force-forcing.auto.need) (ends_at (tables-of c.requires.shape) k l) }

pub seek-returns-in_err-found : goal.seek-returns-in_err-found
seek-returns-in_err-found t c = let wide = c.force-forcing.auto.pairs in
    let front = put_front c.requires.shape c.requires.roomy c.force-forcing.ensures wide c.choose-got.new.pairs in
    let again = forced-back c.requires.shape c.requires.roomy c.force-forcing.ensures wide c.choose-got.ensures.tried.same front c.undo.ensures in
    let e = err_from_is_err_and c.from_residual.result c.from_residual.ensures.1 in
    rw (e.1, e.2) (record { tried = forced-other c.requires.shape c.requires.roomy c.force-forcing.ensures wide (tried-as c.in_err-found.was c.choose-got.ensures.tried) again (λ q. cc); el_unchanged = c.choose-got.ensures.el_unchanged })

pub seek-set_ones-requires : goal.seek-set_ones-requires
seek-set_ones-requires t c = put-ones c.requires.shape c.requires.roomy c.force-forcing.ensures c.force-forcing.auto.pairs c.choose-got.new.pairs (omega (arith, c.requires.shape.room, c.choose-got.auto.row))

pub seek-returns-then-found : goal.seek-returns-then-found
seek-returns-then-found t c = let wide = c.force-forcing.auto.pairs in
    let front = put_front c.requires.shape c.requires.roomy c.force-forcing.ensures wide c.choose-got.new.pairs in
    let again = forced-back c.requires.shape c.requires.roomy c.force-forcing.ensures wide c.choose-got.ensures.tried.same front c.undo.ensures in
    record { tried = tried-as (ap Ok (sym c.if-found.true)) (forced-found c.requires.shape c.requires.roomy c.force-forcing.ensures wide c.choose-got.ensures.tried again (c.in_ok-found.was ∙ ap Ok c.if-found.true) front c.set_ones.ensures); el_unchanged = c.choose-got.ensures.el_unchanged }

pub seek-returns-else-found : goal.seek-returns-else-found
seek-returns-else-found t c = let wide = c.force-forcing.auto.pairs in
    let front = put_front c.requires.shape c.requires.roomy c.force-forcing.ensures wide c.choose-got.new.pairs in
    let again = forced-back c.requires.shape c.requires.roomy c.force-forcing.ensures wide c.choose-got.ensures.tried.same front c.undo.ensures in
    record { tried = tried-as (ap Ok (sym c.if-found.false)) (forced-other c.requires.shape c.requires.roomy c.force-forcing.ensures wide (tried-as (c.in_ok-found.was ∙ ap Ok c.if-found.false) c.choose-got.ensures.tried) again (λ q. cc)); el_unchanged = c.choose-got.ensures.el_unchanged }

pub with_bond-mark-requires : goal.with_bond-mark-requires
with_bond-mark-requires t c = chosen-ends c.requires.shape c.requires.roomy.1

pub with_bond-seek-got-requires : goal.with_bond-seek-got-requires
with_bond-seek-got-requires t c = (omega (arith, taken-less c.requires.shape c.requires.roomy.1 c.mark.ensures), (shape-both c.requires.shape c.mark.auto.need refl, taken-roomy c.requires.shape c.requires.roomy.1 c.mark.ensures c.mark.auto.need c.requires.roomy.0))

pub with_bond-mark-requires-2 : goal.with_bond-mark-requires-2
with_bond-mark-requires-2 t c = ends-long (c.seek-got.auto.need ∙ c.mark.auto.need) (chosen-ends c.requires.shape c.requires.roomy.1)

pub with_bond-returns-in_err-found : goal.with_bond-returns-in_err-found
with_bond-returns-in_err-found t c =
    let e = err_from_is_err_and c.from_residual.result c.from_residual.ensures.1 in
    rw (e.1, e.2) (record { tried = taken-other c.requires.shape c.requires.roomy.1 c.mark.ensures (tried-as c.in_err-found.was c.seek-got.ensures.tried) c.mark-2.ensures (λ q. cc); el_unchanged = c.seek-got.ensures.el_unchanged })

pub with_bond-bounds-row-b : goal.with_bond-bounds-row-b
with_bond-bounds-row-b t c = omega (arith, c.requires.roomy.1.inside, c.requires.shape.room, c.seek-got.auto.row)

pub with_bond-returns-then-found : goal.with_bond-returns-then-found
with_bond-returns-then-found t c = record { tried = tried-as (ap Ok (sym c.if-found.true)) (taken-found c.requires.shape c.requires.roomy.1 c.mark.ensures c.seek-got.ensures.tried c.mark-2.ensures (c.in_ok-found.was ∙ ap Ok c.if-found.true) refl); el_unchanged = c.seek-got.ensures.el_unchanged }

pub with_bond-returns-else-found : goal.with_bond-returns-else-found
with_bond-returns-else-found t c = record { tried = tried-as (ap Ok (sym c.if-found.false)) (taken-other c.requires.shape c.requires.roomy.1 c.mark.ensures (tried-as (c.in_ok-found.was ∙ ap Ok c.if-found.false) c.seek-got.ensures.tried) c.mark-2.ensures (λ q. cc)); el_unchanged = c.seek-got.ensures.el_unchanged }

pub without_bond-bounds-el-at : goal.without_bond-bounds-el-at
without_bond-bounds-el-at t c = omega (arith, c.requires.roomy.1.inside, c.requires.shape.third)

pub without_bond-seek-got-requires : goal.without_bond-seek-got-requires
without_bond-seek-got-requires t c = (omega (arith, left_less c.requires.shape c.requires.roomy.1 refl), (left-shape c.requires.shape c.requires.roomy.1 refl, left-roomy c.requires.shape c.requires.roomy.1 refl c.requires.roomy.0))

pub without_bond-bounds-el-at-2 : goal.without_bond-bounds-el-at-2
without_bond-bounds-el-at-2 t c = omega (arith, c.requires.roomy.1.inside, c.requires.shape.third, c.seek-got.auto.el, length-set c.args.el.now c.args.b.0 0)

pub without_bond-shape_of-el : goal.without_bond-shape_of-el
without_bond-shape_of-el t c = ap length (left_back c.requires.shape c.requires.roomy.1 refl c.seek-got.ensures.el_unchanged refl)

pub without_bond-returns : goal.without_bond-returns
without_bond-returns t c = record { tried = tried-left c.requires.shape c.requires.roomy.1 refl c.seek-got.ensures.tried; el_unchanged = left_back c.requires.shape c.requires.roomy.1 refl c.seek-got.ensures.el_unchanged refl }
