use mathlib.Core.Path.{refl, ap, ◌∙◌}
use native.Mathlib.Omega.{arith}
use Rattle.std.specs.Prelude.{Ok}
use Rattle.std.proofs.lemmas.Result.{err_from_is_err_and}
use lib.ListN.{length, length-set}
use Rattle.matching_search.proofs.Flags.{not-true, not-false}
use Rattle.matching_search.proofs.Choice.{ends-here, here3, shape-next}
use Rattle.matching_certified.proofs.Reason.{tables}
use Rattle.matching_engine.proofs.Lasts.{lasts-marked}
use Rattle.matching_engine.proofs.Tried.{inside, not_chosen, spent, chosen, shape-along, lasts-along, along-as, along-step, along-none, along-all}
use Rattle.matching_engine.proofs.+choose_seek.Goals as goal

pub choose-choosable-requires : goal.choose-choosable-requires
choose-choosable-requires t c = record { ends = ends-here c.requires.shape (inside c.requires.k_in_bounds.0) refl; k_in_bounds = here3 c.requires.shape (inside c.requires.k_in_bounds.0) }

pub choose-returns-then-not-choosable : goal.choose-returns-then-not-choosable
choose-returns-then-not-choosable t c = not_chosen c.requires.shape c.choosable.ensures (not-true c.choosable.result c.if-not-choosable.true-raw)

pub choose-returns-then-not-spend : goal.choose-returns-then-not-spend
choose-returns-then-not-spend t c = spent

pub choose-mark-requires : goal.choose-mark-requires
choose-mark-requires t c = ends-here c.requires.shape (inside c.requires.k_in_bounds.0) refl

pub choose-seek-got-requires : goal.choose-seek-got-requires
choose-seek-got-requires t c = (omega (arith, c.requires.k_in_bounds.0), (shape-next c.requires.shape (inside c.requires.k_in_bounds.0) c.mark.auto.need (length-set c.args.row.now c.args.k.0 1), lasts-marked c.args.k.0 c.requires.k_in_bounds.1 c.mark.ensures))

pub choose-mark-requires-2 : goal.choose-mark-requires-2
choose-mark-requires-2 t c = ends-here c.requires.shape (inside c.requires.k_in_bounds.0) (c.seek-got.auto.need ∙ c.mark.auto.need)

pub choose-shape_of-row : goal.choose-shape_of-row
choose-shape_of-row t c = c.seek-got.auto.row ∙ length-set c.args.row.now c.args.k.0 1

pub choose-returns : goal.choose-returns
choose-returns t c = chosen c.requires.shape c.requires.k_in_bounds.0 c.choosable.ensures (not-false c.choosable.result c.if-not-choosable.false-raw) c.mark.ensures c.seek-got.ensures c.mark-2.ensures

pub seek-choose-requires : goal.seek-choose-requires
seek-choose-requires t c = (omega (arith, c.loop-at.invariant.begun), (shape-along c.requires.shape c.loop-at.invariant, (c.loop-at-test.true, lasts-along c.requires.shape c.loop-at.invariant c.requires.lasts)))

pub seek-returns-in_err-found : goal.seek-returns-in_err-found
seek-returns-in_err-found t c =
    let e = err_from_is_err_and c.from_residual.result c.from_residual.ensures.1 in
    rw (e.1, e.2) (along-as c.requires.shape c.loop-at.invariant c.loop-at-test.true c.choose.ensures c.in_err-found.was (λ q. cc))

pub seek-returns-then-found : goal.seek-returns-then-found
seek-returns-then-found t c = along-as c.requires.shape c.loop-at.invariant c.loop-at-test.true c.choose.ensures (c.in_ok-found.was ∙ ap Ok c.if-found.true) (λ q. cc)

pub seek-dead_end-requires : goal.seek-dead_end-requires
seek-dead_end-requires t c = record { bond_tables = tables (shape-along c.requires.shape (along-step c.requires.shape c.loop-at.invariant c.loop-at-test.true c.choose.ensures (c.in_ok-found.was ∙ ap Ok c.if-found.false) c.choose.auto.row)); lasts = lasts-along c.requires.shape (along-step c.requires.shape c.loop-at.invariant c.loop-at-test.true c.choose.ensures (c.in_ok-found.was ∙ ap Ok c.if-found.false) c.choose.auto.row) c.requires.lasts }

pub seek-shape_of-need-then-dead_end : goal.seek-shape_of-need-then-dead_end
seek-shape_of-need-then-dead_end t c = c.choose.auto.need ∙ ap length c.loop-at.invariant.flags

pub seek-shape_of-row-then-dead_end : goal.seek-shape_of-row-then-dead_end
seek-shape_of-row-then-dead_end t c = simp length-set (c.choose.auto.row ∙ c.loop-at.invariant.long)

pub seek-returns-then-dead_end : goal.seek-returns-then-dead_end
seek-returns-then-dead_end t c = along-none c.requires.shape (along-step c.requires.shape c.loop-at.invariant c.loop-at-test.true c.choose.ensures (c.in_ok-found.was ∙ ap Ok c.if-found.false) c.choose.auto.row) (c.dead_end.ensures c.if-dead_end.true)

pub seek-loop-at-preserved : goal.seek-loop-at-preserved
seek-loop-at-preserved t c = along-step c.requires.shape c.loop-at.invariant c.loop-at-test.true c.choose.ensures (c.in_ok-found.was ∙ ap Ok c.if-found.false) c.choose.auto.row

pub seek-returns : goal.seek-returns
seek-returns t c = along-all c.requires.shape c.loop-at.invariant c.loop-at-test.false c.all_paired.result c.all_paired.ensures
