use native.Mathlib.Omega.{arith}
use mathlib.Core.Path.{refl, sym, ◌∙◌}
use borrow.Author.Tests.{not-false}
use Rattle.same_alike.proofs.Pairs.{as-like, not-like, inside-at}
use Rattle.same_alike.proofs.is_like.Goals as goal

pub are_inside-requires : goal.are_inside-requires
are_inside-requires c = c.requires.few

pub returns-then-not-are_inside : goal.returns-then-not-are_inside
returns-then-not-are_inside c = λ h. not-like refl h

pub are_fixed-requires : goal.are_fixed-requires
are_fixed-requires c = (omega (arith, c.requires.few, c.requires.upto), λ b l. omega (arith, c.requires.few, c.requires.below b l))

pub returns-then-not-are_fixed : goal.returns-then-not-are_fixed
returns-then-not-are_fixed c = λ h. not-like refl h

pub are_rows_like-requires : goal.are_rows_like-requires
are_rows_like-requires c = (c.requires.few, inside-at c.args.tau.now c.args.sides.n c.are_inside.ensures (not-false _ c.if-not-are_inside.false-raw))

pub returns : goal.returns
returns c = λ h. as-like c.args.sides.o2.now c.args.sides.ok.now c.args.sides.n c.args.tau.now c.args.placed.ren.now c.args.placed.from (sym c.are_inside.ensures ∙ not-false _ c.if-not-are_inside.false-raw) (sym c.are_fixed.ensures ∙ not-false _ c.if-not-are_fixed.false-raw) (sym c.are_rows_like.ensures ∙ h)
