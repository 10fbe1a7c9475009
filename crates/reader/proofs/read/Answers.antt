use mathlib.Core.Path.{sym, ◌∙◌}
use borrow.Author.Tests.{not-true, not-false}
use Rattle.reader.proofs.Ends.{told-short, cleared-blank}
use Rattle.reader.proofs.read.Goals as goal

pub returns-then-not-enough : goal.returns-then-not-enough
returns-then-not-enough c = told-short _ _ _ (sym c.enough.ensures ∙ not-true _ c.if-not-enough.true-raw)

pub read_zeroed-requires : goal.read_zeroed-requires
read_zeroed-requires c = let a = c.args in
    cleared-blank a.atoms.now a.bonds.now (sym c.enough.ensures ∙ not-false _ c.if-not-enough.false-raw) c.clear.ensures c.clear-2.ensures

pub returns : goal.returns
returns c = let a = c.args in
    c.read_zeroed.ensures a.atoms.now a.bonds.now c.clear.ensures c.clear-2.ensures (sym c.enough.ensures ∙ not-false _ c.if-not-enough.false-raw)
