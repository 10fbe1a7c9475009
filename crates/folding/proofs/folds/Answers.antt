use Rattle.table.proofs.Keys.{held, failed}
use Rattle.folding.proofs.Paths.{folds-row, folds-zero, folds-high, folds-takes}
use Rattle.folding.proofs.folds.Goals as goal

pub returns-then-not-is_plain : goal.returns-then-not-is_plain
returns-then-not-is_plain c = folds-row c.args.link c.args.a.0 c.args.atoms.now (failed c.is_plain.ensures c.if-not-is_plain.true-raw)

pub returns-then-x-eq0 : goal.returns-then-x-eq0
returns-then-x-eq0 c = folds-zero c.args.link c.args.a.0 c.args.atoms.now (held c.is_plain.ensures c.if-not-is_plain.false-raw) c.if-x-eq0.true

pub returns-then-x-gt-MAX_ATOMS : goal.returns-then-x-gt-MAX_ATOMS
returns-then-x-gt-MAX_ATOMS c = folds-high c.args.link c.args.a.0 c.args.atoms.now (held c.is_plain.ensures c.if-not-is_plain.false-raw) c.if-x-eq0.false c.if-x-gt-MAX_ATOMS.true

pub returns : goal.returns
returns c = folds-takes c.args.link c.args.a.0 c.args.atoms.now (held c.is_plain.ensures c.if-not-is_plain.false-raw) c.if-x-eq0.false c.if-x-gt-MAX_ATOMS.false c.takes.ensures
