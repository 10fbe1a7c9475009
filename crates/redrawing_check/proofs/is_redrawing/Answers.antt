use borrow.Author.Tests.{not-false}
use Rattle.redrawing_check.proofs.Shown.{shown}
use Rattle.redrawing_check.proofs.Checking.{shows-by}
use Rattle.redrawing_check.proofs.is_redrawing.Goals as goal

pub returns : goal.returns
returns c = λ h. shown c.requires.valid c.requires.valid_2
    (shows-by c.if-n1-n2.false c.if-m1-m2.false (c.is_permutation.ensures (not-false _ c.if-not-is_permutation.false-raw)) (c.is_permutation-2.ensures (not-false _ c.if-not-is_permutation-2.false-raw))
    c.same_atoms.ensures c.if-not-same_atoms.false-raw c.same_bonds.ensures c.if-not-same_bonds.false-raw c.same_sums.ensures h)
