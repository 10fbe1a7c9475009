-- The withdrawal check, "Redrawing": the equivalence that a withdrawal is decided by
use Rattle.same_model.specs.Same.{Molecule}
use Rattle.same_model.specs.Redrawing.{Redrawing}
use Rattle.folding.specs.Folding.{folded}

-- "two molecules are redrawings if some renumbering keeps element, isotope, hydrogens, charge, which atoms are joined, and each atom's settled sum (bond sum, plus 1 if kept), after folding" (extensions are all 0 then)
pub record Redrawn (x y : Molecule) : Type 0 where
  pub drawing : Redrawing (folded x) (folded y)
