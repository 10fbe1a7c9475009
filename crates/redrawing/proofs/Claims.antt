-- THE LAWS of redrawing. Assumes nothing.
use mathlib.Core.Path.{sym, subst}
use native.Mathlib.Omega.{arith}
use Rattle.table.specs.Valid.{Valid}
use Rattle.table.proofs.Valid.{Enough}
use Rattle.matching.specs.Enumeration.{Row}
use Rattle.kekule.proofs.Kekulized.{kekulized-valid}
use Rattle.same_model.specs.Same.{Molecule, settled}
use Rattle.same_model.specs.Redrawing.{Placement, Same, Redrawing}
use Rattle.same_model.proofs.Relation.{same-kekulized}
use Rattle.same_model.proofs.Redrawn.{redrawing-self, redrawing-sym, redrawing-trans, same-redrawing}
use Rattle.folding.specs.Folding.{bared, folded, Complete}
use Rattle.folding.proofs.Bared.{atoms-extension, bared-complete}
use Rattle.folding.proofs.Claims.{folded-twice}
use Rattle.redrawing.specs.Redrawn.{Redrawn}
use Rattle.redrawing.proofs.Bared.{bare-redrawing}
use Rattle.redrawing.proofs.Merged.{merged-redrawing}
use Rattle.redrawing.proofs.Matched.{Bare, matched, matched-goes}
use Rattle.redrawing.proofs.Lengths.{settled-enough}

-- ---- "It is an equivalence"
pub redrawn-self : (x : Molecule) → Redrawn x x
redrawn-self x = record { drawing = redrawing-self (folded x) }

pub redrawn-sym : {x y : Molecule} → Redrawn x y → Redrawn y x
redrawn-sym w = record { drawing = redrawing-sym w.drawing }

pub redrawn-trans : {x y z : Molecule} → Redrawn x y → Redrawn y z → Redrawn x z
redrawn-trans v w = record { drawing = redrawing-trans v.drawing w.drawing }

-- a molecule is a redrawing of what it folds to
pub redrawn-folded : (x : Molecule) → Complete x → Redrawn x (folded x)
redrawn-folded x c = record { drawing = subst (Redrawing (folded x)) (sym (folded-twice x c)) (redrawing-self (folded x)) }

-- ---- a redrawing before folding is one after it
bare : (x : Molecule) → Complete x → Bare (bared x)
bare x c = record { complete = bared-complete c; none = λ a l. atoms-extension x.n a x.atoms l }

pub redrawing-redrawn : {x y : Molecule} → Redrawing x y → Complete x → Complete y → Redrawn x y
redrawing-redrawn {x} {y} w c d =
    let v = bare-redrawing w in
    let p = bare x c in
    let q = bare y d in
    record { drawing = merged-redrawing (matched v p q) p.complete q.complete (matched-goes v p q) }

-- valid tables that are as long as 01 asks hold their rows
pub enough-complete : {x : Molecule} → Valid x.atoms x.bonds x.n x.m → Enough x.atoms x.bonds → Complete x
enough-complete v e = record { valid = v; atoms_room = omega (arith, v.atoms_few, e.atoms_room); bonds_room = omega (arith, v.bonds_few, e.bonds_room) }

-- ---- "the same compound by P4 implies it"
pub same-redrawn : {x y : Molecule} → Same x y → Valid x.atoms x.bonds x.n x.m → Enough x.atoms x.bonds → Valid y.atoms y.bonds y.n y.m → Enough y.atoms y.bonds → Redrawn x y
same-redrawn w v e u f = redrawing-redrawn (same-redrawing w v e u f) (enough-complete v e) (enough-complete u f)

-- ---- "a molecule and its kekulized form by any row are redrawings; so are two Kekulé drawings of one ring"
module _ (x : Molecule) (v : Valid x.atoms x.bonds x.n x.m) (e : Enough x.atoms x.bonds) where
  pub kekulized-redrawn : (r : Row) → Placement x r → Redrawn x (settled x r)
  kekulized-redrawn r p = same-redrawn (same-kekulized x r p v e) v e (kekulized-valid v e r) (settled-enough x r e)

  pub drawings-redrawn : (r s : Row) → Placement x r → Placement x s → Redrawn (settled x r) (settled x s)
  drawings-redrawn r s p q = redrawn-trans (redrawn-sym (kekulized-redrawn r p)) (kekulized-redrawn s q)
