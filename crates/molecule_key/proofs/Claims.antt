-- What is claimed of the key of a molecule. Assumes nothing.
use mathlib.Core.Path.{◌≡◌, ap}
use mathlib.Core.Bool.{true}
use Rattle.table.specs.Valid.{enough}
use Rattle.table.specs.Sound.{sound}
use Rattle.same_model.specs.Same.{Molecule}
use Rattle.folding.specs.Folding.{folded, Complete}
use Rattle.drawing_key.specs.Key.{key_of}
use Rattle.drawing_key.proofs.Claims.{redrawing-key}
use Rattle.redrawing.specs.Redrawn.{Redrawn}
use Rattle.redrawing.proofs.Claims.{redrawing-redrawn}
use Rattle.molecule_key.specs.Keyed.{keyed, keyed_of, Agree}
use Rattle.molecule_key.proofs.Used.{agree-redrawing}

-- redrawings have equal keys
pub redrawn-key : {x y : Molecule} → Redrawn x y → key_of (folded x) ≡ key_of (folded y)
redrawn-key w = redrawing-key w.drawing

-- the call hands back the same for them
pub redrawn-keyed : {x y : Molecule} → Redrawn x y → enough x.atoms x.bonds ≡ true → sound x.atoms x.bonds x.n x.m ≡ true → enough y.atoms y.bonds ≡ true → sound y.atoms y.bonds y.n y.m ≡ true → keyed_of x.atoms x.bonds x.n x.m ≡ keyed_of y.atoms y.bonds y.n y.m
unfolding keyed_of
redrawn-keyed w e s f t = rw (e, s, f, t) (ap (keyed 0) (redrawn-key w))

-- cells after the used rows are not looked at
pub key-used : {x y : Molecule} → Agree x y → Complete x → Complete y → key_of (folded x) ≡ key_of (folded y)
key-used w c d = redrawn-key (redrawing-redrawn (agree-redrawing w) c d)
