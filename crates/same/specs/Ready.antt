-- auxiliary: what the search inside the call is asked with, and what it hands back
use Rattle.std.specs.Prelude.{ℕ, ◌≤◌, ◌≡◌, Bool, true, List, length}
use Rattle.table.specs.Valid.{Valid, enough}
use Rattle.matching.specs.Enumeration.{fill}
use Rattle.same_model.specs.Same.{max_same, Molecule, same?, first_row, second_row, first_renumbering}

-- a molecule in tables that are long enough and valid, of few atoms, with a row for its bonds
pub record Ready (x : Molecule) (row : List ℕ) : Type 0 where
  pub valid : Valid x.atoms x.bonds x.n x.m
  pub long : enough x.atoms x.bonds ≡ true
  pub few : x.n ≤ max_same
  pub room : x.m ≤ length row

-- whether they are the same, and what is handed out then
pub record Decided (x y : Molecule) (row1 row2 ren : List ℕ) (r : Bool) (row1' row2' ren' : List ℕ) : Type 0 where
  pub long1 : length row1' ≡ length row1
  pub long2 : length row2' ≡ length row2
  pub long3 : length ren' ≡ length ren
  pub told : r ≡ same? x y
  pub wrote1 : r ≡ true → row1' ≡ fill (length row1) (first_row x y)
  pub wrote2 : r ≡ true → row2' ≡ fill (length row2) (second_row x y)
  pub wrote3 : r ≡ true → ren' ≡ fill (length ren) (first_renumbering x y)
