-- Edits keep tables alike where the edited places lie in both. Assumes nothing.
use Prim.Native.Nat.{ℕ, zero, suc, ◌+◌, ◌*◌, ◌<◌, ◌≤◌}
use native.Mathlib.Omega.{arith}
use mathlib.Core.Path.{◌≡◌, refl, sym, ap, ◌∙◌}
use mathlib.Core.Bool.{Bool, true, false}
use mathlib.Core.List.{List}
use lib.ListN.{length, get_or, set, length-set}
use lib.Seq.{get_or-set_same, get_or-set_other}
use lib.IntN.{ℤ, pos}
use lib.Dec.{eqb}
use borrow.Author.Tests.{eqb-true, eqb-false}
use Rattle.loops.specs.Loop.{pick, run}
use Rattle.kinds.specs.Kind.{double}
use Rattle.table.specs.Limits.{atom_cells, bond_cells, SELECTED, MARK, KIND}
use Rattle.table.specs.Cells.{atom_place, bond_place}
use Rattle.table.specs.Edits.{doubled, doubled_by, doubled_bonds, unselected, unselected_atoms}
use Rattle.table.specs.Orders.{turned_mark, turn_mark, turn_marks}
use Rattle.table_alike.specs.Alike.{Alike}
use Rattle.table_alike.proofs.Readings.{same-turned}

-- ---- alike is an equivalence
-- a table is alike to itself
pub alike-itself : (t : List ℤ) → Alike t t
alike-itself t = record { cell = λ k. refl }

-- in both directions
pub alike-back : {t u : List ℤ} → Alike t u → Alike u t
alike-back w = record { cell = λ k. sym (w.cell k) }

-- and from table to table
pub alike-on : {t u v : List ℤ} → Alike t u → Alike u v → Alike t v
alike-on w x = record { cell = λ k. w.cell k ∙ x.cell k }

-- ---- one cell
-- the same value at the same place in both
pub alike_set : {t u : List ℤ} → Alike t u → (i : ℕ) (x : ℤ) → i < length t → i < length u → Alike (set t i x) (set u i x)
alike_set {t} {u} w i x l h = record { cell = λ k. go k (eqb k i) refl }
  where
    go : (k : ℕ) (z : Bool) → eqb k i ≡ z → get_or (set t i x) k (pos 0) ≡ get_or (set u i x) k (pos 0)
    go k true e = rw (eqb-true k i e) (get_or-set_same t i x (pos 0) l ∙ sym (get_or-set_same u i x (pos 0) h))
    go k false e = let n = eqb-false k i e in get_or-set_other t i k x (pos 0) n ∙ w.cell k ∙ sym (get_or-set_other u i k x (pos 0) n)

-- the same where the two values are known to be equal
pub alike-put : {t u : List ℤ} → Alike t u → (i : ℕ) (x y : ℤ) → x ≡ y → i < length t → i < length u → Alike (set t i x) (set u i y)
alike-put {t} {u} w i x y e l h = rw e (alike_set w i y l h)

-- ---- a loop of n steps that keep the length, and keep tables alike that have so much room
module _ (f g : ℕ → List ℤ → List ℤ) (room n : ℕ) (step : (k : ℕ) (t u : List ℤ) → k < n → room ≤ length t → room ≤ length u → Alike t u → Alike (f k t) (g k u)) (stays : (k : ℕ) (t : List ℤ) → length (f k t) ≡ length t) (stays' : (k : ℕ) (t : List ℤ) → length (g k t) ≡ length t) where
  -- what is left of it
  run-from : (k m : ℕ) (t u : List ℤ) → k + m ≤ n → room ≤ length t → room ≤ length u → Alike t u → Alike (run f k m t) (run g k m u)
  unfolding run
  run-from k zero t u b l h w = w
  run-from k (suc m) t u b l h w = run-from (suc k) m (f k t) (g k u) (omega arith) (rw (stays k t) l) (rw (stays' k u) h) (step k t u (omega arith) l h w)

  -- the whole of it
  pub alike-run : (t u : List ℤ) → room ≤ length t → room ≤ length u → Alike t u → Alike (run f 0 n t) (run g 0 n u)
  alike-run t u l h w = run-from 0 n t u (omega arith) l h w

-- ---- the three loops
-- the marks of n atoms, turned by equal ranks
pub alike-marks : (rank rank' : ℕ → ℕ → ℕ) → rank ≡ rank' → {bonds bonds' atoms atoms' : List ℤ} → Alike bonds bonds' → Alike atoms atoms' → (n m : ℕ) → atom_cells * n ≤ length atoms → atom_cells * n ≤ length atoms' → Alike (turn_marks rank bonds m n atoms) (turn_marks rank' bonds' m n atoms')
unfolding turn_marks
alike-marks rank rank' e {bonds} {bonds'} {atoms} {atoms'} r q n m l h =
    alike-run (turn_mark rank bonds m) (turn_mark rank' bonds' m) (atom_cells * n) n
    (λ k t u b l h w. alike-put w (atom_place k MARK) (pos (turned_mark rank t bonds m k)) (pos (turned_mark rank' u bonds' m k)) (ap pos (same-turned r w rank rank' e m k)) (omega arith) (omega arith))
    (λ k t. length-set t (atom_place k MARK) (pos (turned_mark rank t bonds m k))) (λ k t. length-set t (atom_place k MARK) (pos (turned_mark rank' t bonds' m k))) atoms atoms' l h q

-- the selected cells of n atoms, cleared
pub alike-unselected : {atoms atoms' : List ℤ} → Alike atoms atoms' → (n : ℕ) → atom_cells * n ≤ length atoms → atom_cells * n ≤ length atoms' → Alike (unselected_atoms n atoms) (unselected_atoms n atoms')
unfolding unselected_atoms
alike-unselected {atoms} {atoms'} q n l h =
    alike-run unselected unselected (atom_cells * n) n (λ k t u b l h w. alike_set w (atom_place k SELECTED) (pos 0) (omega arith) (omega arith))
    (λ k t. length-set t (atom_place k SELECTED) (pos 0)) (λ k t. length-set t (atom_place k SELECTED) (pos 0)) atoms atoms' l h q

-- one bond of a row
alike-double : {t u : List ℤ} → Alike t u → (x b : ℕ) → bond_place b KIND < length t → bond_place b KIND < length u → Alike (doubled x b t) (doubled x b u)
unfolding doubled
alike-double {t} {u} w x b l h = go (eqb x 1)
  where
    go : (z : Bool) → Alike (pick z (set t (bond_place b KIND) (pos double)) t) (pick z (set u (bond_place b KIND) (pos double)) u)
    go true = alike_set w (bond_place b KIND) (pos double) l h
    go false = w

-- whose edit keeps the length
double-length : (x b : ℕ) (t : List ℤ) → length (doubled x b t) ≡ length t
unfolding doubled
double-length x b t = go (eqb x 1)
  where
    go : (z : Bool) → length (pick z (set t (bond_place b KIND) (pos double)) t) ≡ length t
    go true = length-set t (bond_place b KIND) (pos double)
    go false = refl

-- the bonds of a row, made kind 2
pub alike-doubled : {bonds bonds' : List ℤ} → Alike bonds bonds' → (row : List ℕ) (m : ℕ) → bond_cells * m ≤ length bonds → bond_cells * m ≤ length bonds' → Alike (doubled_bonds row m bonds) (doubled_bonds row m bonds')
unfolding doubled_bonds
alike-doubled {bonds} {bonds'} r row m l h =
    alike-run (doubled_by row) (doubled_by row) (bond_cells * m) m (λ k t u b l h w. alike-double w (get_or row k 0) k (omega arith) (omega arith)) (λ k t. double-length (get_or row k 0) k t) (λ k t. double-length (get_or row k 0) k t) bonds bonds' l h r
