-- A molecule in alike tables is kekulized and written the same, and tables of any length can be made longer. Assumes nothing.
use Prim.Native.Nat.{ℕ, zero, suc, ◌+◌, ◌*◌, ◌≤◌}
use native.Mathlib.Omega.{arith}
use mathlib.Core.Path.{◌≡◌, refl, sym, ap, ◌∙◌}
use mathlib.Core.Bool.{Bool, true, false}
use mathlib.Core.List.{List, [], ◌∷◌, ◌++◌}
use lib.ListN.{length, get_or, set, replicate, length-replicate, length-set, length-append}
use lib.IntN.{ℤ, pos}
use lib.Dec.{eqb}
use Rattle.loops.proofs.Loops.{repeated-at}
use Rattle.loops.specs.Loop.{pick, run}
use Rattle.kinds.specs.Kind.{double}
use Rattle.table.specs.Limits.{max_atoms, max_bonds, atom_cells, bond_cells, SELECTED, KIND}
use Rattle.table.specs.Cells.{atom_place, bond_place}
use Rattle.table.specs.Marks.{none_crowded}
use Rattle.table.specs.Edits.{doubled, doubled_by, doubled_bonds, unselected, unselected_atoms}
use Rattle.table_alike.specs.Alike.{Alike}
use Rattle.table_alike.proofs.Readings.{same-crowded, same-matching}
use Rattle.table_alike.proofs.Edits.{alike-unselected, alike-doubled}
use Rattle.matching.specs.Enumeration.{row_call}
use Rattle.matching.specs.declared.Call.TheVariants.{First}
use Rattle.kekule.specs.Kekule.{kekulize_reply, kekulized}
use Rattle.standard.specs.Standard.{of_written}
use Rattle.standard.specs.Standing.{first_of, kekule_by, by_tables, molecule_of}
use Rattle.standard.proofs.Writes.{same-written}

-- ---- a table with zeros after it

abbrev pub padded : ℕ → List ℤ → List ℤ
padded k t = t ++ replicate k (pos 0)

pub padded-length : (k : ℕ) (t : List ℤ) → length (padded k t) ≡ length t + k
padded-length k t = length-append t (replicate k (pos 0)) ∙ ap (λ (x : ℕ). length t + x) (length-replicate {A = ℤ} k (pos 0))

padded-cell : (k : ℕ) (t : List ℤ) (i : ℕ) → get_or t i (pos 0) ≡ get_or (padded k t) i (pos 0)
padded-cell k [] i = sym (repeated-at k i (pos 0))
padded-cell k (x ∷ t) zero = refl
padded-cell k (x ∷ t) (suc i) = padded-cell k t i

pub padded-alike : (k : ℕ) (t : List ℤ) → Alike t (padded k t)
padded-alike k t = record { cell = padded-cell k t }

-- ---- kekulizing keeps the lengths

run_length : (step : ℕ → List ℤ → List ℤ) → ((k : ℕ) (t : List ℤ) → length (step k t) ≡ length t) → (c k : ℕ) (t : List ℤ) → length (run step k c t) ≡ length t
unfolding run
run_length step h zero k t = refl
run_length step h (suc c) k t = run_length step h c (suc k) (step k t) ∙ h k t

pub unselected-length : (n : ℕ) (t : List ℤ) → length (unselected_atoms n t) ≡ length t
unfolding unselected_atoms
unselected-length n t = run_length unselected (λ k u. length-set u (atom_place k SELECTED) (pos 0)) n 0 t

doubled-one : (x b : ℕ) (t : List ℤ) → length (doubled x b t) ≡ length t
unfolding doubled
doubled-one x b t = split (eqb x 1)
  where
    split : (y : Bool) → length (pick y (set t (bond_place b KIND) (pos double)) t) ≡ length t
    split true = length-set t (bond_place b KIND) (pos double)
    split false = refl

pub doubled-length : (row : List ℕ) (m : ℕ) (t : List ℤ) → length (doubled_bonds row m t) ≡ length t
unfolding doubled_bonds
doubled-length row m t = run_length (doubled_by row) (λ b u. doubled-one (get_or row b 0) b u) m 0 t

-- ---- a molecule in alike tables with a row for each atom and each bond

module _ {atoms atoms' bonds bonds' : List ℤ} (q : Alike atoms atoms') (r : Alike bonds bonds') (n m : ℕ) (la : atom_cells * n ≤ length atoms) (la' : atom_cells * n ≤ length atoms') (lb : bond_cells * m ≤ length bonds) (lb' : bond_cells * m ≤ length bonds') where
  pub same_first : first_of atoms bonds n m ≡ first_of atoms' bonds' n m
  same_first = λ i. (row_call (same-matching r q n m i) m First (replicate max_bonds 0)).row

  pub same-crowding : (row : List ℕ) → none_crowded (doubled_bonds row m bonds) m ≡ none_crowded (doubled_bonds row m bonds') m
  same-crowding row = same-crowded (alike-doubled r row m lb lb') m

  -- by a row
  by_row : (k : ℕ) (out row : List ℕ) → by_tables n m k out (kekule_by atoms bonds n m row) ≡ by_tables n m k out (kekule_by atoms' bonds' n m row)
  unfolding kekule_by
  by_row k out row =
      ap (λ (x : Bool). by_tables n m k out (pick x (kekulized atoms bonds n m row) (kekulize_reply 20 atoms bonds))) (same-crowding row)
      ∙ split (none_crowded (doubled_bonds row m bonds') m)
    where
      split : (x : Bool) → by_tables n m k out (pick x (kekulized atoms bonds n m row) (kekulize_reply 20 atoms bonds)) ≡ by_tables n m k out (pick x (kekulized atoms' bonds' n m row) (kekulize_reply 20 atoms' bonds'))
      split true =
          ap (of_written n m k)
          (same-written (alike-unselected q n la la') (alike-doubled r row m lb lb') n m (omega (arith, la, unselected-length n atoms)) (omega (arith, la', unselected-length n atoms')) out (replicate max_atoms 0))
      split false = refl

  pub same-molecule : (k : ℕ) (out : List ℕ) → molecule_of atoms bonds n m k out ≡ molecule_of atoms' bonds' n m k out
  unfolding molecule_of
  same-molecule k out = ap (λ (row : List ℕ). by_tables n m k out (kekule_by atoms bonds n m row)) same_first ∙ by_row k out (first_of atoms' bonds' n m)
