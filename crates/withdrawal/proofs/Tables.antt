-- Reading a text does not depend on what stood in the tables. Assumes nothing.
use Prim.Native.Nat.{ℕ, ◌*◌}
use native.Mathlib.Omega.{arith}
use mathlib.Core.Path.{◌≡◌, sym, ap, ◌∙◌}
use mathlib.Core.Bool.{true}
use mathlib.Core.List.{List}
use lib.ListN.{length, replicate, length-replicate}
use lib.IntN.{ℤ, pos}
use borrow.Author.Tests.{le-leb}
use Rattle.table.specs.Limits.{max_atoms, max_bonds, atom_cells, bond_cells}
use Rattle.table.specs.Valid.{enough}
use Rattle.reading_grammar.specs.Fold.{Reading, going, halted, read}
use Rattle.reading_grammar.specs.declared.MachineState.TheVariants.{Start as start}
use Rattle.reading.specs.Act.{act}
use Rattle.reading.specs.Memory.{Memory}
use Rattle.reading.specs.Read.{zeros, beginning, finished, read_from, read_of}

module _ (a b c d : List ℤ) (e : zeros a ≡ zeros c) (f : zeros b ≡ zeros d) where
  finished-alike : (n : ℕ) (r : Reading Memory) → finished n a b r ≡ finished n c d r
  finished-alike n (going σ μ) = rw (e, f)
  finished-alike n (halted k p) = rw (e, f)

  from-alike : (s : List ℕ) → read_from s a b ≡ read_from s c d
  unfolding read_from
  from-alike s = rw (finished-alike (length s) (read act 0 (going start (beginning (zeros a) (zeros b))) s), e, f)

  of-alike : (s : List ℕ) → enough a b ≡ true → enough c d ≡ true → read_of s a b ≡ read_of s c d
  unfolding read_of
  of-alike s p q = rw (p, q, from-alike s, e, f)

-- ---- tables of the lent lengths
enough-room : (a b : List ℤ) → length a ≡ atom_cells * max_atoms → length b ≡ bond_cells * max_bonds → enough a b ≡ true
unfolding enough
enough-room a b p q = rw (le-leb (atom_cells * max_atoms) (length a) (omega (arith, p)), le-leb (bond_cells * max_bonds) (length b) (omega (arith, q)))

pub read_alike : (s : List ℕ) (a b : List ℤ) → length a ≡ atom_cells * max_atoms → length b ≡ bond_cells * max_bonds → read_of s a b ≡ read_of s (replicate (atom_cells * max_atoms) (pos 0)) (replicate (bond_cells * max_bonds) (pos 0))
read_alike s a b p q =
    let x = length-replicate (atom_cells * max_atoms) (pos 0) in
    let y = length-replicate (bond_cells * max_bonds) (pos 0) in
    of-alike a b _ _ (ap (λ (n : ℕ). replicate n (pos 0)) (p ∙ sym x)) (ap (λ (n : ℕ). replicate n (pos 0)) (q ∙ sym y)) s (enough-room a b p q) (enough-room _ _ x y)
