-- auxiliary: keys of atoms that every redrawing keeps: numbers that grow, round by round, by those of the atoms they are joined to; no claim rests on how well they tell atoms apart
use Rattle.std.specs.Prelude.{ℕ, ◌+◌, ◌*◌, ◌<◌, ◌≤◌, ◌/◌, ◌%◌, Bool, List, ◌++◌, length, get_or, set, drop, replicate, ℤ, pos, negsuc}
use Rattle.loops.specs.Loop.{pick, run, up_to}
use Rattle.table.specs.Limits.{max_bonds, ELEMENT, ISOTOPE, HYDROGENS, CHARGE, EXTENSION}
use Rattle.table.specs.Cells.{number, atom_cell, end1, end2}
use Rattle.table_graph.specs.Built.{bump}
use Rattle.same_model.specs.Same.{max_same, Molecule}
use Rattle.same_model.specs.Redrawing.{settled_sum}

-- numbers are mixed below a prime
abbrev pub prime : ℕ
prime = 2147483647

unfoldable pub mixed : ℕ → ℕ
mixed x = let y = x % prime in (y * y + 1103515245 * y + 12345) % prime

unfoldable pub stirred : ℕ → ℕ → ℕ
stirred key x = mixed (key % prime + x % prime)

-- the number of a charge; all below zero count alike
abbrev pub charge_number : ℤ → ℕ
charge_number (pos n) = n
charge_number (negsuc n) = 99

-- the key that an atom begins with: its five cells and its settled sum
unfoldable pub first_key : List ℤ → ℕ → ℕ → ℕ
first_key atoms a sum =
    stirred
    (stirred (stirred (stirred (stirred sum (number (atom_cell atoms a ELEMENT))) (number (atom_cell atoms a ISOTOPE))) (number (atom_cell atoms a HYDROGENS))) (charge_number (atom_cell atoms a CHARGE)))
    (number (atom_cell atoms a EXTENSION))

-- the same from the bond sums and the flags of delocalized atoms
abbrev pub sum_key : List ℤ → List ℕ → List ℕ → ℕ → ℕ
sum_key atoms sums flags a = first_key atoms a (get_or sums a 0 + get_or flags a 0)

-- a cell of a list of numbers
abbrev pub at : List ℕ → ℕ → ℕ
at l i = get_or l i 0

-- n cells filled, of as many as there are atoms at most
abbrev pub filled_to : (ℕ → ℕ) → ℕ → List ℕ
filled_to f n = up_to f 0 n ++ drop n (replicate max_same 0)

abbrev pub mixed_at : List ℕ → ℕ → ℕ
mixed_at keys a = mixed (at keys a)

-- two atoms that are joined: each adds the other's mixed key to its own
unfoldable pub join_keys : List ℕ → ℕ → ℕ → List ℕ → List ℕ
join_keys mx a b keys = bump (bump keys a (at mx b)) b (at mx a)

-- the ends of the bond k by two functions
abbrev pub spread : (ℕ → ℕ) → (ℕ → ℕ) → List ℕ → ℕ → List ℕ → List ℕ
spread e f mx k keys = join_keys mx (e k) (f k) keys

-- one round
unfoldable pub next_keys : (ℕ → ℕ) → (ℕ → ℕ) → ℕ → ℕ → List ℕ → List ℕ
next_keys e f m n keys = run (spread e f (up_to (mixed_at keys) 0 n)) 0 m keys

-- r rounds
unfoldable pub refined : (ℕ → ℕ) → (ℕ → ℕ) → ℕ → ℕ → ℕ → List ℕ → List ℕ
refined e f m n r keys = run (λ (i : ℕ) (s : List ℕ). next_keys e f m n s) 0 r keys

-- how many rounds of neighbours a key tells of: both ends of a chain of n atoms reach its middle
abbrev pub rounds : ℕ → ℕ
rounds n = n / 2 + 1

abbrev pub refined_of : Molecule → ℕ → List ℕ → List ℕ
refined_of x r keys = refined (end1 x.bonds) (end2 x.bonds) x.m x.n r keys

-- the keys of a molecule
unfoldable pub keys_of : Molecule → List ℕ
keys_of x = refined_of x (rounds x.n) (filled_to (λ a. first_key x.atoms a (settled_sum x a)) x.n)

-- keys for pairs of atoms: those of the molecule, refined again after one atom was told apart; 0 where they are not asked for
abbrev pub apart_by : ℕ
apart_by = 1000003

abbrev pub pair_rounds : ℕ
pair_rounds = 8

abbrev pub pair_limit : ℕ
pair_limit = 8192

unfoldable pub told_apart : (ℕ → ℕ) → (ℕ → ℕ) → ℕ → ℕ → List ℕ → ℕ → List ℕ
told_apart e f m n keys a = refined e f m n pair_rounds (bump keys a apart_by)

abbrev pub pair_cell : List ℕ → ℕ → ℕ
pair_cell keys b = 4 * (at keys b % pair_limit)

-- a row of a matrix with max_same columns, and n rows
abbrev pub set_cell : (ℕ → ℕ) → ℕ → ℕ → List ℕ → List ℕ
set_cell g a b p = set p (max_same * a + b) (g b)

unfoldable pub row_filled : ℕ → (ℕ → ℕ) → ℕ → List ℕ → List ℕ
row_filled n g a p = run (set_cell g a) 0 n p

unfoldable pub pairs_filled : (ℕ → ℕ) → (ℕ → ℕ) → ℕ → ℕ → List ℕ → List ℕ → List ℕ
pairs_filled e f m n keys p = run (λ (a : ℕ) (s : List ℕ). row_filled n (pair_cell (told_apart e f m n keys a)) a s) 0 n p

-- the matrix of a molecule: four times the key of each pair; zeros where it is not asked for
unfoldable pub pairs_of : Bool → Molecule → List ℕ → List ℕ
pairs_of on x keys = pick on (pairs_filled (end1 x.bonds) (end2 x.bonds) x.m x.n keys (replicate (max_same * max_same) 0)) (replicate (max_same * max_same) 0)

abbrev pub pair_key : Bool → Molecule → List ℕ → ℕ → ℕ → ℕ
pair_key on x keys a b = pick on (at (told_apart (end1 x.bonds) (end2 x.bonds) x.m x.n keys a) b % pair_limit) 0

-- the mixed keys of n atoms, added up
abbrev pub add_mixed : List ℕ → ℕ → ℕ → ℕ
add_mixed keys i s = s + mixed_at keys i

unfoldable pub key_sum : List ℕ → ℕ → ℕ
key_sum keys n = run (add_mixed keys) 0 n 0

-- no number of the list is above h
pub record Low (o : List ℕ) (h : ℕ) : Type 0 where
  pub at : (i : ℕ) → get_or o i 0 ≤ h

-- the highest key after r rounds
abbrev pub highest : ℕ → ℕ
highest r = prime * (1 + 2 * max_bonds * r)

-- m bonds whose ends are below h, in two lists
pub record Inside (ea eb : List ℕ) (m h : ℕ) : Type 0 where
  pub few : m ≤ max_bonds
  pub firsts : m ≤ length ea
  pub seconds : m ≤ length eb
  pub first : (k : ℕ) → k < m → get_or ea k 0 < h
  pub second : (k : ℕ) → k < m → get_or eb k 0 < h
