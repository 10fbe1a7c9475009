-- auxiliary: folding as the code does it: one pass over the bonds for the neighbours of atoms with one single bond, and a buffer of new numbers
use Rattle.std.specs.Prelude.{ℕ, ◌+◌, ◌-◌, ◌<◌, ◌≤◌, List, Bool, ◌&&◌, not, get_or, ℤ, pos, eqb, leb, ltb}
use Rattle.loops.specs.Loop.{pick, each, run, how_many}
use Rattle.kinds.specs.Kind.{order}
use Rattle.table.specs.Limits.{max_atoms, max_bonds, ELEMENT, KIND}
use Rattle.table.specs.Cells.{bond_cell, element, hydrogens, end1, end2, kind, touches}
use Rattle.table.specs.declared.Bond.{Bond}
use Rattle.table.specs.Rows.{atom_row, with_atom, with_bond}
use Rattle.folding.specs.Folding.{other_end, is_cell, plain_row, one_more}

-- no number of an atom
abbrev pub none : ℕ
none = 65535

-- what is known of an atom's bonds: 0 there is none, k + 1 there is one, of order 1, to the atom k; else none
abbrev pub linked : ℕ → ℕ → ℕ → ℕ
linked x other o = pick (eqb x 0 && eqb o 1) (other + 1) none

abbrev pub link_with : List ℤ → ℕ → ℕ → ℕ → ℕ
link_with bonds a b x = pick (touches bonds a b) (linked x (other_end bonds a b) (order (kind bonds b))) x

unfoldable pub link : List ℤ → ℕ → ℕ → ℕ
link bonds m a = run (link_with bonds a) 0 m 0

-- each of m bonds has two ends, in their order, below len and the limit
pub record Ends (bonds : List ℤ) (m len : ℕ) : Type 0 where
  pub few : m ≤ max_bonds
  pub order : (b : ℕ) → b < m → end1 bonds b < end2 bonds b
  pub second : (b : ℕ) → b < m → end2 bonds b < len
  pub limit : (b : ℕ) → b < m → end2 bonds b < max_atoms

-- no atom has the element of a hydrogen
abbrev pub is_heavy : List ℤ → ℕ → Bool
is_heavy t a = not (eqb (element t a) 1)

unfoldable pub no_hydrogen : List ℤ → ℕ → Bool
no_hydrogen t n = each (is_heavy t) 0 n

-- an atom can take a plain hydrogen; an atom goes, by its link
unfoldable pub takes_one : List ℤ → ℕ → Bool
takes_one t p = not (is_cell t p ELEMENT 1) && ltb (hydrogens t p) 9

unfoldable pub folds_by : ℕ → ℕ → List ℤ → Bool
folds_by x a t = plain_row t a && (not (eqb x 0) && (leb x max_atoms && takes_one t (x - 1)))

abbrev pub fold_by : ℕ → ℕ → List ℤ → List ℤ
fold_by x a t = pick (folds_by x a t) (one_more (x - 1) t) t

-- the atoms after the turns of all before a, by their links; who goes, who stays, and the new numbers
unfoldable pub folded_by : List ℕ → List ℤ → ℕ → List ℤ
folded_by links t a = run (λ b. fold_by (get_or links b 0) b) 0 a t

unfoldable pub goes_by : List ℕ → List ℤ → ℕ → Bool
goes_by links t a = folds_by (get_or links a 0) a (folded_by links t a)

abbrev pub stays_by : List ℕ → List ℤ → ℕ → Bool
stays_by links t a = not (goes_by links t a)

abbrev pub new_number : Bool → ℕ → ℕ
new_number gone k = pick gone none k

abbrev pub next_number : Bool → ℕ → ℕ
next_number gone k = pick gone k (k + 1)

abbrev pub number_by : List ℕ → List ℤ → ℕ → ℕ
number_by links t a = new_number (goes_by links t a) (how_many (stays_by links t) 0 a)

-- a row moved to its new number, if it has one
abbrev pub move_atom : ℕ → ℕ → List ℤ → List ℤ
move_atom k a t = pick (ltb k max_atoms) (with_atom t k (atom_row t a)) t

unfoldable pub move_atoms : List ℕ → ℕ → List ℤ → List ℤ
move_atoms numbers n t = run (λ a. move_atom (get_or numbers a none) a) 0 n t

-- a bond's row moved to the place k with the new numbers of its ends, if both have one
unfoldable pub kept_by : List ℕ → ℕ → List ℤ → Bool
kept_by numbers b t = ltb (get_or numbers (end1 t b) none) max_atoms && ltb (get_or numbers (end2 t b) none) max_atoms

abbrev pub moved_by : List ℕ → ℕ → List ℤ → Bond
moved_by numbers b t = record { first = pos (get_or numbers (end1 t b) none); second = pos (get_or numbers (end2 t b) none); kind = bond_cell t b KIND }

-- a table, and the next place
pub record Placing : Type 0 where
  pub table : List ℤ
  pub next : ℕ

abbrev pub placing : List ℤ → ℕ → Placing
placing t k = record { table = t; next = k }

unfoldable pub move_bond : List ℕ → ℕ → Placing → Placing
move_bond numbers b s = pick (kept_by numbers b s.table) (placing (with_bond s.table s.next (moved_by numbers b s.table)) (s.next + 1)) s

unfoldable pub move_bonds : List ℕ → ℕ → List ℤ → Placing
move_bonds numbers m t = run (move_bond numbers) 0 m (placing t 0)
