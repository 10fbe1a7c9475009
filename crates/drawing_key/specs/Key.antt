-- The withdrawal check, "The key": "a 64-bit number of a molecule (any size): hashes of the folded atom's cells, settled sum and degree, some rounds over the neighbours weighted by being joined and never by order, summed". The caller folds.
use Rattle.std.specs.Prelude.{ℕ, ◌+◌, ◌*◌, ◌%◌, List, ℤ, pos, ◌+ℤ◌}
use Rattle.loops.specs.Loop.{pick, run, up_to}
use Rattle.table.specs.Limits.{ISOTOPE, CHARGE}
use Rattle.table.specs.Cells.{number, atom_cell, element, hydrogens}
use Rattle.same_model.specs.Same.{Molecule}
use Rattle.same_model.specs.Redrawing.{settled_sum, joined}
use Rattle.same_keys.specs.Keys.{mixed, at, mixed_at}

-- "the folded atom's cells": element, isotope, hydrogens and charge, each a digit of one number
unfoldable pub cells_number : List ℤ → ℕ → ℕ
cells_number atoms a =
    ((element atoms a * 1000 + number (atom_cell atoms a ISOTOPE)) * 10 + hydrogens atoms a) * 19 + number (atom_cell atoms a CHARGE +ℤ pos 9)

-- what f gives at each atom that a is joined to, added up
abbrev pub add_joined : Molecule → (ℕ → ℕ) → ℕ → ℕ → ℕ → ℕ
add_joined x f a b s = s + pick (joined x a b) (f b) 0

unfoldable pub joined_sum : Molecule → (ℕ → ℕ) → ℕ → ℕ
joined_sum x f a = run (add_joined x f a) 0 x.n 0

-- the degree: how many atoms a is joined to
abbrev pub degree : Molecule → ℕ → ℕ
degree x a = joined_sum x (λ b. 1) a

-- "hashes of the folded atom's cells, settled sum and degree"
unfoldable pub hashed : ℕ → ℕ → ℕ → ℕ
hashed cells sum degree = mixed (mixed cells + sum * 1000 + degree)

abbrev pub first_key : Molecule → ℕ → ℕ
first_key x a = hashed (cells_number x.atoms a) (settled_sum x a) (degree x a)

-- a round "over the neighbours": each atom's key and the mixed keys of the atoms that it is joined to, added up
unfoldable pub next_round : Molecule → List ℕ → List ℕ
next_round x keys = up_to (λ a. at keys a + joined_sum x (mixed_at keys) a) 0 x.n

-- "some rounds"
abbrev pub key_rounds : ℕ
key_rounds = 5

unfoldable pub atom_keys : Molecule → List ℕ
atom_keys x = run (λ (i : ℕ) (keys : List ℕ). next_round x keys) 0 key_rounds (up_to (first_key x) 0 x.n)

-- what f gives at the keys of n atoms, added up, below 2^32
abbrev pub word : ℕ
word = 4294967296

abbrev pub add_key : (ℕ → ℕ) → List ℕ → ℕ → ℕ → ℕ
add_key f keys a s = s + f (at keys a)

abbrev pub half : (ℕ → ℕ) → List ℕ → ℕ → ℕ
half f keys n = run (add_key f keys) 0 n 0 % word

-- "summed": two sums, of keys that were mixed once and twice
abbrev pub mixed_again : ℕ → ℕ
mixed_again k = mixed (mixed k + 1)

unfoldable pub summed : List ℕ → ℕ → ℕ
summed keys n = half mixed_again keys n * word + half mixed keys n

-- the key of a molecule
abbrev pub key_of : Molecule → ℕ
key_of x = summed (atom_keys x) x.n
