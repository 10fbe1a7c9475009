-- 01, The tables and When a call says no, and 02, P7: the limits
use Rattle.std.specs.Prelude.{ℕ}

-- P7: "1,000 atoms, 1,100 bonds and 16,384 bytes for a text read or written"
abbrev pub max_atoms : ℕ
max_atoms = 1000

abbrev pub max_bonds : ℕ
max_bonds = 1100

-- of refusals 2 and 16
abbrev pub max_text : ℕ
max_text = 16384

-- 6, 15: "a 65th branch opens inside 64"
abbrev pub max_depth : ℕ
max_depth = 64

-- "a digit 1 to 9, or `%` and two digits 10 to 99": bridge numbers are below this
abbrev pub bridges : ℕ
bridges = 100
