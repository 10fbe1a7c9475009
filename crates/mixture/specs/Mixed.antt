-- 02, P13: what reading two texts joined by a dot hands back, from what reading each of them hands back: the atoms of the first and then of the second, the bonds of the first and then of the second with their ends moved up
use Rattle.std.specs.Prelude.{ℕ, ◌+◌, ◌-◌, ◌*◌, Bool, true, ◌&&◌, not, List, [], ◌∷◌, ◌++◌, take, replicate, ℤ, pos}
use Rattle.loops.specs.Loop.{run}
use Rattle.element.specs.Symbols.{among}
use Rattle.table.specs.Limits.{atom_cells, bond_cells}
use Rattle.table.specs.Rows.{bond_row, with_bond}
use Rattle.reading.specs.Read.{ReadResult}
use Rattle.mixture_rows.specs.Beside.{raised_row}

-- "without P5's or P8's marks": no byte is `/`, `\` or `@`
unfoldable pub unmarked_text : List ℕ → Bool
unmarked_text [] = true
unmarked_text (b ∷ s) = not (among b (47 ∷ 92 ∷ 64 ∷ [])) && unmarked_text s

-- "join by a dot"
abbrev pub joined_text : List ℕ → List ℕ → List ℕ
joined_text s t = s ++ (46 ∷ t)

-- the table with both ends of its bond b moved up by n, and of its first m bonds
abbrev pub raised_bond : ℕ → ℕ → List ℤ → List ℤ
raised_bond n b t = with_bond t b (raised_row n (bond_row t b))

unfoldable pub raised_bonds : ℕ → ℕ → List ℤ → List ℤ
raised_bonds n m t = run (raised_bond n) 0 m t

-- x cells of the first table, then y cells of the second, then 0 up to p cells
abbrev pub side_by_side : ℕ → List ℤ → ℕ → List ℤ → ℕ → List ℤ
side_by_side x first y second p = take x first ++ (take y second ++ replicate (p - (x + y)) (pos 0))

-- what reading the first text and reading the second handed back, together, in tables of p and q cells: counts of atoms, of bonds and of over-full atoms add
abbrev pub mixed : ReadResult → ReadResult → ℕ → ℕ → ReadResult
mixed t u p q =
    record {
      code = 0;
      offset = 0;
      atom_count = t.atom_count + u.atom_count;
      bond_count = t.bond_count + u.bond_count;
      overfull = t.overfull + u.overfull;
      atoms = side_by_side (atom_cells * t.atom_count) t.atoms (atom_cells * u.atom_count) u.atoms p;
      bonds = side_by_side (bond_cells * t.bond_count) t.bonds (bond_cells * u.bond_count) (raised_bonds t.atom_count u.bond_count u.bonds) q;
    }
