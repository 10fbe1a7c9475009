-- auxiliary: the ranks of the bonds in the text (02, P8), two for each bond, in place of their keys
use Rattle.std.specs.Prelude.{ℕ, ◌+◌, ◌*◌, ◌<◌, ◌≤◌, ◌≡◌, List, length, get_or, set, ℤ, eqb}
use Rattle.loops.specs.Loop.{pick, run}
use Rattle.ids.specs.Limits.{max_atoms, max_bonds, max_text}
use Rattle.table.specs.Cells.{end2}
use Rattle.reading_state.specs.State.{key_count}

-- the rank of a bond at its first end: that of a child, or of a bridge by its key; and at its second: that of the preceding atom, or of a bridge
abbrev pub first_rank : ℕ → ℕ → ℕ
first_rank key second = pick (eqb key 0) (max_text + 2 + second) (key + 1)

abbrev pub second_rank : ℕ → ℕ
second_rank key = pick (eqb key 0) 0 (key + 1)

abbrev pub rank_bond : List ℤ → ℕ → List ℕ → List ℕ
rank_bond bonds b l = set (set l (2 * b) (first_rank (get_or l (2 * b) 0) (end2 bonds b))) (2 * b + 1) (second_rank (get_or l (2 * b + 1) 0))

unfoldable pub rank_bonds : List ℤ → ℕ → List ℕ → List ℕ
rank_bonds bonds m l = run (rank_bond bonds) 0 m l

-- the keys of m bonds lie within a text, and their second ends are atoms
pub record Rankable (bonds : List ℤ) (m : ℕ) (keys : List ℕ) : Type 0 where
  pub few : m ≤ max_bonds
  pub second : (b : ℕ) → b < m → end2 bonds b < max_atoms
  pub room : length keys ≡ key_count
  pub key : (k : ℕ) → get_or keys k 0 ≤ max_text
