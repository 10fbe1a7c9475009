-- auxiliary: the bonds of a molecule in arrays: the ends, the kinds and the bond sums
use Rattle.std.specs.Prelude.{ℕ, ◌-◌, ◌<◌, ◌≤◌, ◌≡◌, List, length, get_or, ℤ}
use Rattle.loops.specs.Loop.{run}
use Rattle.table.specs.Cells.{end1, end2, kind}
use Rattle.table_graph.specs.Graph.{add_share}
use Rattle.writing_walk.specs.Token.{Bond, bond}

-- the bonds by number, from arrays
abbrev pub wires : List ℕ → List ℕ → List ℕ → ℕ → Bond
wires ea eb ks b = bond (get_or ea b 0) (get_or eb b 0) (get_or ks b 0)

-- the arrays hold the ends and the kinds of the bonds from b on
pub record Wired (bonds : List ℤ) (m b : ℕ) (ea eb ks : List ℕ) : Type 0 where
  pub firsts : (c : ℕ) → b ≤ c → c < m → get_or ea c 0 ≡ end1 bonds c
  pub seconds : (c : ℕ) → b ≤ c → c < m → get_or eb c 0 ≡ end2 bonds c
  pub kinds : (c : ℕ) → b ≤ c → c < m → get_or ks c 0 ≡ kind bonds c

-- what the bonds from b on add to the bond sum of the atom a
unfoldable pub sum_from : List ℤ → ℕ → ℕ → ℕ → ℕ
sum_from bonds m b a = run (add_share bonds a) b (m - b) 0

-- the arrays have a place for each of m bonds and a sum for each of their ends
pub record NoteRoom (bonds : List ℤ) (m : ℕ) (ea eb ks sums : List ℕ) : Type 0 where
  pub firsts : m ≤ length ea
  pub seconds : m ≤ length eb
  pub kinds : m ≤ length ks
  pub summed : (b : ℕ) → b < m → end2 bonds b < length sums

-- the arrays have a place for each of m bonds and a head for each of their ends
pub record LinkRoom (bonds : List ℤ) (m : ℕ) (head after behind : List ℕ) : Type 0 where
  pub heads : (b : ℕ) → b < m → end2 bonds b < length head
  pub afters : m ≤ length after
  pub behinds : m ≤ length behind

-- the arrays have a place for each of n atoms and m bonds
pub record Places (n m : ℕ) (head after behind ea eb ks : List ℕ) : Type 0 where
  pub heads : n ≤ length head
  pub afters : m ≤ length after
  pub behinds : m ≤ length behind
  pub firsts : m ≤ length ea
  pub seconds : m ≤ length eb
  pub kinds : m ≤ length ks
