-- Skipping over tables: the graph that was built is the molecule's. Assumes nothing.
use mathlib.Core.Path.{◌≡◌}
use mathlib.Core.Bool.{Bool, true, ◌&&◌}
use mathlib.Core.List.{List, [], ◌∷◌}
use Prim.Native.Nat.{ℕ}
use lib.IntN.{ℤ}
use lib.ListN.{length, take}
use Rattle.matching.specs.Enumeration.{Row, is_row, or_zeroed}
use Rattle.matching.specs.Graph.{is_matching}
use Rattle.matching.specs.Model.{bonds_of}
use Rattle.matching.specs.declared.MatchingAnswer.TheVariants.{Ended}
use Rattle.matching_skip.specs.Skip.{later_than, Skipped}
use Rattle.table_graph.specs.Built.{Built}
use Rattle.table_graph.specs.Graph.{matching_of}
use Rattle.table_graph.proofs.Graph.{built-bonds, length-first}
use Rattle.same_decide.specs.Decide.{HandsOut}

-- what is skipped to is handed out
handed : (fs : List Row) (len : ℕ) {r : Bool} {row : Row} → Skipped fs len r row → HandsOut (or_zeroed len Ended fs) r row
handed [] len w = record { told = w.told; wrote = w.wrote }
handed (f ∷ fs) len w = record { told = w.told; wrote = w.wrote }

module _ {atoms bonds : List ℤ} {n m : ℕ} {flags ea eb el : List ℕ} (b : Built atoms bonds n m flags ea eb el) where
  same_test : is_matching (take n flags) (bonds_of (take m ea) (take m eb) (take m el)) ≡ matching_of atoms bonds n m
  same_test = simp (built-bonds b, b.delocalized_part)

  pub skip-good : (row : Row) → (is_row m (take m row) && matching_of atoms bonds n m (take m row)) ≡ true
      → (is_row (length (take m ea)) (take (length (take m ea)) row) && is_matching (take n flags) (bonds_of (take m ea) (take m eb) (take m el)) (take (length (take m ea)) row)) ≡ true
  skip-good row h = simp (length-first b, built-bonds b, b.delocalized_part) h

  pub skip-built : (row : Row) (to : ℕ) {len : ℕ} {r : Bool} {row' : Row} → Skipped (later_than (is_matching (take n flags) (bonds_of (take m ea) (take m eb) (take m el))) (length (take m ea)) to row) len r row'
      → HandsOut (or_zeroed len Ended (later_than (matching_of atoms bonds n m) m to row)) r row'
  skip-built row to {len} {r} {row'} w = handed (later_than (matching_of atoms bonds n m) m to row) len (rw (length-first b, built-bonds b, b.delocalized_part) at w)
