-- Matchings do not look at the marks of atoms. Assumes nothing.
use Prim.Native.Nat.{ℕ}
use native.Mathlib.Omega.{arith}
use mathlib.Core.Path.{◌≡◌, ap}
use mathlib.Core.List.{List}
use lib.IntN.{ℤ}
use Rattle.table.specs.Limits.{ELEMENT, SELECTED, HYDROGENS, CHARGE}
use Rattle.table.proofs.Orders.{ButMarks}
use Rattle.matching.specs.Enumeration.{matchings}
use Rattle.matching.specs.Graph.{is_matching}
use Rattle.matching.specs.Model.{some?}
use Rattle.table_graph.specs.Graph.{delocalized_flag, delocalized_flags, graph_of, matchable}
use Rattle.table_graph.proofs.Graph.{up_to-ext}

module _ {t u : List ℤ} {n : ℕ} (s : ButMarks t u n) (bonds : List ℤ) (m : ℕ) where
  pub but-flags : delocalized_flags t bonds n m ≡ delocalized_flags u bonds n m
  but-flags = up_to-ext (delocalized_flag t bonds m) (delocalized_flag u bonds m) 0 n (λ a l. rw (
    s.field a ELEMENT (omega arith) (λ e. omega arith),
    s.field a SELECTED (omega arith) (λ e. omega arith),
    s.field a CHARGE (omega arith) (λ e. omega arith),
    s.field a HYDROGENS (omega arith) (λ e. omega arith),
  ))

  pub but-matchable : matchable t bonds n m ≡ matchable u bonds n m
  unfolding matchable
  but-matchable = ap (λ (f : List ℕ). some? (matchings (is_matching f (graph_of bonds m)) m)) but-flags
