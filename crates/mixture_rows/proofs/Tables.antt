-- Two molecules side by side, as matchings see them: the flags of the first and then of the second, the bonds of the first and then of the second, moved up. Assumes nothing.
use Prim.Native.Nat.{ℕ, zero, suc, ◌+◌, ◌*◌, ◌<◌}
use native.Mathlib.Omega.{arith}
use mathlib.Core.Path.{◌≡◌, refl, sym, ap, ◌∙◌}
use mathlib.Core.Bool.{true, ◌&&◌, true≢false}
use mathlib.Core.List.{List, [], ◌∷◌, ◌++◌, map}
use lib.ListN.{length}
use lib.IntN.{ℤ}
use lib.Dec.{eqb}
use Rattle.loops.specs.Loop.{up_to}
use Rattle.loops.proofs.Loops.{length-up_to}
use Rattle.kinds.specs.Kind.{elided}
use Rattle.valence.specs.Valence.{delocalized}
use Rattle.matching.specs.Enumeration.{Row, matchings}
use Rattle.matching.specs.Graph.{Bond, is_matching}
use Rattle.matching.specs.Model.{some?}
use Rattle.table.specs.Cells.{number, end1, end2}
use Rattle.table_graph.specs.Graph.{flag, delocalized_flag, delocalized_flags, bond_of, graph_of, matching_of, matchable}
use Rattle.mixture_rows.specs.Rows.{followed}
use Rattle.mixture_rows.specs.Beside.{Molecule, matchings_of, Beside}
use Rattle.mixture_rows.proofs.Parts.{up_to-parts}
use Rattle.mixture_rows.proofs.Graph.{raised_bond, AllBelow, matching-parts}
use Rattle.mixture_rows.proofs.Bonds.{first-end1, first-end2, first_kind, second-end1, second-end2, second-kind, sum_first, sum-second}
use Rattle.mixture_rows.proofs.Product.{product, followed-length}

up_to-map : {A B : Type 0} (g : A → B) (f : ℕ → A) (k m : ℕ) → up_to (λ j. g (f j)) k m ≡ map g (up_to f k m)
unfolding up_to
up_to-map g f k zero = refl
up_to-map {B = B} g f k (suc m) = ap {B = List B} (λ l. g (f k) ∷ l) (up_to-map g f (suc k) m)

all-below : (n : ℕ) (bonds : List ℤ) (k m : ℕ) → ((b : ℕ) → b < k + m → (end1 bonds b < n) × (end2 bonds b < n)) → AllBelow n (up_to (bond_of bonds) k m)
unfolding up_to
all-below n bonds k zero h = tt
all-below n bonds k (suc m) h = (h k (omega arith), all-below n bonds (suc k) m (λ b l. h b (omega arith)))

module _ {t u j : Molecule} (w : Beside t u j) where
  flags-parts : delocalized_flags j.atoms j.bonds (t.atom_count + u.atom_count) (t.bond_count + u.bond_count)
      ≡ delocalized_flags t.atoms t.bonds t.atom_count t.bond_count ++ delocalized_flags u.atoms u.bonds u.atom_count u.bond_count
  flags-parts =
      up_to-parts (delocalized_flag j.atoms j.bonds (t.bond_count + u.bond_count)) (delocalized_flag t.atoms t.bonds t.bond_count) (delocalized_flag u.atoms u.bonds u.bond_count) t.atom_count u.atom_count
      (λ a l i. let x = w.first_atoms a l i in flag (delocalized (number x.element) (number x.selected) x.charge (sum_first w.bond_rows a l i) (number x.hydrogens)))
      (λ a l i. let x = w.second_atoms a l i in flag (delocalized (number x.element) (number x.selected) x.charge (sum-second w.bond_rows a i) (number x.hydrogens)))

  graph-parts : graph_of j.bonds (t.bond_count + u.bond_count) ≡ graph_of t.bonds t.bond_count ++ map (raised_bond t.atom_count) (graph_of u.bonds u.bond_count)
  graph-parts =
      up_to-parts (bond_of j.bonds) (bond_of t.bonds) (λ b. raised_bond t.atom_count (bond_of u.bonds b)) t.bond_count u.bond_count
      (λ b l i. record { end1 = first-end1 w.bond_rows b l i; end2 = first-end2 w.bond_rows b l i; elided = eqb (first_kind w.bond_rows b l i) elided })
      (λ b l i. record { end1 = second-end1 w.bond_rows b l i; end2 = second-end2 w.bond_rows b l i; elided = eqb (second-kind w.bond_rows b l i) elided })
      ∙ ap (λ (l : List Bond). graph_of t.bonds t.bond_count ++ l) (up_to-map (raised_bond t.atom_count) (bond_of u.bonds) 0 u.bond_count)

  flags_long : length (delocalized_flags t.atoms t.bonds t.atom_count t.bond_count) ≡ t.atom_count
  flags_long = length-up_to (delocalized_flag t.atoms t.bonds t.bond_count) 0 t.atom_count

  -- a row of the join passes exactly if its two parts pass
  row-parts : (r s : Row) → length r ≡ t.bond_count
      → matching_of j.atoms j.bonds (t.atom_count + u.atom_count) (t.bond_count + u.bond_count) (r ++ s)
      ≡ (matching_of t.atoms t.bonds t.atom_count t.bond_count r && matching_of u.atoms u.bonds u.atom_count u.bond_count s)
  row-parts r s e =
      let f = delocalized_flags t.atoms t.bonds t.atom_count t.bond_count in
      let g = delocalized_flags u.atoms u.bonds u.atom_count u.bond_count in
      let bs = graph_of t.bonds t.bond_count in
      let cs = graph_of u.bonds u.bond_count in
      (λ i. is_matching (flags-parts i) (graph-parts i) (r ++ s))
      ∙ (λ i. is_matching (f ++ g) (bs ++ map (raised_bond (sym flags_long i)) cs) (r ++ s))
      ∙ matching-parts f g bs cs
      (all-below (length f) t.bonds 0 t.bond_count (λ b l. let x = w.bond_rows.inside b (omega arith) in (omega (arith, flags_long), omega (arith, flags_long))))
      r s (e ∙ sym (length-up_to (bond_of t.bonds) 0 t.bond_count))

  -- THE LAW: each row of the first followed by each row of the second
  pub matchings-beside : matchings_of j ≡ followed (matchings_of t) (matchings_of u)
  matchings-beside =
      (λ i. matchings (matching_of j.atoms j.bonds (w.atoms_count i) (w.bonds_count i)) (w.bonds_count i))
      ∙ product t.bond_count u.bond_count (matching_of j.atoms j.bonds (t.atom_count + u.atom_count) (t.bond_count + u.bond_count)) (matching_of t.atoms t.bonds t.atom_count t.bond_count) (matching_of u.atoms u.bonds u.atom_count u.bond_count) row-parts

  -- their number is the product
  pub number-beside : length (matchings_of j) ≡ length (matchings_of t) * length (matchings_of u)
  number-beside = ap length matchings-beside ∙ followed-length (matchings_of t) (matchings_of u)

-- rows follow where each list has one
followed-some : (ps qs : List Row) → some? ps ≡ true → some? qs ≡ true → some? (followed ps qs) ≡ true
unfolding followed
followed-some [] qs e f = absurd (true≢false (sym e))
followed-some (r ∷ ps) [] e f = absurd (true≢false (sym f))
followed-some (r ∷ ps) (s ∷ qs) e f = refl

-- a matching exists where each molecule has one
pub matchable-beside : {t u j : Molecule} → Beside t u j → matchable t.atoms t.bonds t.atom_count t.bond_count ≡ true → matchable u.atoms u.bonds u.atom_count u.bond_count ≡ true → matchable j.atoms j.bonds j.atom_count j.bond_count ≡ true
unfolding matchable
matchable-beside {t} {u} w e f = ap some? (matchings-beside w) ∙ followed-some (matchings_of t) (matchings_of u) e f
