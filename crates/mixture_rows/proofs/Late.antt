-- The late checks of two molecules side by side: none fails where none fails in either. Assumes nothing.
use Prim.Native.Nat.{ℕ, ◌+◌, ◌<◌}
use mathlib.Core.Path.{◌≡◌, refl, ap, ◌∙◌}
use mathlib.Core.Bool.{Bool, true, ◌&&◌, ◌||◌, not}
use mathlib.Core.List.{List}
use lib.IntN.{ℤ}
use lib.Dec.{eqb, leb, ltb}
use Rattle.kinds.specs.Kind.{double, up, down, is_mark}
use Rattle.table.specs.Cells.{number, end1, end2}
use Rattle.table.specs.Marks.{crowded, crowded_bond, none_crowded, stray, none_stray, double_count}
use Rattle.table.specs.Sound.{loose, none_loose, unfit, none_unfit, late_code}
use Rattle.table.proofs.Sound.{late-none, late-fine}
use Rattle.mixture_rows.specs.Beside.{Molecule, BondsBeside, Beside}
use Rattle.mixture_rows.proofs.Parts.{each-parts}
use Rattle.mixture_rows.proofs.Bonds.{first-end1, first-end2, first_kind, second-end1, second-end2, second-kind, degree-first, degree-second, sides_first, sides-second, doubles-first, doubles-second}

both : (a b : Bool) → a ≡ true → b ≡ true → (a && b) ≡ true
both a b e f = rw (e, f)

module _ {n m k : ℕ} {bonds1 bonds2 bonds : List ℤ} (w : BondsBeside n m k bonds1 bonds2 bonds) where
  -- ---- 20
  crowded-first : (a : ℕ) → a < n → crowded bonds (m + k) a ≡ crowded bonds1 m a
  crowded-first a h = λ i. ltb 1 (sides_first w a up h refl i) || ltb 1 (sides_first w a down h refl i)

  crowded-second : (a : ℕ) → crowded bonds (m + k) (n + a) ≡ crowded bonds2 k a
  crowded-second a = λ i. ltb 1 (sides-second w a up refl i) || ltb 1 (sides-second w a down refl i)

  uncrowded : none_crowded bonds (m + k) ≡ (none_crowded bonds1 m && none_crowded bonds2 k)
  unfolding none_crowded
  uncrowded = each-parts (λ b. not (crowded_bond bonds (m + k) b)) (λ b. not (crowded_bond bonds1 m b)) (λ b. not (crowded_bond bonds2 k b)) m k first second
    where
      first : (b : ℕ) → b < m → not (crowded_bond bonds (m + k) b) ≡ not (crowded_bond bonds1 m b)
      first b l =
          let e1 : crowded bonds (m + k) (end1 bonds b) ≡ crowded bonds1 m (end1 bonds1 b) = ap (crowded bonds (m + k)) (first-end1 w b l) ∙ crowded-first (end1 bonds1 b) (w.inside b l).0 in
          let e2 : crowded bonds (m + k) (end2 bonds b) ≡ crowded bonds1 m (end2 bonds1 b) = ap (crowded bonds (m + k)) (first-end2 w b l) ∙ crowded-first (end2 bonds1 b) (w.inside b l).1 in
          λ i. not (eqb (first_kind w b l i) double && (e1 i || e2 i))

      second : (b : ℕ) → b < k → not (crowded_bond bonds (m + k) (m + b)) ≡ not (crowded_bond bonds2 k b)
      second b l =
          let e1 : crowded bonds (m + k) (end1 bonds (m + b)) ≡ crowded bonds2 k (end1 bonds2 b) = ap (crowded bonds (m + k)) (second-end1 w b l) ∙ crowded-second (end1 bonds2 b) in
          let e2 : crowded bonds (m + k) (end2 bonds (m + b)) ≡ crowded bonds2 k (end2 bonds2 b) = ap (crowded bonds (m + k)) (second-end2 w b l) ∙ crowded-second (end2 bonds2 b) in
          λ i. not (eqb (second-kind w b l i) double && (e1 i || e2 i))

  -- ---- 21
  touching : none_stray bonds (m + k) ≡ (none_stray bonds1 m && none_stray bonds2 k)
  unfolding none_stray
  touching = each-parts (λ b. not (stray bonds (m + k) b)) (λ b. not (stray bonds1 m b)) (λ b. not (stray bonds2 k b)) m k first second
    where
      first : (b : ℕ) → b < m → not (stray bonds (m + k) b) ≡ not (stray bonds1 m b)
      first b l =
          let e1 : double_count bonds (m + k) (end1 bonds b) ≡ double_count bonds1 m (end1 bonds1 b) = ap (double_count bonds (m + k)) (first-end1 w b l) ∙ doubles-first w (end1 bonds1 b) (w.inside b l).0 in
          let e2 : double_count bonds (m + k) (end2 bonds b) ≡ double_count bonds1 m (end2 bonds1 b) = ap (double_count bonds (m + k)) (first-end2 w b l) ∙ doubles-first w (end2 bonds1 b) (w.inside b l).1 in
          λ i. not ((is_mark (first_kind w b l i) && eqb (e1 i) 0) && eqb (e2 i) 0)

      second : (b : ℕ) → b < k → not (stray bonds (m + k) (m + b)) ≡ not (stray bonds2 k b)
      second b l =
          let e1 : double_count bonds (m + k) (end1 bonds (m + b)) ≡ double_count bonds2 k (end1 bonds2 b) = ap (double_count bonds (m + k)) (second-end1 w b l) ∙ doubles-second w (end1 bonds2 b) in
          let e2 : double_count bonds (m + k) (end2 bonds (m + b)) ≡ double_count bonds2 k (end2 bonds2 b) = ap (double_count bonds (m + k)) (second-end2 w b l) ∙ doubles-second w (end2 bonds2 b) in
          λ i. not ((is_mark (second-kind w b l i) && eqb (e1 i) 0) && eqb (e2 i) 0)

module _ {t u j : Molecule} (w : Beside t u j) where
  -- ---- 22
  tight : none_loose j.atoms j.bonds (t.atom_count + u.atom_count) (t.bond_count + u.bond_count) ≡ (none_loose t.atoms t.bonds t.atom_count t.bond_count && none_loose u.atoms u.bonds u.atom_count u.bond_count)
  unfolding none_loose
  tight =
      each-parts (λ a. not (loose j.atoms j.bonds (t.bond_count + u.bond_count) a)) (λ a. not (loose t.atoms t.bonds t.bond_count a)) (λ a. not (loose u.atoms u.bonds u.bond_count a)) t.atom_count u.atom_count
      (λ a l i. not (eqb (number (w.first_atoms a l i).selected) 1 && ltb (degree-first w.bond_rows a l i) 2))
      (λ a l i. not (eqb (number (w.second_atoms a l i).selected) 1 && ltb (degree-second w.bond_rows a i) 2))

  -- ---- 23
  fit : none_unfit j.atoms j.bonds (t.atom_count + u.atom_count) (t.bond_count + u.bond_count) ≡ (none_unfit t.atoms t.bonds t.atom_count t.bond_count && none_unfit u.atoms u.bonds u.atom_count u.bond_count)
  unfolding none_unfit
  fit =
      each-parts (λ a. not (unfit j.atoms j.bonds (t.bond_count + u.bond_count) a)) (λ a. not (unfit t.atoms t.bonds t.bond_count a)) (λ a. not (unfit u.atoms u.bonds u.bond_count a)) t.atom_count u.atom_count
      (λ a l i. let x = w.first_atoms a l i in not (ltb 0 (number x.mark) && not (eqb (degree-first w.bond_rows a l i + number x.hydrogens) 4 && leb (number x.hydrogens) 1)))
      (λ a l i. let x = w.second_atoms a l i in not (ltb 0 (number x.mark) && not (eqb (degree-second w.bond_rows a i + number x.hydrogens) 4 && leb (number x.hydrogens) 1)))

  -- no late check fails where none fails in either
  pub late-parts : late_code t.atoms t.bonds t.atom_count t.bond_count ≡ 0 → late_code u.atoms u.bonds u.atom_count u.bond_count ≡ 0 → late_code j.atoms j.bonds j.atom_count j.bond_count ≡ 0
  late-parts e f =
      let p = late-none t.atoms t.bonds t.atom_count t.bond_count e in
      let q = late-none u.atoms u.bonds u.atom_count u.bond_count f in
      (λ i. late_code j.atoms j.bonds (w.atoms_count i) (w.bonds_count i))
      ∙ late-fine j.atoms j.bonds (t.atom_count + u.atom_count) (t.bond_count + u.bond_count)
      (uncrowded w.bond_rows ∙ both (none_crowded t.bonds t.bond_count) (none_crowded u.bonds u.bond_count) p.uncrowded q.uncrowded)
      (touching w.bond_rows ∙ both (none_stray t.bonds t.bond_count) (none_stray u.bonds u.bond_count) p.touching q.touching)
      (tight ∙ both (none_loose t.atoms t.bonds t.atom_count t.bond_count) (none_loose u.atoms u.bonds u.atom_count u.bond_count) p.tight q.tight)
      (fit ∙ both (none_unfit t.atoms t.bonds t.atom_count t.bond_count) (none_unfit u.atoms u.bonds u.atom_count u.bond_count) p.fit q.fit)
