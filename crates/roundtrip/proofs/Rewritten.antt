-- The tables that are read are valid, and writing them is accepted with the same bytes. Assumes nothing.
use mathlib.Core.Path.{◌≡◌, refl, sym, ap, ◌∙◌, subst}
use mathlib.Core.Bool.{Bool, true, false, ◌&&◌, not}
use mathlib.Core.List.{List, [], ◌∷◌, map}
use Prim.Native.Nat.{ℕ, zero, suc, ◌<◌, ◌≤◌}
use native.Mathlib.Omega.{arith}
use lib.Dec.{eqb, ltb}
use lib.ListN.{length, get_or}
use lib.IntN.{ℤ}
use borrow.Author.Tests.{eqb-true, eq-eqb, le-leb}
use Rattle.kinds.proofs.Kind.{turned-small}
use Rattle.kinds.specs.Kind.{max_kind}
use Rattle.loops.proofs.Loops.{and_left, and_right, each_all}
use Rattle.parity.specs.Parity.{odd}
use Rattle.parity.specs.Mark.{mark_if}
use Rattle.table.specs.Limits.{atom_cells, ELEMENT, SELECTED, ISOTOPE, HYDROGENS, CHARGE, EXTENSION, MARK, FIRST, SECOND, KIND}
use Rattle.table.specs.Cells.{number, atom_cell, mark, end1, end2}
use Rattle.table.specs.Valid.{max_mark, mark_ok, selected_ok, same_ends, fresh, atom_ok, bond_ok, Valid}
use Rattle.table.specs.Valid as spec
use Rattle.table.proofs.Valid.{range-of, atom-row, mark-small, atom-fine-back, bond-fine-back}
use Rattle.table.proofs.Orders.{mark-two}
use Rattle.ids.specs.Limits.{max_depth}
use Rattle.writing_walk.specs.Token.{Bond, Tok, apart, along, ring, branch, back}
use Rattle.writing_walk.specs.Emit.{pre}
use Rattle.writing_walk.specs.Walk.{forest_of, renumber, renumbered}
use Rattle.writing_walk.specs.Check.{ends}
use Rattle.writing_walk.specs.Depth.{nests}
use Rattle.writing_walk.proofs.Count.{bit, count, all-at}
use Rattle.writing_walk.proofs.Trip.{completed, round_trip}
use Rattle.writing_walk.proofs.Twice.{Distinct, completed-inside, distinct-map}
use Rattle.writing_walk.proofs.Natural.{on_tok}
use Rattle.writing_walk.proofs.Made.{completed-made}
use Rattle.writing_walk.proofs.Order.{atom-below, place-atom}
use Rattle.walk_orders.specs.Orders.{numbers_at, new_number}
use Rattle.writing.specs.Write.{bond_list, tokens, few_bridges, shallow}
use Rattle.writing.proofs.Bonds.{inside}
use Rattle.roundtrip.proofs.Held.{nobond}
use Rattle.roundtrip.proofs.Bonds.{small-kinds, distinct}
use Rattle.roundtrip.proofs.Back.{Molecule, ren, as_many, cell-here}
use Rattle.roundtrip.proofs.Again.{walk_atom, tokens-again}

-- two that pass count twice
count-one : (p : Bond → Bool) (l : List Bond) (i : ℕ) → i < length l → p (get_or l i nobond) ≡ true → 1 ≤ count p l
count-one p [] i h g = absurd (omega arith)
count-one p (b ∷ l) zero h g = let e = ap bit g in omega arith
count-one p (b ∷ l) (suc i) h g = let e = count-one p l i (omega arith) g in omega arith

count-two : (p : Bond → Bool) (l : List Bond) (i j : ℕ) → i < j → j < length l → p (get_or l i nobond) ≡ true → p (get_or l j nobond) ≡ true → 2 ≤ count p l
count-two p [] i j k h g f = absurd (omega arith)
count-two p (b ∷ l) i zero k h g f = absurd (omega arith)
count-two p (b ∷ l) zero (suc j) k h g f = let e = ap bit g in let r = count-one p l j (omega arith) f in omega arith
count-two p (b ∷ l) (suc i) (suc j) k h g f = let r = count-two p l i j (omega arith) (omega arith) g f in omega arith

-- other numbers of the atoms change neither bridges nor branches
few-map : (g : ℕ → ℕ) (ts : List Tok) → few_bridges (map (on_tok g) ts) ≡ few_bridges ts
unfolding few_bridges
few-map g [] = refl
few-map g (apart w ∷ ts) = few-map g ts
few-map g (along k w ∷ ts) = few-map g ts
few-map g (ring k r ∷ ts) = rw (few-map g ts)
few-map g (branch ∷ ts) = few-map g ts
few-map g (back ∷ ts) = few-map g ts

nests-map : (dm : ℕ) (g : ℕ → ℕ) (ts : List Tok) (d : ℕ) → nests dm (map (on_tok g) ts) d ≡ nests dm ts d
nests-map dm g [] d = refl
nests-map dm g (apart w ∷ ts) d = nests-map dm g ts d
nests-map dm g (along k w ∷ ts) d = nests-map dm g ts d
nests-map dm g (ring k r ∷ ts) d = nests-map dm g ts d
nests-map dm g (branch ∷ ts) d = ap (λ (x : Bool). ltb d dm && x) (nests-map dm g ts (suc d))
nests-map dm g (back ∷ ts) zero = nests-map dm g ts zero
nests-map dm g (back ∷ ts) (suc d) = nests-map dm g ts d

module _ (atoms bonds : List ℤ) (n m : ℕ) (v : Valid atoms bonds n m) {T U : List ℤ} {p q : ℕ} (M : Molecule atoms bonds n m T U p q) where
  abbrev pre-order : List ℕ
  pre-order = pre (forest_of n (bond_list bonds m))

  abbrev C : List Bond
  C = completed n (bond_list bonds m)

  mark-ok : (a : ℕ) → a < n → mark_ok T a ≡ true
  mark-ok a l =
      let w = get_or pre-order a 0 in
      let r = ren atoms bonds n m v in
      let k = mark-small v w (atom-below r a l) in
      let x = odd (map (new_number n (bond_list bonds m) C) (numbers_at w (bond_list bonds m))) in
      subst (λ (y : ℕ). mark_ok T y ≡ true) (place-atom r a l) (rw (M.marks w (atom-below r a l)) (range-of (mark_if x (mark atoms w)) max_mark (mark-two x (mark atoms w) k)))

  row_ok : (a : ℕ) → a < n → atom_ok T a ≡ true
  unfolding selected_ok
  row_ok a l =
      let f = atom-row v (get_or pre-order a 0) (atom-below (ren atoms bonds n m v) a l) in
      let at : (g : ℕ) → g < atom_cells → (g ≡ MARK → ⊥) → atom_cell T a g ≡ atom_cell atoms (get_or pre-order a 0) g = cell-here atoms bonds n m v M a l in
      atom-fine-back (record {
        element = rw (at ELEMENT (omega arith) (λ e. omega arith)) f.element;
        isotope = rw (at ISOTOPE (omega arith) (λ e. omega arith)) f.isotope;
        hydrogens = rw (at HYDROGENS (omega arith) (λ e. omega arith)) f.hydrogens;
        charge = rw (at CHARGE (omega arith) (λ e. omega arith)) f.charge;
        extension = rw (at EXTENSION (omega arith) (λ e. omega arith)) f.extension;
        mark = mark-ok a l;
        selected = rw (at ELEMENT (omega arith) (λ e. omega arith), at SELECTED (omega arith) (λ e. omega arith)) f.selected;
      })

  in_list : (b : ℕ) → b < m → b < length C
  in_list b l = let e = as_many atoms bonds n m v in omega arith

  first-is : (b : ℕ) → b < m → end1 U b ≡ (get_or C b nobond).lo
  unfolding number
  first-is b l = ap number (M.bonds_cells b FIRST l (omega arith))

  second_is : (b : ℕ) → b < m → end2 U b ≡ (get_or C b nobond).hi
  unfolding number
  second_is b l = ap number (M.bonds_cells b SECOND l (omega arith))

  bond-ok : (b : ℕ) → b < m → bond_ok U n b ≡ true
  bond-ok b l =
      let x = get_or C b nobond in
      let h = all-at (λ b. (b.lo < b.hi) × (b.hi < n)) nobond C b (completed-inside n (bond_list bonds m) (inside v)) (in_list b l) in
      let k = all-at (λ b. b.kind ≤ max_kind) nobond C b (completed-made (λ w. Unit {0}) (λ k. k ≤ max_kind) (omega arith) turned-small n (bond_list bonds m) (inside v) (small-kinds v)) (in_list b l) in
      let e = first-is b l in
      let f = second_is b l in
      bond-fine-back {t = U} {n = n} {b = b} (record {
        kind = rw (M.bonds_cells b KIND l (omega arith)) (range-of x.kind max_kind k);
        natural = rw (M.bonds_cells b FIRST l (omega arith)) (le-leb 0 x.lo (omega arith));
        order = omega arith;
        second = omega arith;
      })

  distinct-read : Distinct C
  unfolding renumbered
  distinct-read x y =
      let r = ren atoms bonds n m v in
      let c : count (ends x y) C ≡ count (ends x y) (map (renumber pre-order) (bond_list bonds m)) = (round_trip n (λ a. a) (bond_list bonds m) (inside v)).bonds (ends x y) in
      let d = distinct-map n pre-order r.every (bond_list bonds m) (inside v) (distinct v) x y in
      omega arith

  apart-read : (i j : ℕ) → i < m → j < i → same_ends U i j ≡ false
  unfolding same_ends
  apart-read i j l g = go (same_ends U i j) refl
    where
      go : (x : Bool) → same_ends U i j ≡ x → x ≡ false
      go false e = refl
      go true e =
          let a = eqb-true (end1 U i) (end1 U j) (and_left (eqb (end1 U i) (end1 U j)) (eqb (end2 U i) (end2 U j)) e) in
          let b = eqb-true (end2 U i) (end2 U j) (and_right (eqb (end1 U i) (end1 U j)) (eqb (end2 U i) (end2 U j)) e) in
          let y = get_or C j nobond in
          let k = first-is i l in
          let k2 = second_is i l in
          let k3 = first-is j (omega arith) in
          let k4 = second_is j (omega arith) in
          let pj : ends y.lo y.hi y ≡ true = rw (eq-eqb y.lo y.lo refl, eq-eqb y.hi y.hi refl) in
          let pi : ends y.lo y.hi (get_or C i nobond) ≡ true = rw (eq-eqb (get_or C i nobond).lo y.lo (omega arith), eq-eqb (get_or C i nobond).hi y.hi (omega arith)) in
          absurd (let c = count-two (ends y.lo y.hi) C j i g (in_list i l) pj pi in let d = distinct-read y.lo y.hi in omega arith)

  -- THE TABLES READ are valid
  pub valid-again : Valid T U n m
  unfolding spec.distinct fresh
  valid-again = record {
    atoms_few = v.atoms_few;
    bonds_few = v.bonds_few;
    atom_rows = each_all (atom_ok T) n row_ok;
    bond_rows = each_all (bond_ok U n) m bond-ok;
    apart = each_all (fresh U) m (λ i k. each_all (λ j. not (same_ends U i j)) i (λ j l. ap not (apart-read i j k l)));
  }

  -- and need no more bridges and branches
  pub few-again : few_bridges (tokens U n m) ≡ few_bridges (tokens bonds n m)
  few-again = sym (few-map (walk_atom atoms bonds n m v M) (tokens U n m)) ∙ ap few_bridges (tokens-again atoms bonds n m v M)

  pub shallow-again : shallow (tokens U n m) ≡ shallow (tokens bonds n m)
  shallow-again = sym (nests-map max_depth (walk_atom atoms bonds n m v M) (tokens U n m) 0) ∙ ap shallow (tokens-again atoms bonds n m v M)
