-- The molecule of those that stay: its cells, its validity, and the orders between its atoms, by the numbers that they had. Assumes nothing.
use mathlib.Core.Path.{◌≡◌, refl, sym, ap, ◌∙◌}
use mathlib.Core.Bool.{Bool, true, false, ◌&&◌, not}
use mathlib.Core.List.{List}
use Prim.Native.Nat.{ℕ, zero, suc, ◌+◌, ◌*◌, ◌<◌, ◌≤◌}
use native.Mathlib.Omega.{arith}
use lib.Dec.{eqb}
use lib.ListN.{length, get_or}
use lib.IntN.{ℤ, pos}
use borrow.Author.Tests.{eqb-true, eq-eqb, le-leb}
use Rattle.loops.specs.Loop.{pick}
use Rattle.loops.proofs.Loops.{and_left, and_right, each_all}
use Rattle.kinds.specs.Kind.{order}
use Rattle.table.specs.Limits.{atom_cells, bond_cells, ELEMENT, SELECTED, ISOTOPE, HYDROGENS, CHARGE, EXTENSION, MARK, FIRST, SECOND, KIND}
use Rattle.table.specs.Cells.{number, atom_cell, bond_cell, hydrogens, end1, end2, kind}
use Rattle.table.specs.Rows.{atom_row, cells_of, bond_cells_of}
use Rattle.table.specs.Valid.{selected_ok, same_ends, fresh, distinct, atom_ok, bond_ok, Valid}
use Rattle.table.proofs.Valid.{range-of, AtomFine, atom-row, atom-fine-back, BondFine, bond-row, bond-fine-back, apart-at}
use Rattle.matching.proofs.Graph.{and_intro, same_bool, or_cases}
use Rattle.same_model.specs.Same.{Molecule, joins, order_between}
use Rattle.same_model.proofs.Totals.{total, total-same}
use Rattle.same_model.proofs.Orders.{between, order-total}
use Rattle.folding.specs.Folding.{folded_to, stays, new_atom, bond_stays, new_bond, moved_bond, merged, Complete}
use Rattle.folding.proofs.Ranks.{rank-low, rank_mono, rank_less, rank-one, nth, Nth, nth-rank, nth-at, total-nth}
use Rattle.folding.proofs.Packed.{packed-length, packed-at}
use Rattle.folding.proofs.Plain.{to-length, to-field, gained, to-hydrogens, to-count, to-small}

-- the cells of a row, in their order
pub row-cell : (t : List ℤ) (a f : ℕ) → f < atom_cells → get_or (cells_of (atom_row t a)) f (pos 0) ≡ atom_cell t a f
row-cell t a zero l = refl
row-cell t a (suc zero) l = refl
row-cell t a (suc (suc zero)) l = refl
row-cell t a (suc (suc (suc zero))) l = refl
row-cell t a (suc (suc (suc (suc zero)))) l = refl
row-cell t a (suc (suc (suc (suc (suc zero))))) l = refl
row-cell t a (suc (suc (suc (suc (suc (suc zero)))))) l = refl
row-cell t a (suc (suc (suc (suc (suc (suc (suc f))))))) l = absurd (omega arith)

module _ (x : Molecule) where
  -- the number that an atom, and a bond, had
  abbrev pub old : ℕ → ℕ
  old k = nth (stays x) x.n k

  abbrev pub old_bond : ℕ → ℕ
  old_bond j = nth (bond_stays x) x.m j

  pub merged-count : (merged x).n ≡ new_atom x x.n
  unfolding merged
  merged-count = refl

  pub merged-bonds : (merged x).m ≡ new_bond x x.m
  unfolding merged
  merged-bonds = refl

  -- the lengths of the tables stay
  pub atoms-length : length (merged x).atoms ≡ length x.atoms
  unfolding merged
  atoms-length = let t = folded_to x x.n in packed-length atom_cells (stays x) (λ a. cells_of (atom_row t a)) x.n t ∙ to-length x x.n

  pub bonds-length : length (merged x).bonds ≡ length x.bonds
  unfolding merged
  bonds-length = packed-length bond_cells (bond_stays x) (λ b. bond_cells_of (moved_bond x b)) x.m x.bonds

  pub old-at : (k : ℕ) → k < (merged x).n → Nth (stays x) x.n k
  unfolding merged
  old-at k l = nth-at (stays x) x.n k l

  pub old-bond : (j : ℕ) → j < (merged x).m → Nth (bond_stays x) x.m j
  unfolding merged
  old-bond j l = nth-at (bond_stays x) x.m j l

  -- a new number is below the new count, and leads back
  pub new-below : (a : ℕ) → a < x.n → stays x a ≡ true → new_atom x a < (merged x).n
  unfolding merged
  new-below a l h = rank_less (stays x) a x.n h l

  pub old-new : (a : ℕ) → a < x.n → stays x a ≡ true → old (new_atom x a) ≡ a
  old-new a l h = nth-rank (stays x) x.n a l h

  -- two that stay have the same new number exactly if they are the same
  pub new-eqb : (a b : ℕ) → stays x a ≡ true → stays x b ≡ true → eqb (new_atom x a) (new_atom x b) ≡ eqb a b
  new-eqb a b h k =
      same_bool (eqb (new_atom x a) (new_atom x b)) (eqb a b)
      (λ q. eq-eqb a b (rank-one (stays x) a b h k (eqb-true (new_atom x a) (new_atom x b) q)))
      (λ q. eq-eqb (new_atom x a) (new_atom x b) (ap (new_atom x) (eqb-true a b q)))

  pub new-old : (a k : ℕ) → k < (merged x).n → stays x a ≡ true → eqb (new_atom x a) k ≡ eqb a (old k)
  new-old a k l h = let w = old-at k l in ap (eqb (new_atom x a)) (sym w.ranked) ∙ new-eqb a (old k) h w.passes

  -- the ends of a bond that stays
  pub first-stays : (b : ℕ) → bond_stays x b ≡ true → stays x (end1 x.bonds b) ≡ true
  unfolding bond_stays
  first-stays b h = and_left (stays x (end1 x.bonds b)) (stays x (end2 x.bonds b)) h

  pub second-stays : (b : ℕ) → bond_stays x b ≡ true → stays x (end2 x.bonds b) ≡ true
  unfolding bond_stays
  second-stays b h = and_right (stays x (end1 x.bonds b)) (stays x (end2 x.bonds b)) h

  module _ (c : Complete x) where
    v : Valid x.atoms x.bonds x.n x.m
    v = c.valid

    -- ---- the cells of an atom
    pub merged-cell : (k f : ℕ) → k < (merged x).n → f < atom_cells → atom_cell (merged x).atoms k f ≡ atom_cell (folded_to x x.n) (old k) f
    unfolding merged
    merged-cell k f l h =
        let w = old-at k l in
        let t = folded_to x x.n in
        let r : atom_cells * x.n ≤ length t = rw (to-length x x.n) c.atoms_room in
        ap (λ (i : ℕ). atom_cell (merged x).atoms i f) (sym w.ranked)
        ∙ packed-at atom_cells (stays x) (λ a. cells_of (atom_row t a)) (λ a. refl) x.n (old k) f t w.below w.passes h r
        ∙ row-cell t (old k) f h

    pub merged-field : (k f : ℕ) → k < (merged x).n → f < atom_cells → (f ≡ HYDROGENS → ⊥) → atom_cell (merged x).atoms k f ≡ atom_cell x.atoms (old k) f
    merged-field k f l h q = merged-cell k f l h ∙ to-field x x.n (old k) f h q

    pub merged-hydrogens : (k : ℕ) → k < (merged x).n → hydrogens (merged x).atoms k ≡ hydrogens x.atoms (old k) + total (gained x (old k)) x.n
    merged-hydrogens k l = ap number (merged-cell k HYDROGENS l (omega arith)) ∙ to-count x c x.n (old k) (old-at k l).below

    -- ---- the cells of a bond
    bond-cell : (j f : ℕ) → j < (merged x).m → f < bond_cells → bond_cell (merged x).bonds j f ≡ get_or (bond_cells_of (moved_bond x (old_bond j))) f (pos 0)
    unfolding merged
    bond-cell j f l h =
        let w = old-bond j l in
        ap (λ (i : ℕ). bond_cell (merged x).bonds i f) (sym w.ranked)
        ∙ packed-at bond_cells (bond_stays x) (λ b. bond_cells_of (moved_bond x b)) (λ b. refl) x.m (old_bond j) f x.bonds w.below w.passes h c.bonds_room

    first_cell : (j : ℕ) → j < (merged x).m → bond_cell (merged x).bonds j FIRST ≡ pos (new_atom x (end1 x.bonds (old_bond j)))
    first_cell j l = bond-cell j FIRST l (omega arith)

    pub merged-first : (j : ℕ) → j < (merged x).m → end1 (merged x).bonds j ≡ new_atom x (end1 x.bonds (old_bond j))
    unfolding number
    merged-first j l = ap number (first_cell j l)

    pub merged-second : (j : ℕ) → j < (merged x).m → end2 (merged x).bonds j ≡ new_atom x (end2 x.bonds (old_bond j))
    unfolding number
    merged-second j l = ap number (bond-cell j SECOND l (omega arith))

    pub merged-kind : (j : ℕ) → j < (merged x).m → bond_cell (merged x).bonds j KIND ≡ bond_cell x.bonds (old_bond j) KIND
    merged-kind j l = bond-cell j KIND l (omega arith)

    -- ---- valid
    small-ok : (k : ℕ) → k < (merged x).n → number (atom_cell (folded_to x x.n) (old k) HYDROGENS) ≤ 9
    small-ok k l = to-small x c x.n (old k) (old-at k l).below

    atom-ok : (k : ℕ) → k < (merged x).n → atom_ok (merged x).atoms k ≡ true
    unfolding selected_ok
    atom-ok k l =
        let w = old-at k l in
        let f = atom-row v (old k) w.below in
        let h : hydrogens x.atoms (old k) + total (gained x (old k)) x.n ≤ 9 = let p = small-ok k l in let q = to-count x c x.n (old k) w.below in omega arith in
        let fine : AtomFine (merged x).atoms k =
        record {
          element = rw (merged-field k ELEMENT l (omega arith) (λ e. omega arith)) f.element;
          isotope = rw (merged-field k ISOTOPE l (omega arith) (λ e. omega arith)) f.isotope;
          hydrogens = rw (merged-cell k HYDROGENS l (omega arith), to-hydrogens x c x.n (old k) w.below) (range-of _ 9 h);
          charge = rw (merged-field k CHARGE l (omega arith) (λ e. omega arith)) f.charge;
          extension = rw (merged-field k EXTENSION l (omega arith) (λ e. omega arith)) f.extension;
          mark = rw (merged-field k MARK l (omega arith) (λ e. omega arith)) f.mark;
          selected = rw (merged-field k SELECTED l (omega arith) (λ e. omega arith), merged-field k ELEMENT l (omega arith) (λ e. omega arith)) f.selected;
        } in
        atom-fine-back fine

    bond-ok : (j : ℕ) → j < (merged x).m → bond_ok (merged x).bonds (merged x).n j ≡ true
    bond-ok j l =
        let w = old-bond j l in
        let b = old_bond j in
        let f = bond-row v b w.below in
        let fine : BondFine (merged x).bonds (merged x).n j =
        record {
          kind = rw (merged-kind j l) f.kind;
          natural = rw (first_cell j l) (le-leb 0 (new_atom x (end1 x.bonds b)) (omega arith));
          order = rw (merged-first j l, merged-second j l) (rank_less (stays x) (end1 x.bonds b) (end2 x.bonds b) (first-stays b w.passes) f.order);
          second = rw (merged-second j l) (new-below (end2 x.bonds b) f.second (second-stays b w.passes));
        } in
        bond-fine-back fine

    -- two bonds that stay join the same atoms exactly if they did
    same_ends_lem : (i j : ℕ) → i < (merged x).m → j < (merged x).m → same_ends (merged x).bonds i j ≡ same_ends x.bonds (old_bond i) (old_bond j)
    unfolding same_ends
    same_ends_lem i j l k =
        let p = old-bond i l in
        let q = old-bond j k in
        let b = old_bond i in
        let d = old_bond j in
        rw (
          merged-first i l,
          merged-first j k,
          merged-second i l,
          merged-second j k,
          new-eqb (end1 x.bonds b) (end1 x.bonds d) (first-stays b p.passes) (first-stays d q.passes),
          new-eqb (end2 x.bonds b) (end2 x.bonds d) (second-stays b p.passes) (second-stays d q.passes),
        )

    ascend : (i j : ℕ) → i < (merged x).m → j < i → old_bond j < old_bond i
    ascend i j l k =
        let p = old-bond i l in
        let q = old-bond j (omega arith) in
        let h : ¬ (old_bond i ≤ old_bond j) = λ u. omega (arith, rank_mono (bond_stays x) (old_bond i) (old_bond j) u, p.ranked, q.ranked) in
        omega arith

    apart : distinct (merged x).bonds (merged x).m ≡ true
    unfolding distinct fresh
    apart =
        each_all (fresh (merged x).bonds) (merged x).m
        (λ i l. each_all (λ j. not (same_ends (merged x).bonds i j)) i
        (λ j k. ap not (same_ends_lem i j l (omega arith) ∙ apart-at v (old_bond i) (old_bond j) (old-bond i l).below (ascend i j l k))))

    pub merged-valid : Valid (merged x).atoms (merged x).bonds (merged x).n (merged x).m
    merged-valid =
        record {
          atoms_few = let p = rank-low (stays x) x.n in let q = merged-count in let r = v.atoms_few in omega arith;
          bonds_few = let p = rank-low (bond_stays x) x.m in let q = merged-bonds in let r = v.bonds_few in omega arith;
          atom_rows = each_all (atom_ok (merged x).atoms) (merged x).n atom-ok;
          bond_rows = each_all (bond_ok (merged x).bonds (merged x).n) (merged x).m bond-ok;
          apart = apart;
        }

    pub merged-complete : Complete (merged x)
    merged-complete =
        record {
          valid = merged-valid;
          atoms_room = let p = rank-low (stays x) x.n in let q = merged-count in let r = c.atoms_room in rw atoms-length (omega arith);
          bonds_room = let p = rank-low (bond_stays x) x.m in let q = merged-bonds in let r = c.bonds_room in rw bonds-length (omega arith);
        }

    -- ---- the order between two atoms
    joins-same : (k l j : ℕ) → k < (merged x).n → l < (merged x).n → j < (merged x).m → joins (merged x) k l j ≡ joins x (old k) (old l) (old_bond j)
    unfolding joins
    joins-same k l j p q r =
        let w = old-bond j r in
        let b = old_bond j in
        let e = first-stays b w.passes in
        let f = second-stays b w.passes in
        rw (
          merged-first j r,
          merged-second j r,
          new-old (end1 x.bonds b) k p e,
          new-old (end2 x.bonds b) l q f,
          new-old (end1 x.bonds b) l q e,
          new-old (end2 x.bonds b) k p f,
        )

    -- a bond between two that stay stays
    joins-stays : (a b i : ℕ) → stays x a ≡ true → stays x b ≡ true → joins x a b i ≡ true → bond_stays x i ≡ true
    unfolding joins bond_stays
    joins-stays a b i h k g =
        let e = end1 x.bonds i in
        let f = end2 x.bonds i in
        or_cases (eqb e a && eqb f b) (eqb e b && eqb f a) g
        (λ q. and_intro (stays x e) (stays x f) (ap (stays x) (eqb-true e a (and_left (eqb e a) (eqb f b) q)) ∙ h) (ap (stays x) (eqb-true f b (and_right (eqb e a) (eqb f b) q)) ∙ k))
        (λ q. and_intro (stays x e) (stays x f) (ap (stays x) (eqb-true e b (and_left (eqb e b) (eqb f a) q)) ∙ k) (ap (stays x) (eqb-true f a (and_right (eqb e b) (eqb f a) q)) ∙ h))

    only-stays : (a b i : ℕ) → stays x a ≡ true → stays x b ≡ true → pick (bond_stays x i) (between x a b i) 0 ≡ between x a b i
    only-stays a b i h k = go (joins x a b i) refl (bond_stays x i) refl
      where
        go : (y : Bool) → joins x a b i ≡ y → (z : Bool) → bond_stays x i ≡ z → pick z (pick y (order (kind x.bonds i)) 0) 0 ≡ pick y (order (kind x.bonds i)) 0
        go y e true q = refl
        go false e false q = refl
        go true e false q = absurd (let s = joins-stays a b i h k e in let z : ◌≡◌ {A = ℕ} 0 1 = cc in omega arith)

    pub merged-order : (k l : ℕ) → k < (merged x).n → l < (merged x).n → order_between (merged x) k l ≡ order_between x (old k) (old l)
    merged-order k l p q =
        let a = old k in
        let b = old l in
        order-total (merged x) k l
        ∙ total-same (between (merged x) k l) (λ j. between x a b (old_bond j)) (merged x).m (λ j r. rw (joins-same k l j p q r, merged-kind j r))
        ∙ ap (total (λ j. between x a b (old_bond j))) merged-bonds
        ∙ total-nth (bond_stays x) (between x a b) x.m
        ∙ total-same (λ i. pick (bond_stays x i) (between x a b i) 0) (between x a b) x.m (λ i r. only-stays a b i (old-at k p).passes (old-at l q).passes)
        ∙ sym (order-total x a b)
