-- Tables that hold the rows of two tables one after the other are these tables, cell by cell. Assumes nothing.
use Prim.Native.Nat.{ℕ, zero, suc, ◌+◌, ◌-◌, ◌*◌, ◌≤◌, ◌<◌}
use native.Mathlib.Omega.{arith}
use native.Mathlib.Decide.{ℕ_discrete, dec_lt}
use native.Mathlib.Nat.{zero-add}
use mathlib.Core.Path.{◌≡◌, refl, sym, ap, ◌∙◌}
use mathlib.Core.List.{List, ◌++◌}
use lib.ListN.{length, get_or, take, replicate, length-append, length-replicate, get_or-append}
use lib.Seq.{length-take-le, get_or-take, get_or-append-add, ext_get_or}
use lib.IntN.{ℤ, pos}
use Rattle.loops.proofs.Loops.{repeated-at}
use Rattle.loops.specs.Loop.{run}
use Rattle.table.specs.declared.Atom.{Atom}
use Rattle.table.specs.declared.Bond.{Bond}
use Rattle.table.specs.Limits.{atom_cells, bond_cells}
use Rattle.table.specs.Cells.{atom_cell, bond_cell}
use Rattle.table.specs.Rows.{atom_row, bond_row}
use Rattle.table.proofs.Rows.{with-bond-length, with-bond-row}
use Rattle.mixture_rows.specs.Beside.{raised_row}
use Rattle.mixture.specs.Mixed.{raised_bond, raised_bonds, side_by_side}
use Rattle.mixture.proofs.Rows.{other-bond}

-- ---- one table from two
module _ (first second : List ℤ) (x y : ℕ) (long : x ≤ length first) (long₂ : y ≤ length second) where
  front : length (take x first) ≡ x
  front = length-take-le x first long

  middle : length (take y second) ≡ y
  middle = length-take-le y second long₂

  parts-length : (p : ℕ) → x + y ≤ p → length (side_by_side x first y second p) ≡ p
  parts-length p h =
      length-append (take x first) (take y second ++ replicate (p - (x + y)) (pos 0))
      ∙ (λ i. front i + length-append (take y second) (replicate (p - (x + y)) (pos 0)) i)
      ∙ (λ i. x + (middle i + length-replicate {A = ℤ} (p - (x + y)) (pos 0) i))
      ∙ omega arith

  at_first : (p k : ℕ) → k < x → get_or (side_by_side x first y second p) k (pos 0) ≡ get_or first k (pos 0)
  at_first p k l =
      get_or-append (take x first) (take y second ++ replicate (p - (x + y)) (pos 0)) (pos 0) k (omega (arith, front)) ∙ get_or-take x first k (pos 0) l

  at-later : (p k : ℕ) → get_or (side_by_side x first y second p) (x + k) (pos 0) ≡ get_or (take y second ++ replicate (p - (x + y)) (pos 0)) k (pos 0)
  at-later p k =
      ap (λ (z : ℕ). get_or (side_by_side x first y second p) (z + k) (pos 0)) (sym front) ∙ get_or-append-add (take x first) (take y second ++ replicate (p - (x + y)) (pos 0)) k (pos 0)

  at_second : (p k : ℕ) → k < y → get_or (side_by_side x first y second p) (x + k) (pos 0) ≡ get_or second k (pos 0)
  at_second p k l =
      at-later p k ∙ get_or-append (take y second) (replicate (p - (x + y)) (pos 0)) (pos 0) k (omega (arith, middle)) ∙ get_or-take y second k (pos 0) l

  at_rest : (p k : ℕ) → get_or (side_by_side x first y second p) (x + (y + k)) (pos 0) ≡ pos 0
  at_rest p k =
      at-later p (y + k)
      ∙ ap (λ (z : ℕ). get_or (take y second ++ replicate (p - (x + y)) (pos 0)) (z + k) (pos 0)) (sym middle)
      ∙ get_or-append-add (take y second) (replicate (p - (x + y)) (pos 0)) k (pos 0)
      ∙ repeated-at (p - (x + y)) k (pos 0)

  pub side-by-side : (l : List ℤ) → x + y ≤ length l → ((k : ℕ) → k < x → get_or l k (pos 0) ≡ get_or first k (pos 0)) → ((k : ℕ) → k < y → get_or l (x + k) (pos 0) ≡ get_or second k (pos 0)) → ((k : ℕ) → x + y ≤ k → get_or l k (pos 0) ≡ pos 0)
      → l ≡ side_by_side x first y second (length l)
  side-by-side l h a b c = ext_get_or (pos 0) l (side_by_side x first y second (length l)) (sym (parts-length (length l) h)) (λ k s. cell k (dec_lt k x) (dec_lt k (x + y)))
    where
      cell : (k : ℕ) → Dec (k < x) → Dec (k < x + y) → get_or l k (pos 0) ≡ get_or (side_by_side x first y second (length l)) k (pos 0)
      cell k (yes u) v = a k u ∙ sym (at_first (length l) k u)
      cell k (no u) (yes v) =
          let e : k ≡ x + (k - x) = omega arith in
          ap (λ (z : ℕ). get_or l z (pos 0)) e ∙ b (k - x) (omega arith) ∙ sym (at_second (length l) (k - x) (omega arith)) ∙ ap (λ (z : ℕ). get_or (side_by_side x first y second (length l)) z (pos 0)) (sym e)
      cell k (no u) (no v) =
          let e : k ≡ x + (y + (k - (x + y))) = omega arith in
          c k (omega arith) ∙ sym (at_rest (length l) (k - (x + y))) ∙ ap (λ (z : ℕ). get_or (side_by_side x first y second (length l)) z (pos 0)) (sym e)

-- ---- cells of equal rows
atom-cell : (t u : List ℤ) (a c f : ℕ) → f < atom_cells → atom_row u c ≡ atom_row t a → atom_cell u c f ≡ atom_cell t a f
atom-cell t u a c zero l e = ap (λ (x : Atom). x.element) e
atom-cell t u a c (suc zero) l e = ap (λ (x : Atom). x.selected) e
atom-cell t u a c (suc (suc zero)) l e = ap (λ (x : Atom). x.isotope) e
atom-cell t u a c (suc (suc (suc zero))) l e = ap (λ (x : Atom). x.hydrogens) e
atom-cell t u a c (suc (suc (suc (suc zero)))) l e = ap (λ (x : Atom). x.charge) e
atom-cell t u a c (suc (suc (suc (suc (suc zero))))) l e = ap (λ (x : Atom). x.extension) e
atom-cell t u a c (suc (suc (suc (suc (suc (suc zero)))))) l e = ap (λ (x : Atom). x.mark) e
atom-cell t u a c (suc (suc (suc (suc (suc (suc (suc f))))))) l e = absurd (omega arith)

bond-cell : (t u : List ℤ) (b c f : ℕ) → f < bond_cells → bond_row u c ≡ bond_row t b → bond_cell u c f ≡ bond_cell t b f
bond-cell t u b c zero l e = ap (λ (x : Bond). x.first) e
bond-cell t u b c (suc zero) l e = ap (λ (x : Bond). x.second) e
bond-cell t u b c (suc (suc zero)) l e = ap (λ (x : Bond). x.kind) e
bond-cell t u b c (suc (suc (suc f))) l e = absurd (omega arith)

-- w cells in a row: what stands in N rows of u from the row n on stands in the first N rows of t
rows-cells : (w : ℕ) (t u : List ℤ) (n N : ℕ) → ((a f : ℕ) → a < N → f < w → get_or u (w * (n + a) + f) (pos 0) ≡ get_or t (w * a + f) (pos 0)) → (k : ℕ) → k < w * N → get_or u (w * n + k) (pos 0) ≡ get_or t k (pos 0)
rows-cells w t u n zero h k l = absurd (omega arith)
rows-cells w t u n (suc N) h k l = split (dec_lt k (w * N)) (rows-cells w t u n N (λ a f x y. h a f (omega arith) y) k)
  where
    split : Dec (k < w * N) → (k < w * N → get_or u (w * n + k) (pos 0) ≡ get_or t k (pos 0)) → get_or u (w * n + k) (pos 0) ≡ get_or t k (pos 0)
    split (yes x) earlier = earlier x
    split (no x) earlier =
        let e : k ≡ w * N + (k - w * N) = omega arith in
        let f : w * n + k ≡ w * (n + N) + (k - w * N) = omega arith in
        ap (λ (z : ℕ). get_or u z (pos 0)) f ∙ h N (k - w * N) (omega arith) (omega arith) ∙ ap (λ (z : ℕ). get_or t z (pos 0)) (sym e)

pub atoms-cells : (t u : List ℤ) (n N : ℕ) → ((a : ℕ) → a < N → atom_row u (n + a) ≡ atom_row t a) → (k : ℕ) → k < atom_cells * N → get_or u (atom_cells * n + k) (pos 0) ≡ get_or t k (pos 0)
atoms-cells t u n N h = rows-cells atom_cells t u n N (λ a f x y. atom-cell t u a (n + a) f y (h a x))

pub bonds-cells : (t u : List ℤ) (m M : ℕ) → ((b : ℕ) → b < M → bond_row u (m + b) ≡ bond_row t b) → (k : ℕ) → k < bond_cells * M → get_or u (bond_cells * m + k) (pos 0) ≡ get_or t k (pos 0)
bonds-cells t u m M h = rows-cells bond_cells t u m M (λ b f x y. bond-cell t u b (m + b) f y (h b x))

-- the first rows
pub first-atoms-cells : (t u : List ℤ) (N : ℕ) → ((a : ℕ) → a < N → atom_row u a ≡ atom_row t a) → (k : ℕ) → k < atom_cells * N → get_or u k (pos 0) ≡ get_or t k (pos 0)
first-atoms-cells t u N h k l =
    let e : k ≡ atom_cells * 0 + k = omega arith in
    ap (λ (z : ℕ). get_or u z (pos 0)) e ∙ atoms-cells t u 0 N (λ a x. ap (atom_row u) (zero-add a) ∙ h a x) k l

pub first-bonds-cells : (t u : List ℤ) (M : ℕ) → ((b : ℕ) → b < M → bond_row u b ≡ bond_row t b) → (k : ℕ) → k < bond_cells * M → get_or u k (pos 0) ≡ get_or t k (pos 0)
first-bonds-cells t u M h k l =
    let e : k ≡ bond_cells * 0 + k = omega arith in
    ap (λ (z : ℕ). get_or u z (pos 0)) e ∙ bonds-cells t u 0 M (λ b x. ap (bond_row u) (zero-add b) ∙ h b x) k l

-- ---- bonds moved up
module _ (n : ℕ) where
  one-length : (b : ℕ) (t : List ℤ) → length (raised_bond n b t) ≡ length t
  one-length b t = with-bond-length t b (raised_row n (bond_row t b))

  run_length : (c k : ℕ) (t : List ℤ) → length (run (raised_bond n) k c t) ≡ length t
  unfolding run
  run_length zero k t = refl
  run_length (suc c) k t = run_length c (suc k) (raised_bond n k t) ∙ one-length k t

  run-before : (c k : ℕ) (t : List ℤ) (b : ℕ) → b < k → bond_row (run (raised_bond n) k c t) b ≡ bond_row t b
  unfolding run
  run-before zero k t b s = refl
  run-before (suc c) k t b s = run-before c (suc k) (raised_bond n k t) b (omega arith) ∙ other-bond t k (raised_row n (bond_row t k)) b (λ q. omega arith)

  run-raised : (c k : ℕ) (t : List ℤ) → bond_cells * (k + c) ≤ length t → (b : ℕ) → k ≤ b → b < k + c → bond_row (run (raised_bond n) k c t) b ≡ raised_row n (bond_row t b)
  unfolding run
  run-raised zero k t l b s u = absurd (omega arith)
  run-raised (suc c) k t l b s u = split (ℕ_discrete b k) (λ g. run-raised c (suc k) (raised_bond n k t) (let e = one-length k t in omega arith) b g (omega arith))
    where
      split : Dec (b ≡ k) → (suc k ≤ b → bond_row (run (raised_bond n) (suc k) c (raised_bond n k t)) b ≡ raised_row n (bond_row (raised_bond n k t) b)) → bond_row (run (raised_bond n) (suc k) c (raised_bond n k t)) b ≡ raised_row n (bond_row t b)
      split (yes q) rest =
          run-before c (suc k) (raised_bond n k t) b (omega arith)
          ∙ ap (bond_row (raised_bond n k t)) q
          ∙ with-bond-row t k (raised_row n (bond_row t k)) (omega arith)
          ∙ ap (λ (z : ℕ). raised_row n (bond_row t z)) (sym q)
      split (no f) rest = rest (omega arith) ∙ ap (raised_row n) (other-bond t k (raised_row n (bond_row t k)) b f)

  pub raised-length : (m : ℕ) (t : List ℤ) → length (raised_bonds n m t) ≡ length t
  unfolding raised_bonds
  raised-length m t = run_length m 0 t

  pub raised-rows : (m : ℕ) (t : List ℤ) → bond_cells * m ≤ length t → (b : ℕ) → b < m → bond_row (raised_bonds n m t) b ≡ raised_row n (bond_row t b)
  unfolding raised_bonds
  raised-rows m t l b s = run-raised m 0 t (omega arith) b (omega arith) (omega arith)
