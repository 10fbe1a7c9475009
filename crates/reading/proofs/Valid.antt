-- A sane memory whose atoms got their hydrogens and their stored marks holds valid tables. Assumes nothing.
use Prim.Native.Nat.{ℕ, zero, suc, ◌+◌, ◌≤◌, ◌<◌}
use native.Mathlib.Omega.{arith}
use mathlib.Core.Path.{◌≡◌, refl}
use mathlib.Core.Bool.{Bool, true, false, ◌&&◌, not}
use mathlib.Core.List.{List}
use lib.IntN.{ℤ}
use lib.Dec.{eqb}
use borrow.Author.Tests.{eqb-true, lt-ltb, le-leb}
use Rattle.loops.specs.Loop.{each}
use Rattle.reading_grammar.specs.declared.MachineState.{MachineState}
use Rattle.table.specs.Limits.{max_atoms, max_bonds}
use Rattle.table.specs.Cells.{end1, end2}
use Rattle.table.specs.Valid.{atom_ok, bond_ok, same_ends, fresh, distinct, valid, Valid}
use Rattle.reading.specs.Memory.{Memory}
use Rattle.table.proofs.Orders.{turned-valid}
use Rattle.reading.specs.Read.{hydrogenated, text_rank, atoms_of}
use Rattle.reading.proofs.Sane.{BondRow, Tables, Sane}
use Rattle.reading.proofs.Hydrogens.{hydrogenated-ok}

-- what passes at each number passes everywhere
pub each_all : (p : ℕ → Bool) (m k : ℕ) → ((j : ℕ) → k ≤ j → j < k + m → p j ≡ true) → each p k m ≡ true
unfolding each
each_all p zero k h = refl
each_all p (suc m) k h = rw (h k (omega arith) (omega arith)) (each_all p m (suc k) (λ j l u. h j (omega arith) (omega arith)))

each_below : (p : ℕ → Bool) (m : ℕ) → ((j : ℕ) → j < m → p j ≡ true) → each p 0 m ≡ true
each_below p m h = each_all p m 0 (λ j l u. h j (omega arith))

bond-ok : {t : List ℤ} {n b : ℕ} → BondRow t n b → bond_ok t n b ≡ true
unfolding bond_ok
bond-ok {t} {n} {b} r = rw (r.kind, r.natural, lt-ltb (end1 t b) (end2 t b) r.order, lt-ltb (end2 t b) n r.second)

differ : (t : List ℤ) (i j : ℕ) → (end1 t i ≡ end1 t j → end2 t i ≡ end2 t j → ⊥) → not (same_ends t i j) ≡ true
unfolding same_ends
differ t i j f = split (eqb (end1 t i) (end1 t j)) (eqb (end2 t i) (end2 t j)) refl refl
  where
    split : (u v : Bool) → eqb (end1 t i) (end1 t j) ≡ u → eqb (end2 t i) (end2 t j) ≡ v → not (u && v) ≡ true
    split true true e g = absurd (f (eqb-true (end1 t i) (end1 t j) e) (eqb-true (end2 t i) (end2 t j) g))
    split true false e g = refl
    split false v e g = refl

all-distinct : (t : List ℤ) (m : ℕ) → ((i j : ℕ) → j < i → i < m → end1 t i ≡ end1 t j → end2 t i ≡ end2 t j → ⊥) → distinct t m ≡ true
unfolding distinct fresh
all-distinct t m f = each_below (λ i. each (λ j. not (same_ends t i j)) 0 i) m (λ i l. each_below (λ j. not (same_ends t i j)) i (λ j s. differ t i j (f i j s l)))

-- with any atom table whose rows are valid
valid-with : {p q n m : ℕ} {atoms bonds : List ℤ} (t : List ℤ) → Tables p q n m atoms bonds → ((a : ℕ) → a < n → atom_ok t a ≡ true) → Valid t bonds n m
valid-with {n = n} {m = m} {bonds = bonds} t w rows =
    record {
      atoms_few = w.atoms_few;
      bonds_few = w.bonds_few;
      atom_rows = each_below (atom_ok t) n rows;
      bond_rows = each_below (bond_ok bonds n) m (λ b l. bond-ok (w.bond_rows b l));
      apart = all-distinct bonds m w.apart;
    }

-- the tables are valid between any two bytes
pub sane-between : {p q i : ℕ} {σ : MachineState} {μ : Memory} → Sane p q σ i μ → Valid μ.atoms μ.bonds μ.st.atoms μ.st.bonds
sane-between {μ = μ} w = valid-with μ.atoms w.tables w.tables.atom_rows

-- and with the hydrogens that are given at the end
pub sane-filled : {p q i : ℕ} {σ : MachineState} {μ : Memory} → Sane p q σ i μ
    → Valid (hydrogenated μ.st.outside μ.bonds μ.st.bonds μ.st.atoms μ.atoms) μ.bonds μ.st.atoms μ.st.bonds
sane-filled {μ = μ} w = valid-with (hydrogenated μ.st.outside μ.bonds μ.st.bonds μ.st.atoms μ.atoms) w.tables rows
  where
    rows : (a : ℕ) → a < μ.st.atoms → atom_ok (hydrogenated μ.st.outside μ.bonds μ.st.bonds μ.st.atoms μ.atoms) a ≡ true
    rows a l =
        hydrogenated-ok μ.st.outside μ.bonds μ.st.bonds μ.st.atoms μ.atoms a l
        (omega (arith, w.tables.atom-length, w.tables.atom-room, w.tables.atoms_few)) (w.tables.atom_rows a l)

-- and with the marks as they are stored
pub sane-valid : {p q i : ℕ} {σ : MachineState} {μ : Memory} → Sane p q σ i μ → Valid (atoms_of μ) μ.bonds μ.st.atoms μ.st.bonds
sane-valid {σ = σ} {μ = μ} w = turned-valid (text_rank μ.st.keys μ.bonds) μ.bonds μ.st.bonds μ.st.atoms μ.st.atoms (hydrogenated μ.st.outside μ.bonds μ.st.bonds μ.st.atoms μ.atoms) (sane-filled {σ = σ} w)

-- the test says so too
pub valid-true : {atoms bonds : List ℤ} {n m : ℕ} → Valid atoms bonds n m → valid atoms bonds n m ≡ true
unfolding valid
valid-true {n = n} {m = m} v = rw (le-leb n max_atoms v.atoms_few, le-leb m max_bonds v.bonds_few, v.atom_rows, v.bond_rows, v.apart)
