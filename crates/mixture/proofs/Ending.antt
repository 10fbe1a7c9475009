-- What is told at the end of the joined text: hydrogens, marks, over-full atoms, late checks and matchings of the two molecules side by side. Assumes nothing.
use Prim.Native.Nat.{ℕ, ◌+◌, ◌*◌, ◌≤◌, ◌<◌}
use native.Mathlib.Omega.{arith}
use native.Mathlib.Decide.{ℕ_discrete}
use mathlib.Core.Path.{◌≡◌, sym, ap, ◌∙◌}
use mathlib.Core.Bool.{true}
use mathlib.Core.List.{List}
use lib.ListN.{length, get_or, get_or-map}
use lib.IntN.{ℤ, pos}
use lib.Dec.{eqb}
use borrow.Author.Tests.{le-leb, le-ltb}
use Rattle.loops.specs.Loop.{pick, run}
use Rattle.valence.specs.Valence.{implied, overfull}
use Rattle.reading_grammar.specs.declared.MachineState.{MachineState}
use Rattle.reading_grammar.specs.Machine.{accepting}
use Rattle.reading_grammar.specs.Fold.{going}
use Rattle.table.specs.Limits.{atom_cells}
use Rattle.table.specs.Cells.{number}
use Rattle.table.specs.declared.Atom.{Atom}
use Rattle.table.specs.Rows.{atom_row}
use Rattle.table.specs.Orders.{turns}
use Rattle.table.specs.Sound.{late_code}
use Rattle.table_graph.specs.Graph.{bond_sum, matchable}
use Rattle.ids.specs.Limits.{max_text}
use Rattle.reading.specs.Memory.{Memory}
use Rattle.reading.specs.Read.{hydrogenated, text_rank, overfull_at, overfull_atoms, leftmost, ended, read_from, read_of}
use Rattle.reading.specs.Claims.{with_hydrogens}
use Rattle.reading.specs.Conditions.{bytes_read, atoms_of, overfull_of, Fits}
use Rattle.reading.proofs.Sane.{Sane}
use Rattle.reading.proofs.Hydrogens.{row-given, row_kept}
use Rattle.reading.proofs.Leftmost.{closed_none}
use Rattle.reading.proofs.Outcome.{accepted}
use Rattle.mixture_rows.specs.Beside.{Molecule, BondsBeside, Beside}
use Rattle.mixture_rows.proofs.Parts.{sum-parts}
use Rattle.mixture_rows.proofs.Bonds.{sum_first, sum-second}
use Rattle.mixture_rows.proofs.Orders.{turns-first, turns-second}
use Rattle.mixture_rows.proofs.Late.{late-parts}
use Rattle.mixture_rows.proofs.Tables.{matchable-beside}
use Rattle.mixture.proofs.Behind.{raised}
use Rattle.mixture.proofs.Whole.{Joined}
use Rattle.mixture.proofs.Turned.{same-turned, first-rank, second-rank}

-- ---- the row of an atom with its hydrogens is told by its flag, its row and its bond sum
same-given : (o o' : List ℕ) (b b' : List ℤ) (m m' n n' : ℕ) (t t' : List ℤ) (a a' : ℕ) → a < n → a' < n' → atom_cells * a + atom_cells ≤ length t → atom_cells * a' + atom_cells ≤ length t'
    → get_or o' a' 0 ≡ get_or o a 0 → atom_row t' a' ≡ atom_row t a → bond_sum b' m' a' ≡ bond_sum b m a → atom_row (hydrogenated o' b' m' n' t') a' ≡ atom_row (hydrogenated o b m n t) a
same-given o o' b b' m m' n n' t t' a a' l l' r r' e row sum = split (ℕ_discrete (get_or o a 0) 1)
  where
    split : Dec (get_or o a 0 ≡ 1) → atom_row (hydrogenated o' b' m' n' t') a' ≡ atom_row (hydrogenated o b m n t) a
    split (yes f) =
        row-given o' b' m' n' t' a' l' r' (e ∙ f)
        ∙ (λ i. with_hydrogens (row i) (pos (implied (number (row i).element) (number (row i).selected) (sum i))))
        ∙ sym (row-given o b m n t a l r f)
    split (no f) = row_kept o' b' m' n' t' a' (λ g. f (sym e ∙ g)) ∙ row ∙ sym (row_kept o b m n t a f)

-- the atoms with their hydrogens, before marks are turned
abbrev pub filled : Memory → List ℤ
filled μ = hydrogenated μ.st.outside μ.bonds μ.st.bonds μ.st.atoms μ.atoms

-- the molecule that a memory holds at the end of the text
abbrev pub held : Memory → Molecule
held μ = record { atoms = atoms_of μ; bonds = μ.bonds; atom_count = μ.st.atoms; bond_count = μ.st.bonds }

module _ {p q i p₂ q₂ i₂ p₃ q₃ i₃ : ℕ} {σ τ ρ : MachineState} {μ ν κ : Memory} (h : Sane p q σ i μ) (k : Sane p₂ q₂ τ i₂ ν) (l : Sane p₃ q₃ ρ i₃ κ) (short : i₃ ≤ max_text) (w : Joined μ ν κ) where
  wired : BondsBeside μ.st.atoms μ.st.bonds ν.st.bonds μ.bonds ν.bonds κ.bonds
  wired =
      record {
        inside = λ b x. (let r = h.tables.bond_rows b x in (omega (arith, r.order, r.second), r.second));
        first_bonds = w.wires;
        second_bonds = w.behind.ground.bond_rows.second_bonds;
      }

  -- the sums over the bonds of the join
  first-sum : (a : ℕ) → a < μ.st.atoms → bond_sum κ.bonds κ.st.bonds a ≡ bond_sum μ.bonds μ.st.bonds a
  first-sum a x = ap (λ (m : ℕ). bond_sum κ.bonds m a) w.behind.ground.bonds_count ∙ sum_first wired a x

  second-sum : (a : ℕ) → bond_sum κ.bonds κ.st.bonds (μ.st.atoms + a) ≡ bond_sum ν.bonds ν.st.bonds a
  second-sum a = ap (λ (m : ℕ). bond_sum κ.bonds m (μ.st.atoms + a)) w.behind.ground.bonds_count ∙ sum-second wired a

  -- the rows with their hydrogens
  first-filled : (a : ℕ) → a < μ.st.atoms → atom_row (filled κ) a ≡ atom_row (filled μ) a
  first-filled a x =
      let c = w.behind.ground.atoms_count in
      same-given μ.st.outside κ.st.outside μ.bonds κ.bonds μ.st.bonds κ.st.bonds μ.st.atoms κ.st.atoms μ.atoms κ.atoms a a x (omega arith)
      (omega (arith, h.tables.atom-length, h.tables.atom-room, h.tables.atoms_few)) (omega (arith, l.tables.atom-length, l.tables.atom-room, l.tables.atoms_few)) (w.flags a x) (w.rows a x) (first-sum a x)

  second-filled : (a : ℕ) → a < ν.st.atoms → atom_row (filled κ) (μ.st.atoms + a) ≡ atom_row (filled ν) a
  second-filled a x =
      let c = w.behind.ground.atoms_count in
      same-given ν.st.outside κ.st.outside ν.bonds κ.bonds ν.st.bonds κ.st.bonds ν.st.atoms κ.st.atoms ν.atoms κ.atoms a (μ.st.atoms + a) x (omega arith)
      (omega (arith, k.tables.atom-length, k.tables.atom-room, k.tables.atoms_few)) (omega (arith, l.tables.atom-length, l.tables.atom-room, l.tables.atoms_few)) (w.behind.ground.outside a x) (w.behind.ground.atom_rows a x) (second-sum a)

  -- the same marks are turned
  first-turn : (a : ℕ) → a < μ.st.atoms → turns (text_rank κ.st.keys κ.bonds a) (filled κ) κ.bonds κ.st.bonds a ≡ turns (text_rank μ.st.keys μ.bonds a) (filled μ) μ.bonds μ.st.bonds a
  first-turn a x =
      ap (λ (m : ℕ). turns (text_rank κ.st.keys κ.bonds a) (filled κ) κ.bonds m a) w.behind.ground.bonds_count
      ∙ turns-first wired (text_rank μ.st.keys μ.bonds a) (text_rank κ.st.keys κ.bonds a) (filled μ) (filled κ) a x (ap (λ (y : Atom). number y.hydrogens) (first-filled a x)) (first-rank wired μ.st.keys κ.st.keys w.first-keys a)

  second-turn : (a : ℕ) → a < ν.st.atoms → turns (text_rank κ.st.keys κ.bonds (μ.st.atoms + a)) (filled κ) κ.bonds κ.st.bonds (μ.st.atoms + a) ≡ turns (text_rank ν.st.keys ν.bonds a) (filled ν) ν.bonds ν.st.bonds a
  second-turn a x =
      ap (λ (m : ℕ). turns (text_rank κ.st.keys κ.bonds (μ.st.atoms + a)) (filled κ) κ.bonds m (μ.st.atoms + a)) w.behind.ground.bonds_count
      ∙ turns-second wired (max_text + 2) w.bytes (omega arith) (text_rank ν.st.keys ν.bonds a) (text_rank κ.st.keys κ.bonds (μ.st.atoms + a)) (filled ν) (filled κ) a (ap (λ (y : Atom). number y.hydrogens) (second-filled a x))
      (second-rank wired w.bytes ν.st.keys κ.st.keys w.behind.ground.keys (λ c. omega (arith, l.steering.keys c)) a)

  first-row : (a : ℕ) → a < μ.st.atoms → atom_row (atoms_of κ) a ≡ atom_row (atoms_of μ) a
  first-row a x =
      let c = w.behind.ground.atoms_count in
      same-turned (text_rank μ.st.keys μ.bonds) (text_rank κ.st.keys κ.bonds) μ.bonds κ.bonds μ.st.bonds κ.st.bonds μ.st.atoms κ.st.atoms (filled μ) (filled κ) a a x (omega arith) (first-filled a x) (first-turn a x)

  second-row : (a : ℕ) → a < ν.st.atoms → atom_row (atoms_of κ) (μ.st.atoms + a) ≡ atom_row (atoms_of ν) a
  second-row a x =
      let c = w.behind.ground.atoms_count in
      same-turned (text_rank ν.st.keys ν.bonds) (text_rank κ.st.keys κ.bonds) ν.bonds κ.bonds ν.st.bonds κ.st.bonds ν.st.atoms κ.st.atoms (filled ν) (filled κ) a (μ.st.atoms + a) x (omega arith) (second-filled a x) (second-turn a x)

  -- the two molecules stand side by side
  pub held-beside : Beside (held μ) (held ν) (held κ)
  held-beside =
      record {
        atoms_count = w.behind.ground.atoms_count;
        bonds_count = w.behind.ground.bonds_count;
        first_atoms = first-row;
        second_atoms = second-row;
        bond_rows = wired;
      }

  -- over-full counts add
  pub overfull-add : overfull_of κ ≡ overfull_of μ + overfull_of ν
  unfolding overfull_atoms
  overfull-add =
      ap (λ (n : ℕ). run (λ a c. c + overfull_at κ.st.outside κ.bonds κ.st.bonds κ.atoms a) 0 n 0) w.behind.ground.atoms_count
      ∙ sum-parts (overfull_at κ.st.outside κ.bonds κ.st.bonds κ.atoms) (overfull_at μ.st.outside μ.bonds μ.st.bonds μ.atoms) (overfull_at ν.st.outside ν.bonds ν.st.bonds ν.atoms) μ.st.atoms ν.st.atoms
      (λ a x i. pick (eqb (w.flags a x i) 1) (overfull (number (w.rows a x i).element) (number (w.rows a x i).selected) (first-sum a x i)) 0)
      (λ a x i. pick (eqb (w.behind.ground.outside a x i) 1) (overfull (number (w.behind.ground.atom_rows a x i).element) (number (w.behind.ground.atom_rows a x i).selected) (second-sum a i)) 0)

  still-closed : ((r : ℕ) → get_or ν.st.opener r 0 ≡ 0) → (r : ℕ) → get_or κ.st.opener r 0 ≡ 0
  still-closed shut r = ap (λ (o : List ℕ). get_or o r 0) w.behind.ground.opener ∙ get_or-map (raised μ.st.atoms) ν.st.opener r 0 ∙ ap (raised μ.st.atoms) (shut r)

  -- the joined text is accepted
  pub joined-accepted : (s : List ℕ) (A B : List ℤ) → Fits s A B → bytes_read s A B ≡ going ρ κ → accepting ρ ≡ true → ((r : ℕ) → get_or ν.st.opener r 0 ≡ 0)
      → late_code (atoms_of μ) μ.bonds μ.st.atoms μ.st.bonds ≡ 0 → late_code (atoms_of ν) ν.bonds ν.st.atoms ν.st.bonds ≡ 0
      → matchable (atoms_of μ) μ.bonds μ.st.atoms μ.st.bonds ≡ true → matchable (atoms_of ν) ν.bonds ν.st.atoms ν.st.bonds ≡ true
      → read_of s A B ≡ accepted κ
  unfolding read_of read_from ended
  joined-accepted s A B f e a shut late₁ late₂ some₁ some₂ =
      let size = le-leb (length s) max_text f.short in
      let none = le-ltb (leftmost κ.st.opener κ.st.offset) max_text (closed_none κ.st.opener κ.st.offset (still-closed shut)) in
      let late : late_code (atoms_of κ) κ.bonds κ.st.atoms κ.st.bonds ≡ 0 = late-parts held-beside late₁ late₂ in
      let some : matchable (atoms_of κ) κ.bonds κ.st.atoms κ.st.bonds ≡ true = matchable-beside held-beside some₁ some₂ in
      rw (f.room, size, e, a, none, late, some)
