-- Two accepted texts joined by a dot: what reading hands back, and the matchings. Assumes nothing.
use Prim.Native.Nat.{ℕ, ◌*◌, ◌≤◌}
use native.Mathlib.Omega.{arith}
use mathlib.Core.Path.{◌≡◌, refl, sym, ap, ◌∙◌}
use mathlib.Core.Bool.{true}
use mathlib.Core.List.{List, [], ◌∷◌}
use lib.ListN.{length, get_or}
use lib.IntN.{ℤ, pos}
use Rattle.reading_grammar.specs.declared.MachineState.{MachineState}
use Rattle.reading_grammar.specs.Machine.{accepting}
use Rattle.reading_grammar.specs.Fold.{going}
use Rattle.table.specs.Limits.{atom_cells, bond_cells}
use Rattle.table.specs.Sound.{late_code}
use Rattle.table.proofs.Orders.{turned-rest, turned-length}
use Rattle.ids.specs.Limits.{max_text}
use Rattle.table_graph.specs.Graph.{matchable}
use Rattle.reading.specs.Memory.{Memory}
use Rattle.reading.specs.Read.{ReadResult, text_rank, read_of}
use Rattle.reading.specs.Conditions.{bytes_read, atoms_of, Fits}
use Rattle.reading.proofs.Sane.{Sane}
use Rattle.reading.proofs.Hydrogens.{hydrogenated-length, hydrogenated-other}
use Rattle.reading.proofs.Leftmost.{none_open}
use Rattle.reading.proofs.Outcome.{accepted, Outcome, outcome}
use Rattle.reading.proofs.Accepted.{read-sane, halt-code, early}
use Rattle.mixture_rows.specs.Rows.{followed}
use Rattle.mixture_rows.proofs.Tables.{matchings-beside, number-beside}
use Rattle.mixture.specs.Mixed.{unmarked_text, joined_text, raised_bonds, side_by_side, mixed}
use Rattle.mixture.specs.Claims.{matchings_read, Joinable, Mixture}
use Rattle.mixture.proofs.Behind.{Room}
use Rattle.mixture.proofs.Whole.{Joined, Ended, whole}
use Rattle.mixture.proofs.Ending.{filled, held-beside, overfull-add, joined-accepted}
use Rattle.mixture.proofs.Cells.{side-by-side, atoms-cells, bonds-cells, first-atoms-cells, first-bonds-cells, raised-length, raised-rows}

-- ---- a text that is accepted
record Reads (s : List ℕ) (A B : List ℤ) (t : ReadResult) : Type 0 where
  pub state : MachineState
  pub memory : Memory
  pub fits : Fits s A B
  pub reached : bytes_read s A B ≡ going state memory
  pub ends : accepting state ≡ true
  pub shut : (r : ℕ) → get_or memory.st.opener r 0 ≡ 0
  pub passes : late_code (atoms_of memory) memory.bonds memory.st.atoms memory.st.bonds ≡ 0
  pub some : matchable (atoms_of memory) memory.bonds memory.st.atoms memory.st.bonds ≡ true
  pub told : t ≡ accepted memory

reads : (s : List ℕ) (A B : List ℤ) → (read_of s A B).code ≡ 0 → Reads s A B (read_of s A B)
reads s A B = go (read_of s A B) (outcome s A B)
  where
    go : (t : ReadResult) → Outcome s A B t → t.code ≡ 0 → Reads s A B t
    go t (Outcome.too_short e) z = absurd (omega arith)
    go t (Outcome.too_long e l) z = absurd (omega arith)
    go t (Outcome.halts f e) z = let h = halt-code s A B e in absurd (omega arith)
    go t (Outcome.unfinished f e a) z = absurd (omega arith)
    go t (Outcome.unclosed f e a l) z = absurd (omega arith)
    go t (Outcome.late f e a l p) z = absurd (omega (arith, p.0))
    go t (Outcome.unmatched f e a l p m) z = absurd (omega arith)
    go t (Outcome.accepts {σ} {μ} f e a l p m) z =
        let w = read-sane s A B f e in
        record {
          state = σ;
          memory = μ;
          fits = f;
          reached = e;
          ends = a;
          shut = none_open μ.st.opener μ.st.offset w.steering.opener-length (early s A B f w) l;
          passes = p;
          some = m;
          told = refl;
        }

-- ---- the tables
module _ {p q i p₂ q₂ i₂ p₃ q₃ i₃ : ℕ} {σ τ ρ : MachineState} {μ ν κ : Memory} (h : Sane p q σ i μ) (k : Sane p₂ q₂ τ i₂ ν) (l : Sane p₃ q₃ ρ i₃ κ) (short : i₃ ≤ max_text) (w : Joined μ ν κ) where
  atoms_long : {x y z : ℕ} {π : MachineState} {ξ : Memory} → Sane x y π z ξ → length (atoms_of ξ) ≡ x
  atoms_long {ξ = ξ} s =
      turned-length (text_rank ξ.st.keys ξ.bonds) ξ.bonds ξ.st.bonds ξ.st.atoms (filled ξ) ∙ hydrogenated-length ξ.st.outside ξ.bonds ξ.st.bonds ξ.st.atoms ξ.atoms ∙ s.tables.atom-length

  atoms_after : (c : ℕ) → atom_cells * κ.st.atoms ≤ c → get_or (atoms_of κ) c (pos 0) ≡ pos 0
  atoms_after c x =
      turned-rest (text_rank κ.st.keys κ.bonds) κ.bonds κ.st.bonds κ.st.atoms (filled κ) c x
      ∙ hydrogenated-other κ.st.outside κ.bonds κ.st.bonds κ.st.atoms κ.atoms c (λ a la ea ja. omega arith)
      ∙ l.tables.atoms-clear c x

  atoms-mixed : atoms_of κ ≡ side_by_side (atom_cells * μ.st.atoms) (atoms_of μ) (atom_cells * ν.st.atoms) (atoms_of ν) p₃
  atoms-mixed =
      let b = held-beside h k l short w in
      let c = w.behind.ground.atoms_count in
      side-by-side (atoms_of μ) (atoms_of ν) (atom_cells * μ.st.atoms) (atom_cells * ν.st.atoms) (omega (arith, atoms_long h, h.tables.atom-room, h.tables.atoms_few)) (omega (arith, atoms_long k, k.tables.atom-room, k.tables.atoms_few)) (atoms_of κ)
      (omega (arith, atoms_long l, l.tables.atom-room, l.tables.atoms_few))
      (first-atoms-cells (atoms_of μ) (atoms_of κ) μ.st.atoms b.first_atoms)
      (atoms-cells (atoms_of ν) (atoms_of κ) μ.st.atoms ν.st.atoms b.second_atoms)
      (λ x y. atoms_after x (omega arith))
      ∙ ap (side_by_side (atom_cells * μ.st.atoms) (atoms_of μ) (atom_cells * ν.st.atoms) (atoms_of ν)) (atoms_long l)

  bonds-mixed : κ.bonds ≡ side_by_side (bond_cells * μ.st.bonds) μ.bonds (bond_cells * ν.st.bonds) (raised_bonds μ.st.atoms ν.st.bonds ν.bonds) q₃
  bonds-mixed =
      let c = w.behind.ground.bonds_count in
      let fits : bond_cells * ν.st.bonds ≤ length ν.bonds = omega (arith, k.tables.bond-length, k.tables.bond-room, k.tables.bonds_few) in
      let long = raised-length μ.st.atoms ν.st.bonds ν.bonds in
      side-by-side μ.bonds (raised_bonds μ.st.atoms ν.st.bonds ν.bonds) (bond_cells * μ.st.bonds) (bond_cells * ν.st.bonds) (omega (arith, h.tables.bond-length, h.tables.bond-room, h.tables.bonds_few)) (omega arith) κ.bonds
      (omega (arith, l.tables.bond-length, l.tables.bond-room, l.tables.bonds_few))
      (first-bonds-cells μ.bonds κ.bonds μ.st.bonds w.wires)
      (bonds-cells (raised_bonds μ.st.atoms ν.st.bonds ν.bonds) κ.bonds μ.st.bonds ν.st.bonds (λ b x. w.behind.ground.bond_rows.second_bonds b x ∙ sym (raised-rows μ.st.atoms ν.st.bonds ν.bonds fits b x)))
      (λ x y. l.tables.bonds-clear x (omega arith))
      ∙ ap (side_by_side (bond_cells * μ.st.bonds) μ.bonds (bond_cells * ν.st.bonds) (raised_bonds μ.st.atoms ν.st.bonds ν.bonds)) l.tables.bond-length

  accepted-mixed : accepted κ ≡ mixed (accepted μ) (accepted ν) p₃ q₃
  accepted-mixed =
      λ v.
      record {
        code = 0;
        offset = 0;
        atom_count = w.behind.ground.atoms_count v;
        bond_count = w.behind.ground.bonds_count v;
        overfull = overfull-add h k l short w v;
        atoms = atoms-mixed v;
        bonds = bonds-mixed v;
      }

-- ---- together
module _ (A₁ B₁ A₂ B₂ A B : List ℤ) where
  module _ {c : ℕ} {s : List ℕ} {b : ℕ} {t : List ℕ} (w : Joinable (c ∷ s) (b ∷ t) A₁ B₁ A₂ B₂ A B) (x : Reads (c ∷ s) A₁ B₁ (read_of (c ∷ s) A₁ B₁)) (y : Reads (b ∷ t) A₂ B₂ (read_of (b ∷ t) A₂ B₂)) where
    room : Room x.memory.st.atoms x.memory.st.bonds y.memory
    room =
        let n = ap (λ (r : ReadResult). r.atom_count) x.told in
        let m = ap (λ (r : ReadResult). r.atom_count) y.told in
        let n' = ap (λ (r : ReadResult). r.bond_count) x.told in
        let m' = ap (λ (r : ReadResult). r.bond_count) y.told in
        record { atoms = omega (arith, w.atoms, n, m); bonds = omega (arith, w.bonds, n', m') }

    ended : Ended (joined_text (c ∷ s) (b ∷ t)) A B y.state x.memory y.memory
    ended = whole c s b t A₁ B₁ A₂ B₂ A B x.fits.room y.fits.room w.room x.reached x.ends x.shut y.reached room

    fits : Fits (joined_text (c ∷ s) (b ∷ t)) A B
    fits = record { room = w.room; short = w.bytes }

    mixture-of : (e : Ended (joined_text (c ∷ s) (b ∷ t)) A B y.state x.memory y.memory) → Mixture (c ∷ s) (b ∷ t) A₁ B₁ A₂ B₂ A B
    mixture-of e =
        let h = read-sane (c ∷ s) A₁ B₁ x.fits x.reached in
        let k = read-sane (b ∷ t) A₂ B₂ y.fits y.reached in
        let l = read-sane (joined_text (c ∷ s) (b ∷ t)) A B fits e.reached in
        let told : read_of (joined_text (c ∷ s) (b ∷ t)) A B ≡ accepted e.memory = joined-accepted h k l w.bytes e.joined (joined_text (c ∷ s) (b ∷ t)) A B fits e.reached y.ends y.shut x.passes y.passes x.some y.some in
        record {
          accepted = told ∙ accepted-mixed h k l w.bytes e.joined ∙ (λ v. mixed (sym x.told v) (sym y.told v) (length A) (length B));
          rows = ap matchings_read told ∙ matchings-beside (held-beside h k l w.bytes e.joined) ∙ (λ v. followed (matchings_read (sym x.told v)) (matchings_read (sym y.told v)));
          number = ap (λ (r : ReadResult). length (matchings_read r)) told ∙ number-beside (held-beside h k l w.bytes e.joined) ∙ (λ v. length (matchings_read (sym x.told v)) * length (matchings_read (sym y.told v)));
        }

  -- THE STATEMENT, whatever marks the texts have
  pub any-mixture : (s t : List ℕ) → Joinable s t A₁ B₁ A₂ B₂ A B → Mixture s t A₁ B₁ A₂ B₂ A B
  any-mixture [] t w = absurd (omega (arith, w.first_some))
  any-mixture (c ∷ s) [] w = absurd (omega (arith, w.second_some))
  any-mixture (c ∷ s) (b ∷ t) w = let x = reads (c ∷ s) A₁ B₁ w.first in let y = reads (b ∷ t) A₂ B₂ w.second in mixture-of w x y (ended w x y)

  -- P13's statement
  pub mixture : (s t : List ℕ) → unmarked_text s ≡ true → unmarked_text t ≡ true → Joinable s t A₁ B₁ A₂ B₂ A B → Mixture s t A₁ B₁ A₂ B₂ A B
  mixture s t plain plain₂ w = any-mixture s t w
