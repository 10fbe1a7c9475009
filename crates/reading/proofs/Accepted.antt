-- An accepted text: valid tables, every row as it was read, the hydrogens of 01 and the marks of P8. Assumes nothing.
use Prim.Native.Nat.{ℕ, zero, suc, ◌+◌, ◌≤◌, ◌<◌}
use native.Mathlib.Omega.{arith}
use mathlib.Core.Path.{◌≡◌, refl, sym, ap, subst, ◌∙◌}
use mathlib.Core.Bool.{Bool, true}
use mathlib.Core.List.{List}
use lib.ListN.{length, get_or}
use lib.IntN.{ℤ, pos}
use Rattle.loops.specs.Loop.{run}
use Rattle.valence.specs.Valence.{implied}
use Rattle.reading_grammar.specs.declared.MachineState.{MachineState}
use Rattle.reading_grammar.specs.declared.MachineState.TheVariants.{Start as start}
use Rattle.reading_grammar.specs.Fold.{going, halted}
use Rattle.reading_grammar.proofs.Fold.{Halts, read-halts}
use Rattle.parity.specs.Mark.{mark_if}
use Rattle.table.specs.declared.Atom.{Atom}
use Rattle.table.specs.Limits.{atom_cells, ELEMENT, SELECTED, ISOTOPE, HYDROGENS, CHARGE, EXTENSION, MARK}
use Rattle.table.specs.Cells.{number, atom_place, atom_cell, element, selected, mark}
use Rattle.table.specs.Rows.{atom_row}
use Rattle.table.specs.Valid.{Valid}
use Rattle.table.specs.Sound.{sound}
use Rattle.table.specs.Orders.{turns, turned_mark}
use Rattle.table.proofs.Sound.{sound_back}
use Rattle.table.proofs.Orders.{turns-atoms, turned-cell, turned-field, turned-rest, turned-length}
use Rattle.table_graph.specs.Graph.{bond_sum}
use Rattle.ids.specs.Limits.{max_text}
use Rattle.reading.specs.Memory.{Memory}
use Rattle.reading.specs.Act.{act}
use Rattle.reading.specs.Read.{ReadResult, zeros, beginning, hydrogenated, overfull_at, overfull_atoms, text_rank, read_of}
use Rattle.reading.specs.Conditions.{bytes_read, atoms_of, overfull_of, Fits}
use Rattle.reading.specs.Claims.{with_hydrogens, with_mark, stored_mark, Given, Accepted}
use Rattle.reading.proofs.Sane.{Sane, SaneReading}
use Rattle.reading.proofs.Step.{sane-text}
use Rattle.reading.proofs.Hydrogens.{hydrogenated-length, hydrogenated-other, row-given, row_kept}
use Rattle.reading.proofs.Valid.{sane-valid}
use Rattle.reading.proofs.Refusals.{act-code}
use Rattle.reading.proofs.Leftmost.{none_open}
use Rattle.reading.proofs.Outcome.{accepted, Outcome, outcome}

-- steps that agree run alike
run-same : {S : Type 0} (f g : ℕ → S → S) (c k : ℕ) (x : S) → ((a : ℕ) (y : S) → f a y ≡ g a y) → run f k c x ≡ run g k c x
unfolding run
run-same f g zero k x h = refl
run-same f g (suc c) k x h = ap (run f (suc k) c) (h k x) ∙ run-same f g c (suc k) (g k x) h

module _ (s : List ℕ) (atoms bonds : List ℤ) where
  -- the memory of every reading that goes on is sane
  pub read-sane : {σ : MachineState} {μ : Memory} → Fits s atoms bonds → bytes_read s atoms bonds ≡ going σ μ → Sane (length atoms) (length bonds) σ (length s) μ
  read-sane f e = subst (SaneReading (length atoms) (length bonds) (length s)) e (sane-text s atoms bonds f.room)

  -- the code of a byte's refusal is 3 to 9
  pub halt-code : {c p : ℕ} → bytes_read s atoms bonds ≡ halted c p → (3 ≤ c) × (c ≤ 9)
  halt-code {c} {p} e = split (read-halts act s 0 start (beginning (zeros atoms) (zeros bonds)) c p e)
    where
      split : Halts act 0 (going start (beginning (zeros atoms) (zeros bonds))) s c p → (3 ≤ c) × (c ≤ 9)
      split (Halts.by-grammar k τ ν l g a q h) = (omega arith, omega arith)
      split (Halts.by-action k τ ν l g a x) = let w = act-code τ (get_or s k 0) (0 + k) ν c p x in (omega arith, omega arith)

  -- ---- valid tables

  -- an accepted text gives valid tables with their counts
  pub read-valid : (read_of s atoms bonds).code ≡ 0 → Valid (read_of s atoms bonds).atoms (read_of s atoms bonds).bonds (read_of s atoms bonds).atom_count (read_of s atoms bonds).bond_count
  read-valid = go (read_of s atoms bonds) (outcome s atoms bonds)
    where
      go : (t : ReadResult) → Outcome s atoms bonds t → t.code ≡ 0 → Valid t.atoms t.bonds t.atom_count t.bond_count
      go t (Outcome.too_short e) z = absurd (omega arith)
      go t (Outcome.too_long e l) z = absurd (omega arith)
      go t (Outcome.halts f e) z = let h = halt-code e in absurd (omega arith)
      go t (Outcome.unfinished f e a) z = absurd (omega arith)
      go t (Outcome.unclosed f e a l) z = absurd (omega arith)
      go t (Outcome.late f e a l p) z = absurd (omega (arith, p.0))
      go t (Outcome.unmatched f e a l p m) z = absurd (omega arith)
      go t (Outcome.accepts f e a l p m) z = sane-valid (read-sane f e)

  -- and sound ones
  pub read-sound : (read_of s atoms bonds).code ≡ 0 → sound (read_of s atoms bonds).atoms (read_of s atoms bonds).bonds (read_of s atoms bonds).atom_count (read_of s atoms bonds).bond_count ≡ true
  read-sound = go (read_of s atoms bonds) (outcome s atoms bonds)
    where
      go : (t : ReadResult) → Outcome s atoms bonds t → t.code ≡ 0 → sound t.atoms t.bonds t.atom_count t.bond_count ≡ true
      go t (Outcome.too_short e) z = absurd (omega arith)
      go t (Outcome.too_long e l) z = absurd (omega arith)
      go t (Outcome.halts f e) z = let h = halt-code e in absurd (omega arith)
      go t (Outcome.unfinished f e a) z = absurd (omega arith)
      go t (Outcome.unclosed f e a l) z = absurd (omega arith)
      go t (Outcome.late f e a l p) z = absurd (omega (arith, p.0))
      go t (Outcome.unmatched f e a l p m) z = absurd (omega arith)
      go t (Outcome.accepts {σ} {μ} f e a l p m) z = sound_back (atoms_of μ) μ.bonds μ.st.atoms μ.st.bonds (sane-valid (read-sane f e)) p

  -- ---- hydrogens and marks

  abbrev filled : Memory → List ℤ
  filled μ = hydrogenated μ.st.outside μ.bonds μ.st.bonds μ.st.atoms μ.atoms

  -- a cell that hydrogens do not touch
  filled-cell : (μ : Memory) (a f : ℕ) → (f ≡ HYDROGENS → ⊥) → f < atom_cells → atom_cell (filled μ) a f ≡ atom_cell μ.atoms a f
  filled-cell μ a f n h = hydrogenated-other μ.st.outside μ.bonds μ.st.bonds μ.st.atoms μ.atoms (atom_place a f) (λ x lx ex jx. n (omega arith))

  -- a cell that the turning of marks does not touch
  turned-other : (μ : Memory) (a f : ℕ) → (f ≡ MARK → ⊥) → f < atom_cells → atom_cell (atoms_of μ) a f ≡ atom_cell (filled μ) a f
  turned-other μ a f n h = turned-field (text_rank μ.st.keys μ.bonds) μ.bonds μ.st.bonds μ.st.atoms (filled μ) a f h n

  same-cell : (μ : Memory) (a f : ℕ) → (f ≡ HYDROGENS → ⊥) → (f ≡ MARK → ⊥) → f < atom_cells → atom_cell (atoms_of μ) a f ≡ atom_cell μ.atoms a f
  same-cell μ a f n k h = turned-other μ a f k h ∙ filled-cell μ a f n h

  pub atoms-length : (μ : Memory) → length (atoms_of μ) ≡ length μ.atoms
  atoms-length μ = turned-length (text_rank μ.st.keys μ.bonds) μ.bonds μ.st.bonds μ.st.atoms (filled μ) ∙ hydrogenated-length μ.st.outside μ.bonds μ.st.bonds μ.st.atoms μ.atoms

  -- the stored mark
  stored : (μ : Memory) (a : ℕ) → a < μ.st.atoms → atom_cell (atoms_of μ) a MARK ≡ stored_mark μ.st.keys (accepted μ) a (mark μ.atoms a)
  unfolding turned_mark
  stored μ a l =
      turned-cell (text_rank μ.st.keys μ.bonds) μ.bonds μ.st.bonds μ.st.atoms (filled μ) a l
      ∙ ap (λ (k : ℕ). pos (mark_if (turns (text_rank μ.st.keys μ.bonds a) (filled μ) μ.bonds μ.st.bonds a) k)) (ap number (filled-cell μ a MARK (λ z. omega arith) (omega arith)))
      ∙ ap (λ (x : Bool). pos (mark_if x (mark μ.atoms a)))
      (turns-atoms (text_rank μ.st.keys μ.bonds a) (filled μ) (atoms_of μ) μ.bonds μ.st.bonds a (ap number (sym (turned-other μ a HYDROGENS (λ z. omega arith) (omega arith)))))

  marked_row : (μ : Memory) (a : ℕ) → a < μ.st.atoms → atom_row (atoms_of μ) a ≡ with_mark (atom_row (filled μ) a) (stored_mark μ.st.keys (accepted μ) a (mark μ.atoms a))
  marked_row μ a l =
      rw (
        turned-other μ a ELEMENT (λ z. omega arith) (omega arith),
        turned-other μ a SELECTED (λ z. omega arith) (omega arith),
        turned-other μ a ISOTOPE (λ z. omega arith) (omega arith),
        turned-other μ a HYDROGENS (λ z. omega arith) (omega arith),
        turned-other μ a CHARGE (λ z. omega arith) (omega arith),
        turned-other μ a EXTENSION (λ z. omega arith) (omega arith),
        stored μ a l,
      )

  -- the over-full atoms are counted alike before and after the hydrogens are given
  same-overfull : (μ : Memory) → overfull_of μ ≡ overfull_atoms μ.st.outside μ.bonds μ.st.bonds μ.st.atoms (atoms_of μ)
  unfolding overfull_atoms
  same-overfull μ =
      run-same (λ a k. k + overfull_at μ.st.outside μ.bonds μ.st.bonds μ.atoms a) (λ a k. k + overfull_at μ.st.outside μ.bonds μ.st.bonds (atoms_of μ) a) μ.st.atoms 0 0
      (λ a k. rw (same-cell μ a ELEMENT (λ z. omega arith) (λ z. omega arith) (omega arith), same-cell μ a SELECTED (λ z. omega arith) (λ z. omega arith) (omega arith)))

  given : {σ : MachineState} {μ : Memory} → Sane (length atoms) (length bonds) σ (length s) μ → (a : ℕ) → a < μ.st.atoms → Given μ μ.st.keys (accepted μ) a
  given {σ} {μ} w a l =
      record {
        outside = λ e. marked_row μ a l ∙ ap (λ (x : Atom). with_mark x (stored_mark μ.st.keys (accepted μ) a (mark μ.atoms a))) (outside e);
        bracket = λ f. marked_row μ a l ∙ ap (λ (x : Atom). with_mark x (stored_mark μ.st.keys (accepted μ) a (mark μ.atoms a))) (row_kept μ.st.outside μ.bonds μ.st.bonds μ.st.atoms μ.atoms a f);
      }
    where
      outside : get_or μ.st.outside a 0 ≡ 1 → atom_row (filled μ) a ≡ with_hydrogens (atom_row μ.atoms a) (pos (implied (element (atoms_of μ) a) (selected (atoms_of μ) a) (bond_sum μ.bonds μ.st.bonds a)))
      outside e =
          row-given μ.st.outside μ.bonds μ.st.bonds μ.st.atoms μ.atoms a l (omega (arith, w.tables.atom-length, w.tables.atom-room, w.tables.atoms_few)) e
          ∙ ap (λ (h : ℕ). with_hydrogens (atom_row μ.atoms a) (pos h)) (sym count)
        where
          count : implied (element (atoms_of μ) a) (selected (atoms_of μ) a) (bond_sum μ.bonds μ.st.bonds a) ≡ implied (element μ.atoms a) (selected μ.atoms a) (bond_sum μ.bonds μ.st.bonds a)
          count = rw (same-cell μ a ELEMENT (λ z. omega arith) (λ z. omega arith) (omega arith), same-cell μ a SELECTED (λ z. omega arith) (λ z. omega arith) (omega arith))

  -- every bridge that is open was opened before the text's end
  pub early : {σ : MachineState} {μ : Memory} → Fits s atoms bonds → Sane (length atoms) (length bonds) σ (length s) μ → (r : ℕ) → 0 < get_or μ.st.opener r 0 → get_or μ.st.offset r 0 < max_text
  early f w r o = omega (arith, w.steering.offset r o, f.short)

  -- code 0: every row is what was read, with the hydrogens that 01 gives to an atom outside brackets and the mark as it is stored
  pub read-accepted : (read_of s atoms bonds).code ≡ 0 → Accepted s atoms bonds (read_of s atoms bonds)
  read-accepted = go (read_of s atoms bonds) (outcome s atoms bonds)
    where
      go : (t : ReadResult) → Outcome s atoms bonds t → t.code ≡ 0 → Accepted s atoms bonds t
      go t (Outcome.too_short e) z = absurd (omega arith)
      go t (Outcome.too_long e l) z = absurd (omega arith)
      go t (Outcome.halts f e) z = let h = halt-code e in absurd (omega arith)
      go t (Outcome.unfinished f e a) z = absurd (omega arith)
      go t (Outcome.unclosed f e a l) z = absurd (omega arith)
      go t (Outcome.late f e a l p) z = absurd (omega (arith, p.0))
      go t (Outcome.unmatched f e a l p m) z = absurd (omega arith)
      go t (Outcome.accepts {σ} {μ} f e a l p m) z =
          let w = read-sane f e in
          record {
            fits = f;
            state = σ;
            memory = μ;
            reached = e;
            ends = a;
            counts = (refl, refl, refl);
            rows = given w;
            overfull_counted = same-overfull μ;
            lengths = (atoms-length μ ∙ w.tables.atom-length, w.tables.bond-length);
            unused_bonds = w.tables.bonds-clear;
            unused_atoms = λ k h. turned-rest (text_rank μ.st.keys μ.bonds) μ.bonds μ.st.bonds μ.st.atoms (filled μ) k h ∙ hydrogenated-other μ.st.outside μ.bonds μ.st.bonds μ.st.atoms μ.atoms k (λ x lx ex jx. omega arith) ∙ w.tables.atoms-clear k h;
            no_open_bridge = none_open μ.st.opener μ.st.offset w.steering.opener-length (early f w) l;
            late_checks = p;
            matched = m;
          }
