-- The eight ways in which reading ends, each with all the checks that it passed. Assumes nothing.
use Prim.Native.Nat.{ℕ, zero, suc, ◌≤◌, ◌<◌}
use mathlib.Core.Path.{◌≡◌, refl}
use mathlib.Core.Bool.{Bool, true, false}
use mathlib.Core.List.{List}
use lib.ListN.{length}
use lib.IntN.{ℤ}
use lib.Dec.{eqb, leb, ltb}
use native.Mathlib.Omega.{arith}
use borrow.Author.Tests.{eqb-true, eqb-false, leb-true, leb-false, ltb-true, ltb-false}
use Rattle.loops.specs.Loop.{pick}
use Rattle.reading_grammar.specs.declared.MachineState.{MachineState}
use Rattle.reading_grammar.specs.Machine.{accepting}
use Rattle.reading_grammar.specs.Fold.{Reading, going, halted}
use Rattle.table.specs.Valid.{enough}
use Rattle.table.specs.Sound.{late_code}
use Rattle.table.proofs.Sound.{late-range}
use Rattle.table_graph.specs.Graph.{matchable}
use Rattle.ids.specs.Limits.{max_text}
use Rattle.reading.specs.Memory.{Memory}
use Rattle.reading.specs.Read.{ReadResult, refused, short, leftmost, ended, finished, read_from, read_of}
use Rattle.reading.specs.Conditions.{bytes_read, atoms_of, overfull_of, Fits}

-- what reading tells of an accepted text
abbrev pub accepted : Memory → ReadResult
accepted μ =
    record {
      code = 0;
      offset = 0;
      atom_count = μ.st.atoms;
      bond_count = μ.st.bonds;
      overfull = overfull_of μ;
      atoms = atoms_of μ;
      bonds = μ.bonds;
    }

pub data Outcome (s : List ℕ) (atoms bonds : List ℤ) : ReadResult → Type 0 where
  too_short : enough atoms bonds ≡ false → Outcome s atoms bonds (short atoms bonds)
  too_long : enough atoms bonds ≡ true → max_text < length s → Outcome s atoms bonds (refused 2 max_text atoms bonds)
  halts : {c p : ℕ} → Fits s atoms bonds → bytes_read s atoms bonds ≡ halted c p → Outcome s atoms bonds (refused c p atoms bonds)
  unfinished : {σ : MachineState} {μ : Memory} → Fits s atoms bonds → bytes_read s atoms bonds ≡ going σ μ → accepting σ ≡ false → Outcome s atoms bonds (refused 3 (length s) atoms bonds)
  unclosed : {σ : MachineState} {μ : Memory} → Fits s atoms bonds → bytes_read s atoms bonds ≡ going σ μ → accepting σ ≡ true → leftmost μ.st.opener μ.st.offset < max_text
      → Outcome s atoms bonds (refused 10 (leftmost μ.st.opener μ.st.offset) μ.atoms μ.bonds)
  late : {σ : MachineState} {μ : Memory} → Fits s atoms bonds → bytes_read s atoms bonds ≡ going σ μ → accepting σ ≡ true → max_text ≤ leftmost μ.st.opener μ.st.offset
      → (20 ≤ late_code (atoms_of μ) μ.bonds μ.st.atoms μ.st.bonds) × (late_code (atoms_of μ) μ.bonds μ.st.atoms μ.st.bonds ≤ 23) → Outcome s atoms bonds (refused (late_code (atoms_of μ) μ.bonds μ.st.atoms μ.st.bonds) 0 (atoms_of μ) μ.bonds)
  unmatched : {σ : MachineState} {μ : Memory} → Fits s atoms bonds → bytes_read s atoms bonds ≡ going σ μ → accepting σ ≡ true → max_text ≤ leftmost μ.st.opener μ.st.offset
      → late_code (atoms_of μ) μ.bonds μ.st.atoms μ.st.bonds ≡ 0 → matchable (atoms_of μ) μ.bonds μ.st.atoms μ.st.bonds ≡ false → Outcome s atoms bonds (refused 11 0 (atoms_of μ) μ.bonds)
  accepts : {σ : MachineState} {μ : Memory} → Fits s atoms bonds → bytes_read s atoms bonds ≡ going σ μ → accepting σ ≡ true → max_text ≤ leftmost μ.st.opener μ.st.offset
      → late_code (atoms_of μ) μ.bonds μ.st.atoms μ.st.bonds ≡ 0 → matchable (atoms_of μ) μ.bonds μ.st.atoms μ.st.bonds ≡ true → Outcome s atoms bonds (accepted μ)

positive : (c : ℕ) → (c ≡ 0 → ⊥) → 0 < c
positive zero n = absurd (n refl)
positive (suc c) n = omega arith

module _ (s : List ℕ) (atoms bonds : List ℤ) where
  at-end : Fits s atoms bonds → (σ : MachineState) (μ : Memory) → bytes_read s atoms bonds ≡ going σ μ → accepting σ ≡ true → Outcome s atoms bonds (ended μ)
  unfolding ended
  at-end f σ μ e a = split (ltb (leftmost μ.st.opener μ.st.offset) max_text) refl (eqb (late_code (atoms_of μ) μ.bonds μ.st.atoms μ.st.bonds) 0) refl (matchable (atoms_of μ) μ.bonds μ.st.atoms μ.st.bonds) refl
    where
      split : (t : Bool) → ltb (leftmost μ.st.opener μ.st.offset) max_text ≡ t → (k : Bool) → eqb (late_code (atoms_of μ) μ.bonds μ.st.atoms μ.st.bonds) 0 ≡ k → (u : Bool) → matchable (atoms_of μ) μ.bonds μ.st.atoms μ.st.bonds ≡ u
          → Outcome s atoms bonds (pick t (refused 10 (leftmost μ.st.opener μ.st.offset) μ.atoms μ.bonds)
          (pick k (pick u (accepted μ) (refused 11 0 (atoms_of μ) μ.bonds)) (refused (late_code (atoms_of μ) μ.bonds μ.st.atoms μ.st.bonds) 0 (atoms_of μ) μ.bonds)))
      split true p k c u q = Outcome.unclosed f e a (ltb-true (leftmost μ.st.opener μ.st.offset) max_text p)
      split false p false c u q =
          let n = eqb-false (late_code (atoms_of μ) μ.bonds μ.st.atoms μ.st.bonds) 0 c in
          Outcome.late f e a (ltb-false (leftmost μ.st.opener μ.st.offset) max_text p) (late-range (atoms_of μ) μ.bonds μ.st.atoms μ.st.bonds (positive (late_code (atoms_of μ) μ.bonds μ.st.atoms μ.st.bonds) n))
      split false p true c true q = Outcome.accepts f e a (ltb-false (leftmost μ.st.opener μ.st.offset) max_text p) (eqb-true (late_code (atoms_of μ) μ.bonds μ.st.atoms μ.st.bonds) 0 c) q
      split false p true c false q = Outcome.unmatched f e a (ltb-false (leftmost μ.st.opener μ.st.offset) max_text p) (eqb-true (late_code (atoms_of μ) μ.bonds μ.st.atoms μ.st.bonds) 0 c) q

  at-finish : Fits s atoms bonds → (r : Reading Memory) → bytes_read s atoms bonds ≡ r → Outcome s atoms bonds (finished (length s) atoms bonds r)
  at-finish f (going σ μ) e = split (accepting σ) refl
    where
      split : (t : Bool) → accepting σ ≡ t → Outcome s atoms bonds (pick t (ended μ) (refused 3 (length s) atoms bonds))
      split true a = at-end f σ μ e a
      split false a = Outcome.unfinished f e a
  at-finish f (halted c p) e = Outcome.halts f e

  -- reading ends in one of them
  pub outcome : Outcome s atoms bonds (read_of s atoms bonds)
  unfolding read_of read_from
  outcome = split (enough atoms bonds) refl (leb (length s) max_text) refl
    where
      split : (t : Bool) → enough atoms bonds ≡ t → (u : Bool) → leb (length s) max_text ≡ u
          → Outcome s atoms bonds (pick t (pick u (finished (length s) atoms bonds (bytes_read s atoms bonds)) (refused 2 max_text atoms bonds)) (short atoms bonds))
      split true e true l = at-finish (record { room = e; short = leb-true (length s) max_text l }) (bytes_read s atoms bonds) refl
      split true e false l = Outcome.too_long e (leb-false (length s) max_text l)
      split false e u l = Outcome.too_short e
