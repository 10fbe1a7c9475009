-- The memory stays sane when an atom begins, is described, and when its bracket is read. Assumes nothing.
use Prim.Native.Nat.{ℕ, suc, ◌+◌, ◌≤◌, ◌<◌}
use native.Mathlib.Omega.{arith}
use mathlib.Core.Path.{◌≡◌, refl}
use mathlib.Core.Bool.{Bool, true, false, ◌&&◌, not}
use lib.Dec.{eqb, leb}
use borrow.Author.Tests.{eqb-false, leb-false, not-true}
use Rattle.kinds.specs.Kind.{max_kind}
use Rattle.loops.specs.Loop.{pick}
use Rattle.loops.proofs.Loops.{and_left}
use Rattle.element.specs.declared.Letter.{Letter}
use Rattle.element.specs.Lookup.{letter_of}
use Rattle.reading_grammar.specs.declared.Mode.{Mode}
use Rattle.reading_grammar.specs.declared.Mode.TheVariants.{Seq as seq, LetterA as letterA, LetterT as letterT, Bracket as bracket}
use Rattle.reading_grammar.specs.declared.Move.{Move}
use Rattle.reading_grammar.specs.declared.MachineState.TheVariants.{Start as start, At as at}
use Rattle.reading_grammar.specs.Machine.{turn}
use Rattle.reading_grammar.proofs.Ends.{never}
use Rattle.table.specs.declared.Atom.{Atom}
use Rattle.table.specs.Limits.{max_atoms, max_bonds}
use Rattle.table.specs.Cells.{end1, end2}
use Rattle.table.specs.Rows.{with_bond}
use Rattle.reading_state.specs.declared.Fields.{Fields}
use Rattle.reading.specs.Memory.{Memory, kind_of, after_dot, bare_row, new_bond, bonded, begun, described, drafted}
use Rattle.reading.specs.Act.{first_byte_of, atom_act}
use Rattle.reading.proofs.Cases.{by-test}
use Rattle.reading.proofs.Sane.{Tables, Steers, HalfRead, Sane, SaneAct}
use Rattle.reading.proofs.Rows.{row_ok}
use Rattle.reading.proofs.Tables.{atom-added, atom-described, bond-added}
use Rattle.reading.proofs.Steering.{later, extended-steering}
use Rattle.reading.proofs.Draft.{blank-range, bare-row, selected-row}
use Rattle.reading.proofs.Letters.{Begins}

-- what does not depend on the mode: before the first atom there is no hub
pub record Ready (p q d i : ℕ) (μ : Memory) : Type 0 where
  pub tables : Tables p q μ.st.atoms μ.st.bonds μ.atoms μ.bonds
  pub steering : Steers i μ.st
  pub kind : kind_of μ.pending ≤ max_kind
  pub depth : μ.st.depth ≡ d
  pub hub : (μ.st.atoms ≡ 0 → ⊥) → μ.st.hub.0 < μ.st.atoms

-- and after the first atom
pub record Held (p q d i : ℕ) (μ : Memory) : Type 0 where
  pub tables : Tables p q μ.st.atoms μ.st.bonds μ.atoms μ.bonds
  pub steering : Steers i μ.st
  pub kind : kind_of μ.pending ≤ max_kind
  pub depth : μ.st.depth ≡ d
  pub hub : μ.st.hub.0 < μ.st.atoms

pub ready : {p q d i : ℕ} {μ : Memory} → Held p q d i μ → Ready p q d i μ
ready h = record { tables = h.tables; steering = h.steering; kind = h.kind; depth = h.depth; hub = λ n. h.hub }

pub ready-start : {p q i : ℕ} {μ : Memory} → Sane p q start i μ → Ready p q 0 i μ
ready-start h = record { tables = h.tables; steering = h.steering; kind = h.kind; depth = h.stands.depth; hub = λ n. absurd (n h.stands.atoms) }

pub held_of : {p q d i : ℕ} {m : Mode} {μ : Memory} → Sane p q (at m d) i μ → Held p q d i μ
held_of h = record { tables = h.tables; steering = h.steering; kind = h.kind; depth = h.stands.depth; hub = h.stands.hub }

pub sane-of : {p q d i : ℕ} (m : Mode) {μ : Memory} → Held p q d i μ → HalfRead m μ → Sane p q (at m d) i μ
sane-of m h r = record { tables = h.tables; steering = h.steering; kind = h.kind; stands = record { hub = h.hub; depth = h.depth; half = r } }

pub held-later : {p q d i : ℕ} {μ : Memory} → Held p q d i μ → Held p q d (suc i) μ
held-later h = record { tables = h.tables; steering = later h.steering; kind = h.kind; depth = h.depth; hub = h.hub }

pub held-drafted : {p q d i : ℕ} {μ : Memory} (f : Fields) → Held p q d i μ → Held p q d (suc i) (drafted f μ)
held-drafted f h = record { tables = h.tables; steering = later h.steering; kind = h.kind; depth = h.depth; hub = h.hub }

pub held-described : {p q d i : ℕ} {μ : Memory} (x : Atom) → row_ok x ≡ true → Held p q d i μ → Held p q d i (described x μ)
held-described {μ = μ} x ok h = record { tables = atom-described h.tables μ.st.hub.0 x h.hub ok; steering = h.steering; kind = h.kind; depth = h.depth; hub = h.hub }

-- ---- an atom begins

some-atom : (n : ℕ) (t : Bool) → (not (eqb n 0) && t) ≡ true → n ≡ 0 → ⊥
some-atom n t h = eqb-false n 0 (not-true (eqb n 0) (and_left (not (eqb n 0)) t h))

pub begun-held : {p q d i : ℕ} {μ : Memory} (x : ℕ) → Ready p q d i μ → μ.st.atoms < max_atoms → (bonded μ ≡ true → μ.st.bonds < max_bonds) → Held p q d (suc i) (begun x μ)
unfolding begun
begun-held {p} {q} {d} {i} {μ} x h few bonds_few = record { tables = tables (bonded μ) refl; steering = extended-steering h.steering x (pick (bonded μ) (μ.st.bonds + 1) μ.st.bonds); kind = omega arith; depth = h.depth; hub = omega arith }
  where
    fresh : (j : ℕ) → j < μ.st.bonds → end1 μ.bonds j ≡ μ.st.hub.0 → end2 μ.bonds j ≡ μ.st.atoms → ⊥
    fresh j l e f = omega (arith, (h.tables.bond_rows j l).second)

    tables : (t : Bool) → bonded μ ≡ t
        → Tables p q (μ.st.atoms + 1) (pick t (μ.st.bonds + 1) μ.st.bonds) μ.atoms (pick t (with_bond μ.bonds μ.st.bonds (new_bond μ.st.hub.0 μ.st.atoms (kind_of μ.pending))) μ.bonds)
    tables true e =
        bond-added (atom-added h.tables few) μ.st.hub.0 μ.st.atoms (kind_of μ.pending) (bonds_few e)
        (h.hub (some-atom μ.st.atoms (not (after_dot μ.pending)) e)) (omega arith) h.kind fresh
    tables false e = atom-added h.tables few

-- what an atom's first byte leaves
pub first_byte : {p q d i : ℕ} {μ : Memory} {l : Letter} {o : Move} → Begins l o → Ready p q d i μ → μ.st.atoms < max_atoms → (bonded μ ≡ true → μ.st.bonds < max_bonds)
    → Sane p q (turn o d) (suc i) (first_byte_of l μ)
unfolding begun
first_byte (Begins.plain {e} {x} s) h a b = sane-of (seq x) (held-described (bare_row e 0) (bare-row e s) (begun-held 1 h a b)) tt
first_byte (Begins.selected {e} {x} s t) h a b = sane-of (seq x) (held-described (bare_row e 1) (selected-row e s t) (begun-held 1 h a b)) tt
first_byte Begins.letter-a h a b = sane-of letterA (held-described (bare_row 0 0) (bare-row 0 (omega arith)) (begun-held 1 h a b)) tt
first_byte Begins.letter-t h a b = sane-of letterT (held-described (bare_row 0 0) (bare-row 0 (omega arith)) (begun-held 1 h a b)) tt
first_byte Begins.opening h a b = sane-of bracket (begun-held 0 h a b) (blank-range 0 0)

-- 5 was not told: another bond has room
pub bond-room : (μ : Memory) → (bonded μ && leb max_bonds μ.st.bonds) ≡ false → bonded μ ≡ true → μ.st.bonds < max_bonds
bond-room μ f t = leb-false max_bonds μ.st.bonds (room (bonded μ) (leb max_bonds μ.st.bonds) f t)
  where
    room : (t u : Bool) → (t && u) ≡ false → t ≡ true → u ≡ false
    room true u e f = e
    room false u e f = never f

pub atom-act : {p q d i : ℕ} {μ : Memory} (b : ℕ) {o : Move} → Begins (letter_of b) o → Ready p q d i μ → SaneAct p q (turn o d) (suc i) (atom_act b i μ)
unfolding atom_act
atom-act {p} {q} {d} {i} {μ} b {o} w h =
    by-test (SaneAct p q (turn o d) (suc i)) _ _ _ (λ e. tt) (λ e.
    by-test (SaneAct p q (turn o d) (suc i)) _ _ _ (λ f. tt) (λ f. first_byte w h (leb-false max_atoms μ.st.atoms e) (bond-room μ f)))
