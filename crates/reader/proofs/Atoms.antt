-- One atom more: a law for each way that it can go. Assumes nothing.
use Prim.Native.Nat.{ℕ, ◌≤◌, ◌<◌}
use native.Mathlib.Omega.{arith}
use mathlib.Core.Path.{◌≡◌, refl, sym, ap, ◌∙◌, subst}
use mathlib.Core.Bool.{Bool, true, false, ◌&&◌}
use mathlib.Core.List.{List}
use Rattle.std.specs.Prelude.{Result, Ok, Err}
use lib.ListN.{get_or}
use lib.IntN.{ℤ}
use lib.Dec.{leb}
use mir.Val.{to_z, bool_byte}
use mir.Syntax.{w32}
use mir.Facts.{to_z_pos}
use borrow.Author.Tests.{le-leb, lt-leb, lt-ltb, leb-false}
use Rattle.loops.specs.Loop.{pick}
use Rattle.refusal.specs.declared.Refusal.{Refusal}
use Rattle.refusal.specs.declared.Refusal.TheVariants.{Grammar, ManyAtoms, ManyBonds}
use Rattle.reading_grammar.specs.declared.Last.TheVariants.{Plain as plain}
use Rattle.reading_grammar.specs.declared.Mode.TheVariants.{Seq as seq, AtomNext as atomNext}
use Rattle.table.specs.Limits.{max_atoms, max_bonds}
use Rattle.table.specs.Rows.{with_atom, put_atom, with_bond, put_bond}
use Rattle.table.specs.declared.Atom.{Atom}
use Rattle.table.specs.declared.Bond.{Bond}
use Rattle.reading_state.specs.State.{Steering, with_next_atom}
use Rattle.reading_state.specs.declared.Fields.{Fields}
use Rattle.reading.specs.Memory.{Memory, nothing, kind_of, new_bond, begun, described, drafted}
use Rattle.reading.specs.Act.{mode_act, atom_act}
use Rattle.reading_fields.specs.Rest.{rest, memory}
use Rattle.reading_fields.specs.Spelled.{Begins, Admitted, SpellsRow, SpellsNothing, SpellsNot, Spells}
use Rattle.reading_fields.specs.declared.spelled.Spelled.{Spelled}
use Rattle.reading_fields.specs.declared.spelled.Unspelled.{Unspelled}
use Rattle.reading_fields.proofs.Rest.{rest-refused}
use Rattle.reading_fields.proofs.Bytes.{there}
use Rattle.reader.specs.declared.piece.Joint.{Joint}
use Rattle.reader.specs.declared.answer.TextRefusal.{TextRefusal}
use Rattle.reader.specs.declared.atom.AddedAtom.{AddedAtom}
use Rattle.reader.specs.Piece.{pending_of}
use Rattle.reader.specs.Added.{bonded_by, Next, HasRoom, Admits, bonds_after, AddsAtom, AddsNot}

pub bond-row : (a b k : ℕ) → a < 65536 → b < 65536 → k < 256 → ◌≡◌ {A = Bond} (record { first = to_z w32 a; second = to_z w32 b; kind = to_z w32 k }) (new_bond a b k)
bond-row a b k ha hb hk = simp (to_z_pos w32 {n = a} (omega arith), to_z_pos w32 {n = b} (omega arith), to_z_pos w32 {n = k} (omega arith))

-- ---- room for an atom
module _ (n m : ℕ) (w : Bool) (p : ℕ) where
  pub no-room-atom : max_atoms ≤ n → Admits n m w p (Err (record { refusal = ManyAtoms; at = p }))
  unfolding atom_act
  no-room-atom h = (refl, λ μ q x i. rw (q.atom, le-leb max_atoms n h))

  pub no-room-bond : n < max_atoms → (w && leb max_bonds m) ≡ true → Admits n m w p (Err (record { refusal = ManyBonds; at = p }))
  unfolding atom_act
  no-room-bond h l = (refl, λ μ q x i. rw (q.bonds, q.bond, q.atom, lt-leb max_atoms n h, l))

  pub enough-room : n < max_atoms → (w && leb max_bonds m) ≡ false → HasRoom n m w
  unfolding atom_act
  enough-room h l = record {
    atom = h;
    bond = λ e. leb-false max_bonds m (right w (leb max_bonds m) e l);
    is = λ μ q x i. rw (q.bonds, q.bond, q.atom, lt-leb max_atoms n h, l);
  }
    where
      right : (u v : Bool) → u ≡ true → (u && v) ≡ false → v ≡ false
      right true v g k = k
      right false v g k = absurd (let z : ◌≡◌ {A = ℕ} 0 1 = cc in omega arith)

-- the memory after an atom that is not bonded, and after one that is
unbonded-memory : (j : Joint) (t : Steering) (a b : List ℤ) {a' : List ℤ} (y : Atom) (o i : ℕ) (f g : Fields) → bonded_by t.atoms j ≡ false → a' ≡ with_atom a t.atoms y
    → drafted g (described y (begun o (memory t a b (pending_of j) i f))) ≡ memory (with_next_atom t o (bonds_after t false)) a' b nothing i g
unfolding begun
unbonded-memory j t a b y o i f g hb ea = rw (hb, ea)

bonded-memory : (j : Joint) (t : Steering) (a b : List ℤ) {a' b' : List ℤ} (y : Atom) (o i : ℕ) (f g : Fields) → bonded_by t.atoms j ≡ true → a' ≡ with_atom a t.atoms y
    → b' ≡ with_bond b t.bonds (new_bond t.hub.0 t.atoms (kind_of (pending_of j)))
    → drafted g (described y (begun o (memory t a b (pending_of j) i f))) ≡ memory (with_next_atom t o (bonds_after t true)) a' b' nothing i g
unfolding begun
bonded-memory j t a b y o i f g hb ea eb = rw (hb, ea, eb)

module _ (s : List ℕ) (at : ℕ) (j : Joint) (t : Steering) (a b : List ℤ) where
  -- the memory of a reading in the state
  abbrev held : ℕ → Fields → Memory
  held i f = memory t a b (pending_of j) i f

  module _ {w : Bool} (ew : w ≡ bonded_by t.atoms j) where
    next : (i : ℕ) (f : Fields) → Next (held i f) t.atoms t.bonds w
    next i f = record { atom = refl; bond = refl; bonds = sym ew }

    admitted : HasRoom t.atoms t.bonds w → (i : ℕ) (f : Fields) → Admitted s at (held i f)
    admitted r i f = r.is (held i f) (next i f) (get_or s at 0) at

    pub adds-crowded : (e : TextRefusal) → Begins s at → Admits t.atoms t.bonds w at (Err e) → AddsNot s at j t a b e.refusal e.at
    unfolding mode_act
    adds-crowded e v h = rw h.0 (record { is = λ i f. rest-refused s at atomNext (held i f) (there s at) v.within v.goes (h.1 (held i f) (next i f) (get_or s at 0) at) })

    pub adds-broken : {p : ℕ} → SpellsNot s at p → HasRoom t.atoms t.bonds w → AddsNot s at j t a b Grammar p
    adds-broken v r = record { is = λ i f. v.is (held i f) (admitted r i f) }

    module _ {y : Atom} {o p : ℕ} (v : SpellsRow s at y o p) (room : HasRoom t.atoms t.bonds w) {a' : List ℤ} (ea : a' ≡ put_atom a t.atoms y) where
      row_put : a' ≡ with_atom a t.atoms y
      unfolding put_atom
      row_put = ea ∙ rw (lt-ltb t.atoms max_atoms room.atom)

      pub adds-unbonded : w ≡ false → AddsAtom s at j t a b a' b o false p
      adds-unbonded h = record {
        within = v.within;
        later = v.later;
        atoms = room.atom;
        bonds = λ l. l;
        is = λ i f. let u = v.is (held i f) (admitted room i f) in
            record { tens = i; draft = u.0; is = u.1 ∙ ap (rest s p (seq plain)) (unbonded-memory j t a b y o i f u.0 (sym ew ∙ h) row_put) };
      }

      pub adds-bonded : {k : ℕ} {r : Bond} {b' : List ℤ} → w ≡ true → k ≡ kind_of (pending_of j) → r ≡ new_bond t.hub.0 t.atoms k → b' ≡ put_bond b t.bonds r → AddsAtom s at j t a b a' b' o true p
      unfolding put_bond
      adds-bonded {k} {r} {b'} h ek er eb = record {
        within = v.within;
        later = v.later;
        atoms = room.atom;
        bonds = λ l. omega (arith, room.bond h);
        is = λ i f. let u = v.is (held i f) (admitted room i f) in
            let eu : b' ≡ with_bond b t.bonds (new_bond t.hub.0 t.atoms (kind_of (pending_of j))) = eb ∙ rw (lt-ltb t.bonds max_bonds (room.bond h), er, ek) in
            record { tens = i; draft = u.0; is = u.1 ∙ ap (rest s p (seq plain)) (bonded-memory j t a b y o i f u.0 (sym ew ∙ h) row_put eu) };
      }

  pub adds-nothing : SpellsNothing s at → AddsNot s at j t a b Grammar at
  adds-nothing v = record { is = λ i f. v.is (held i f) }

-- ---- what the calls before said
flag-byte : (b : Bool) → pick b 1 0 ≡ bool_byte b
flag-byte true = refl
flag-byte false = refl

pub as_row : (r : Spelled) {s : List ℕ} {at : ℕ} → Spells s at (Ok r) → SpellsRow s at r.row (bool_byte r.outside) r.at
as_row r {s} {at} h = subst (λ (o : ℕ). SpellsRow s at r.row o r.at) (flag-byte r.outside) h

pub as-nothing : {s : List ℕ} {at : ℕ} → Spells s at (Err Unspelled.Nothing) → SpellsNothing s at
as-nothing h = h

pub as-broken : {s : List ℕ} {at p : ℕ} → Spells s at (Err (Unspelled.Broken p)) → SpellsNot s at p
as-broken h = h
