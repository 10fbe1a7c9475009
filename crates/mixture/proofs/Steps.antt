-- Each thing that a byte does, done to a memory and to the one that has n atoms, m bonds and δ bytes before it. Assumes nothing.
use Prim.Native.Nat.{ℕ, ◌+◌, ◌≤◌, ◌<◌}
use native.Mathlib.Omega.{arith}
use native.Mathlib.Decide.{ℕ_discrete}
use mathlib.Core.Path.{◌≡◌, refl, sym, ap, subst, ◌∙◌}
use mathlib.Core.Bool.{Bool, true, false, ◌&&◌, true≢false}
use mathlib.Core.List.{List}
use lib.ListN.{get_or, set}
use lib.Seq.{get_or-set_same, get_or-set_other}
use lib.IntN.{ℤ}
use lib.Dec.{leb}
use borrow.Author.Tests.{lt-leb}
use Rattle.loops.specs.Loop.{pick}
use Rattle.element.specs.declared.Letter.{Letter}
use Rattle.element.specs.declared.Letter.TheVariants.{Plain, Selected, Half, Bracket, Nothing}
use Rattle.element.specs.Lookup.{letter_of}
use Rattle.reading_grammar.specs.Fold.{keeps}
use Rattle.table.specs.declared.Atom.{Atom}
use Rattle.table.specs.Limits.{max_atoms, max_bonds}
use Rattle.table.specs.Cells.{number}
use Rattle.table.specs.Rows.{atom_row, with_bond}
use Rattle.reading.specs.Memory.{Memory, kind_of, new_bond, bare_row, bonded, begun, described}
use Rattle.reading.specs.Act.{first_byte_of, atom_act}
use Rattle.reading.proofs.Cases.{by-test}
use Rattle.reading.proofs.Atoms.{Ready, Held, begun-held}
use Rattle.mixture_rows.specs.Beside.{raised_row, BondsBeside}
use Rattle.mixture.proofs.Rows.{clear-rows, atoms-written, bonds-written}
use Rattle.mixture.proofs.Behind.{Grounded, Behind, Grown, Room, Side, Both}

-- ---- the row of the hub
module _ {n m δ p q d i p' q' d' j : ℕ} {φ : List ℕ} {μ κ : Memory} (h : Held p q d i μ) (k : Held p' q' d' j κ) (w : Behind n m δ φ μ κ) where
  described-ground : (x : Atom) → Grounded n m δ φ (described x μ) (described x κ)
  described-ground x =
      let g = w.ground in
      record {
        atoms_count = g.atoms_count;
        bonds_count = g.bonds_count;
        depth = g.depth;
        stack = g.stack;
        opener = g.opener;
        symbol = g.symbol;
        offset = g.offset;
        front = g.front;
        keys = g.keys;
        outside = g.outside;
        atom_rows = λ a l.
            atoms-written n μ.atoms κ.atoms μ.st.hub.0 κ.st.hub.0 x w.hub (omega (arith, h.tables.atom-length, h.tables.atom-room, h.tables.atoms_few, h.hub)) (omega (arith, k.tables.atom-length, k.tables.atom-room, k.tables.atoms_few, k.hub)) a (g.atom_rows a l);
        bond_rows = g.bond_rows;
      }

  pub described-behind : (x : Atom) → Behind n m δ φ (described x μ) (described x κ)
  described-behind x = record { ground = described-ground x; hub = w.hub; pending = w.pending; draft = w.draft }

-- ---- an atom begins
-- the two are bonded alike: to the hubs, with the same symbol
pub record Jointly (n : ℕ) (μ κ : Memory) : Type 0 where
  pub alike : bonded κ ≡ bonded μ
  pub hub : bonded μ ≡ true → κ.st.hub.0 ≡ n + μ.st.hub.0
  pub kind : bonded μ ≡ true → kind_of κ.pending ≡ kind_of μ.pending

module _ {n m δ p q d i p' q' d' j : ℕ} {φ : List ℕ} {μ κ : Memory} (h : Ready p q d i μ) (k : Ready p' q' d' j κ) (g : Grounded n m δ φ μ κ) (jointly : Jointly n μ κ) where
  raised-bond : (a b x : ℕ) → new_bond (n + a) (n + b) x ≡ raised_row n (new_bond a b x)
  unfolding number
  raised-bond a b x = refl

  module _ (atom-room : n + (μ.st.atoms + 1) ≤ max_atoms) (bonds_room : m + pick (bonded μ) (μ.st.bonds + 1) μ.st.bonds ≤ max_bonds) where
    bonds-more : (t u : Bool) → u ≡ t → pick u (κ.st.bonds + 1) κ.st.bonds ≡ m + pick t (μ.st.bonds + 1) μ.st.bonds
    bonds-more true true e = let c = g.bonds_count in omega arith
    bonds-more true false e = absurd (true≢false (sym e))
    bonds-more false true e = absurd (true≢false e)
    bonds-more false false e = g.bonds_count

    flags : (x a : ℕ) → a < μ.st.atoms + 1 → get_or (set κ.st.outside κ.st.atoms x) (n + a) 0 ≡ get_or (set μ.st.outside μ.st.atoms x) a 0
    flags x a l = split (ℕ_discrete a μ.st.atoms)
      where
        split : Dec (a ≡ μ.st.atoms) → get_or (set κ.st.outside κ.st.atoms x) (n + a) 0 ≡ get_or (set μ.st.outside μ.st.atoms x) a 0
        split (yes e) =
            let c = g.atoms_count in
            let f : n + a ≡ κ.st.atoms = omega arith in
            ap (λ (v : ℕ). get_or (set κ.st.outside κ.st.atoms x) v 0) f
            ∙ get_or-set_same κ.st.outside κ.st.atoms x 0 (omega (arith, k.steering.outside-length))
            ∙ sym (get_or-set_same μ.st.outside μ.st.atoms x 0 (omega (arith, h.steering.outside-length)))
            ∙ ap (λ (v : ℕ). get_or (set μ.st.outside μ.st.atoms x) v 0) (sym e)
        split (no f) =
            let c = g.atoms_count in
            get_or-set_other κ.st.outside κ.st.atoms (n + a) x 0 (λ e. f (omega arith)) ∙ g.outside a (omega arith) ∙ sym (get_or-set_other μ.st.outside μ.st.atoms a x 0 f)

    rows : (a : ℕ) → a < μ.st.atoms + 1 → atom_row κ.atoms (n + a) ≡ atom_row μ.atoms a
    rows a l = split (ℕ_discrete a μ.st.atoms)
      where
        split : Dec (a ≡ μ.st.atoms) → atom_row κ.atoms (n + a) ≡ atom_row μ.atoms a
        split (yes e) =
            let c = g.atoms_count in
            clear-rows μ.atoms κ.atoms a (n + a) (λ v s. h.tables.atoms-clear v (omega arith)) (λ v s. k.tables.atoms-clear v (omega arith))
        split (no f) = g.atom_rows a (omega arith)

    wires : (t u : Bool) → bonded μ ≡ t → u ≡ t
        → let c : List ℤ = pick u (with_bond κ.bonds κ.st.bonds (new_bond κ.st.hub.0 κ.st.atoms (kind_of κ.pending))) κ.bonds in
        BondsBeside n m (pick t (μ.st.bonds + 1) μ.st.bonds) c (pick t (with_bond μ.bonds μ.st.bonds (new_bond μ.st.hub.0 μ.st.atoms (kind_of μ.pending))) μ.bonds) c
    wires true true b e =
        let bc = g.bonds_count in
        let fits : m + (μ.st.bonds + 1) ≤ max_bonds = subst (λ (t : Bool). m + pick t (μ.st.bonds + 1) μ.st.bonds ≤ max_bonds) b bonds_room in
        bonds-written g.bond_rows κ.st.bonds (new_bond μ.st.hub.0 μ.st.atoms (kind_of μ.pending)) (new_bond κ.st.hub.0 κ.st.atoms (kind_of κ.pending)) bc
        ((λ v. new_bond (jointly.hub b v) (g.atoms_count v) (jointly.kind b v)) ∙ raised-bond μ.st.hub.0 μ.st.atoms (kind_of μ.pending))
        (omega (arith, h.tables.bond-length, h.tables.bond-room)) (omega (arith, k.tables.bond-length, k.tables.bond-room))
    wires true false b e = absurd (true≢false (sym e))
    wires false true b e = absurd (true≢false e)
    wires false false b e = g.bond_rows

    begun-behind : (x : ℕ) → Behind n m δ φ (begun x μ) (begun x κ)
    unfolding begun
    begun-behind x =
        record {
          ground = record {
            atoms_count = let c = g.atoms_count in omega arith;
            bonds_count = bonds-more (bonded μ) (bonded κ) jointly.alike;
            depth = g.depth;
            stack = g.stack;
            opener = g.opener;
            symbol = g.symbol;
            offset = g.offset;
            front = g.front;
            keys = g.keys;
            outside = flags x;
            atom_rows = rows;
            bond_rows = wires (bonded μ) (bonded κ) refl jointly.alike;
          };
          hub = g.atoms_count;
          pending = refl;
          draft = refl;
        }

    few : μ.st.atoms < max_atoms
    few = omega arith

    few-behind : κ.st.atoms < max_atoms
    few-behind = let c = g.atoms_count in omega arith

    bonds_few : bonded μ ≡ true → μ.st.bonds < max_bonds
    bonds_few b =
        let fits : m + (μ.st.bonds + 1) ≤ max_bonds = subst (λ (t : Bool). m + pick t (μ.st.bonds + 1) μ.st.bonds ≤ max_bonds) b bonds_room in
        omega arith

    few-bonds-behind : bonded κ ≡ true → κ.st.bonds < max_bonds
    few-bonds-behind b =
        let c = g.bonds_count in
        let fits : m + (μ.st.bonds + 1) ≤ max_bonds = subst (λ (t : Bool). m + pick t (μ.st.bonds + 1) μ.st.bonds ≤ max_bonds) (sym jointly.alike ∙ b) bonds_room in
        omega arith

    letter-behind : (x : Atom) → Behind n m δ φ (described x (begun 1 μ)) (described x (begun 1 κ))
    letter-behind x = described-behind (begun-held 1 h few bonds_few) (begun-held 1 k few-behind few-bonds-behind) (begun-behind 1) x

    first-behind : (l : Letter) → (l ≡ Nothing → ⊥) → Behind n m δ φ (first_byte_of l μ) (first_byte_of l κ)
    first-behind (Plain e) f = letter-behind (bare_row e 0)
    first-behind (Selected e) f = letter-behind (bare_row e 1)
    first-behind Half f = letter-behind (bare_row 0 0)
    first-behind Bracket f = begun-behind 0
    first-behind Nothing f = absurd (f refl)

    -- neither 4 nor 5 is told
    full : (t : Bool) → bonded κ ≡ t → (t && leb max_bonds κ.st.bonds) ≡ false
    full true b = lt-leb max_bonds κ.st.bonds (few-bonds-behind b)
    full false b = refl

    taken : (b o : ℕ) → atom_act b o κ ≡ keeps (first_byte_of (letter_of b) κ)
    unfolding atom_act
    taken b o = rw (lt-leb max_atoms κ.st.atoms few-behind, full (bonded κ) refl)

  -- the counts after the first byte of an atom
  record Counts (ν : Memory) : Type 0 where
    pub atoms : ν.st.atoms ≡ μ.st.atoms + 1
    pub bonds : ν.st.bonds ≡ pick (bonded μ) (μ.st.bonds + 1) μ.st.bonds
    pub keys : ν.st.keys ≡ μ.st.keys

  counts : (l : Letter) → (l ≡ Nothing → ⊥) → Counts (first_byte_of l μ)
  unfolding begun
  counts (Plain e) f = record { atoms = refl; bonds = refl; keys = refl }
  counts (Selected e) f = record { atoms = refl; bonds = refl; keys = refl }
  counts Half f = record { atoms = refl; bonds = refl; keys = refl }
  counts Bracket f = record { atoms = refl; bonds = refl; keys = refl }
  counts Nothing f = absurd (f refl)

  more : (t : Bool) → μ.st.bonds ≤ pick t (μ.st.bonds + 1) μ.st.bonds
  more true = omega arith
  more false = omega arith

  -- a byte that begins an atom
  pub atom-both : (b o e : ℕ) → (letter_of b ≡ Nothing → ⊥) → Both n m δ φ μ (atom_act b o μ) (atom_act b e κ)
  unfolding atom_act
  atom-both b o e f =
      by-test (λ a. Both n m δ φ μ a (atom_act b e κ)) (leb max_atoms μ.st.atoms) _ _ (λ x. tt) (λ x.
      by-test (λ a. Both n m δ φ μ a (atom_act b e κ)) (bonded μ && leb max_bonds μ.st.bonds) _ _ (λ y. tt) (λ y. (grown, side)))
    where
      c : Counts (first_byte_of (letter_of b) μ)
      c = counts (letter_of b) f

      grown : Grown μ (first_byte_of (letter_of b) μ)
      grown =
          record {
            atoms = omega (arith, c.atoms);
            bonds = omega (arith, c.bonds, more (bonded μ));
            clear = λ z x l. ap (λ (v : List ℕ). get_or v x 0) c.keys ∙ z x (omega (arith, c.bonds, more (bonded μ)));
          }

      side : Room n m (first_byte_of (letter_of b) μ) → Side n m δ φ (first_byte_of (letter_of b) μ) (atom_act b e κ)
      side r =
          let ra : n + (μ.st.atoms + 1) ≤ max_atoms = omega (arith, r.atoms, c.atoms) in
          let rb : m + pick (bonded μ) (μ.st.bonds + 1) μ.st.bonds ≤ max_bonds = omega (arith, r.bonds, c.bonds) in
          subst (Side n m δ φ (first_byte_of (letter_of b) μ)) (sym (taken ra rb b e)) (first-behind ra rb (letter_of b) f)
