-- 01, The text: what a reading remembers beside the grammar, and how atoms, bonds and branches change it
use Rattle.std.specs.Prelude.{ℕ, ◌+◌, Bool, true, false, ◌&&◌, ◌||◌, not, List, ℤ, pos, eqb, leb, ltb}
use Rattle.loops.specs.Loop.{pick, each}
use Rattle.kinds.specs.Kind.{elided, turned, clash}
use Rattle.table.specs.declared.Atom.{Atom}
use Rattle.table.specs.declared.Bond.{Bond}
use Rattle.table.specs.Limits.{max_bonds}
use Rattle.table.specs.Cells.{end1, end2}
use Rattle.table.specs.Rows.{with_atom, with_bond}
use Rattle.reading_state.specs.State.{Steering}
pub use Rattle.reading_state.specs.State.{with_next_atom}
use Rattle.reading_state.specs.declared.Fields.{Fields}

-- what stands before the next atom or bridge: nothing, a dot, or a bond symbol of a kind
pub data Pending : Type 0 where
  nothing : Pending
  dotted : Pending
  symbol : ℕ → Pending

-- the state, both tables, the pending joint, the first digit after `%`, and the fields of the bracket being read
pub record Memory : Type 0 where
  pub st : Steering
  pub atoms : List ℤ
  pub bonds : List ℤ
  pub pending : Pending
  pub tens : ℕ
  pub draft : Fields

-- the kind of a bond that is made now: "none (elided)" is 0
abbrev pub kind_of : Pending → ℕ
kind_of nothing = elided
kind_of dotted = elided
kind_of (symbol k) = k

abbrev pub after_dot : Pending → Bool
after_dot nothing = false
after_dot dotted = true
after_dot (symbol k) = false

abbrev pub blank : Fields
blank = record { element = 0; selected = 0; isotope = 0; hydrogens = 0; charge = pos 0; extension = 0; mark = 0 }

-- the row of the fields of a bracket
abbrev pub row_of : Fields → Atom
row_of f =
    record {
      element = pos f.element;
      selected = pos f.selected;
      isotope = pos f.isotope;
      hydrogens = pos f.hydrogens;
      charge = f.charge;
      extension = pos f.extension;
      mark = pos f.mark;
    }

-- the row of an atom outside brackets, before its hydrogens are known
abbrev pub bare_row : ℕ → ℕ → Atom
bare_row e selected = record { element = pos e; selected = pos selected; isotope = pos 0; hydrogens = pos 0; charge = pos 0; extension = pos 0; mark = pos 0 }

abbrev pub new_bond : ℕ → ℕ → ℕ → Bond
new_bond a b k = record { first = pos a; second = pos b; kind = pos k }

-- the first end is "the lower atom number, wherever a bridge opened"; k is the kind as seen from a, and "a mark is stored as seen from the lower-numbered end"
abbrev pub between : ℕ → ℕ → ℕ → Bond
between a b k = pick (ltb a b) (new_bond a b k) (new_bond b a (turned k))

-- ---- a new atom

-- the next atom is bonded to the hub: it is not the first, and no dot stands before it
abbrev pub bonded : Memory → Bool
bonded μ = not (eqb μ.st.atoms 0) && not (after_dot μ.pending)

-- the next atom begins: it is numbered, bonded to the hub where it is to be, and becomes the hub
unfoldable pub begun : ℕ → Memory → Memory
begun x μ =
    record {
      st = with_next_atom μ.st x (pick (bonded μ) (μ.st.bonds + 1) μ.st.bonds);
      atoms = μ.atoms;
      bonds = pick (bonded μ) (with_bond μ.bonds μ.st.bonds (new_bond μ.st.hub.0 μ.st.atoms (kind_of μ.pending))) μ.bonds;
      pending = nothing;
      tens = μ.tens;
      draft = blank;
    }

-- the row of the atom that was begun last
abbrev pub described : Atom → Memory → Memory
described x μ =
    record {
      st = μ.st;
      atoms = with_atom μ.atoms μ.st.hub.0 x;
      bonds = μ.bonds;
      pending = μ.pending;
      tens = μ.tens;
      draft = μ.draft;
    }

abbrev pub awaiting : Pending → Memory → Memory
awaiting p μ = record { st = μ.st; atoms = μ.atoms; bonds = μ.bonds; pending = p; tens = μ.tens; draft = μ.draft }

abbrev pub moved : Steering → Memory → Memory
moved s μ = record { st = s; atoms = μ.atoms; bonds = μ.bonds; pending = nothing; tens = μ.tens; draft = μ.draft }

abbrev pub counting : ℕ → Memory → Memory
counting d μ = record { st = μ.st; atoms = μ.atoms; bonds = μ.bonds; pending = μ.pending; tens = d; draft = μ.draft }

abbrev pub drafted : Fields → Memory → Memory
drafted f μ = record { st = μ.st; atoms = μ.atoms; bonds = μ.bonds; pending = μ.pending; tens = μ.tens; draft = f }

-- ---- a bridge

-- the bond i joins the atoms a and b
unfoldable pub joins : List ℤ → ℕ → ℕ → ℕ → Bool
joins bonds a b i = (eqb (end1 bonds i) a && eqb (end2 bonds i) b) || (eqb (end1 bonds i) b && eqb (end2 bonds i) a)

-- one of the first m bonds joins the atoms a and b
unfoldable pub joined_already : List ℤ → ℕ → ℕ → ℕ → Bool
joined_already bonds m a b = not (each (λ i. not (joins bonds a b i)) 0 m)

-- 01's refusal of a bridge whose number was opened at the atom u with the symbol j, and closes at the hub h with k; m bonds stand: 5, 7, 8, 9, or 0
unfoldable pub close_refusal : List ℤ → ℕ → ℕ → ℕ → ℕ → ℕ → ℕ
close_refusal bonds m u h j k =
    pick (leb max_bonds m) 5 (pick (eqb u h) 7 (pick (joined_already bonds m u h) 8 (pick (clash j k) 9 0)))
