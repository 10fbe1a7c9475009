-- Reading into tables that end after some cells is reading into longer ones and cutting these at the end. Assumes nothing.
use Prim.Native.Nat.{ℕ, zero, suc, ◌+◌, ◌-◌, ◌*◌, ◌≤◌}
use native.Mathlib.Omega.{arith}
use native.Mathlib.Nat.{add-zero, le_of_suc-le-suc}
use mathlib.Core.Path.{◌≡◌, refl, sym, ap, subst, ◌∙◌}
use mathlib.Core.Bool.{Bool, true, false, ◌&&◌, not}
use mathlib.Core.List.{List, [], ◌∷◌}
use lib.ListN.{length, get_or, set, take, replicate}
use lib.Seq.{sets, get_or-take}
use lib.IntN.{ℤ, pos}
use lib.Dec.{eqb, leb}
use Rattle.loops.specs.Loop.{pick}
use Rattle.loops.proofs.Loops.{each_same}
use Rattle.element.specs.declared.Letter.{Letter}
use Rattle.element.specs.declared.Letter.TheVariants.{Plain, Selected, Half, Bracket, Nothing}
use Rattle.element.specs.Symbols.{among, listed, symbols}
use Rattle.element.specs.Lookup.{letter_of}
use Rattle.kinds.specs.Kind.{meet, clash}
use Rattle.reading_grammar.specs.Grammar.{nonzero, digits, several, bond_symbols, signs}
use Rattle.reading_grammar.specs.declared.Last.{Last}
use Rattle.reading_grammar.specs.declared.Last.TheVariants.{Plain as plain, AfterC as afterC, AfterB as afterB}
use Rattle.reading_grammar.specs.declared.Mode.{Mode}
use Rattle.reading_grammar.specs.declared.Mode.TheVariants.{Seq as seq, Bond as bond, AtomNext as atomNext, Inside as inside, Percent as percent, Percent1 as percent1, LetterA as letterA, LetterT as letterT, Bracket as bracket, Isotope as isotope, Symbol1 as symbol1, Symbolled as symbolled, At1 as at1, At2 as at2, Hydrogen as hydrogen, Hydrogens as hydrogens, Sign as sign, Charged as charged, Colon as colon, Extension as extension}
use Rattle.reading_grammar.specs.declared.MachineState.{MachineState}
use Rattle.reading_grammar.specs.declared.MachineState.TheVariants.{Dead as dead, Start as start, At as at}
use Rattle.reading_grammar.specs.Machine.{alive, step}
use Rattle.reading_grammar.specs.Fold.{keeps, refuses, Reading, going, halted, after, feed, read}
use Rattle.table.specs.declared.Atom.{Atom}
use Rattle.table.specs.declared.Bond.{Bond}
use Rattle.table.specs.Limits.{max_atoms, max_bonds, atom_cells, bond_cells, FIRST, SECOND}
use Rattle.table.specs.Cells.{number, bond_place, end1, end2}
use Rattle.table.specs.Rows.{cells_of, bond_cells_of, with_atom, with_bond}
use Rattle.ids.specs.Limits.{max_depth}
use Rattle.reading_state.specs.State.{Steering, started, opened, closed, keys_after, bridged, joined}
use Rattle.reading.specs.Memory.{Memory, kind_of, row_of, bare_row, new_bond, between, bonded, begun, described, moved, joins, joined_already, close_refusal}
use Rattle.reading.specs.Act.{Acts, first_byte_of, atom_act, or_atom, letter_act, bridge_bond, or_refuse, bridge_act, branch_act, close_act, charge_act, hydrogen_act, mark_act, mode_act, act}
use Rattle.reading.specs.Read.{zeros, beginning}
use Rattle.reading.specs.Conditions.{bytes_read}
use Rattle.reading.proofs.Cases.{by-test}
use Rattle.reading_short.specs.Short.{Short, cut, cut_reading}

-- ---- a list that is cut

-- an edit of one cell, before the end or past it
pub take-set : {A : Type 0} (n : ℕ) (l : List A) (i : ℕ) (a : A) → take n (set l i a) ≡ set (take n l) i a
take-set zero l i a = refl
take-set (suc n) [] i a = refl
take-set (suc n) (x ∷ xs) zero a = refl
take-set {A = A} (suc n) (x ∷ xs) (suc i) a = ap {B = List A} (λ r. x ∷ r) (take-set n xs i a)

-- an edit of several cells
pub take-sets : {A : Type 0} (n : ℕ) (l : List A) (i : ℕ) (vs : List A) → take n (sets l i vs) ≡ sets (take n l) i vs
take-sets n l i [] = refl
take-sets {A = A} n l i (a ∷ vs) = take-sets n (set l i a) (suc i) vs ∙ ap (λ (r : List A). sets r (suc i) vs) (take-set n l i a)

-- an atom's row
pub take-with-atom : (n : ℕ) (t : List ℤ) (a : ℕ) (x : Atom) → take n (with_atom t a x) ≡ with_atom (take n t) a x
unfolding with_atom
take-with-atom n t a x = take-sets n t (atom_cells * a) (cells_of x)

-- a bond's row
pub take-with-bond : (n : ℕ) (t : List ℤ) (b : ℕ) (x : Bond) → take n (with_bond t b x) ≡ with_bond (take n t) b x
unfolding with_bond
take-with-bond n t b x = take-sets n t (bond_cells * b) (bond_cells_of x)

-- so many times the same, of more times the same
pub take-replicate : {A : Type 0} (p n : ℕ) (x : A) → p ≤ n → take p (replicate n x) ≡ replicate p x
take-replicate zero n x l = refl
take-replicate (suc p) zero x l = absurd (omega arith)
take-replicate {A = A} (suc p) (suc n) x l = ap {B = List A} (λ r. x ∷ r) (take-replicate p n x (le_of_suc-le-suc l))

-- ---- what an action leaves

-- its tables cut
abbrev pub cut_act : ℕ → ℕ → Acts → Acts
cut_act p q (keeps μ) = keeps (cut p q μ)
cut_act p q (refuses c k) = refuses c k

module _ (p q : ℕ) where
  -- a choice
  cut-pick : (t : Bool) (a b c d : Acts) → c ≡ cut_act p q a → d ≡ cut_act p q b → pick t c d ≡ cut_act p q (pick t a b)
  cut-pick true a b c d e f = e
  cut-pick false a b c d e f = f

  -- an atom's first byte, or else
  cut-or_atom : (l : Letter) (a b c d : Acts) → c ≡ cut_act p q a → d ≡ cut_act p q b → or_atom l c d ≡ cut_act p q (or_atom l a b)
  cut-or_atom (Plain x) a b c d e f = e
  cut-or_atom (Selected x) a b c d e f = e
  cut-or_atom Half a b c d e f = e
  cut-or_atom Bracket a b c d e f = e
  cut-or_atom Nothing a b c d e f = f

  -- a refusal, or else
  cut-or_refuse : (c k : ℕ) (μ ν : Memory) → ν ≡ cut p q μ → or_refuse c k ν ≡ cut_act p q (or_refuse c k μ)
  cut-or_refuse zero k μ ν e = λ i. keeps (e i)
  cut-or_refuse (suc c) k μ ν e = refl

  -- one of two memories
  cut-either : (t : Bool) (μ ν κ τ : Memory) → κ ≡ cut p q μ → τ ≡ cut p q ν → pick t κ τ ≡ cut p q (pick t μ ν)
  cut-either true μ ν κ τ e f = e
  cut-either false μ ν κ τ e f = f

-- ---- the edits

-- a memory with other tables
abbrev retabled : Memory → List ℤ → List ℤ → Memory
retabled μ t u = record { st = μ.st; atoms = t; bonds = u; pending = μ.pending; tens = μ.tens; draft = μ.draft }

module _ (p q : ℕ) (μ : Memory) where
  -- an atom's row is written
  cut-described : (x : Atom) → described x (cut p q μ) ≡ cut p q (described x μ)
  cut-described x = λ j. retabled μ (sym (take-with-atom p μ.atoms μ.st.hub.0 x) j) (take q μ.bonds)

  -- the bond that a bridge closes
  cut-bridge-bond : (r : ℕ) → bridge_bond r (cut p q μ) ≡ cut p q (bridge_bond r μ)
  cut-bridge-bond r = λ j. retabled μ (take p μ.atoms) (sym (take-with-bond q μ.bonds μ.st.bonds (between (get_or μ.st.opener r 0 - 1) μ.st.hub.0 (meet (get_or μ.st.symbol r 0) (kind_of μ.pending)))) j)

  -- an atom begins
  cut-begun : (x : ℕ) → begun x (cut p q μ) ≡ cut p q (begun x μ)
  unfolding begun
  cut-begun x = λ j. retabled (begun x μ) (take p μ.atoms) (split (bonded μ) j)
    where
      row : Bond
      row = new_bond μ.st.hub.0 μ.st.atoms (kind_of μ.pending)

      split : (t : Bool) → pick t (with_bond (take q μ.bonds) μ.st.bonds row) (take q μ.bonds) ≡ take q (pick t (with_bond μ.bonds μ.st.bonds row) μ.bonds)
      split true = sym (take-with-bond q μ.bonds μ.st.bonds row)
      split false = refl

module _ (p q : ℕ) (μ : Memory) where
  -- a letter outside brackets
  cut-letter : (x : Atom) → described x (begun 1 (cut p q μ)) ≡ cut p q (described x (begun 1 μ))
  cut-letter x = (λ j. described x (cut-begun p q μ 1 j)) ∙ cut-described p q (begun 1 μ) x

  -- an atom's first byte
  cut-first : (l : Letter) → first_byte_of l (cut p q μ) ≡ cut p q (first_byte_of l μ)
  cut-first (Plain e) = cut-letter (bare_row e 0)
  cut-first (Selected e) = cut-letter (bare_row e 1)
  cut-first Half = cut-letter (bare_row 0 0)
  cut-first Bracket = cut-begun p q μ 0
  cut-first Nothing = refl

  -- an atom begins, or is refused
  cut-atom : (b i : ℕ) → atom_act b i (cut p q μ) ≡ cut_act p q (atom_act b i μ)
  unfolding atom_act
  cut-atom b i = cut-pick p q (leb max_atoms μ.st.atoms) _ _ _ _ refl (cut-pick p q (bonded μ && leb max_bonds μ.st.bonds) _ _ _ _ refl (λ j. keeps (cut-first (letter_of b) j)))

  -- a second letter
  cut-second : (x : Atom) → keeps (described x (cut p q μ)) ≡ cut_act p q (keeps (described x μ))
  cut-second x = λ j. keeps (cut-described p q μ x j)

  -- the second letter of an element of two outside brackets, where the byte is one
  cut-last : (x : Last) → letter_act x (cut p q μ) ≡ cut_act p q (letter_act x μ)
  cut-last plain = refl
  cut-last afterC = cut-second (bare_row 17 0)
  cut-last afterB = cut-second (bare_row 35 0)

  -- a branch opens, or is refused
  cut-branch : (i : ℕ) → branch_act i (cut p q μ) ≡ cut_act p q (branch_act i μ)
  unfolding branch_act
  cut-branch i = cut-pick p q (leb max_depth μ.st.depth) (refuses 6 i) (keeps (moved (opened μ.st) μ)) _ _ refl refl

  -- ---- in a bracket

  -- `]`
  cut-close : (b : ℕ) → close_act b (cut p q μ) ≡ cut_act p q (close_act b μ)
  cut-close b = λ j. keeps (cut-either p q (eqb b 93) (described (row_of μ.draft) μ) μ _ _ (cut-described p q μ (row_of μ.draft)) refl j)

  -- a sign, or `]`
  cut-charge : (b : ℕ) → charge_act b (cut p q μ) ≡ cut_act p q (charge_act b μ)
  cut-charge b = cut-pick p q (among b signs) _ _ _ _ refl (cut-close b)

  -- `H`, or what may follow it
  cut-hydrogen : (b : ℕ) → hydrogen_act b (cut p q μ) ≡ cut_act p q (hydrogen_act b μ)
  cut-hydrogen b = cut-pick p q (eqb b 72) _ _ _ _ refl (cut-charge b)

  -- `@`, or what may follow it
  cut-mark : (k b : ℕ) → mark_act k b (cut p q μ) ≡ cut_act p q (mark_act k b μ)
  cut-mark k b = cut-pick p q (eqb b 64) _ _ _ _ refl (cut-hydrogen b)

-- ---- a bridge reads the bonds that stand

-- a bond that stands before the end
cut-joins : (q : ℕ) (t : List ℤ) (a b k : ℕ) → bond_cells * suc k ≤ q → joins (take q t) a b k ≡ joins t a b k
unfolding joins
cut-joins q t a b k l =
    let e : end1 (take q t) k ≡ end1 t k = ap number (get_or-take q t (bond_place k FIRST) (pos 0) (omega arith)) in
    let f : end2 (take q t) k ≡ end2 t k = ap number (get_or-take q t (bond_place k SECOND) (pos 0) (omega arith)) in
    rw (e, f) refl

-- whether two atoms are joined already by a bond that stands
cut-joined : (q : ℕ) (t : List ℤ) (m a b : ℕ) → bond_cells * m ≤ q → joined_already (take q t) m a b ≡ joined_already t m a b
unfolding joined_already
cut-joined q t m a b l = ap not (each_same _ _ m (λ k h. ap not (cut-joins q t a b k (omega arith))))

-- whether a bridge is refused
cut-refusal : (q : ℕ) (t : List ℤ) (m u h j k : ℕ) → bond_cells * m ≤ q → close_refusal (take q t) m u h j k ≡ close_refusal t m u h j k
unfolding close_refusal
cut-refusal q t m u h j k l = ap (λ (x : Bool). pick (leb max_bonds m) 5 (pick (eqb u h) 7 (pick x 8 (pick (clash j k) 9 0)))) (cut-joined q t m u h l)

-- the refusal of the bridge r that closes
abbrev refusal : ℕ → Memory → ℕ
refusal r μ = close_refusal μ.bonds μ.st.bonds (get_or μ.st.opener r 0 - 1) μ.st.hub.0 (get_or μ.st.symbol r 0) (kind_of μ.pending)

module _ (p q : ℕ) (μ : Memory) (room : bond_cells * μ.st.bonds ≤ q) where
  -- a bridge opens or closes, or is refused
  cut-bridge : (r o : ℕ) → bridge_act r o (cut p q μ) ≡ cut_act p q (bridge_act r o μ)
  unfolding bridge_act
  cut-bridge r o =
      cut-pick p q (eqb (get_or μ.st.opener r 0) 0) _ _ _ _ refl
      (ap (λ (c : ℕ). or_refuse c o (moved next (bridge_bond r (cut p q μ)))) (cut-refusal q μ.bonds μ.st.bonds _ _ _ _ room)
      ∙ cut-or_refuse p q (refusal r μ) o (moved next (bridge_bond r μ)) _ (λ j. moved next (cut-bridge-bond p q μ r j)))
    where
      next : Steering
      next = joined μ.st r (kind_of μ.pending) o

  -- ---- one byte

  -- in a mode
  cut-mode : (m : Mode) (b i : ℕ) → mode_act m b i (cut p q μ) ≡ cut_act p q (mode_act m b i μ)
  unfolding mode_act
  cut-mode (seq x) b i =
      cut-or_atom p q (letter_of b) _ _ _ _ (cut-atom p q μ b i)
      (cut-pick p q (among b nonzero) _ _ _ _ (cut-bridge _ i)
      (cut-pick p q (eqb b 37) _ _ _ _ refl
      (cut-pick p q (among b bond_symbols) _ _ _ _ refl
      (cut-pick p q (eqb b 46) _ _ _ _ refl
      (cut-pick p q (eqb b 40) _ _ _ _ (cut-branch p q μ i)
      (cut-pick p q (eqb b 41) _ _ _ _ refl (cut-last p q μ x)))))))
  cut-mode bond b i = cut-or_atom p q (letter_of b) _ _ _ _ (cut-atom p q μ b i) (cut-pick p q (among b nonzero) _ _ _ _ (cut-bridge _ i) refl)
  cut-mode atomNext b i = cut-atom p q μ b i
  cut-mode inside b i = cut-or_atom p q (letter_of b) _ _ _ _ (cut-atom p q μ b i) refl
  cut-mode percent b i = refl
  cut-mode percent1 b i = cut-bridge _ (i - 2)
  cut-mode letterA b i = cut-second p q μ (bare_row 85 0)
  cut-mode letterT b i = cut-second p q μ (bare_row 117 0)
  cut-mode bracket b i = refl
  cut-mode (isotope n) b i = refl
  cut-mode (symbol1 a) b i = cut-pick p q (listed (a ∷ b ∷ []) symbols) _ _ _ _ refl (cut-mark p q μ 1 b)
  cut-mode symbolled b i = cut-mark p q μ 1 b
  cut-mode at1 b i = cut-mark p q μ 2 b
  cut-mode at2 b i = cut-hydrogen p q μ b
  cut-mode hydrogen b i = cut-pick p q (among b several) _ _ _ _ refl (cut-charge p q μ b)
  cut-mode hydrogens b i = cut-charge p q μ b
  cut-mode sign b i = cut-pick p q (among b several) _ _ _ _ refl (cut-close p q μ b)
  cut-mode charged b i = cut-close p q μ b
  cut-mode colon b i = refl
  cut-mode (extension n) b i = cut-pick p q (among b digits) _ _ _ _ refl (cut-close p q μ b)

  -- in any state: what a byte does to tables that are cut is what it does to the tables, cut
  pub cut-act : (σ : MachineState) (b i : ℕ) → act σ b i (cut p q μ) ≡ cut_act p q (act σ b i μ)
  unfolding act
  cut-act dead b i = refl
  cut-act start b i = cut-atom p q μ b i
  cut-act (at m d) b i = cut-mode m b i

-- ---- how many atoms and bonds there are

-- at most n atoms and m bonds
abbrev Few : ℕ → ℕ → Memory → Type 0
Few n m μ = (μ.st.atoms ≤ n) × (μ.st.bonds ≤ m)

-- what an action keeps has no more
abbrev FewAct : ℕ → ℕ → Acts → Type 0
FewAct n m (keeps μ) = Few n m μ
FewAct n m (refuses c k) = Unit {0}

-- an atom's first byte, or else
few-or_atom : (n m : ℕ) (l : Letter) (a b : Acts) → FewAct n m a → FewAct n m b → FewAct n m (or_atom l a b)
few-or_atom n m (Plain x) a b f g = f
few-or_atom n m (Selected x) a b f g = f
few-or_atom n m Half a b f g = f
few-or_atom n m Bracket a b f g = f
few-or_atom n m Nothing a b f g = g

module _ (n m : ℕ) (μ : Memory) (few : Few n m μ) where
  -- after a byte
  abbrev Then : Acts → Type 0
  Then a = FewAct (suc n) (suc m) a

  -- the counts are as they were
  few-still : Few (suc n) (suc m) μ
  few-still = (omega (arith, few.0), omega (arith, few.1))

  -- an atom begins
  few-begun : (x : ℕ) → Few (suc n) (suc m) (begun x μ)
  unfolding begun
  few-begun x = (
    omega (arith, few.0),
    by-test (λ k. k ≤ suc m) (bonded μ) (μ.st.bonds + 1) μ.st.bonds (λ e. omega (arith, few.1)) (λ e. omega (arith, few.1)),
  )

  -- an atom's first byte
  few-first : (l : Letter) → Few (suc n) (suc m) (first_byte_of l μ)
  few-first (Plain e) = few-begun 1
  few-first (Selected e) = few-begun 1
  few-first Half = few-begun 1
  few-first Bracket = few-begun 0
  few-first Nothing = few-still

  -- an atom begins, or is refused
  few-atom : (b i : ℕ) → Then (atom_act b i μ)
  unfolding atom_act
  few-atom b i =
      by-test Then (leb max_atoms μ.st.atoms) _ _ (λ e. tt) (λ e.
      by-test Then (bonded μ && leb max_bonds μ.st.bonds) _ _ (λ f. tt) (λ f. few-first (letter_of b)))

  -- the state when a bridge opens or closes
  few-joined : (r k o : ℕ) → ((joined μ.st r k o).atoms ≤ suc n) × ((joined μ.st r k o).bonds ≤ suc m)
  unfolding joined
  few-joined r k o =
      by-test (λ s. (s.atoms ≤ suc n) × (s.bonds ≤ suc m)) (eqb (get_or μ.st.opener r 0) 0)
      (bridged μ.st r (μ.st.hub.0 + 1) k o μ.st.bonds μ.st.keys)
      (bridged μ.st r 0 0 0 (μ.st.bonds + 1) (keys_after μ.st r o))
      (λ e. few-still)
      (λ e. (few-still.0, omega (arith, few.1)))

  -- a refusal, or else
  few-or_refuse : (c k : ℕ) (ν : Memory) → Few (suc n) (suc m) ν → Then (or_refuse c k ν)
  few-or_refuse zero k ν f = f
  few-or_refuse (suc c) k ν f = tt

  -- a bridge opens or closes, or is refused
  few-bridge : (r o : ℕ) → Then (bridge_act r o μ)
  unfolding bridge_act
  few-bridge r o =
      by-test Then (eqb (get_or μ.st.opener r 0) 0) _ _
      (λ e. few-joined r (kind_of μ.pending) o)
      (λ e. few-or_refuse (refusal r μ) o (moved (joined μ.st r (kind_of μ.pending) o) (bridge_bond r μ)) (few-joined r (kind_of μ.pending) o))

  -- a branch opens, or is refused
  few-branch : (i : ℕ) → Then (branch_act i μ)
  unfolding branch_act opened
  few-branch i = by-test Then (leb max_depth μ.st.depth) _ _ (λ e. tt) (λ e. few-still)

  -- a branch closes
  few-closed : Then (keeps (moved (closed μ.st) μ))
  unfolding closed
  few-closed = few-still

  -- a second letter outside brackets, where the byte is one
  few-last : (x : Last) → Then (letter_act x μ)
  few-last plain = few-still
  few-last afterC = few-still
  few-last afterB = few-still

  -- ---- in a bracket

  -- `]`
  few-close : (b : ℕ) → Then (close_act b μ)
  few-close b = by-test (Few (suc n) (suc m)) (eqb b 93) (described (row_of μ.draft) μ) μ (λ e. few-still) (λ e. few-still)

  -- a sign, or `]`
  few-charge : (b : ℕ) → Then (charge_act b μ)
  few-charge b = by-test Then (among b signs) _ _ (λ e. few-still) (λ e. few-close b)

  -- `H`, or what may follow it
  few-hydrogen : (b : ℕ) → Then (hydrogen_act b μ)
  few-hydrogen b = by-test Then (eqb b 72) _ _ (λ e. few-still) (λ e. few-charge b)

  -- `@`, or what may follow it
  few-mark : (k b : ℕ) → Then (mark_act k b μ)
  few-mark k b = by-test Then (eqb b 64) _ _ (λ e. few-still) (λ e. few-hydrogen b)

  -- in a mode
  few-mode : (o : Mode) (b i : ℕ) → Then (mode_act o b i μ)
  unfolding mode_act
  few-mode (seq x) b i =
      few-or_atom (suc n) (suc m) (letter_of b) _ _ (few-atom b i)
      (by-test Then (among b nonzero) _ _ (λ e. few-bridge _ i) (λ e.
      by-test Then (eqb b 37) _ _ (λ e. few-still) (λ e.
      by-test Then (among b bond_symbols) _ _ (λ e. few-still) (λ e.
      by-test Then (eqb b 46) _ _ (λ e. few-still) (λ e.
      by-test Then (eqb b 40) _ _ (λ e. few-branch i) (λ e.
      by-test Then (eqb b 41) _ _ (λ e. few-closed) (λ e. few-last x)))))))
  few-mode bond b i = few-or_atom (suc n) (suc m) (letter_of b) _ _ (few-atom b i) (by-test Then (among b nonzero) _ _ (λ e. few-bridge _ i) (λ e. few-still))
  few-mode atomNext b i = few-atom b i
  few-mode inside b i = few-or_atom (suc n) (suc m) (letter_of b) _ _ (few-atom b i) few-still
  few-mode percent b i = few-still
  few-mode percent1 b i = few-bridge _ (i - 2)
  few-mode letterA b i = few-still
  few-mode letterT b i = few-still
  few-mode bracket b i = few-still
  few-mode (isotope k) b i = few-still
  few-mode (symbol1 a) b i = by-test Then (listed (a ∷ b ∷ []) symbols) _ _ (λ e. few-still) (λ e. few-mark 1 b)
  few-mode symbolled b i = few-mark 1 b
  few-mode at1 b i = few-mark 2 b
  few-mode at2 b i = few-hydrogen b
  few-mode hydrogen b i = by-test Then (among b several) _ _ (λ e. few-still) (λ e. few-charge b)
  few-mode hydrogens b i = few-charge b
  few-mode sign b i = by-test Then (among b several) _ _ (λ e. few-still) (λ e. few-close b)
  few-mode charged b i = few-close b
  few-mode colon b i = few-still
  few-mode (extension k) b i = by-test Then (among b digits) _ _ (λ e. few-still) (λ e. few-close b)

  -- a byte adds at most one of either
  few-act : (σ : MachineState) (b i : ℕ) → Then (act σ b i μ)
  unfolding act
  few-act dead b i = few-still
  few-act start b i = few-atom b i
  few-act (at o d) b i = few-mode o b i

-- the same of what an action keeps
pub one_more : (σ : MachineState) (b i : ℕ) (μ : Memory) {ν : Memory} → act σ b i μ ≡ keeps ν → (ν.st.atoms ≤ μ.st.atoms + 1) × (ν.st.bonds ≤ μ.st.bonds + 1)
one_more σ b i μ e =
    let f = subst (FewAct (suc μ.st.atoms) (suc μ.st.bonds)) e (few-act μ.st.atoms μ.st.bonds μ (omega arith, omega arith) σ b i) in
    (omega (arith, f.0), omega (arith, f.1))

-- ---- over a text

-- at most as many of either as bytes were read
abbrev FewReading : ℕ → Reading Memory → Type 0
FewReading n (going σ μ) = Few n n μ
FewReading n (halted c k) = Unit {0}

-- what an action leaves
few-after : (n : ℕ) (σ : MachineState) (a : Acts) → FewAct n n a → FewReading n (after σ a)
few-after n σ (keeps μ) f = f
few-after n σ (refuses c k) f = tt

-- a byte more
few-feed : (i : ℕ) (r : Reading Memory) → FewReading i r → (b : ℕ) → FewReading (suc i) (feed act i r b)
unfolding feed
few-feed i (going σ μ) f b =
    by-test (FewReading (suc i)) (alive (step σ b)) (after (step σ b) (act σ b i μ)) (halted 3 i)
    (λ e. few-after (suc i) (step σ b) (act σ b i μ) (few-act i i μ f σ b i))
    (λ e. tt)
few-feed i (halted c k) f b = tt

-- all bytes of a text more
few_on : (s : List ℕ) (i : ℕ) (r : Reading Memory) → FewReading i r → FewReading (i + length s) (read act i r s)
unfolding read
few_on [] i r f = rw (add-zero i) f
few_on (b ∷ s) i r f =
    let e : i + suc (length s) ≡ suc i + length s = omega arith in
    rw e (few_on s (suc i) (feed act i r b) (few-feed i r f b))

-- before the first byte there is none
few-beginning : (atoms bonds : List ℤ) → Few 0 0 (beginning atoms bonds)
unfolding started
few-beginning atoms bonds = (omega arith, omega arith)

-- no text has more atoms, or more bonds, than bytes
pub few-read : (s : List ℕ) (atoms bonds : List ℤ) {σ : MachineState} {μ : Memory} → bytes_read s atoms bonds ≡ going σ μ → (μ.st.atoms ≤ length s) × (μ.st.bonds ≤ length s)
few-read s atoms bonds e =
    let z : 0 + length s ≡ length s = omega arith in
    subst (FewReading (length s)) e (rw z at (few_on s 0 (going start (beginning (zeros atoms) (zeros bonds))) (few-beginning (zeros atoms) (zeros bonds))))

module _ (p q : ℕ) where
  -- what an action leaves
  cut-after : (σ : MachineState) (a : Acts) → after σ (cut_act p q a) ≡ cut_reading p q (after σ a)
  cut-after σ (keeps μ) = refl
  cut-after σ (refuses c k) = refl

  -- one byte, where the bonds that stand end before the cut
  cut-feed : (i : ℕ) (r : Reading Memory) → FewReading i r → bond_cells * i ≤ q → (b : ℕ) → feed act i (cut_reading p q r) b ≡ cut_reading p q (feed act i r b)
  unfolding feed
  cut-feed i (going σ μ) f l b = split (alive (step σ b))
    where
      acts : act σ b i (cut p q μ) ≡ cut_act p q (act σ b i μ)
      acts = cut-act p q μ (omega (arith, f.1)) σ b i

      split : (t : Bool) → pick t (after (step σ b) (act σ b i (cut p q μ))) (halted 3 i) ≡ cut_reading p q (pick t (after (step σ b) (act σ b i μ)) (halted 3 i))
      split true = ap (after (step σ b)) acts ∙ cut-after (step σ b) (act σ b i μ)
      split false = refl
  cut-feed i (halted c k) f l b = refl

  -- all bytes of a text, where a row for each fits before the cut
  cut_on : (s : List ℕ) (i : ℕ) (r : Reading Memory) → FewReading i r → bond_cells * (i + length s) ≤ q → read act i (cut_reading p q r) s ≡ cut_reading p q (read act i r s)
  unfolding read
  cut_on [] i r f l = refl
  cut_on (b ∷ s) i r f l =
      ap (λ (t : Reading Memory). read act (suc i) t s) (cut-feed i r f (omega arith) b)
      ∙ cut_on s (suc i) (feed act i r b) (few-feed i r f b) (omega arith)

-- a text is read into tables with a row for each byte as into longer ones, up to their end
pub cut-read : (s : List ℕ) (a b atoms bonds : List ℤ) → Short s a b → length a ≤ length atoms → length b ≤ length bonds → bytes_read s a b ≡ cut_reading (length a) (length b) (bytes_read s atoms bonds)
cut-read s a b atoms bonds short la lb =
    (λ j. read act 0 (going start (beginning (sym (take-replicate (length a) (length atoms) (pos 0) la) j) (sym (take-replicate (length b) (length bonds) (pos 0) lb) j))) s)
    ∙ cut_on (length a) (length b) s 0 (going start (beginning (zeros atoms) (zeros bonds))) (few-beginning (zeros atoms) (zeros bonds)) (omega (arith, short.bonds_long))
