-- What was read stays: no later byte changes the row of an atom that is complete, or of a bond. Assumes nothing.
use Prim.Native.Nat.{ℕ, zero, suc, ◌+◌, ◌-◌, ◌≤◌, ◌<◌}
use native.Mathlib.Omega.{arith}
use mathlib.Core.Path.{◌≡◌, refl, sym, ap, subst, ◌∙◌}
use mathlib.Core.Bool.{Bool, true, false}
use mathlib.Core.Logic.{inl}
use mathlib.Core.List.{List, [], ◌∷◌}
use lib.ListN.{get_or}
use lib.Seq.{get_or-set_same, get_or-set_other}
use lib.IntN.{ℤ}
use lib.Dec.{eqb, leb}
use borrow.Author.Tests.{leb-false}
use Rattle.loops.specs.Loop.{pick}
use Rattle.element.specs.declared.Letter.{Letter}
use Rattle.element.specs.Symbols.{among, listed, symbols}
use Rattle.element.specs.Lookup.{letter_of}
use Rattle.reading_grammar.specs.Grammar.{digits, several, signs}
use Rattle.reading_grammar.specs.declared.Last.{Last}
use Rattle.reading_grammar.specs.declared.Last.TheVariants.{Plain as plain, AfterC as afterC, AfterB as afterB}
use Rattle.reading_grammar.specs.declared.Mode.{Mode}
use Rattle.reading_grammar.specs.declared.Mode.TheVariants.{Seq as seq, Bond as bond, AtomNext as atomNext, Inside as inside, Percent as percent, Percent1 as percent1, LetterA as letterA, LetterT as letterT, Bracket as bracket, Isotope as isotope, Symbol1 as symbol1, Symbolled as symbolled, At1 as at1, At2 as at2, Hydrogen as hydrogen, Hydrogens as hydrogens, Sign as sign, Charged as charged, Colon as colon, Extension as extension}
use Rattle.reading_grammar.specs.declared.Move.{Move}
use Rattle.reading_grammar.specs.declared.MachineState.{MachineState}
use Rattle.reading_grammar.specs.declared.MachineState.TheVariants.{Dead as dead, Start as start, At as at}
use Rattle.reading_grammar.specs.Machine.{alive, accepting, turn, step, next}
use Rattle.reading_grammar.specs.Fold.{keeps, refuses, Reading, going, halted, after, feed, read}
use Rattle.reading_grammar.proofs.Ends.{never}
use Rattle.table.specs.declared.Atom.{Atom}
use Rattle.table.specs.declared.Bond.{Bond}
use Rattle.table.specs.Limits.{max_atoms, max_bonds}
use Rattle.table.specs.Cells.{atom_place, bond_place}
use Rattle.table.specs.Rows.{atom_row, bond_row, with_atom, with_bond}
use Rattle.table.proofs.Rows.{with-atom-other, same-atom-row, with-bond-other, same-bond-row}
use Rattle.ids.specs.Limits.{max_depth}
use Rattle.reading_state.specs.State.{opened, closed, keys_after, bridged, joined}
use Rattle.reading.specs.Memory.{Memory, kind_of, row_of, bare_row, bonded, begun, described, moved, drafted, close_refusal}
use Rattle.reading.specs.Act.{Acts, first_byte_of, atom_act, bridge_bond, or_refuse, bridge_act, branch_act, close_act, charge_act, hydrogen_act, mark_act, mode_act, act}
use Rattle.reading.proofs.Cases.{by-test}
use Rattle.reading.proofs.Sane.{Tables, Sane, SaneReading}
use Rattle.reading.proofs.Letters.{Begins}
use Rattle.reading.proofs.Atoms.{Ready, Held, ready, ready-start, held_of, bond-room}
use Rattle.reading.proofs.Joints.{allowed}
use Rattle.reading.proofs.Dispatch.{Second, Outside, in_sequence, in-bond, in_branch, in-percent, in-percent1, only-atom, second-letter}
use Rattle.reading.proofs.Step.{sane-feed}

-- ---- which atom's row may still be written

-- in a mode: none, the hub's because a second letter may come, or the hub's because its bracket is open
pub data Writing : Type 0 where
  no_row : Writing
  half-letter : Writing
  half-bracket : Writing

abbrev pub writing : Mode → Writing
writing (seq plain) = no_row
writing (seq afterC) = half-letter
writing (seq afterB) = half-letter
writing bond = no_row
writing atomNext = no_row
writing inside = no_row
writing percent = no_row
writing percent1 = no_row
writing letterA = half-letter
writing letterT = half-letter
writing bracket = half-bracket
writing (isotope k) = half-bracket
writing (symbol1 a) = half-bracket
writing symbolled = half-bracket
writing at1 = half-bracket
writing at2 = half-bracket
writing hydrogen = half-bracket
writing hydrogens = half-bracket
writing sign = half-bracket
writing charged = half-bracket
writing colon = half-bracket
writing (extension k) = half-bracket

-- it is not among the first n
abbrev pub After : ℕ → Writing → Memory → Type 0
After n no_row μ = Unit {0}
After n half-letter μ = n ≤ μ.st.hub.0
After n half-bracket μ = (n ≤ μ.st.hub.0) × (get_or μ.st.outside μ.st.hub.0 0 ≡ 0)

-- the first n atoms are complete
abbrev pub Complete : ℕ → MachineState → Memory → Type 0
Complete n dead μ = Unit {0}
Complete n start μ = n ≤ μ.st.atoms
Complete n (at m d) μ = (n ≤ μ.st.atoms) × After n (writing m) μ

-- the rows and flags of the first n atoms, and the rows of the first k bonds, are the same
pub record Same (n k : ℕ) (μ ν : Memory) : Type 0 where
  pub rows : (a : ℕ) → a < n → atom_row ν.atoms a ≡ atom_row μ.atoms a
  pub flags : (a : ℕ) → a < n → get_or ν.st.outside a 0 ≡ get_or μ.st.outside a 0
  pub bonds : (b : ℕ) → b < k → bond_row ν.bonds b ≡ bond_row μ.bonds b

pub same-itself : (n k : ℕ) (μ : Memory) → Same n k μ μ
same-itself n k μ = record { rows = λ a l. refl; flags = λ a l. refl; bonds = λ b l. refl }

pub same-on : {n k : ℕ} {κ μ ν : Memory} → Same n k κ μ → Same n k μ ν → Same n k κ ν
same-on p q = record { rows = λ a l. q.rows a l ∙ p.rows a l; flags = λ a l. q.flags a l ∙ p.flags a l; bonds = λ b l. q.bonds b l ∙ p.bonds b l }

-- what a byte leaves: complete atoms are the same, and complete
pub record Left (n k : ℕ) (μ : Memory) (τ : MachineState) (ν : Memory) : Type 0 where
  pub complete : Complete n τ ν
  pub bonds : k ≤ ν.st.bonds
  pub same : Same n k μ ν

abbrev LeftAct : ℕ → ℕ → Memory → MachineState → Acts → Type 0
LeftAct n k μ τ (keeps ν) = Left n k μ τ ν
LeftAct n k μ τ (refuses c p) = Unit {0}

abbrev Leaves : ℕ → ℕ → Memory → MachineState → Acts → Type 0
Leaves n k μ τ a = alive τ ≡ true → LeftAct n k μ τ a

-- ---- writes behind the first n atoms and the first k bonds
row_before : (t : List ℤ) (a : ℕ) (x : Atom) (c : ℕ) → c < a → atom_row (with_atom t a x) c ≡ atom_row t c
row_before t a x c l = same-atom-row (with_atom t a x) t c (λ f h. with-atom-other t a x (atom_place c f) (inl (omega arith)))

bond-before : (t : List ℤ) (b : ℕ) (x : Bond) (c : ℕ) → c < b → bond_row (with_bond t b x) c ≡ bond_row t c
bond-before t b x c l = same-bond-row (with_bond t b x) t c (λ f h. with-bond-other t b x (bond_place c f) (inl (omega arith)))

described-same : {p q n k m : ℕ} {μ : Memory} (x : Atom) → Tables p q μ.st.atoms m μ.atoms μ.bonds → n ≤ μ.st.hub.0 → μ.st.hub.0 < μ.st.atoms → Same n k μ (described x μ)
described-same {μ = μ} x w l h =
    record {
      rows = λ a s. row_before μ.atoms μ.st.hub.0 x a (omega arith);
      flags = λ a s. refl;
      bonds = λ b s. refl;
    }

after_any : (w : Writing) (n : ℕ) (ν : Memory) → n ≤ ν.st.hub.0 → get_or ν.st.outside ν.st.hub.0 0 ≡ 0 → After n w ν
after_any no_row n ν l f = tt
after_any half-letter n ν l f = l
after_any half-bracket n ν l f = (l, f)

complete-any : (τ : MachineState) (n : ℕ) (ν : Memory) → n ≤ ν.st.atoms → n ≤ ν.st.hub.0 → get_or ν.st.outside ν.st.hub.0 0 ≡ 0 → Complete n τ ν
complete-any dead n ν a l f = tt
complete-any start n ν a l f = a
complete-any (at m d) n ν a l f = (a, after_any (writing m) n ν l f)

half : (x : Last) (b n : ℕ) (μ : Memory) → After n (writing (seq x)) μ → Second x b → n ≤ μ.st.hub.0
half plain b n μ l z = absurd z
half afterC b n μ l z = l
half afterB b n μ l z = l

-- ---- an atom begins
module _ {p q d i n k : ℕ} {μ : Memory} (h : Ready p q d i μ) (na : n ≤ μ.st.atoms) (kb : k ≤ μ.st.bonds) where
  module _ (few : μ.st.atoms < max_atoms) (bonds_few : bonded μ ≡ true → μ.st.bonds < max_bonds) where
    begun-same : (x : ℕ) → Same n k μ (begun x μ)
    unfolding begun
    begun-same x =
        record {
          rows = λ a l. refl;
          flags = λ a l. get_or-set_other μ.st.outside μ.st.atoms a x 0 (λ e. omega arith);
          bonds = λ b l. by-test (λ t. bond_row t b ≡ bond_row μ.bonds b) (bonded μ) _ μ.bonds
              (λ e. bond-before μ.bonds μ.st.bonds _ b (omega arith))
              (λ e. refl);
        }

    more-bonds : (x : ℕ) → k ≤ (begun x μ).st.bonds
    unfolding begun
    more-bonds x = by-test (λ m. k ≤ m) (bonded μ) (μ.st.bonds + 1) μ.st.bonds (λ e. omega arith) (λ e. omega arith)

    letter-same : (x : Atom) → Same n k μ (described x (begun 1 μ))
    unfolding begun
    letter-same x =
        let b = begun-same 1 in
        record {
          rows = λ a l. row_before μ.atoms μ.st.atoms x a (omega arith);
          flags = b.flags;
          bonds = b.bonds;
        }

    after-letter : (x : Last) (y : Atom) → After n (writing (seq x)) (described y (begun 1 μ))
    unfolding begun
    after-letter plain y = tt
    after-letter afterC y = na
    after-letter afterB y = na

    letter-left : (x : Last) (y : Atom) → Left n k μ (at (seq x) d) (described y (begun 1 μ))
    unfolding begun
    letter-left x y = record { complete = (omega arith, after-letter x y); bonds = more-bonds 1; same = letter-same y }

    first-left : {l : Letter} {o : Move} → Begins l o → Left n k μ (turn o d) (first_byte_of l μ)
    unfolding begun
    first-left (Begins.plain {e} {x} s) = letter-left x (bare_row e 0)
    first-left (Begins.selected {e} {x} s t) = letter-left x (bare_row e 1)
    first-left Begins.letter-a = record { complete = (omega arith, na); bonds = more-bonds 1; same = letter-same (bare_row 0 0) }
    first-left Begins.letter-t = record { complete = (omega arith, na); bonds = more-bonds 1; same = letter-same (bare_row 0 0) }
    first-left Begins.opening =
        record {
          complete = (omega arith, (na, get_or-set_same μ.st.outside μ.st.atoms 0 0 (omega (arith, h.steering.outside-length))));
          bonds = more-bonds 0;
          same = begun-same 0;
        }

  atom-left : (b : ℕ) {o : Move} → Begins (letter_of b) o → LeftAct n k μ (turn o d) (atom_act b i μ)
  unfolding atom_act
  atom-left b {o} w =
      by-test (LeftAct n k μ (turn o d)) _ _ _ (λ e. tt) (λ e.
      by-test (LeftAct n k μ (turn o d)) _ _ _ (λ f. tt) (λ f. first-left (leb-false max_atoms μ.st.atoms e) (bond-room μ f) w))

-- ---- after the first atom
module _ {p q d i n k : ℕ} {μ : Memory} (h : Held p q d i μ) (na : n ≤ μ.st.atoms) (kb : k ≤ μ.st.bonds) where
  -- a step to a mode in which no row is being written, with the tables as they are
  quiet : (m : Mode) (e : ℕ) → writing m ≡ no_row → (ν : Memory) → ν.atoms ≡ μ.atoms → ν.bonds ≡ μ.bonds → ν.st.outside ≡ μ.st.outside → ν.st.atoms ≡ μ.st.atoms → ν.st.bonds ≡ μ.st.bonds → Left n k μ (at m e) ν
  quiet m e w ν ea eb eo en em =
      record {
        complete = (subst (λ c. n ≤ c) (sym en) na, subst (λ x. After n x ν) (sym w) tt);
        bonds = subst (λ c. k ≤ c) (sym em) kb;
        same = record { rows = λ a l. ap (λ t. atom_row t a) ea; flags = λ a l. ap (λ (t : List ℕ). get_or t a 0) eo; bonds = λ b l. ap (λ t. bond_row t b) eb };
      }

  bridge-left : (r o : ℕ) → LeftAct n k μ (at (seq plain) d) (bridge_act r o μ)
  unfolding bridge_act joined
  bridge-left r o = split (eqb (get_or μ.st.opener r 0) 0)
    where
      split : (t : Bool)
          → LeftAct n k μ (at (seq plain) d)
          (pick t (keeps (moved (pick t (bridged μ.st r (μ.st.hub.0 + 1) (kind_of μ.pending) o μ.st.bonds μ.st.keys) (bridged μ.st r 0 0 0 (μ.st.bonds + 1) (keys_after μ.st r o))) μ))
          (or_refuse (close_refusal μ.bonds μ.st.bonds (get_or μ.st.opener r 0 - 1) μ.st.hub.0 (get_or μ.st.symbol r 0) (kind_of μ.pending)) o
          (moved (pick t (bridged μ.st r (μ.st.hub.0 + 1) (kind_of μ.pending) o μ.st.bonds μ.st.keys) (bridged μ.st r 0 0 0 (μ.st.bonds + 1) (keys_after μ.st r o))) (bridge_bond r μ))))
      split true = quiet (seq plain) d refl _ refl refl refl refl refl
      split false = refusal (close_refusal μ.bonds μ.st.bonds (get_or μ.st.opener r 0 - 1) μ.st.hub.0 (get_or μ.st.symbol r 0) (kind_of μ.pending)) refl
        where
          refusal : (x : ℕ) → close_refusal μ.bonds μ.st.bonds (get_or μ.st.opener r 0 - 1) μ.st.hub.0 (get_or μ.st.symbol r 0) (kind_of μ.pending) ≡ x
              → LeftAct n k μ (at (seq plain) d) (or_refuse x o (moved (bridged μ.st r 0 0 0 (μ.st.bonds + 1) (keys_after μ.st r o)) (bridge_bond r μ)))
          refusal zero z =
              let few = (allowed μ.bonds μ.st.bonds (get_or μ.st.opener r 0 - 1) μ.st.hub.0 (get_or μ.st.symbol r 0) (kind_of μ.pending) z).few in
              record {
                complete = (na, tt);
                bonds = omega arith;
                same = record { rows = λ a l. refl; flags = λ a l. refl; bonds = λ b l. bond-before μ.bonds μ.st.bonds _ b (omega arith) };
              }
          refusal (suc x) z = tt

  branch-left : LeftAct n k μ (at inside (suc d)) (branch_act i μ)
  unfolding branch_act opened
  branch-left = by-test (LeftAct n k μ (at inside (suc d))) (leb max_depth μ.st.depth) _ _ (λ e. tt) (λ e. quiet inside (suc d) refl _ refl refl refl refl refl)

  down-left : (e : ℕ) → d ≡ suc e → Left n k μ (at (seq plain) e) (moved (closed μ.st) μ)
  unfolding closed
  down-left e q = quiet (seq plain) e refl _ refl refl refl refl refl

  second-left : n ≤ μ.st.hub.0 → (e : ℕ) → Left n k μ (at (seq plain) d) (described (bare_row e 0) μ)
  second-left l e = record { complete = (na, tt); bonds = kb; same = described-same (bare_row e 0) h.tables l h.hub }

  -- each step outside brackets
  outside : (b : ℕ) → Outside (LeftAct n k μ) d i μ b
  outside b =
      record {
        atom = λ o w. atom-left (ready h) na kb b w;
        bridge = λ r o hr ho. bridge-left r o;
        symbol = quiet bond d refl _ refl refl refl refl refl;
        joint = quiet atomNext d refl _ refl refl refl refl refl;
        branch = branch-left;
        unbranch = down-left;
        sign = quiet percent d refl μ refl refl refl refl refl;
        tens = λ t l u. quiet percent1 d refl _ refl refl refl refl refl;
      }

  seq-left : (x : Last) (b : ℕ) → (Second x b → n ≤ μ.st.hub.0) → Leaves n k μ (turn (next (seq x) b) d) (mode_act (seq x) b i μ)
  seq-left x b l = in_sequence (LeftAct n k μ) d i μ b (outside b) x (λ z e s. second-left (l z) e)

  -- ---- in a bracket, whatever mode follows
  module _ (τ : MachineState) (l : (n ≤ μ.st.hub.0) × (get_or μ.st.outside μ.st.hub.0 0 ≡ 0)) where
    draft-left : (f : _) → LeftAct n k μ τ (keeps (drafted f μ))
    draft-left f = record { complete = complete-any τ n (drafted f μ) na l.0 l.1; bonds = kb; same = record { rows = λ a s. refl; flags = λ a s. refl; bonds = λ b s. refl } }

    close-left : (b : ℕ) → LeftAct n k μ τ (close_act b μ)
    close-left b =
        by-test (λ ν. Left n k μ τ ν) (eqb b 93) (described (row_of μ.draft) μ) μ
        (λ e. record { complete = complete-any τ n (described (row_of μ.draft) μ) na l.0 l.1; bonds = kb; same = described-same (row_of μ.draft) h.tables l.0 h.hub })
        (λ e. record { complete = complete-any τ n μ na l.0 l.1; bonds = kb; same = same-itself n k μ })

    charge-left : (b : ℕ) → LeftAct n k μ τ (charge_act b μ)
    charge-left b = by-test (LeftAct n k μ τ) (among b signs) _ _ (λ e. draft-left _) (λ e. close-left b)

    hydrate-left : (b : ℕ) → LeftAct n k μ τ (hydrogen_act b μ)
    hydrate-left b = by-test (LeftAct n k μ τ) (eqb b 72) _ _ (λ e. draft-left _) (λ e. charge-left b)

    mark-left : (j b : ℕ) → LeftAct n k μ τ (mark_act j b μ)
    mark-left j b = by-test (LeftAct n k μ τ) (eqb b 64) _ _ (λ e. draft-left _) (λ e. hydrate-left b)

-- ---- every byte
module _ (n k : ℕ) {p q i : ℕ} {μ : Memory} where
  mode-left : (m : Mode) {d : ℕ} → Sane p q (at m d) i μ → Complete n (at m d) μ → k ≤ μ.st.bonds → (b : ℕ) → Leaves n k μ (turn (next m b) d) (mode_act m b i μ)
  unfolding next mode_act
  mode-left (seq x) w c kb b v = seq-left (held_of w) c.0 kb x b (half x b n μ c.1) v
  mode-left bond {d} w c kb b v = in-bond (LeftAct n k μ) d i μ b (outside (held_of w) c.0 kb b) v
  mode-left atomNext {d} w c kb b v = only-atom (LeftAct n k μ) d i μ b (outside (held_of w) c.0 kb b).atom v
  mode-left inside {d} w c kb b v = in_branch (LeftAct n k μ) d i μ b (outside (held_of w) c.0 kb b) v
  mode-left percent {d} w c kb b v = in-percent (LeftAct n k μ) d i μ b (outside (held_of w) c.0 kb b) v
  mode-left percent1 {d} w c kb b v = in-percent1 (LeftAct n k μ) d i μ b (outside (held_of w) c.0 kb b) w.stands.half.1 v
  mode-left letterA {d} w c kb b v = second-letter (LeftAct n k μ) d i μ b 85 (eqb b 116) (λ e. second-left (held_of w) c.0 kb c.1 85) v
  mode-left letterT {d} w c kb b v = second-letter (LeftAct n k μ) d i μ b 117 (eqb b 115) (λ e. second-left (held_of w) c.0 kb c.1 117) v
  mode-left bracket {d} w c kb b v = draft-left (held_of w) c.0 kb (turn (next bracket b) d) c.1 _
  mode-left (isotope j) {d} w c kb b v = draft-left (held_of w) c.0 kb (turn (next (isotope j) b) d) c.1 _
  mode-left (symbol1 a) {d} w c kb b v =
      let τ : MachineState = turn (next (symbol1 a) b) d in
      by-test (LeftAct n k μ τ) (listed (a ∷ b ∷ []) symbols) _ _ (λ e. draft-left (held_of w) c.0 kb τ c.1 _) (λ e. mark-left (held_of w) c.0 kb τ c.1 1 b)
  mode-left symbolled {d} w c kb b v = mark-left (held_of w) c.0 kb (turn (next symbolled b) d) c.1 1 b
  mode-left at1 {d} w c kb b v = mark-left (held_of w) c.0 kb (turn (next at1 b) d) c.1 2 b
  mode-left at2 {d} w c kb b v = hydrate-left (held_of w) c.0 kb (turn (next at2 b) d) c.1 b
  mode-left hydrogen {d} w c kb b v =
      let τ : MachineState = turn (next hydrogen b) d in
      by-test (LeftAct n k μ τ) (among b several) _ _ (λ e. draft-left (held_of w) c.0 kb τ c.1 _) (λ e. charge-left (held_of w) c.0 kb τ c.1 b)
  mode-left hydrogens {d} w c kb b v = charge-left (held_of w) c.0 kb (turn (next hydrogens b) d) c.1 b
  mode-left sign {d} w c kb b v =
      let τ : MachineState = turn (next sign b) d in
      by-test (LeftAct n k μ τ) (among b several) _ _ (λ e. draft-left (held_of w) c.0 kb τ c.1 _) (λ e. close-left (held_of w) c.0 kb τ c.1 b)
  mode-left charged {d} w c kb b v = close-left (held_of w) c.0 kb (turn (next charged b) d) c.1 b
  mode-left colon {d} w c kb b v = draft-left (held_of w) c.0 kb (turn (next colon b) d) c.1 _
  mode-left (extension j) {d} w c kb b v =
      let τ : MachineState = turn (next (extension j) b) d in
      by-test (LeftAct n k μ τ) (among b digits) _ _ (λ e. draft-left (held_of w) c.0 kb τ c.1 _) (λ e. close-left (held_of w) c.0 kb τ c.1 b)

  step_left : (σ : MachineState) → Sane p q σ i μ → Complete n σ μ → k ≤ μ.st.bonds → (b : ℕ) → Leaves n k μ (step σ b) (act σ b i μ)
  unfolding step act
  step_left dead w c kb b v = absurd w.stands
  step_left start w c kb b v = only-atom (LeftAct n k μ) 0 i μ b (λ o x. atom-left (ready-start w) c kb b x) v
  step_left (at m d) w c kb b v = mode-left m w c kb b v

-- ---- over a text
abbrev LeftReading : ℕ → ℕ → Memory → Reading Memory → Type 0
LeftReading n k μ (going τ ν) = Left n k μ τ ν
LeftReading n k μ (halted c p) = Unit {0}

left_after : (n k : ℕ) (μ : Memory) (τ : MachineState) (a : Acts) → LeftAct n k μ τ a → LeftReading n k μ (after τ a)
left_after n k μ τ (keeps ν) w = w
left_after n k μ τ (refuses c p) w = tt

module _ (p q n k : ℕ) (κ : Memory) where
  feed-left : (i : ℕ) (r : Reading Memory) → SaneReading p q i r → LeftReading n k κ r → (b : ℕ) → LeftReading n k κ (feed act i r b)
  unfolding feed
  feed-left i (going σ μ) w l b = split (alive (step σ b)) refl
    where
      first : (r : Reading Memory) → LeftReading n k μ r → LeftReading n k κ r
      first (going τ ν) x = record { complete = x.complete; bonds = x.bonds; same = same-on l.same x.same }
      first (halted c o) x = tt

      split : (t : Bool) → alive (step σ b) ≡ t → LeftReading n k κ (pick t (after (step σ b) (act σ b i μ)) (halted 3 i))
      split true e = first (after (step σ b) (act σ b i μ)) (left_after n k μ (step σ b) (act σ b i μ) (step_left n k σ w l.complete l.bonds b e))
      split false e = tt
  feed-left i (halted c o) w l b = tt

  read_left : (s : List ℕ) (i : ℕ) (r : Reading Memory) → SaneReading p q i r → LeftReading n k κ r → LeftReading n k κ (read act i r s)
  unfolding read
  read_left [] i r w l = l
  read_left (b ∷ s) i r w l = read_left s (suc i) (feed act i r b) (sane-feed p q i r w b) (feed-left i r w l b)

-- the atoms that are complete, and the bonds that stand, stay as they are over any further bytes
pub stays : {p q i : ℕ} {σ τ : MachineState} {μ ν : Memory} (n : ℕ) (s : List ℕ) → Sane p q σ i μ → Complete n σ μ → read act i (going σ μ) s ≡ going τ ν → Left n μ.st.bonds μ τ ν
stays {p} {q} {i} {σ} {τ} {μ} {ν} n s w c e =
    subst (LeftReading n μ.st.bonds μ) e (read_left p q n μ.st.bonds μ s i (going σ μ) w (record { complete = c; bonds = omega arith; same = same-itself n μ.st.bonds μ }))

-- a text read to its end has the atoms that were complete
pub counted : (n : ℕ) (τ : MachineState) (ν : Memory) → accepting τ ≡ true → Complete n τ ν → n ≤ ν.st.atoms
unfolding accepting
counted n dead ν a c = never a
counted n start ν a c = c
counted n (at m d) ν a c = c.0

-- so do all atoms read so far where the next byte is not a second letter
pub record Stayed (μ : Memory) (τ : MachineState) (ν : Memory) : Type 0 where
  pub same : Same μ.st.atoms μ.st.bonds μ ν
  pub count : accepting τ ≡ true → μ.st.atoms ≤ ν.st.atoms

pub letter-stays : {p q i d : ℕ} {x : Last} {τ : MachineState} {μ ν : Memory} (s : List ℕ) → Sane p q (at (seq x) d) i μ → (Second x (get_or s 0 0) → ⊥) → read act i (going (at (seq x) d) μ) s ≡ going τ ν → Stayed μ τ ν
unfolding read feed step act
letter-stays {τ = τ} {μ = μ} {ν = ν} [] w n e =
    let z : μ ≡ ν = cc in
    subst (Stayed μ τ) z (record { same = same-itself μ.st.atoms μ.st.bonds μ; count = λ a. omega arith })
letter-stays {p} {q} {i} {d} {x} {τ} {μ} {ν} (b ∷ s) w n e =
    let l = subst (LeftReading μ.st.atoms μ.st.bonds μ) e
    (read_left p q μ.st.atoms μ.st.bonds μ s (suc i) (feed act i (going (at (seq x) d) μ) b) (sane-feed p q i (going (at (seq x) d) μ) w b) (split (alive (turn (next (seq x) b) d)) refl)) in
    record { same = l.same; count = λ a. counted μ.st.atoms τ ν a l.complete }
  where
    split : (t : Bool) → alive (turn (next (seq x) b) d) ≡ t → LeftReading μ.st.atoms μ.st.bonds μ (pick t (after (turn (next (seq x) b) d) (mode_act (seq x) b i μ)) (halted 3 i))
    split true v =
        left_after μ.st.atoms μ.st.bonds μ (turn (next (seq x) b) d) (mode_act (seq x) b i μ)
        (seq-left (held_of w) (omega arith) (omega arith) x b (λ z. absurd (n z)) v)
    split false v = tt
