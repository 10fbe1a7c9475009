-- Reading the bytes of an atom outside brackets. Assumes nothing.
use mathlib.Core.Path.{◌≡◌, refl, sym, ap, ◌∙◌, subst}
use mathlib.Core.Bool.{Bool, true, false, ◌&&◌}
use mathlib.Core.List.{List, [], ◌∷◌}
use mathlib.Core.Logic.{⊎_elim}
use Prim.Native.Nat.{ℕ, suc}
use native.Mathlib.Omega.{arith}
use lib.Dec.{leb}
use Rattle.element.specs.declared.Letter.{Letter}
use Rattle.element.specs.declared.Letter.TheVariants.{Plain, Selected, Half, Bracket, Nothing}
use Rattle.element.specs.Symbols.{among, same_bytes, symbols, letters}
use Rattle.element.specs.Lookup.{index_from, number_of, selected_of, letter_of, bare, bytes_of, selected_bytes}
use Rattle.reading_grammar.specs.Grammar.{nonzero, bond_symbols}
use Rattle.reading_grammar.proofs.Ends as bytes
use Rattle.reading_grammar.specs.declared.Last.{Last}
use Rattle.reading_grammar.specs.declared.Last.TheVariants.{Plain as plain, AfterC as afterC, AfterB as afterB}
use Rattle.reading_grammar.specs.declared.Mode.{Mode}
use Rattle.reading_grammar.specs.declared.Mode.TheVariants.{Seq as seq, Bond as bond, AtomNext as atomNext, Inside as inside, LetterA as letterA, LetterT as letterT}
use Rattle.reading_grammar.specs.declared.Move.{Move}
use Rattle.reading_grammar.specs.declared.Move.TheVariants.{Stop as stop, To as to}
use Rattle.reading_grammar.specs.declared.MachineState.{MachineState}
use Rattle.reading_grammar.specs.declared.MachineState.TheVariants.{Start as start, At as at}
use Rattle.reading_grammar.specs.Machine.{turn, step, next, atom_or, bridge_or}
use Rattle.reading_grammar.specs.Fold.{keeps}
use Rattle.table.specs.declared.Atom.{Atom}
use Rattle.table.specs.Limits.{max_atoms, max_bonds}
use Rattle.table.specs.Valid.{selectable}
use Rattle.table.proofs.Rows.{with-atom-twice}
use Rattle.reading_state.specs.declared.Fields.{Fields}
use Rattle.reading.specs.Memory.{Memory, bare_row, blank, bonded, begun, described, drafted}
use Rattle.reading.specs.Act.{Acts, act, mode_act, atom_act, first_byte_of, or_atom, second_letter}
use Rattle.writing.specs.Spell.{symbol_bytes}
use Rattle.roundtrip.proofs.Feed.{Takes, stays, byte}
use Rattle.roundtrip.proofs.Named.{Symbolic, five}

abbrev pub begins? : Letter → Bool
begins? (Plain e) = true
begins? (Selected e) = true
begins? Half = true
begins? Bracket = true
begins? Nothing = false

or-atom : (l : Letter) (a k : Acts) → begins? l ≡ true → or_atom l a k ≡ a
or-atom (Plain e) a k h = refl
or-atom (Selected e) a k h = refl
or-atom Half a k h = refl
or-atom Bracket a k h = refl
or-atom Nothing a k h = absurd (let z : ◌≡◌ {A = ℕ} 0 1 = cc in omega arith)

-- a state in which an atom may begin, at a depth
pub record Begins (σ : MachineState) (d : ℕ) : Type 0 where
  pub goes : (b : ℕ) → (k : Move) × (step σ b ≡ turn (atom_or b k) d)
  pub does : (b i : ℕ) (μ : Memory) → begins? (letter_of b) ≡ true → act σ b i μ ≡ atom_act b i μ

pub begins-start : Begins start 0
unfolding step act
begins-start = record { goes = λ b. (stop, refl); does = λ b i μ h. refl }

pub begins-seq : (x : Last) (d : ℕ) → Begins (at (seq x) d) d
unfolding step next act mode_act
begins-seq x d = record { goes = λ b. (_, refl); does = λ b i μ h. or-atom (letter_of b) _ _ h }

pub begins-bond : (d : ℕ) → Begins (at bond d) d
unfolding step next act mode_act
begins-bond d = record { goes = λ b. (_, refl); does = λ b i μ h. or-atom (letter_of b) _ _ h }

pub begins-dot : (d : ℕ) → Begins (at atomNext d) d
unfolding step next act mode_act
begins-dot d = record { goes = λ b. (_, refl); does = λ b i μ h. refl }

pub begins-inside : (d : ℕ) → Begins (at inside d) d
unfolding step next act mode_act
begins-inside d = record { goes = λ b. (_, refl); does = λ b i μ h. or-atom (letter_of b) _ _ h }

-- neither 4 nor 5 is met
pub record Room (μ : Memory) : Type 0 where
  pub atoms : leb max_atoms μ.st.atoms ≡ false
  pub bonds : (bonded μ && leb max_bonds μ.st.bonds) ≡ false

-- the bytes are one atom more, with the row x; w: 1 outside brackets
pub record Atomed (i : ℕ) (σ : MachineState) (d : ℕ) (μ : Memory) (s : List ℕ) (x : Atom) (w : ℕ) : Type 0 where
  pub last : Last
  pub draft : Fields
  pub is : Takes i σ μ s (at (seq last) d) (described x (drafted draft (begun w μ)))

pub first : (b i : ℕ) (μ : Memory) → Room μ → atom_act b i μ ≡ keeps (first_byte_of (letter_of b) μ)
unfolding atom_act
first b i μ r = rw (r.atoms, r.bonds)

abbrev Outside : ℕ → ℕ → List ℕ → Type 0
Outside e s l = (i : ℕ) (σ : MachineState) (d : ℕ) (μ : Memory) → Begins σ d → Room μ → Atomed i σ d μ l (bare_row e s) 1

one : (e s b : ℕ) (x : Last) → begins? (letter_of b) ≡ true → ((k : Move) → atom_or b k ≡ to (seq x)) → ((μ : Memory) → first_byte_of (letter_of b) μ ≡ described (bare_row e s) (begun 1 μ)) → Outside e s (b ∷ [])
unfolding begun
one e s b x h g f i σ d μ v r = record {
  last = x;
  draft = blank;
  is = byte b [] ((v.goes b).1 ∙ ap (λ (o : Move). turn o d) (g (v.goes b).0)) refl (v.does b i μ h ∙ first b i μ r ∙ ap keeps (f μ)) stays;
}

again : (x y : Atom) (μ : Memory) → described y (described x (begun 1 μ)) ≡ described y (begun 1 μ)
unfolding begun
again x y μ = rw (with-atom-twice μ.atoms μ.st.atoms x y)

two : (e e0 b c : ℕ) (m : Mode) → begins? (letter_of b) ≡ true → ((k : Move) → atom_or b k ≡ to m) → ((μ : Memory) → first_byte_of (letter_of b) μ ≡ described (bare_row e0 0) (begun 1 μ))
    → next m c ≡ to (seq plain) → ((i : ℕ) (μ : Memory) → mode_act m c i μ ≡ second_letter e μ) → Outside e 0 (b ∷ c ∷ [])
unfolding begun step act
two e e0 b c m h g f n a i σ d μ v r = record {
  last = plain;
  draft = blank;
  is = byte b (c ∷ []) ((v.goes b).1 ∙ ap (λ (o : Move). turn o d) (g (v.goes b).0)) refl (v.does b i μ h ∙ first b i μ r ∙ ap keeps (f μ))
      (byte c [] (ap (λ (o : Move). turn o d) n) refl (a (suc i) (described (bare_row e0 0) (begun 1 μ)) ∙ ap keeps (again (bare_row e0 0) (bare_row e 0) μ)) stays);
}

plain-letters : (e : ℕ) → bare e ≡ true → Outside e 0 (bytes_of e)
unfolding bare among bytes_of symbols letter_of selected_of number_of index_from same_bytes letters atom_or next mode_act bridge_or nonzero bond_symbols
plain-letters = bytes.each (λ e. Outside e 0 (bytes_of e)) (0 ∷ 5 ∷ 6 ∷ 7 ∷ 8 ∷ 9 ∷ 15 ∷ 16 ∷ 17 ∷ 35 ∷ 53 ∷ 85 ∷ 117 ∷ []) (
  one 0 0 42 plain refl (λ k. refl) (λ μ. refl),
  (
    one 5 0 66 afterB refl (λ k. refl) (λ μ. refl),
    (
      one 6 0 67 afterC refl (λ k. refl) (λ μ. refl),
      (
        one 7 0 78 plain refl (λ k. refl) (λ μ. refl),
        (
          one 8 0 79 plain refl (λ k. refl) (λ μ. refl),
          (
            one 9 0 70 plain refl (λ k. refl) (λ μ. refl),
            (
              one 15 0 80 plain refl (λ k. refl) (λ μ. refl),
              (
                one 16 0 83 plain refl (λ k. refl) (λ μ. refl),
                (
                  two 17 6 67 108 (seq afterC) refl (λ k. refl) (λ μ. refl) refl (λ i μ. refl),
                  (
                    two 35 5 66 114 (seq afterB) refl (λ k. refl) (λ μ. refl) refl (λ i μ. refl),
                    (
                      one 53 0 73 plain refl (λ k. refl) (λ μ. refl),
                      (two 85 0 65 116 letterA refl (λ k. refl) (λ μ. refl) refl (λ i μ. refl), (two 117 0 84 115 letterT refl (λ k. refl) (λ μ. refl) refl (λ i μ. refl), tt)),
                    ),
                  ),
                ),
              ),
            ),
          ),
        ),
      ),
    ),
  ),
)

selected-letters : (e : ℕ) → selectable e ≡ true → Outside e 1 (selected_bytes e)
unfolding among selected_bytes letter_of selected_of letters atom_or
selected-letters = five (λ e. Outside e 1 (selected_bytes e)) (one 6 1 99 plain refl (λ k. refl) (λ μ. refl)) (one 7 1 110 plain refl (λ k. refl) (λ μ. refl)) (one 8 1 111 plain refl (λ k. refl) (λ μ. refl))
    (one 15 1 112 plain refl (λ k. refl) (λ μ. refl)) (one 16 1 115 plain refl (λ k. refl) (λ μ. refl))

-- THE LETTERS: the symbol of an element that may stand outside brackets is an atom with its row, before its hydrogens
pub takes-letters : (e s : ℕ) → Symbolic e s → bare e ≡ true → (i : ℕ) (σ : MachineState) (d : ℕ) (μ : Memory) → Begins σ d → Room μ → Atomed i σ d μ (symbol_bytes e s) (bare_row e s) 1
takes-letters e s x h = ⊎_elim
    (λ q. subst (λ (s : ℕ). Outside e s (symbol_bytes e s)) (sym q) (plain-letters e h))
    (λ q. subst (λ (s : ℕ). Outside e s (symbol_bytes e s)) (sym q.0) (selected-letters e q.1)) x.either
