-- 01, The text, and the refusals 4 to 9 of "When a call says no": what a byte does beside the grammar, which was asked first
use Rattle.std.specs.Prelude.{ℕ, zero, suc, ◌+◌, ◌-◌, ◌*◌, Bool, ◌&&◌, [], ◌∷◌, get_or, eqb, leb}
use Rattle.loops.specs.Loop.{pick}
use Rattle.element.specs.declared.Letter.{Letter}
use Rattle.element.specs.declared.Letter.TheVariants.{Plain, Selected, Half, Bracket, Nothing}
use Rattle.element.specs.Symbols.{among, listed, symbols}
use Rattle.element.specs.Lookup.{letter_of, number_of}
use Rattle.reading_grammar.specs.Grammar.{nonzero, digits, several, bond_symbols, signs}
use Rattle.reading_grammar.specs.declared.Last.{Last}
use Rattle.reading_grammar.specs.declared.Last.TheVariants.{Plain as plain, AfterC as afterC, AfterB as afterB}
use Rattle.reading_grammar.specs.declared.Mode.{Mode}
use Rattle.reading_grammar.specs.declared.Mode.TheVariants.{Seq as seq, Bond as bond, AtomNext as atomNext, Inside as inside, Percent as percent, Percent1 as percent1, LetterA as letterA, LetterT as letterT, Bracket as bracket, Isotope as isotope, Symbol1 as symbol1, Symbolled as symbolled, At1 as at1, At2 as at2, Hydrogen as hydrogen, Hydrogens as hydrogens, Sign as sign, Charged as charged, Colon as colon, Extension as extension}
use Rattle.reading_grammar.specs.declared.MachineState.{MachineState}
use Rattle.reading_grammar.specs.declared.MachineState.TheVariants.{Dead as dead, Start as start, At as at}
use Rattle.reading_grammar.specs.Fold.{Act, keeps, refuses}
use Rattle.table.specs.Limits.{max_atoms, max_bonds}
use Rattle.table.specs.Rows.{with_bond}
use Rattle.ids.specs.Limits.{max_depth}
use Rattle.reading_state.specs.State.{opened, closed, joined}
use Rattle.kinds.specs.Kind.{symbol_kind, meet}
use Rattle.reading.specs.Memory.{Memory, dotted, symbol, kind_of, row_of, bare_row, between, bonded, begun, described, awaiting, moved, counting, drafted, close_refusal}
use Rattle.reading.specs.Bracket.{digit, isotoped, elemented, marked, hydrogened, signed, positive}
use Rattle.reading.specs.Bracket as fields

abbrev pub Acts : Type 0
Acts = Act Memory

-- what the first byte of an atom leaves: a row for a letter, nothing yet for `[`
abbrev pub first_byte_of : Letter → Memory → Memory
first_byte_of (Plain e) μ = described (bare_row e 0) (begun 1 μ)
first_byte_of (Selected e) μ = described (bare_row e 1) (begun 1 μ)
first_byte_of Half μ = described (bare_row 0 0) (begun 1 μ)
first_byte_of Bracket μ = begun 0 μ
first_byte_of Nothing μ = μ

-- 4: "a 1,001st atom begins"; 5: "1,100 bonds stand and another atom is to be bonded" (P7)
unfoldable pub atom_act : ℕ → ℕ → Memory → Acts
atom_act b i μ =
    pick (leb max_atoms μ.st.atoms) (refuses 4 i)
    (pick (bonded μ && leb max_bonds μ.st.bonds) (refuses 5 i) (keeps (first_byte_of (letter_of b) μ)))

-- the byte begins an atom, or else k
abbrev pub or_atom : Letter → Acts → Acts → Acts
or_atom (Plain e) a k = a
or_atom (Selected e) a k = a
or_atom Half a k = a
or_atom Bracket a k = a
or_atom Nothing a k = k

-- a second letter: the atom just begun is this element
abbrev pub second_letter : ℕ → Memory → Acts
second_letter e μ = keeps (described (bare_row e 0) μ)

abbrev pub letter_act : Last → Memory → Acts
letter_act plain μ = keeps μ
letter_act afterC μ = second_letter 17 μ
letter_act afterB μ = second_letter 35 μ

-- the bond that the bridge r closes
abbrev pub bridge_bond : ℕ → Memory → Memory
bridge_bond r μ =
    record {
      st = μ.st;
      atoms = μ.atoms;
      bonds = with_bond μ.bonds μ.st.bonds (between (get_or μ.st.opener r 0 - 1) μ.st.hub.0 (meet (get_or μ.st.symbol r 0) (kind_of μ.pending)));
      pending = μ.pending;
      tens = μ.tens;
      draft = μ.draft;
    }

abbrev pub or_refuse : ℕ → ℕ → Memory → Acts
or_refuse zero p μ = keeps μ
or_refuse (suc c) p μ = refuses (suc c) p

-- a bridge number r that is complete, with its digit or `%` at p
unfoldable pub bridge_act : ℕ → ℕ → Memory → Acts
bridge_act r p μ =
    let free? : Bool = eqb (get_or μ.st.opener r 0) 0 in
    let next = joined μ.st r (kind_of μ.pending) p in
    pick free? (keeps (moved next μ))
    (or_refuse (close_refusal μ.bonds μ.st.bonds (get_or μ.st.opener r 0 - 1) μ.st.hub.0 (get_or μ.st.symbol r 0) (kind_of μ.pending)) p
    (moved next (bridge_bond r μ)))

-- 6: "a 65th branch opens inside 64"
unfoldable pub branch_act : ℕ → Memory → Acts
branch_act i μ = pick (leb max_depth μ.st.depth) (refuses 6 i) (keeps (moved (opened μ.st) μ))

-- a bond symbol or a dot
abbrev pub joint_act : ℕ → Memory → Acts
joint_act b μ = keeps (awaiting (pick (eqb b 46) dotted (symbol (symbol_kind b))) μ)

-- ---- inside a bracket
-- `]`: the row is complete
abbrev pub close_act : ℕ → Memory → Acts
close_act b μ = keeps (pick (eqb b 93) (described (row_of μ.draft) μ) μ)

abbrev pub charge_act : ℕ → Memory → Acts
charge_act b μ = pick (among b signs) (keeps (drafted (fields.charged (signed (eqb b 43) 1) μ.draft) μ)) (close_act b μ)

abbrev pub hydrogen_act : ℕ → Memory → Acts
hydrogen_act b μ = pick (eqb b 72) (keeps (drafted (hydrogened 1 μ.draft) μ)) (charge_act b μ)

-- `@`, the first or the second: the mark is k then
abbrev pub mark_act : ℕ → ℕ → Memory → Acts
mark_act k b μ = pick (eqb b 64) (keeps (drafted (marked k μ.draft) μ)) (hydrogen_act b μ)

abbrev pub isotope_act : ℕ → Memory → Acts
isotope_act b μ = keeps (drafted (pick (among b digits) (isotoped b μ.draft) (fields.symbolled b μ.draft)) μ)

-- ---- by mode
unfoldable pub mode_act : Mode → ℕ → ℕ → Memory → Acts
mode_act (seq x) b i μ =
    or_atom (letter_of b) (atom_act b i μ)
    (pick (among b nonzero) (bridge_act (digit b) i μ)
    (pick (eqb b 37) (keeps μ)
    (pick (among b bond_symbols) (joint_act b μ)
    (pick (eqb b 46) (joint_act b μ)
    (pick (eqb b 40) (branch_act i μ) (pick (eqb b 41) (keeps (moved (closed μ.st) μ)) (letter_act x μ)))))))
mode_act bond b i μ = or_atom (letter_of b) (atom_act b i μ) (pick (among b nonzero) (bridge_act (digit b) i μ) (keeps μ))
mode_act atomNext b i μ = atom_act b i μ
mode_act inside b i μ = or_atom (letter_of b) (atom_act b i μ) (joint_act b μ)
mode_act percent b i μ = keeps (counting (digit b) μ)
mode_act percent1 b i μ = bridge_act (10 * μ.tens + digit b) (i - 2) μ
mode_act letterA b i μ = second_letter 85 μ
mode_act letterT b i μ = second_letter 117 μ
mode_act bracket b i μ = isotope_act b μ
mode_act (isotope n) b i μ = isotope_act b μ
mode_act (symbol1 a) b i μ =
    pick (listed (a ∷ b ∷ []) symbols) (keeps (drafted (elemented (number_of (a ∷ b ∷ [])) 0 μ.draft) μ)) (mark_act 1 b μ)
mode_act symbolled b i μ = mark_act 1 b μ
mode_act at1 b i μ = mark_act 2 b μ
mode_act at2 b i μ = hydrogen_act b μ
mode_act hydrogen b i μ = pick (among b several) (keeps (drafted (hydrogened (digit b) μ.draft) μ)) (charge_act b μ)
mode_act hydrogens b i μ = charge_act b μ
mode_act sign b i μ = pick (among b several) (keeps (drafted (fields.charged (signed (positive μ.draft.charge) (digit b)) μ.draft) μ)) (close_act b μ)
mode_act charged b i μ = close_act b μ
mode_act colon b i μ = keeps (drafted (fields.extended b μ.draft) μ)
mode_act (extension n) b i μ = pick (among b digits) (keeps (drafted (fields.extended b μ.draft) μ)) (close_act b μ)

unfoldable pub act : MachineState → ℕ → ℕ → Memory → Acts
act dead b i μ = keeps μ
act start b i μ = atom_act b i μ
act (at m d) b i μ = mode_act m b i μ
