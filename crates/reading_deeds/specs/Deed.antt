-- auxiliary: what performing a deed does to a reading's memory, and that a byte's deed is what the byte does
use Rattle.std.specs.Prelude.{ℕ, ◌-◌, ◌≤◌, ◌<◌, ◌≡◌, ◌&&◌, leb}
use Rattle.loops.specs.Loop.{pick}
use Rattle.ids.specs.Limits.{bridges}
use Rattle.table.specs.Limits.{max_atoms, max_bonds}
use Rattle.element.specs.declared.Letter.{Letter}
use Rattle.reading_grammar.specs.declared.Mode.{Mode}
use Rattle.reading_grammar.specs.declared.Mode.TheVariants.{Seq, Bond, AtomNext, Inside, Percent, Percent1, LetterA, LetterT, Bracket, Isotope, Symbol1, Symbolled, At1, At2, Hydrogen, Hydrogens, Sign, Charged, Colon, Extension}
use Rattle.reading_grammar.specs.Fold.{keeps, refuses}
use Rattle.reading_state.specs.declared.Fields.{Fields}
use Rattle.reading_state.specs.State.{closed}
use Rattle.reading.specs.Memory.{Memory, bonded, row_of, described, awaiting, moved, counting, drafted}
use Rattle.reading.specs.Act.{Acts, first_byte_of, second_letter, bridge_act, branch_act, mode_act}
use Rattle.reading_pieces.specs.State.{pending_of}
use Rattle.reading_deeds.specs.declared.Deed.{Deed}

-- an atom begins, by what its first byte is: `atom_act`
unfoldable pub beginning : Letter → ℕ → Memory → Acts
beginning l i μ =
    pick (leb max_atoms μ.st.atoms) (refuses 4 i)
    (pick (bonded μ && leb max_bonds μ.st.bonds) (refuses 5 i) (keeps (first_byte_of l μ)))

-- each deed at an offset
abbrev pub performed : Deed → ℕ → Memory → Acts
performed Deed.Keep i μ = keeps μ
performed (Deed.Atom l) i μ = beginning l i μ
performed (Deed.Second e) i μ = second_letter e μ
performed (Deed.Bridge r k) i μ = bridge_act r (i - k) μ
performed (Deed.Joint k) i μ = keeps (awaiting (pending_of k) μ)
performed Deed.Open i μ = branch_act i μ
performed Deed.Close i μ = keeps (moved (closed μ.st) μ)
performed (Deed.Tens d) i μ = keeps (counting d μ)
performed (Deed.Draft f) i μ = keeps (drafted f μ)
performed Deed.Row i μ = keeps (described (row_of μ.draft) μ)

-- a bridge's number is below the limit
abbrev pub Numbered : Deed → Type 0
Numbered Deed.Keep = Unit {0}
Numbered (Deed.Atom l) = Unit {0}
Numbered (Deed.Second e) = Unit {0}
Numbered (Deed.Bridge r k) = r < bridges
Numbered (Deed.Joint k) = Unit {0}
Numbered Deed.Open = Unit {0}
Numbered Deed.Close = Unit {0}
Numbered (Deed.Tens d) = Unit {0}
Numbered (Deed.Draft f) = Unit {0}
Numbered Deed.Row = Unit {0}

-- the deed is the act a, in every memory
pub record Acted (a : ℕ → Memory → Acts) (r : Deed) : Type 0 where
  pub is : (i : ℕ) (μ : Memory) → a i μ ≡ performed r i μ
  pub number : Numbered r

-- the same in every memory whose bracket has these fields so far
pub record Drafts (f : Fields) (a : Memory → Acts) (r : Deed) : Type 0 where
  pub is : (i : ℕ) (μ : Memory) → μ.draft ≡ f → a μ ≡ performed r i μ
  pub number : Numbered r

-- the deed is what the byte b does in the mode m, in every memory with this first digit of a bridge's number and these fields of the bracket
pub record Does (m : Mode) (b tens : ℕ) (f : Fields) (r : Deed) : Type 0 where
  pub is : (i : ℕ) (μ : Memory) → μ.tens ≡ tens → μ.draft ≡ f → mode_act m b i μ ≡ performed r i μ
  pub number : Numbered r

-- one digit more fits
abbrev pub Fitting : Mode → ℕ → Fields → Type 0
Fitting (Seq x) t f = Unit {0}
Fitting Bond t f = Unit {0}
Fitting AtomNext t f = Unit {0}
Fitting Inside t f = Unit {0}
Fitting Percent t f = Unit {0}
Fitting Percent1 t f = t ≤ 9
Fitting LetterA t f = Unit {0}
Fitting LetterT t f = Unit {0}
Fitting Bracket t f = f.isotope ≤ 999
Fitting (Isotope k) t f = f.isotope ≤ 999
Fitting (Symbol1 a) t f = Unit {0}
Fitting Symbolled t f = Unit {0}
Fitting At1 t f = Unit {0}
Fitting At2 t f = Unit {0}
Fitting Hydrogen t f = Unit {0}
Fitting Hydrogens t f = Unit {0}
Fitting Sign t f = Unit {0}
Fitting Charged t f = Unit {0}
Fitting Colon t f = f.extension ≤ 999
Fitting (Extension k) t f = (k ≡ 0 → ⊥) → f.extension ≤ 999

-- the fields with another isotope, and with another extension
abbrev pub with_isotope : Fields → ℕ → Fields
with_isotope f i = record { element = f.element; selected = f.selected; isotope = i; hydrogens = f.hydrogens; charge = f.charge; extension = f.extension; mark = f.mark }

abbrev pub with_extension : Fields → ℕ → Fields
with_extension f e = record { element = f.element; selected = f.selected; isotope = f.isotope; hydrogens = f.hydrogens; charge = f.charge; extension = e; mark = f.mark }
