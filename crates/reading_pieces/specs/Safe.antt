-- auxiliary: what holds of a reading between two bytes, also of one that goes on from a state handed in by a caller, whose tables may be anything
use Rattle.std.specs.Prelude.{ℕ, ◌≤◌, ◌<◌, ◌≡◌, get_or}
use Rattle.ids.specs.Limits.{max_text, max_depth}
use Rattle.table.specs.Limits.{max_atoms, max_bonds}
use Rattle.reading_grammar.specs.declared.Mode.{Mode}
use Rattle.reading_grammar.specs.declared.Mode.TheVariants.{Seq as seq, Bond as bond, AtomNext as atomNext, Inside as inside, Percent as percent, Percent1 as percent1, LetterA as letterA, LetterT as letterT, Bracket as bracket, Isotope as isotope, Symbol1 as symbol1, Symbolled as symbolled, At1 as at1, At2 as at2, Hydrogen as hydrogen, Hydrogens as hydrogens, Sign as sign, Charged as charged, Colon as colon, Extension as extension}
use Rattle.reading_state.specs.State.{Steering}
use Rattle.reading_state.specs.declared.Fields.{Fields}
use Rattle.reading.specs.Memory.{Memory}
use Rattle.reading_pieces.specs.State.{isotope_mode, extension_mode}

-- the counts are within the limits, the atoms that the state names are below the limit, and the offsets lie in a text
pub record Bounded (s : Steering) : Type 0 where
  pub atoms : s.atoms ≤ max_atoms
  pub bonds : s.bonds ≤ max_bonds
  pub depth : s.depth ≤ max_depth
  pub hub : s.hub.0 < max_atoms
  pub stack : (k : ℕ) → k < s.depth → get_or s.stack k 0 < max_atoms
  pub opener : (r : ℕ) → get_or s.opener r 0 ≤ max_atoms
  pub offset : (r : ℕ) → get_or s.offset r 0 ≤ max_text

-- what a mode says of the first digit of a bridge's number, and of the fields of a bracket
abbrev pub Half : Mode → ℕ → Fields → Type 0
Half (seq x) t f = Unit {0}
Half bond t f = Unit {0}
Half atomNext t f = Unit {0}
Half inside t f = Unit {0}
Half percent t f = Unit {0}
Half percent1 t f = t ≤ 9
Half letterA t f = Unit {0}
Half letterT t f = Unit {0}
Half bracket t f = (f.isotope ≡ 0) × (f.extension ≡ 0)
Half (isotope k) t f = (isotope_mode f.isotope ≡ isotope k) × (f.isotope ≤ 999) × (f.extension ≡ 0)
Half (symbol1 a) t f = f.extension ≡ 0
Half symbolled t f = f.extension ≡ 0
Half at1 t f = f.extension ≡ 0
Half at2 t f = f.extension ≡ 0
Half hydrogen t f = f.extension ≡ 0
Half hydrogens t f = f.extension ≡ 0
Half sign t f = f.extension ≡ 0
Half charged t f = f.extension ≡ 0
Half colon t f = f.extension ≡ 0
Half (extension k) t f = (extension_mode f.extension ≡ extension k) × (f.extension ≤ 9999)

-- in a mode, d branches being open
pub record Safe (m : Mode) (d : ℕ) (μ : Memory) : Type 0 where
  pub bounded : Bounded μ.st
  pub depth : μ.st.depth ≡ d
  pub half : Half m μ.tens μ.draft
