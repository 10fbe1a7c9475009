-- 02, P11: "the state handed back to the caller between pieces": a reading as numbers, and the machine and the memory that such numbers stand for
use Rattle.std.specs.Prelude.{ℕ, zero, suc, Bool, ◌&&◌, List, [], ◌∷◌, get_or, set, replicate, ℤ, pos, eqb, leb}
use Rattle.loops.specs.Loop.{pick, run}
use Rattle.kinds.specs.Kind.{max_kind}
use Rattle.ids.specs.Limits.{max_text, max_depth, bridges}
use Rattle.table.specs.Limits.{max_atoms}
use Rattle.reading_grammar.specs.declared.Last.TheVariants.{Plain as plain, AfterC as afterC, AfterB as afterB}
use Rattle.reading_grammar.specs.declared.Mode.{Mode}
use Rattle.reading_grammar.specs.declared.Mode.TheVariants.{Seq as seq, Bond as bond, AtomNext as atomNext, Inside as inside, Percent as percent, Percent1 as percent1, LetterA as letterA, LetterT as letterT, Bracket as bracket, Isotope as isotope, Symbol1 as symbol1, Symbolled as symbolled, At1 as at1, At2 as at2, Hydrogen as hydrogen, Hydrogens as hydrogens, Sign as sign, Charged as charged, Colon as colon, Extension as extension}
use Rattle.reading_grammar.specs.declared.MachineState.{MachineState}
use Rattle.reading_grammar.specs.declared.MachineState.TheVariants.{Dead as dead, Start as start, At as at}
use Rattle.reading_state.specs.declared.Fields.{Fields}
use Rattle.reading_state.specs.State.{Steering, key_count}
use Rattle.reading.specs.Memory.{Memory, Pending, nothing, dotted, symbol}
use Rattle.reading_pieces.specs.declared.Paused.{Paused}

-- ---- from numbers

-- an isotope that is half-read: before its first digit the bracket has just begun; two more digits may follow one, one may follow two
abbrev pub isotope_mode : ℕ → Mode
isotope_mode i = pick (eqb i 0) bracket (isotope (pick (leb i 9) 2 (pick (leb i 99) 1 0)))

-- the same of an extension, of up to four digits
abbrev pub extension_mode : ℕ → Mode
extension_mode e = pick (eqb e 0) colon (extension (pick (leb e 9) 3 (pick (leb e 99) 2 (pick (leb e 999) 1 0))))

-- the modes by their numbers, with the first letter of a symbol, the isotope and the extension so far; the last stands for every higher number
unfoldable pub mode_of : ℕ → ℕ → ℕ → ℕ → Mode
mode_of m a i e =
    get_or
    (atomNext ∷ seq plain ∷ seq afterC ∷ seq afterB ∷ bond ∷ inside ∷ percent ∷ percent1 ∷ letterA ∷ letterT
    ∷ isotope_mode i ∷ symbol1 a ∷ symbolled ∷ at1 ∷ at2 ∷ hydrogen ∷ hydrogens ∷ sign ∷ charged ∷ [])
    m (extension_mode e)

-- no atoms yet is the start
abbrev pub machine_of : Paused → MachineState
machine_of p = pick (eqb p.atoms 0) start (at (mode_of p.mode p.letter p.isotope p.extension) p.depth)

-- 0 nothing, a symbol's kind and one, above those a dot
abbrev pub pending_of : ℕ → Pending
pending_of zero = nothing
pending_of (suc k) = pick (leb k max_kind) (symbol k) dotted

-- in a bracket there is no extension before its `:`
abbrev pub extension_in : ℕ → ℕ → ℕ
extension_in m e = pick (leb 10 m && leb m 18) 0 e

abbrev pub fields_of : Paused → Fields
fields_of p =
    record {
      element = p.element;
      selected = p.selected;
      isotope = p.isotope;
      hydrogens = p.hydrogens;
      charge = p.charge;
      extension = extension_in p.mode p.extension;
      mark = p.mark;
    }

-- an offset past the limit of a text counts as the limit; the first n of a list
abbrev pub cap : ℕ → ℕ
cap q = pick (leb q max_text) q max_text

unfoldable pub capped : ℕ → List ℕ → List ℕ
capped n l = run (λ i t. set t i (cap (get_or t i 0))) 0 n l

abbrev pub steering_of : Paused → Steering
steering_of p =
    record {
      hub = record { 0 = p.hub };
      atoms = p.atoms;
      bonds = p.bonds;
      depth = p.depth;
      stack = p.hubs;
      opener = p.openers;
      symbol = p.symbols;
      offset = capped bridges p.offsets;
      outside = p.outsides;
      keys = capped key_count p.keys;
    }

-- with the tables beside it
abbrev pub memory_of : Paused → List ℤ → List ℤ → Memory
memory_of p atoms bonds =
    record {
      st = steering_of p;
      atoms = atoms;
      bonds = bonds;
      pending = pending_of p.pending;
      tens = p.tens;
      draft = fields_of p;
    }

-- ---- to numbers

unfoldable pub mode_number : Mode → ℕ
mode_number atomNext = 0
mode_number (seq plain) = 1
mode_number (seq afterC) = 2
mode_number (seq afterB) = 3
mode_number bond = 4
mode_number inside = 5
mode_number percent = 6
mode_number percent1 = 7
mode_number letterA = 8
mode_number letterT = 9
mode_number bracket = 10
mode_number (isotope k) = 10
mode_number (symbol1 a) = 11
mode_number symbolled = 12
mode_number at1 = 13
mode_number at2 = 14
mode_number hydrogen = 15
mode_number hydrogens = 16
mode_number sign = 17
mode_number charged = 18
mode_number colon = 19
mode_number (extension k) = 19

-- the first letter of a half-read symbol
unfoldable pub mode_letter : Mode → ℕ
mode_letter atomNext = 0
mode_letter (seq x) = 0
mode_letter bond = 0
mode_letter inside = 0
mode_letter percent = 0
mode_letter percent1 = 0
mode_letter letterA = 0
mode_letter letterT = 0
mode_letter bracket = 0
mode_letter (isotope k) = 0
mode_letter (symbol1 a) = a
mode_letter symbolled = 0
mode_letter at1 = 0
mode_letter at2 = 0
mode_letter hydrogen = 0
mode_letter hydrogens = 0
mode_letter sign = 0
mode_letter charged = 0
mode_letter colon = 0
mode_letter (extension k) = 0

abbrev pub pending_number : Pending → ℕ
pending_number nothing = 0
pending_number (symbol k) = suc k
pending_number dotted = suc (suc max_kind)

-- a reading that goes on after i bytes, in a mode
abbrev pub paused_in : ℕ → Mode → Memory → Paused
paused_in i m μ =
    record {
      told = 0;
      place = 0;
      read = i;
      mode = mode_number m;
      letter = mode_letter m;
      pending = pending_number μ.pending;
      tens = μ.tens;
      element = μ.draft.element;
      selected = μ.draft.selected;
      isotope = μ.draft.isotope;
      hydrogens = μ.draft.hydrogens;
      charge = μ.draft.charge;
      extension = μ.draft.extension;
      mark = μ.draft.mark;
      hub = μ.st.hub.0;
      atoms = μ.st.atoms;
      bonds = μ.st.bonds;
      depth = μ.st.depth;
      hubs = μ.st.stack;
      openers = μ.st.opener;
      symbols = μ.st.symbol;
      offsets = μ.st.offset;
      outsides = μ.st.outside;
      keys = μ.st.keys;
    }

-- before the first byte the machine waits for an atom
abbrev pub paused_at : ℕ → MachineState → Memory → Paused
paused_at i dead μ = paused_in i atomNext μ
paused_at i start μ = paused_in i atomNext μ
paused_at i (at m d) μ = paused_in i m μ

-- ---- told or ended

-- every cell 0 but what was told: 0, a refusal's code with its offset, or that the reading has ended
unfoldable pub blank_state : ℕ → ℕ → Paused
blank_state c p =
    record {
      told = c;
      place = p;
      read = 0;
      mode = 0;
      letter = 0;
      pending = 0;
      tens = 0;
      element = 0;
      selected = 0;
      isotope = 0;
      hydrogens = 0;
      charge = pos 0;
      extension = 0;
      mark = 0;
      hub = 0;
      atoms = 0;
      bonds = 0;
      depth = 0;
      hubs = replicate max_depth 0;
      openers = replicate bridges 0;
      symbols = replicate bridges 0;
      offsets = replicate bridges 0;
      outsides = replicate max_atoms 0;
      keys = replicate key_count 0;
    }

-- the code that says that a reading has ended is that of a call after the end
abbrev pub ended_code : ℕ
ended_code = 24

abbrev pub goes_on : Paused → Bool
goes_on p = eqb p.told 0

abbrev pub has_ended : Paused → Bool
has_ended p = eqb p.told ended_code
