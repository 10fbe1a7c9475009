-- 01, The text: a machine that reads a text byte by byte, by the grammar alone (it accepts exactly the texts of the grammar, a theorem)
use Rattle.std.specs.Prelude.{Bool, true, false, List, [], ◌∷◌, ℕ, zero, suc, eqb}
pub use Rattle.reading_grammar.specs.declared.Last.{Last}
pub use Rattle.reading_grammar.specs.declared.Last.TheVariants.{Plain as plain, AfterC as afterC, AfterB as afterB}
pub use Rattle.reading_grammar.specs.declared.Mode.{Mode}
pub use Rattle.reading_grammar.specs.declared.Mode.TheVariants.{Seq as seq, Bond as bond, AtomNext as atomNext, Inside as inside, Percent as percent, Percent1 as percent1, LetterA as letterA, LetterT as letterT, Bracket as bracket, Isotope as isotope, Symbol1 as symbol1, Symbolled as symbolled, At1 as at1, At2 as at2, Hydrogen as hydrogen, Hydrogens as hydrogens, Sign as sign, Charged as charged, Colon as colon, Extension as extension}
pub use Rattle.reading_grammar.specs.declared.Move.{Move}
pub use Rattle.reading_grammar.specs.declared.Move.TheVariants.{Stop as stop, To as to, Up as up, Down as down}
pub use Rattle.reading_grammar.specs.declared.MachineState.{MachineState}
pub use Rattle.reading_grammar.specs.declared.MachineState.TheVariants.{Dead as dead, Start as start, At as at}
use Rattle.reading_grammar.specs.Grammar.{pick, among, listed, starts, nonzero, digits, several, bond_symbols, signs, letters, marks, symbols}

abbrev pub last_of : ℕ → Last
last_of b = pick (eqb b 67) afterC (pick (eqb b 66) afterB plain)

abbrev pub goes_on : Last → ℕ → Move
goes_on plain b = stop
goes_on afterC b = pick (eqb b 108) (to (seq plain)) stop
goes_on afterB b = pick (eqb b 114) (to (seq plain)) stop

-- an atom's first byte, or else k
unfoldable pub atom_or : ℕ → Move → Move
atom_or b k =
    pick (among b letters) (to (seq (last_of b)))
    (pick (eqb b 65) (to letterA) (pick (eqb b 84) (to letterT) (pick (eqb b 91) (to bracket) k)))

unfoldable pub bridge_or : ℕ → Move → Move
bridge_or b k = pick (among b nonzero) (to (seq plain)) (pick (eqb b 37) (to percent) k)

unfoldable pub closing : ℕ → Move
closing b = pick (eqb b 93) (to (seq plain)) stop

unfoldable pub extending : ℕ → Move
extending b = pick (eqb b 58) (to colon) (closing b)

unfoldable pub charging : ℕ → Move
charging b = pick (among b signs) (to sign) (extending b)

unfoldable pub hydrating : ℕ → Move
hydrating b = pick (eqb b 72) (to hydrogen) (charging b)

unfoldable pub marking : ℕ → Move
marking b = pick (eqb b 64) (to at1) (hydrating b)

-- a symbol's first byte, or else k
unfoldable pub symbol_or : ℕ → Move → Move
symbol_or b k = pick (starts b symbols) (to (symbol1 b)) (pick (among b marks) (to symbolled) k)

unfoldable pub next : Mode → ℕ → Move
next (seq x) b =
    atom_or b (bridge_or b
    (pick (among b bond_symbols) (to bond) (pick (eqb b 46) (to atomNext)
    (pick (eqb b 40) up (pick (eqb b 41) down (goes_on x b))))))
next bond b = atom_or b (bridge_or b stop)
next atomNext b = atom_or b stop
next inside b = atom_or b (pick (among b bond_symbols) (to atomNext) (pick (eqb b 46) (to atomNext) stop))
next percent b = pick (among b nonzero) (to percent1) stop
next percent1 b = pick (among b digits) (to (seq plain)) stop
next letterA b = pick (eqb b 116) (to (seq plain)) stop
next letterT b = pick (eqb b 115) (to (seq plain)) stop
next bracket b = symbol_or b (pick (among b nonzero) (to (isotope 2)) stop)
next (isotope zero) b = symbol_or b stop
next (isotope (suc n)) b = symbol_or b (pick (among b digits) (to (isotope n)) stop)
next (symbol1 a) b = pick (listed (a ∷ b ∷ []) symbols) (to symbolled) (pick (listed (a ∷ []) symbols) (marking b) stop)
next symbolled b = marking b
next at1 b = pick (eqb b 64) (to at2) (hydrating b)
next at2 b = hydrating b
next hydrogen b = pick (among b several) (to hydrogens) (charging b)
next hydrogens b = charging b
next sign b = pick (among b several) (to charged) (extending b)
next charged b = extending b
next colon b = pick (among b nonzero) (to (extension 3)) stop
next (extension zero) b = closing b
next (extension (suc n)) b = pick (among b digits) (to (extension n)) (closing b)

-- the depth of open branches
abbrev pub turn : Move → ℕ → MachineState
turn stop d = dead
turn (to m) d = at m d
turn up d = at inside (suc d)
turn down zero = dead
turn down (suc d) = at (seq plain) d

unfoldable pub step : MachineState → ℕ → MachineState
step dead b = dead
step start b = turn (atom_or b stop) 0
step (at m d) b = turn (next m b) d

unfoldable pub run : MachineState → List ℕ → MachineState
run σ [] = σ
run σ (b ∷ s) = run (step σ b) s

unfoldable pub resting : Mode → ℕ → Bool
resting (seq x) zero = true
resting (seq x) (suc d) = false
resting bond d = false
resting atomNext d = false
resting inside d = false
resting percent d = false
resting percent1 d = false
resting letterA d = false
resting letterT d = false
resting bracket d = false
resting (isotope n) d = false
resting (symbol1 a) d = false
resting symbolled d = false
resting at1 d = false
resting at2 d = false
resting hydrogen d = false
resting hydrogens d = false
resting sign d = false
resting charged d = false
resting colon d = false
resting (extension n) d = false

unfoldable pub accepting : MachineState → Bool
accepting dead = false
accepting start = true
accepting (at m d) = resting m d

abbrev pub alive : MachineState → Bool
alive dead = false
alive start = true
alive (at m d) = true

-- how many bytes are read before the machine is dead
unfoldable pub reach : MachineState → List ℕ → ℕ
reach σ [] = 0
reach σ (b ∷ s) = let r : ℕ = suc (reach (step σ b) s) in pick (alive (step σ b)) r 0

pub data Verdict : Type 0 where
  fine : Verdict
  refused : ℕ → Verdict

unfoldable pub verdict : List ℕ → Verdict
verdict s = pick (accepting (run start s)) fine (refused (reach start s))
