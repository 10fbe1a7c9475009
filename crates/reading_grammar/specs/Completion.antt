-- auxiliary: bytes that complete what the machine has read to a text, for the place of refusal 3
use Rattle.std.specs.Prelude.{List, [], ◌∷◌, ◌++◌, ℕ, eqb, replicate}
use Rattle.reading_grammar.specs.Grammar.{pick, symbols}
use Rattle.reading_grammar.specs.Machine.{Mode, seq, bond, atomNext, inside, percent, percent1, letterA, letterT, bracket, isotope, symbol1, symbolled, at1, at2, hydrogen, hydrogens, sign, charged, colon, extension, MachineState, dead, start, at}

-- the rest of the first word that begins with a
unfoldable pub rest_of : ℕ → List (List ℕ) → List ℕ
rest_of a [] = []
rest_of a ([] ∷ l) = rest_of a l
rest_of a ((b ∷ t) ∷ l) = pick (eqb a b) t (rest_of a l)

-- bytes that complete the item that a mode is in
unfoldable pub fill : Mode → List ℕ
fill (seq x) = []
fill bond = 67 ∷ []
fill atomNext = 67 ∷ []
fill inside = 67 ∷ []
fill percent = 49 ∷ 48 ∷ []
fill percent1 = 48 ∷ []
fill letterA = 116 ∷ []
fill letterT = 115 ∷ []
fill bracket = 67 ∷ 93 ∷ []
fill (isotope n) = 67 ∷ 93 ∷ []
fill (symbol1 a) = rest_of a symbols ++ 93 ∷ []
fill symbolled = 93 ∷ []
fill at1 = 93 ∷ []
fill at2 = 93 ∷ []
fill hydrogen = 93 ∷ []
fill hydrogens = 93 ∷ []
fill sign = 93 ∷ []
fill charged = 93 ∷ []
fill colon = 49 ∷ 93 ∷ []
fill (extension n) = 93 ∷ []

-- bytes that complete a text
unfoldable pub completion : MachineState → List ℕ
completion dead = []
completion start = []
completion (at m d) = fill m ++ replicate d 41
