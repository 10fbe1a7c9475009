-- Texts of 01, and of 02's P8, by computation.
use mathlib.Core.Path.{◌≡◌, refl}
use mathlib.Core.List.{[], ◌∷◌, map}
use Rattle.reading_grammar.specs.Grammar.{starts, among, listed, same_bytes, nonzero, digits, several, bond_symbols, signs, letters, marks, symbols}
use Rattle.reading_grammar.specs.Machine.{verdict, fine, refused, run, reach, step, next, accepting, resting, atom_or, bridge_or, closing, extending, charging, hydrating, marking, symbol_or}

examples : map verdict (
    ([]) ∷  -- empty
    (67 ∷ []) ∷  -- C
    (99 ∷ 49 ∷ 99 ∷ 99 ∷ 99 ∷ 99 ∷ 99 ∷ 49 ∷ []) ∷  -- c1ccccc1
    (67 ∷ 78 ∷ 40 ∷ 67 ∷ 41 ∷ 40 ∷ 67 ∷ 41 ∷ 67 ∷ []) ∷  -- CN(C)(C)C
    (91 ∷ 67 ∷ 117 ∷ 93 ∷ []) ∷  -- [Cu]
    (83 ∷ 99 ∷ []) ∷  -- Sc
    (67 ∷ 37 ∷ 49 ∷ 50 ∷ 67 ∷ 67 ∷ 37 ∷ 49 ∷ 50 ∷ []) ∷  -- C%12CC%12
    (91 ∷ 49 ∷ 51 ∷ 99 ∷ 72 ∷ 45 ∷ 93 ∷ []) ∷  -- [13cH-]
    (91 ∷ 50 ∷ 51 ∷ 56 ∷ 85 ∷ 43 ∷ 52 ∷ 58 ∷ 49 ∷ 50 ∷ 51 ∷ 52 ∷ 93 ∷ []) ∷  -- [238U+4:1234]
    (67 ∷ 108 ∷ 67 ∷ 40 ∷ 61 ∷ 79 ∷ 41 ∷ 91 ∷ 110 ∷ 72 ∷ 50 ∷ 43 ∷ 51 ∷ 93 ∷ []) ∷  -- ClC(=O)[nH2+3]
    (66 ∷ 114 ∷ 65 ∷ 116 ∷ 84 ∷ 115 ∷ 42 ∷ 73 ∷ []) ∷  -- BrAtTs*I
    (67 ∷ 40 ∷ 41 ∷ []) ∷  -- C()
    (67 ∷ 40 ∷ 67 ∷ []) ∷  -- C(C
    (67 ∷ 37 ∷ 48 ∷ 49 ∷ []) ∷  -- C%01
    (67 ∷ 46 ∷ 49 ∷ []) ∷  -- C.1
    (91 ∷ 49 ∷ 48 ∷ 48 ∷ 48 ∷ 67 ∷ 93 ∷ []) ∷  -- [1000C]
    (91 ∷ 67 ∷ 72 ∷ 49 ∷ 93 ∷ []) ∷  -- [CH1]
    (67 ∷ 117 ∷ []) ∷  -- Cu
    (91 ∷ 48 ∷ 49 ∷ 67 ∷ 93 ∷ []) ∷  -- [01C]
    (91 ∷ 67 ∷ 58 ∷ 48 ∷ 93 ∷ []) ∷  -- [C:0]
    (67 ∷ 41 ∷ []) ∷  -- C)
    (67 ∷ 61 ∷ 61 ∷ 67 ∷ []) ∷  -- C==C
    (91 ∷ 88 ∷ 120 ∷ 93 ∷ []) ∷  -- [Xx]
    (40 ∷ 67 ∷ 41 ∷ []) ∷  -- (C)
    (65 ∷ 108 ∷ []) ∷  -- Al
    (67 ∷ 40 ∷ 46 ∷ 67 ∷ 41 ∷ []) ∷  -- C(.C)
    (67 ∷ 40 ∷ 45 ∷ 67 ∷ 41 ∷ 61 ∷ 49 ∷ 67 ∷ 35 ∷ 67 ∷ 49 ∷ []) ∷  -- C(-C)=1C#C1
    (91 ∷ 67 ∷ 64 ∷ 93 ∷ []) ∷  -- [C@]
    (91 ∷ 49 ∷ 51 ∷ 99 ∷ 64 ∷ 64 ∷ 72 ∷ 45 ∷ 58 ∷ 50 ∷ 93 ∷ []) ∷  -- [13c@@H-:2]
    (91 ∷ 42 ∷ 64 ∷ 64 ∷ 93 ∷ []) ∷  -- [*@@]
    (91 ∷ 67 ∷ 64 ∷ 64 ∷ 64 ∷ 93 ∷ []) ∷  -- [C@@@]
    (91 ∷ 67 ∷ 64 ∷ 84 ∷ 72 ∷ 49 ∷ 93 ∷ []) ∷  -- [C@TH1]
    (91 ∷ 67 ∷ 72 ∷ 64 ∷ 93 ∷ []) ∷  -- [CH@]
    []) ≡ (
    fine ∷ fine ∷ fine ∷ fine ∷ fine ∷ fine ∷ fine ∷ fine ∷ fine ∷ fine ∷ fine ∷ refused 2 ∷ refused 3 ∷ refused 2 ∷ refused 2 ∷ refused 4 ∷ refused 3 ∷ refused 1 ∷ refused 1 ∷ refused 3 ∷ refused 1 ∷ refused 2 ∷ refused 2 ∷ refused 0 ∷ refused 1 ∷ fine ∷ fine ∷ fine ∷ fine ∷ fine ∷ refused 4 ∷ refused 3 ∷ refused 3 ∷ [])
unfolding verdict run reach step next accepting resting starts atom_or bridge_or closing extending charging hydrating marking symbol_or among listed same_bytes nonzero digits several bond_symbols signs letters marks symbols
examples = refl
