-- 01, The text: what symbol stands at two bytes, in brackets and outside, and how an element is spelled
use Rattle.std.specs.Prelude.{Bool, ◌||◌, List, [], ◌∷◌, ℕ, zero, suc, eqb, get_or, Option, Some, None}
use Rattle.loops.specs.Loop.{pick}
use Rattle.element.specs.Symbols.{among, same_bytes, listed, starts, letters, symbols}
use Rattle.element.specs.declared.Symbol.{Symbol}
use Rattle.element.specs.declared.Symbol.TheVariants.{Long, Brief, Half, Nothing}
use Rattle.element.specs.declared.Letter.{Letter}
use Rattle.element.specs.declared.Spelling.{Spelling}

-- the place of a word in a list, counted from 1; 0 where it does not stand there
unfoldable pub index_from : ℕ → List ℕ → List (List ℕ) → ℕ
index_from k s [] = 0
index_from k s (t ∷ l) = pick (same_bytes s t) k (index_from (suc k) s l)

-- the atomic number of a symbol; 0 for no symbol
unfoldable pub number_of : List ℕ → ℕ
number_of s = index_from 1 s symbols

-- the atomic number of a symbol of one letter; 255 where only longer ones begin with it, 0 where none does
unfoldable pub single_of : ℕ → ℕ
single_of a = pick (listed (a ∷ []) symbols) (number_of (a ∷ [])) (pick (starts a symbols) 255 0)

-- c n o p s: the atomic number of a selected letter; 0 for another byte
unfoldable pub selected_of : ℕ → ℕ
selected_of b = pick (eqb b 99) 6 (pick (eqb b 110) 7 (pick (eqb b 111) 8 (pick (eqb b 112) 15 (pick (eqb b 115) 16 0))))

-- a number for which 0 says that there is none
abbrev pub nonzero : ℕ → Option ℕ
nonzero n = pick (eqb n 0) None (Some n)

-- what a letter is by itself, by `single_of`
abbrev pub symbol_alone : ℕ → Symbol
symbol_alone n = pick (eqb n 0) Nothing (pick (eqb n 255) Half (Brief n))

-- "In brackets": `*`, one of the 118 symbols (the longer one first), or a selected letter; b is 0 where a is the last byte
unfoldable pub symbol_of : ℕ → ℕ → Symbol
symbol_of a b =
    pick (eqb a 42) (Brief 0)
    (pick (eqb (selected_of a) 0)
    (pick (listed (a ∷ b ∷ []) symbols) (Long (number_of (a ∷ b ∷ [])))
    (pick (listed (a ∷ []) symbols) (Brief (number_of (a ∷ [])))
    (pick (starts a symbols) Half Nothing)))
    (Symbol.Selected (selected_of a)))

-- "Atoms outside brackets": what an atom's first byte is. The l of `Cl` and the r of `Br` come after it
unfoldable pub letter_of : ℕ → Letter
letter_of b =
    pick (eqb b 42) (Letter.Plain 0)
    (pick (eqb (selected_of b) 0)
    (pick (among b letters) (Letter.Plain (number_of (b ∷ [])))
    (pick (eqb b 65 || eqb b 84) Letter.Half (pick (eqb b 91) Letter.Bracket Letter.Nothing)))
    (Letter.Selected (selected_of b)))

-- the elements with a letter outside brackets: * B C N O F P S Cl Br I At Ts
unfoldable pub bare : ℕ → Bool
bare e = among e (0 ∷ 5 ∷ 6 ∷ 7 ∷ 8 ∷ 9 ∷ 15 ∷ 16 ∷ 17 ∷ 35 ∷ 53 ∷ 85 ∷ 117 ∷ [])

-- the bytes of an element's symbol: `*` for 0; nothing above 118
unfoldable pub bytes_of : ℕ → List ℕ
bytes_of zero = 42 ∷ []
bytes_of (suc e) = get_or symbols e []

-- the selected letter of an element; nothing where there is none
unfoldable pub selected_bytes : ℕ → List ℕ
selected_bytes e =
    pick (eqb e 6) (99 ∷ []) (pick (eqb e 7) (110 ∷ []) (pick (eqb e 8) (111 ∷ []) (pick (eqb e 15) (112 ∷ []) (pick (eqb e 16) (115 ∷ []) []))))

-- the same with 0 for a letter that is not there
abbrev pub spelling : List ℕ → Spelling
spelling s = record { first = get_or s 0 0; second = get_or s 1 0 }
