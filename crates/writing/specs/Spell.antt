-- 01, Writing: the bytes of an atom, of a bond symbol, of a bridge, and of a walk's tokens
use Rattle.std.specs.Prelude.{ℕ, suc, ◌+◌, ◌/◌, ◌%◌, Bool, false, ◌&&◌, List, [], ◌∷◌, ◌++◌, ℤ, pos, negsuc, eqb, ltb}
use Rattle.kinds.specs.Kind.{bond_symbol}
use Rattle.loops.specs.Loop.{pick}
use Rattle.element.specs.Lookup.{bare, bytes_of, selected_bytes}
use Rattle.valence.specs.Valence.{implied}
use Rattle.table.specs.Limits.{ISOTOPE, CHARGE, EXTENSION}
use Rattle.table.specs.Cells.{number, atom_cell, element, selected, hydrogens, mark}
use Rattle.table_graph.specs.Graph.{bond_sum}
use Rattle.writing_walk.specs.Token.{Tok, apart, along, ring, branch, back}

abbrev pub digit_byte : ℕ → ℕ
digit_byte d = 48 + d

-- a number below 10,000 in decimal, without leading zeros
unfoldable pub decimal : ℕ → List ℕ
decimal n =
    pick (ltb n 10) (digit_byte n ∷ [])
    (pick (ltb n 100) (digit_byte (n / 10) ∷ digit_byte (n % 10) ∷ [])
    (pick (ltb n 1000) (digit_byte (n / 100) ∷ digit_byte (n / 10 % 10) ∷ digit_byte (n % 10) ∷ [])
    (digit_byte (n / 1000) ∷ digit_byte (n / 100 % 10) ∷ digit_byte (n / 10 % 10) ∷ digit_byte (n % 10) ∷ [])))

-- ---- the fields of a bracket; "An absent number field is 0"
abbrev pub isotope_bytes : ℕ → List ℕ
isotope_bytes i = pick (eqb i 0) [] (decimal i)

abbrev pub symbol_bytes : ℕ → ℕ → List ℕ
symbol_bytes e s = pick (eqb s 1) (selected_bytes e) (bytes_of e)

-- 02, P8: "0 none, 1 for `@`, 2 for `@@`"
unfoldable pub mark_bytes : ℕ → List ℕ
mark_bytes k = pick (eqb k 0) [] (pick (eqb k 1) (64 ∷ []) (64 ∷ 64 ∷ []))

-- "`H` is 1, `H2` to `H9`"
unfoldable pub hydrogen_bytes : ℕ → List ℕ
hydrogen_bytes h = pick (eqb h 0) [] (pick (eqb h 1) (72 ∷ []) (72 ∷ digit_byte h ∷ []))

-- a sign, and its size from 2 on
unfoldable pub size_bytes : ℕ → ℕ → List ℕ
size_bytes sign n = pick (eqb n 0) [] (pick (eqb n 1) (sign ∷ []) (sign ∷ digit_byte n ∷ []))

abbrev pub charge_bytes : ℤ → List ℕ
charge_bytes (pos n) = size_bytes 43 n
charge_bytes (negsuc n) = size_bytes 45 (suc n)

abbrev pub extension_bytes : ℕ → List ℕ
extension_bytes x = pick (eqb x 0) [] (58 ∷ decimal x)

-- the fields in their order, 02, P8: "`@` and `@@` between symbol and hydrogens"; k: the mark as it is written
unfoldable pub bracket_bytes : List ℤ → ℕ → ℕ → List ℕ
bracket_bytes t a k =
    91 ∷ (isotope_bytes (number (atom_cell t a ISOTOPE)) ++ (symbol_bytes (element t a) (selected t a) ++ (mark_bytes k ++ (hydrogen_bytes (hydrogens t a)
    ++ (charge_bytes (atom_cell t a CHARGE) ++ (extension_bytes (number (atom_cell t a EXTENSION)) ++ 93 ∷ []))))))

abbrev pub neutral : ℤ → Bool
neutral (pos n) = eqb n 0
neutral (negsuc n) = false

-- "without brackets exactly if isotope, charge and extension are 0, its letter is allowed outside, and read there it would get the same hydrogens"; 02, P8: "A marked atom is always written in brackets"; k: its mark; sum: its bond sum
unfoldable pub without_brackets : List ℤ → ℕ → ℕ → ℕ → Bool
without_brackets atoms a k sum =
    eqb (number (atom_cell atoms a ISOTOPE)) 0 && neutral (atom_cell atoms a CHARGE) && eqb (number (atom_cell atoms a EXTENSION)) 0 && eqb k 0
    && bare (element atoms a) && eqb (implied (element atoms a) (selected atoms a) sum) (hydrogens atoms a)

unfoldable pub spelled_atom : List ℤ → ℕ → ℕ → ℕ → List ℕ
spelled_atom atoms a k sum = pick (without_brackets atoms a k sum) (symbol_bytes (element atoms a) (selected atoms a)) (bracket_bytes atoms a k)

-- of an atom of a molecule, with the mark that its row has
abbrev pub unbracketed : List ℤ → List ℤ → ℕ → ℕ → Bool
unbracketed atoms bonds m a = without_brackets atoms a (mark atoms a) (bond_sum bonds m a)

abbrev pub atom_bytes : List ℤ → List ℤ → ℕ → ℕ → List ℕ
atom_bytes atoms bonds m a = spelled_atom atoms a (mark atoms a) (bond_sum bonds m a)

-- "kind 0 is written as nothing"
unfoldable pub kind_bytes : ℕ → List ℕ
kind_bytes k = pick (eqb (bond_symbol k) 0) [] (bond_symbol k ∷ [])

-- "a digit 1 to 9, or `%` and two digits 10 to 99"; r is the number less one
unfoldable pub bridge_bytes : ℕ → List ℕ
bridge_bytes r = pick (ltb r 9) (digit_byte (r + 1) ∷ []) (37 ∷ decimal (r + 1))

-- ---- tokens; f: the bytes of an atom
module _ (f : ℕ → List ℕ) where
  abbrev pub token_bytes : Tok → List ℕ
  token_bytes (apart a) = 46 ∷ f a
  token_bytes (along k a) = kind_bytes k ++ f a
  token_bytes (ring k r) = kind_bytes k ++ bridge_bytes r
  token_bytes branch = 40 ∷ []
  token_bytes back = 41 ∷ []

  unfoldable pub rest_bytes : List Tok → List ℕ
  rest_bytes [] = []
  rest_bytes (t ∷ ts) = token_bytes t ++ rest_bytes ts

  -- "for each further piece of the molecule writes a dot": none before the first
  unfoldable pub tokens_bytes : List Tok → List ℕ
  tokens_bytes [] = []
  tokens_bytes (apart a ∷ ts) = f a ++ rest_bytes ts
  tokens_bytes (along k a ∷ ts) = rest_bytes (along k a ∷ ts)
  tokens_bytes (ring k r ∷ ts) = rest_bytes (ring k r ∷ ts)
  tokens_bytes (branch ∷ ts) = rest_bytes (branch ∷ ts)
  tokens_bytes (back ∷ ts) = rest_bytes (back ∷ ts)
