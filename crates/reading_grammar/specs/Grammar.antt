-- 01, The text: the grammar of texts as inductive definitions on lists of bytes, apart from any reader
use Rattle.std.specs.Prelude.{◌≡◌, true, List, [], ◌∷◌, ◌++◌, ℕ, suc}
pub use Rattle.loops.specs.Loop.{pick}
unfoldable pub use Rattle.element.specs.Symbols.{among, same_bytes, listed, starts, letters, marks, symbols}

-- 1 to 9, 0 to 9, 2 to 9
unfoldable pub nonzero : List ℕ
nonzero = 49 ∷ 50 ∷ 51 ∷ 52 ∷ 53 ∷ 54 ∷ 55 ∷ 56 ∷ 57 ∷ []

unfoldable pub digits : List ℕ
digits = 48 ∷ 49 ∷ 50 ∷ 51 ∷ 52 ∷ 53 ∷ 54 ∷ 55 ∷ 56 ∷ 57 ∷ []

unfoldable pub several : List ℕ
several = 50 ∷ 51 ∷ 52 ∷ 53 ∷ 54 ∷ 55 ∷ 56 ∷ 57 ∷ []

-- - = # / \
unfoldable pub bond_symbols : List ℕ
bond_symbols = 45 ∷ 61 ∷ 35 ∷ 47 ∷ 92 ∷ []

-- + -
unfoldable pub signs : List ℕ
signs = 43 ∷ 45 ∷ []

-- at most n digits
pub data Digits : ℕ → List ℕ → Type 0 where
  none : {n : ℕ} → Digits n []
  more : {n d : ℕ} {s : List ℕ} → among d digits ≡ true → Digits n s → Digits (suc n) (d ∷ s)

-- a number without a leading zero, of at most n + 1 digits
pub data Number : ℕ → List ℕ → Type 0 where
  number : {n d : ℕ} {s : List ℕ} → among d nonzero ≡ true → Digits n s → Number n (d ∷ s)

-- the fields of a bracket
pub data Isotope : List ℕ → Type 0 where
  none : Isotope []
  isotope : {s : List ℕ} → Number 2 s → Isotope s

pub data Symbol : List ℕ → Type 0 where
  mark : {b : ℕ} → among b marks ≡ true → Symbol (b ∷ [])
  element : {s : List ℕ} → listed s symbols ≡ true → Symbol s

-- 02, P8: "`@` and `@@` between symbol and hydrogens"
pub data Tetrahedral : List ℕ → Type 0 where
  none : Tetrahedral []
  one : Tetrahedral (64 ∷ [])
  two : Tetrahedral (64 ∷ 64 ∷ [])

pub data Hydrogens : List ℕ → Type 0 where
  none : Hydrogens []
  one : Hydrogens (72 ∷ [])
  many : {d : ℕ} → among d several ≡ true → Hydrogens (72 ∷ d ∷ [])

pub data Charge : List ℕ → Type 0 where
  none : Charge []
  one : {c : ℕ} → among c signs ≡ true → Charge (c ∷ [])
  many : {c d : ℕ} → among c signs ≡ true → among d several ≡ true → Charge (c ∷ d ∷ [])

pub data Extension : List ℕ → Type 0 where
  none : Extension []
  extension : {s : List ℕ} → Number 3 s → Extension (58 ∷ s)

pub data Atom : List ℕ → Type 0 where
  letter : {b : ℕ} → among b letters ≡ true → Atom (b ∷ [])
  Cl : Atom (67 ∷ 108 ∷ [])
  Br : Atom (66 ∷ 114 ∷ [])
  At : Atom (65 ∷ 116 ∷ [])
  Ts : Atom (84 ∷ 115 ∷ [])
  bracket : {i y k h c e : List ℕ} → Isotope i → Symbol y → Tetrahedral k → Hydrogens h → Charge c → Extension e
      → Atom (91 ∷ (i ++ (y ++ (k ++ (h ++ (c ++ (e ++ 93 ∷ [])))))))

-- a digit 1 to 9, or % and two digits 10 to 99
pub data Bridge : List ℕ → Type 0 where
  short : {d : ℕ} → among d nonzero ≡ true → Bridge (d ∷ [])
  long : {d e : ℕ} → among d nonzero ≡ true → among e digits ≡ true → Bridge (37 ∷ d ∷ e ∷ [])

-- an optional bond symbol
pub data Bond : List ℕ → Type 0 where
  elided : Bond []
  symbol : {b : ℕ} → among b bond_symbols ≡ true → Bond (b ∷ [])

-- an optional bond symbol or dot
pub data Joint : List ℕ → Type 0 where
  bond : {s : List ℕ} → Bond s → Joint s
  dot : Joint (46 ∷ [])

mutual
  -- an atom and any number of pieces
  pub data Sequence : List ℕ → Type 0 where
    sequence : {a p : List ℕ} → Atom a → Pieces p → Sequence (a ++ p)

  pub data Pieces : List ℕ → Type 0 where
    none : Pieces []
    more : {p q : List ℕ} → Piece p → Pieces q → Pieces (p ++ q)

  pub data Piece : List ℕ → Type 0 where
    atom : {b a : List ℕ} → Bond b → Atom a → Piece (b ++ a)
    bridge : {b r : List ℕ} → Bond b → Bridge r → Piece (b ++ r)
    dot : {a : List ℕ} → Atom a → Piece (46 ∷ a)
    branch : {j s : List ℕ} → Joint j → Sequence s → Piece (40 ∷ (j ++ (s ++ 41 ∷ [])))

pub data Text : List ℕ → Type 0 where
  empty : Text []
  text : {s : List ℕ} → Sequence s → Text s
