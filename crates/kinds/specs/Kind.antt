-- 01, The tables, and 02, P5: the kinds of bonds by name, "kind (0 elided, 1, 2, 3)" and "`/` and `\` as kinds 4 and 5"; what each adds to a bond sum, its symbol, its mark seen from the other end, and how those at the two ends of a bridge meet
use Rattle.std.specs.Prelude.{ℕ, Bool, ◌&&◌, ◌||◌, not, eqb, leb, Option, Some, None}
use Rattle.loops.specs.Loop.{pick}

abbrev pub elided : ℕ
elided = 0

abbrev pub single : ℕ
single = 1

abbrev pub double : ℕ
double = 2

abbrev pub triple : ℕ
triple = 3

-- the marks `/` and `\`
abbrev pub up : ℕ
up = 4

abbrev pub down : ℕ
down = 5

-- the largest kind
abbrev pub max_kind : ℕ
max_kind = down

-- a kind that is a mark
abbrev pub is_mark : ℕ → Bool
is_mark k = eqb k up || eqb k down

-- the mark of a kind; elided where it is none
unfoldable pub mark_of : ℕ → ℕ
mark_of k = pick (is_mark k) k elided

-- a number that is there, where 0 stands for none
abbrev pub given : ℕ → Option ℕ
given k = pick (eqb k 0) None (Some k)

-- "The bond sum of an atom adds the kinds of its bonds, an elided bond counting 1"; marks are "of order 1"; 0 where there is no such kind
unfoldable pub order : ℕ → ℕ
order k = pick (eqb k elided) 1 (pick (leb k triple) k (pick (leb k max_kind) 1 0))

-- "Bond symbols: `-` 1, `=` 2, `#` 3, none (elided)", `/` and `\`: the kind that a byte stands for
unfoldable pub symbol_kind : ℕ → ℕ
symbol_kind b = pick (eqb b 45) single (pick (eqb b 61) double (pick (eqb b 35) triple (pick (eqb b 47) up (pick (eqb b 92) down elided))))

-- the symbol of a kind; 0 where it has none
unfoldable pub bond_symbol : ℕ → ℕ
bond_symbol k = pick (eqb k single) 45 (pick (eqb k double) 61 (pick (eqb k triple) 35 (pick (eqb k up) 47 (pick (eqb k down) 92 0))))

-- "A mark is stored as seen from the lower-numbered end; seen from the other end it is turned"
unfoldable pub turned : ℕ → ℕ
turned k = pick (eqb k up) down (pick (eqb k down) up k)

-- "A symbol at one end counts"; j at the opening, k at the closing; the bridge's kind as seen from the opening
abbrev pub meet : ℕ → ℕ → ℕ
meet j k = pick (eqb k elided) j (turned k)

-- "at both ends they must be equal"; "a bridge marked at both ends needs opposite marks"
abbrev pub clash : ℕ → ℕ → Bool
clash j k = not (eqb j elided) && not (eqb k elided) && not (eqb j (turned k))
