-- 01, Hydrogens and kept atoms: the book, here the enumeration, over any test of rows: its matchings, and its replies to a list of calls
use Rattle.std.specs.Prelude.{Bool, true, false, ◌&&◌, List, [], ◌∷◌, ◌++◌, map, ℕ, zero, suc, ◌-◌, eqb, leb, ltb, length, take, replicate}
use Rattle.loops.specs.Loop.{pick}
use Rattle.matching.specs.declared.MatchingAnswer.{MatchingAnswer}
use Rattle.matching.specs.declared.MatchingAnswer.TheVariants.{Given, Absent, Refused, Ended}
use Rattle.matching.specs.declared.Call.{Call}
use Rattle.matching.specs.declared.Call.TheVariants.{First, Next}

-- 01: a row of 0 and 1 over the bond numbers
abbrev pub Row : Type 0
Row = List ℕ

-- 01: all rows of 0 and 1 over m bond numbers; of two, the one with 1 at the first bond where they differ comes first
unfoldable pub rows : ℕ → List Row
rows zero = [] ∷ []
rows (suc m) = map (λ r. 1 ∷ r) (rows m) ++ map (λ r. 0 ∷ r) (rows m)

abbrev pub cons_if : Bool → Row → List Row → List Row
cons_if true r rs = r ∷ rs
cons_if false r rs = rs

-- those that pass the test
unfoldable pub passing : (Row → Bool) → List Row → List Row
passing p [] = []
passing p (r ∷ rs) = cons_if (p r) r (passing p rs)

-- 01: the entries of the book
abbrev pub matchings : (Row → Bool) → ℕ → List Row
matchings p m = passing p (rows m)

unfoldable pub eq_row : Row → Row → Bool
eq_row [] [] = true
eq_row [] (y ∷ s) = false
eq_row (x ∷ r) [] = false
eq_row (x ∷ r) (y ∷ s) = eqb x y && eq_row r s

-- 01: it points at the entry equal to the row: the matchings from that one on; none if no matching equals r
unfoldable pub cursor_at : Row → List Row → List Row
cursor_at r [] = []
cursor_at r (e ∷ es) = pick (eq_row r e) (e ∷ es) (cursor_at r es)

-- what a call hands back: the answer and the whole row
pub record Reply : Type 0 where
  pub answer : MatchingAnswer
  pub row : Row

-- 01: an entry given fills the row up to the last bond; the rest of the row is zeroed
abbrev pub fill : ℕ → Row → Row
fill n r = r ++ replicate (n - length r) 0

abbrev pub zeroed : ℕ → MatchingAnswer → Reply
zeroed n a = record { answer = a; row = replicate n 0 }

abbrev pub given : ℕ → Row → Reply
given n r = record { answer = Given; row = fill n r }

-- The enumeration: its cursor (01: it points at one entry or at none) is the list of matchings from that one on.
-- es are its matchings, z is its cursor after a zeroed row, n the length of the row handed in.
pub record Turn : Type 0 where
  pub reply : Reply
  pub cursor : List Row

-- 01, First: without entries 11 and a zeroed row; otherwise its first entry, and it points there
unfoldable pub enum_first : ℕ → List Row → List Row → Turn
enum_first n z [] = record { reply = zeroed n Absent; cursor = z }
enum_first n z (e ∷ es) = record { reply = given n e; cursor = e ∷ es }

-- 01, Next: pointing at none, 12 and a zeroed row; at the last entry "end" and a zeroed row; else the entry that follows, and it points there
unfoldable pub enum_next : ℕ → List Row → List Row → Turn
enum_next n z [] = record { reply = zeroed n Refused; cursor = z }
enum_next n z (e ∷ []) = record { reply = zeroed n Ended; cursor = z }
enum_next n z (e ∷ f ∷ es) = record { reply = given n f; cursor = f ∷ es }

unfoldable pub enum_turn : ℕ → List Row → List Row → Call → List Row → Turn
enum_turn n z es First at = enum_first n z es
enum_turn n z es Next at = enum_next n z at

unfoldable pub enum_replies : ℕ → List Row → List Row → List Call → List Row → List Reply
enum_replies n z es [] at = []
enum_replies n z es (c ∷ cs) at =
    let t = enum_turn n z es c at in
    t.reply ∷ enum_replies n z es cs t.cursor

-- The row machine: what the calls compute, each seeing its row alone.

-- r is a row of m numbers 0 or 1
unfoldable pub is_row : ℕ → Row → Bool
is_row zero [] = true
is_row zero (x ∷ r) = false
is_row (suc m) [] = false
is_row (suc m) (x ∷ r) = leb x 1 && is_row m r

-- r comes before s: at the first difference r has the larger number
unfoldable pub before : Row → Row → Bool
before [] s = false
before (x ∷ r) [] = false
before (x ∷ r) (y ∷ s) = pick (eqb x y) (before r s) (ltb y x)

-- the first of the rows, or a zeroed row with the answer a
abbrev pub or_zeroed : ℕ → MatchingAnswer → List Row → Reply
or_zeroed n a [] = zeroed n a
or_zeroed n a (e ∷ es) = given n e

-- the first matching
abbrev pub row_first : (Row → Bool) → ℕ → ℕ → Reply
row_first p m n = or_zeroed n Absent (matchings p m)

-- the first matching that comes after the row r
abbrev pub row_next : (Row → Bool) → ℕ → ℕ → Row → Reply
row_next p m n r = pick (is_row m r && p r) (or_zeroed n Ended (matchings (λ s. p s && before r s) m)) (zeroed n Refused)

-- 01: in a row handed in, cells past the last bond are not looked at
unfoldable pub row_call : (Row → Bool) → ℕ → Call → Row → Reply
row_call p m First row = row_first p m (length row)
row_call p m Next row = row_next p m (length row) (take m row)

unfoldable pub row_replies : (Row → Bool) → ℕ → List Call → Row → List Reply
row_replies p m [] row = []
row_replies p m (c ∷ cs) row =
    let g = row_call p m c row in
    g ∷ row_replies p m cs g.row
