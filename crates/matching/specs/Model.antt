-- auxiliary: matchings as a search meets them, for the contracts of the engines. Bonds stand in three tables: first ends, second ends, and 1 for an elided bond.
-- need has a 1 for each delocalized atom that has no partner yet.
use Rattle.std.specs.Prelude.{◌≡◌, Bool, true, false, ◌&&◌, List, [], ◌∷◌, ◌++◌, ℕ, ◌-◌, ◌<◌, ◌≤◌, eqb, length, take, drop, replicate, get_or, set}
use Rattle.loops.specs.Loop.{pick}
use Rattle.matching.specs.Enumeration.{Row, matchings, before, is_row, Reply}
use Rattle.matching.specs.declared.MatchingAnswer.{MatchingAnswer}
use Rattle.matching.specs.Graph.{Bond, induced, none_flagged}

-- the bond can be chosen: it is elided and neither end has a partner
abbrev pub free : Bond → List ℕ → Bool
free b need = induced need b

-- the flags after the bond is chosen
abbrev pub pair : Bond → List ℕ → List ℕ
pair b need = set (set need b.end1 0) b.end2 0

-- the row chooses free bonds one after another, until each atom has its partner
unfoldable pub pairs_up : List Bond → List ℕ → Row → Bool
pairs_up [] need r = none_flagged need
pairs_up (b ∷ bs) need [] = none_flagged need
pairs_up (b ∷ bs) need (x ∷ r) = pick (eqb x 0) (pairs_up bs need r) (free b need && pairs_up bs (pair b need) r)

-- the bonds of the three tables
unfoldable pub bonds_of : List ℕ → List ℕ → List ℕ → List Bond
bonds_of [] eb el = []
bonds_of (a ∷ ea) [] el = []
bonds_of (a ∷ ea) (b ∷ eb) [] = []
bonds_of (a ∷ ea) (b ∷ eb) (e ∷ el) = record { end1 = a; end2 = b; elided = eqb e 1 } ∷ bonds_of ea eb el

-- those from the bond k on
abbrev pub bonds_from : List ℕ → List ℕ → List ℕ → ℕ → List Bond
bonds_from ea eb el k = bonds_of (drop k ea) (drop k eb) (drop k el)

abbrev pub table_bond : List ℕ → List ℕ → List ℕ → ℕ → Bond
table_bond ea eb el k = record { end1 = get_or ea k 0; end2 = get_or eb k 0; elided = eqb (get_or el k 0) 1 }

abbrev pub free_at : List ℕ → List ℕ → List ℕ → List ℕ → ℕ → Bool
free_at ea eb el need k = free (table_bond ea eb el k) need

-- both ends of the bond k get the number x
abbrev pub mark_at : List ℕ → List ℕ → List ℕ → ℕ → ℕ → List ℕ
mark_at ea eb need k x = set (set need (get_or ea k 0) x) (get_or eb k 0) x

-- all matchings of the bonds from k on
abbrev pub all_from : List ℕ → List ℕ → List ℕ → List ℕ → ℕ → List Row
all_from ea eb el need k = matchings (pairs_up (bonds_from ea eb el k) need) (length ea - k)

-- those that come after the row r
abbrev pub later_from : List ℕ → List ℕ → List ℕ → List ℕ → Row → ℕ → List Row
later_from ea eb el need r k = matchings (λ s. pairs_up (bonds_from ea eb el k) need s && before r s) (length ea - k)

-- r is a matching of the bonds from k on
abbrev pub matching_from : List ℕ → List ℕ → List ℕ → List ℕ → Row → ℕ → Bool
matching_from ea eb el need r k = is_row (length ea - k) r && pairs_up (bonds_from ea eb el k) need r

-- the row from k up to m
abbrev pub part : ℕ → Row → ℕ → Row
part m row k = take (m - k) (drop k row)

abbrev pub some? : List Row → Bool
some? [] = false
some? (e ∷ es) = true

abbrev pub head_or : Row → List Row → Row
head_or z [] = z
head_or z (e ∷ es) = e

-- the row from k to m replaced by the first of the rows fs, or by zeros where there is none
abbrev pub written : ℕ → Row → ℕ → List Row → Row
written k row m fs = take k row ++ (head_or (replicate (m - k) 0) fs ++ drop m row)

-- an answer with the whole row
abbrev pub reply : MatchingAnswer → Row → Reply
reply a row = record { answer = a; row = row }

-- What the contracts of the searches ask and promise.

-- the tables of bonds go together, and the ends are atoms
pub record BondTables (ea eb el need : List ℕ) (k : ℕ) : Type 0 where
  pub second : length eb ≡ length ea
  pub third : length el ≡ length ea
  pub upto : k ≤ length ea
  pub ends1 : (j : ℕ) → j < length ea → get_or ea j 0 < length need
  pub ends2 : (j : ℕ) → j < length ea → get_or eb j 0 < length need

-- the same, and the row has a cell for each bond
pub record Shape (ea eb el need row : List ℕ) (k : ℕ) : Type 0 where
  pub second : length eb ≡ length ea
  pub third : length el ≡ length ea
  pub room : length ea ≤ length row
  pub upto : k ≤ length ea
  pub ends1 : (j : ℕ) → j < length ea → get_or ea j 0 < length need
  pub ends2 : (j : ℕ) → j < length ea → get_or eb j 0 < length need

-- the bond k is there, and its ends are atoms
pub record Ends (ea eb need : List ℕ) (k : ℕ) : Type 0 where
  pub first : k < length ea
  pub second : k < length eb
  pub end1 : get_or ea k 0 < length need
  pub end2 : get_or eb k 0 < length need

-- a search over the rows fs leaves the flags as they were, says whether there is a row, and writes the first
pub record Searched (need row : List ℕ) (k m : ℕ) (fs : List Row) (r : Bool) (need' row' : List ℕ) : Type 0 where
  pub same : need' ≡ need
  pub told : r ≡ some? fs
  pub wrote : row' ≡ written k row m fs
