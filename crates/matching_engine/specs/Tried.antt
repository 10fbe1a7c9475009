-- auxiliary: what the contracts of the search under a budget ask and promise
use Rattle.std.specs.Prelude.{◌≡◌, Bool, true, false, Result, Ok, List, [], ◌∷◌, map, ℕ, ◌+◌, ◌<◌, ◌≤◌, length, take, drop, get_or}
use Rattle.loops.specs.Loop.{pick}
use Rattle.matching.specs.Enumeration.{Row}
use Rattle.matching.specs.Graph.{flagged, touches}
use Rattle.matching.specs.Model.{Searched, all_from, free_at, mark_at, table_bond}
use Rattle.matching_engine.specs.declared.GaveUp.{GaveUp}

-- the answer of a search under a budget: whether there is a matching, or that it gave up
abbrev pub Sought : Type 0
Sought = Result Bool GaveUp

abbrev pub Found : Sought
Found = Ok true

abbrev pub Absent : Sought
Absent = Ok false

-- a search over the rows fs under a budget: the flags are as before, and so is the row outside k to m; giving up says no more
pub record Tried (need row : List ℕ) (k m : ℕ) (fs : List Row) (o : Sought) (need' row' : List ℕ) : Type 0 where
  pub same : need' ≡ need
  pub front : take k row' ≡ take k row
  pub back : drop m row' ≡ drop m row
  pub found : o ≡ Found → Searched need row k m fs true need' row'
  pub absent : o ≡ Absent → fs ≡ []

-- the matchings of the bonds from k on that choose the bond k
abbrev pub paired_bond : List ℕ → List ℕ → List ℕ → List ℕ → ℕ → List Row
paired_bond ea eb el need k = map (λ s. 1 ∷ s) (pick (free_at ea eb el need k) (all_from ea eb el (mark_at ea eb need k 0) (k + 1)) [])

-- the numbers at the atoms, after the bond k
abbrev pub noted : List ℕ → List ℕ → List ℕ → List ℕ → ℕ → List ℕ → List ℕ
noted ea eb el need k last = pick (free_at ea eb el need k) (mark_at ea eb last k (k + 1)) last

-- from the number that last has for an atom, no free bond ends at it
pub record Lasts (ea eb el need last : List ℕ) : Type 0 where
  pub none : (v j : ℕ) → v < length last → get_or last v 0 ≤ j → j < length ea → free_at ea eb el need j ≡ true → touches (table_bond ea eb el j) v ≡ false

-- the atom v has no partner, and by its number no free bond from `from` on
pub record Stranded (need last : List ℕ) (v from : ℕ) : Type 0 where
  pub there : v < length last
  pub wants : flagged need v ≡ true
  pub late : get_or last v 0 ≤ from

-- the bond k was taken if it was free: its digit is x, and the flags are need' after it
pub record Taken (ea eb el need : List ℕ) (k x : ℕ) (need' : List ℕ) : Type 0 where
  pub digit : x ≡ pick (free_at ea eb el need k) 1 0
  pub flags : need' ≡ pick (free_at ea eb el need k) (mark_at ea eb need k 0) need
