-- auxiliary: what the contracts of the engine's functions ask and promise
use Rattle.std.specs.Prelude.{Bool, true, false, ◌&&◌, ◌≡◌, List, [], ◌∷◌, ◌++◌, map, ℕ, ◌+◌, ◌-◌, ◌<◌, ◌≤◌, eqb, length, drop, set, get_or, replicate, Option, Some, None}
use Rattle.loops.specs.Loop.{pick}
use Rattle.ids.specs.declared.AtomId.{AtomId}
use Rattle.ids.specs.declared.BondId.{BondId}
use Rattle.matching.specs.Enumeration.{Row, matchings, is_row, before, row_first}
use Rattle.matching.specs.declared.MatchingAnswer.{MatchingAnswer}
use Rattle.matching.specs.Graph.{Bond, flagged, nth_bond, is_matching}
use Rattle.matching.specs.Limits.{max_atoms, max_bonds}
use Rattle.matching.specs.Model.{free, free_at, bonds_of, mark_at, reply}
use Rattle.matching_forced.specs.declared.Turn.{Turn}
use Rattle.matching_forced.specs.Forced.{count, lowest, free_count, lowest_forced, stuck, forces, forced_bond, pair_at, forced_from, forced_list}

-- one more at the atom v
abbrev pub bumped : List ℕ → ℕ → List ℕ
bumped counts v = set counts v (get_or counts v 0 + 1)

-- one more at each of the atoms a and b, which may be the same
abbrev pub raised : ℕ → ℕ → List ℕ → List ℕ
raised a b counts = pick (eqb a b) (bumped counts a) (bumped (bumped counts a) b)

-- the counts are those of the free bonds
pub record Counts (bs : List Bond) (need counts : List ℕ) : Type 0 where
  pub each : (v : ℕ) → v < length need → get_or counts v 0 ≡ free_count bs need v

-- the atom v is unpaired and has the count d
abbrev pub with_count : List ℕ → List ℕ → ℕ → ℕ → Bool
with_count need counts d v = flagged need v && eqb (get_or counts v 0) d

-- a search for the lowest of m numbers that passes, which is k: the one found; where none is, k is past the last
abbrev pub LowestAtom : ℕ → ℕ → Option AtomId → Type 0
LowestAtom k m (Some v) = (v.0 ≡ k) × (v.0 < m)
LowestAtom k m None = m ≤ k

abbrev pub LowestBond : ℕ → ℕ → Option BondId → Type 0
LowestBond k m (Some b) = (b.0 ≡ k) × (b.0 < m)
LowestBond k m None = m ≤ k

-- the only free bond of the lowest atom that has exactly one; none where no atom has
abbrev pub ForcedBond : List Bond → List ℕ → Option BondId → Type 0
ForcedBond bs need (Some b) = (lowest_forced bs need < length need) × (b.0 ≡ forced_bond bs need)
ForcedBond bs need None = length need ≤ lowest_forced bs need

-- what a turn of the rule says
abbrev pub Says : List Bond → List ℕ → Turn → Type 0
Says bs need Turn.Stuck = stuck bs need ≡ true
Says bs need Turn.Rests = (stuck bs need ≡ false) × (forces bs need ≡ false)
Says bs need (Turn.Pair k) = (forces bs need ≡ true) × (k.0 ≡ forced_bond bs need)

pub record Turned (bs : List Bond) (need : List ℕ) (r : Turn) : Type 0 where
  pub says : Says bs need r

-- how many bonds are free
unfoldable pub free_total : List Bond → List ℕ → ℕ
free_total bs need = count (λ k. free (nth_bond bs k) need) 0 (length bs)

-- the tables are within the limits, and pairs has a cell for each free bond
pub record Roomy (ea eb el need pairs : List ℕ) : Type 0 where
  pub atoms_few : length need ≤ max_atoms
  pub bonds_few : length ea ≤ max_bonds
  pub room : free_total (bonds_of ea eb el) need ≤ length pairs

-- the flags after all bonds of a list are chosen
unfoldable pub pair_all : List Bond → List ℕ → List ℕ → List ℕ
pair_all bs need [] = need
pair_all bs need (k ∷ ks) = pair_all bs (pair_at bs need k) ks

-- a step for each number of a list, the last first
unfoldable pub backward : {S : Type 0} → (ℕ → S → S) → List ℕ → S → S
backward step [] s = s
backward step (k ∷ ks) s = step k (backward step ks s)

-- the flags with all bonds of a list taken back
abbrev pub undone : List ℕ → List ℕ → List ℕ → List ℕ → List ℕ
undone ea eb = backward (λ k need. mark_at ea eb need k 1)

-- the forced list stands in pairs, whose rest is as it was; its number is told, the flags are those left, and whether an atom is stuck then
pub record Filled (bs : List Bond) (need pairs : List ℕ) (n : ℕ) (s : Bool) (need' pairs' : List ℕ) : Type 0 where
  pub told : n ≡ length (forced_from bs need)
  pub wrote : pairs' ≡ forced_from bs need ++ drop n pairs
  pub left : need' ≡ pair_all bs need (forced_from bs need)
  pub ends : s ≡ stuck bs need'

-- a row with 1 at each bond of a list
abbrev pub ones : List ℕ → Row → Row
ones = backward (λ k r. set r k 1)

-- a row with 0 at each bond of a list
unfoldable pub zeros : List ℕ → Row → Row
zeros [] r = r
zeros (k ∷ ks) r = zeros ks (set r k 0)

-- the first n bonds of pairs have a cell in the row
pub record Ones (row pairs : List ℕ) (n : ℕ) : Type 0 where
  pub upto : n ≤ length pairs
  pub cells : (i : ℕ) → i < n → get_or pairs i 0 < length row

-- the bonds with the bond k switched off: it can no longer be chosen
abbrev pub off : List Bond → ℕ → List Bond
off bs k = set bs k (record { end1 = (nth_bond bs k).end1; end2 = (nth_bond bs k).end2; elided = false })

-- the lowest free bond; the number of bonds where there is none
unfoldable pub lowest_free : List Bond → List ℕ → ℕ
lowest_free bs need = lowest (λ k. free (nth_bond bs k) need) 0 (length bs)

-- all matchings
abbrev pub all_of : List Bond → List ℕ → List Row
all_of bs need = matchings (is_matching need bs) (length bs)

-- those with the bond b, and those without it
abbrev pub taken_of : List Bond → List ℕ → ℕ → List Row
taken_of bs need b = map (λ s. set s b 1) (all_of bs (pair_at bs need b))

abbrev pub left_of : List Bond → List ℕ → ℕ → List Row
left_of bs need b = all_of (off bs b) need

-- the bond b is there and free
pub record Chosen (ea eb el need : List ℕ) (b : ℕ) : Type 0 where
  pub inside : b < length ea
  pub is_free : free_at ea eb el need b ≡ true

-- the row r is a matching
abbrev pub is_of : List Bond → List ℕ → Row → Bool
is_of bs need r = is_row (length bs) r && is_matching need bs r

-- those that come after the row r
abbrev pub later_of : List Bond → List ℕ → Row → List Row
later_of bs need r = matchings (λ s. is_matching need bs s && before r s) (length bs)

-- those of them with the bond b, which the row r has
abbrev pub later_with : List Bond → List ℕ → Row → ℕ → List Row
later_with bs need r b = map (λ s. set s b 1) (later_of bs (pair_at bs need b) (set r b 0))

-- P9, asked for the first: the plain engine's reply, and the forced list with its number, both zeroed where there is no matching
pub record FirstReply (bs : List Bond) (need row pairs : List ℕ) (r : MatchingAnswer) (n : ℕ) (row' pairs' : List ℕ) : Type 0 where
  pub replied : reply r row' ≡ row_first (is_matching need bs) (length bs) (length row)
  pub counted : n ≡ length (forced_list bs need)
  pub listed : pairs' ≡ forced_list bs need ++ replicate (length pairs - n) 0
