-- 01, Hydrogens and kept atoms: a molecule as its matchings ("placements") see it: the bonds, each with its ends and whether it is elided, and a flag for each atom: 1 if it is delocalized
use Rattle.std.specs.Prelude.{◌≡◌, Bool, true, false, ◌&&◌, ◌||◌, not, List, [], ◌∷◌, ℕ, suc, ◌<◌, eqb, length, take, get_or}
use Rattle.loops.specs.Loop.{pick}
use Rattle.matching.specs.Enumeration.{Row, matchings, cursor_at, Reply, enum_replies}
use Rattle.matching.specs.declared.Call.{Call}

pub record Bond : Type 0 where
  pub end1 : ℕ
  pub end2 : ℕ
  pub elided : Bool

-- the atom v is delocalized (01: kept); in a search: and has no partner yet
abbrev pub flagged : List ℕ → ℕ → Bool
flagged flags v = eqb (get_or flags v 0) 1

-- 01: an elided bond whose ends are both kept
abbrev pub induced : List ℕ → Bond → Bool
induced flags b = b.elided && flagged flags b.end1 && flagged flags b.end2

-- the bonds chosen by the row are induced
unfoldable pub chosen_induced : List ℕ → List Bond → Row → Bool
chosen_induced flags [] r = true
chosen_induced flags (b ∷ bs) [] = true
chosen_induced flags (b ∷ bs) (x ∷ r) = (eqb x 0 || induced flags b) && chosen_induced flags bs r

abbrev pub count_if : Bool → ℕ → ℕ
count_if true n = suc n
count_if false n = n

abbrev pub touches : Bond → ℕ → Bool
touches b v = eqb b.end1 v || eqb b.end2 v

-- how many of the chosen bonds have the atom v as an end
unfoldable pub degree : List Bond → Row → ℕ → ℕ
degree [] r v = 0
degree (b ∷ bs) [] v = 0
degree (b ∷ bs) (x ∷ r) v = count_if (not (eqb x 0) && touches b v) (degree bs r v)

-- from the atom v on: each delocalized atom is an end of exactly one chosen bond; ks are the flags from v on
unfoldable pub each_once : List Bond → Row → List ℕ → ℕ → Bool
each_once bs r [] v = true
each_once bs r (k ∷ ks) v = (not (eqb k 1) || eqb (degree bs r v) 1) && each_once bs r ks (suc v)

-- 01, a placement: a set of induced bonds, as a row, such that each kept atom is an end of exactly one
unfoldable pub is_matching : List ℕ → List Bond → Row → Bool
is_matching flags bs r = chosen_induced flags bs r && each_once bs r flags 0

unfoldable pub none_flagged : List ℕ → Bool
none_flagged [] = true
none_flagged (k ∷ ks) = not (eqb k 1) && none_flagged ks

-- 01: after a zeroed row the book points at none, but in a molecule without kept atoms at its only entry
abbrev pub after_zero : List ℕ → List Row → List Row
after_zero flags es = pick (none_flagged flags) es []

-- 01, the book of a molecule: its replies to a list of calls, with the row at the start
unfoldable pub enumeration : List ℕ → List Bond → List Call → Row → List Reply
enumeration flags bs cs row =
    let es = matchings (is_matching flags bs) (length bs) in
    enum_replies (length row) (after_zero flags es) es cs (cursor_at (take (length bs) row) es)

-- The same over sets of bonds, with no row.

-- the bond with a number; past the last, one that is not elided
abbrev pub nth_bond : List Bond → ℕ → Bond
nth_bond bs b = get_or bs b (record { end1 = 0; end2 = 0; elided = false })

-- exactly one number is in the set
pub record ExactlyOne (S : ℕ → Bool) : Type 0 where
  pub one : ℕ
  pub member : S one ≡ true
  pub only : (b : ℕ) → S b ≡ true → b ≡ one

-- 01, a placement: S is "a set of induced bonds such that each kept atom is an end of exactly one"
pub record Pairs (flags : List ℕ) (bonds : List Bond) (S : ℕ → Bool) : Type 0 where
  pub below : (b : ℕ) → S b ≡ true → b < length bonds
  pub all_induced : (b : ℕ) → S b ≡ true → induced flags (nth_bond bonds b) ≡ true
  pub once_each : (v : ℕ) → flagged flags v ≡ true → ExactlyOne (λ b. S b && touches (nth_bond bonds b) v)

-- the set of bond numbers at which a row has 1
abbrev pub set_of : Row → ℕ → Bool
set_of r b = eqb (get_or r b 0) 1
