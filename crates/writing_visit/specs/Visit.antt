-- auxiliary: the walk as it fills arrays: what stands in them after a part of the walk (01, Writing)
use Rattle.std.specs.Prelude.{ℕ, zero, suc, ◌-◌, ◌<◌, ◌≤◌, ◌≡◌, Bool, ◌||◌, List, [], ◌∷◌, ◌++◌, length, get_or, set, eqb}
use Rattle.kinds.specs.Kind.{max_kind, turned}
use Rattle.loops.specs.Loop.{pick, up_to}
use Rattle.table.specs.Limits.{max_atoms, max_bonds}
use Rattle.writing_walk.specs.Token.{Bond}
use Rattle.writing_walk.specs.Emit.{Forest, pre}
use Rattle.writing_walk.specs.Walk.{Neighbour, neighbour, member, neighbours, visit_in_turn, walk, forest_of, place}
use Rattle.writing_walk.specs.Flat.{kinds, ups}
use Rattle.writing_walk.specs.Same.{All, Once}

-- a bond has the atom v as an end
unfoldable pub touching : (ℕ → Bond) → ℕ → ℕ → Bool
touching bonds v b = eqb (bonds b).lo v || eqb (bonds b).hi v

-- the first of d numbers from k on that passes, or k + d
unfoldable pub first_from : (ℕ → Bool) → ℕ → ℕ → ℕ
first_from p k zero = k
first_from p k (suc d) = pick (p k) k (first_from p (suc k) d)

-- the other end of the bond b, seen from v
abbrev pub other_end : (ℕ → Bond) → ℕ → ℕ → ℕ
other_end bonds b v = pick (eqb (bonds b).lo v) (bonds b).hi (bonds b).lo

-- the kind of the bond b, as seen from v
abbrev pub kind_from : (ℕ → Bond) → ℕ → ℕ → ℕ
kind_from bonds b v = pick (eqb (bonds b).lo v) (bonds b).kind (turned (bonds b).kind)

-- the next bond at v behind the bond b, told by two arrays: at the first end and at the second end of each bond
abbrev pub next_after : (ℕ → Bond) → List ℕ → List ℕ → ℕ → ℕ → ℕ
next_after bonds after behind b v = pick (eqb (bonds b).lo v) (get_or after b 0) (get_or behind b 0)

-- a list laid over an array from the place k on
unfoldable pub lay : ℕ → List ℕ → List ℕ → List ℕ
lay k [] t = t
lay k (x ∷ l) t = lay (suc k) l (set t k x)

-- the bonds at v from the number b on, in ascending number
abbrev pub neighbours_from : (ℕ → Bond) → ℕ → ℕ → ℕ → List Neighbour
neighbours_from bonds m v b = neighbours v (up_to bonds b (m - b))

-- the forest that the walk adds at the atom v from the bond number b on, s being visited
unfoldable pub grow : (ℕ → Bond) → ℕ → ℕ → ℕ → ℕ → List ℕ → Forest
grow bonds n m v b s = visit_in_turn (walk (up_to bonds 0 m) n) (neighbours_from bonds m v b) s

-- the walk number of an atom plus 1, 0 before it is visited
unfoldable pub walk_mark : List ℕ → ℕ → ℕ
walk_mark s v = pick (member v s) (suc (place s v)) 0

-- how many atoms are not yet visited
unfoldable pub unseen : List ℕ → ℕ
unseen [] = 0
unseen (x ∷ t) = pick (eqb x 0) (suc (unseen t)) (unseen t)

-- the bonds join atoms below n, and their kinds are small
pub record BondsFit (bonds : ℕ → Bond) (n m : ℕ) : Type 0 where
  pub atoms_few : n ≤ max_atoms
  pub bonds_few : m ≤ max_bonds
  pub ends : (b : ℕ) → b < m → ((bonds b).lo < (bonds b).hi) × ((bonds b).hi < n)
  pub kinds : (b : ℕ) → b < m → (bonds b).kind ≤ max_kind

-- the bonds from b on as lists: the first one at each atom, and behind each bond the next one at either end; m where there is none
pub record Linked (bonds : ℕ → Bond) (m b : ℕ) (head after behind : List ℕ) : Type 0 where
  pub heads : (v : ℕ) → v < length head → get_or head v 0 ≡ first_from (touching bonds v) b (m - b)
  pub afters : (c : ℕ) → b ≤ c → c < m → get_or after c 0 ≡ first_from (touching bonds (bonds c).lo) (suc c) (m - suc c)
  pub behinds : (c : ℕ) → b ≤ c → c < m → get_or behind c 0 ≡ first_from (touching bonds (bonds c).hi) (suc c) (m - suc c)

-- the arrays have room for n atoms
pub record Room (n : ℕ) (o v u k : List ℕ) : Type 0 where
  pub order : n ≤ length o
  pub number : n ≤ length v
  pub up : n ≤ length u
  pub kind : n ≤ length k

-- the arrays are as long as they were
pub record Kept (o v u k o2 v2 u2 k2 : List ℕ) : Type 0 where
  pub order : length o2 ≡ length o
  pub number : length v2 ≡ length v
  pub up : length u2 ≡ length u
  pub kind : length k2 ≡ length k

-- s was visited, in this order
pub record Visited (n : ℕ) (s : List ℕ) (count : ℕ) (number : List ℕ) : Type 0 where
  pub once : Once s
  pub inside : All (λ v. v < n) s
  pub long : length s ≡ count
  pub marks : (v : ℕ) → v < n → get_or number v 0 ≡ walk_mark s v

-- the four arrays, and how many atoms were visited
pub record WalkArrays : Type 0 where
  pub order : List ℕ
  pub number : List ℕ
  pub up : List ℕ
  pub kind : List ℕ
  pub count : ℕ

abbrev pub walk_arrays : List ℕ → List ℕ → List ℕ → List ℕ → ℕ → WalkArrays
walk_arrays o v u k c = record { order = o; number = v; up = u; kind = k; count = c }

-- the forest F was laid under the parent p (its walk number plus 1, 0 for none), s being visited before
pub record Laid (n p : ℕ) (F : Forest) (s : List ℕ) (x y : WalkArrays) : Type 0 where
  pub order : y.order ≡ lay x.count (pre F) x.order
  pub kind : y.kind ≡ lay x.count (kinds F) x.kind
  pub up : y.up ≡ lay x.count (ups F p x.count) x.up
  pub stands : Visited n (s ++ pre F) y.count y.number

-- the same for whatever was visited before, with no mark lost
pub record Grown (n p : ℕ) (F : List ℕ → Forest) (x y : WalkArrays) : Type 0 where
  pub fewer : unseen y.number ≤ unseen x.number
  pub laid : (s : List ℕ) → Visited n s x.count x.number → Laid n p (F s) s x y

-- a root: the atom a, if it was not visited
unfoldable pub root_forest : (ℕ → Bond) → ℕ → ℕ → ℕ → List ℕ → Forest
root_forest bonds n m a s = visit_in_turn (walk (up_to bonds 0 m) n) (neighbour a 0 ∷ []) s

-- the arrays of a whole walk along a list of bonds
pub record Walked (bs : List Bond) (n : ℕ) (o v u k : List ℕ) : Type 0 where
  pub order : (x : ℕ) → x < n → get_or o x 0 ≡ get_or (pre (forest_of n bs)) x 0
  pub number : (a : ℕ) → a < n → get_or v a 0 ≡ suc (place (pre (forest_of n bs)) a)
  pub up : (x : ℕ) → x < n → get_or u x 0 ≡ get_or (ups (forest_of n bs) 0 0) x 0
  pub kind : (x : ℕ) → x < n → get_or k x 0 ≡ get_or (kinds (forest_of n bs)) x 0
