-- 01, Writing: the walk (depth first, from the lowest atom not yet visited, along bonds in ascending number), and what is written
use Rattle.std.specs.Prelude.{Bool, true, false, ◌||◌, cond, List, [], ◌∷◌, ◌++◌, map, ℕ, zero, suc, eqb}
use Rattle.kinds.specs.Kind.{elided, turned}
use Rattle.writing_walk.specs.Token.{Bond, eq_bond, Tok, bond_between}
use Rattle.writing_walk.specs.Emit.{Forest, leaf, node, pre, text, trees}

-- a bond as it is tried from an atom: the other end and the kind
pub record Neighbour : Type 0 where
  pub to : ℕ
  pub kind : ℕ

abbrev pub neighbour : ℕ → ℕ → Neighbour
neighbour w k = record { to = w; kind = k }

abbrev pub member : ℕ → List ℕ → Bool
member v [] = false
member v (x ∷ l) = eqb v x || member v l

-- "from an atom along bonds in ascending number": the bonds at v, with their kinds as seen from v
abbrev pub neighbours : ℕ → List Bond → List Neighbour
neighbours v [] = []
neighbours v (b ∷ bs) = cond (eqb b.lo v) (neighbour b.hi b.kind ∷ neighbours v bs) (cond (eqb b.hi v) (neighbour b.lo (turned b.kind) ∷ neighbours v bs) (neighbours v bs))

-- "to atoms not yet visited, each child's part finished before the next bond is tried": the ways in turn; k visits an atom's children; s: the atoms visited, in order
abbrev pub visit_in_turn : (ℕ → List ℕ → Forest) → List Neighbour → List ℕ → Forest
visit_in_turn k [] s = leaf
visit_in_turn k (x ∷ cs) s =
    let skip : Forest = visit_in_turn k cs s in
    let f : Forest = k x.to (s ++ (x.to ∷ [])) in
    let go : Forest = node x.to x.kind f (visit_in_turn k cs ((s ++ (x.to ∷ [])) ++ pre f)) in
    cond (member x.to s) skip go

abbrev pub walk : List Bond → ℕ → ℕ → List ℕ → Forest
walk bs zero v s = leaf
walk bs (suc d) v s = visit_in_turn (walk bs d) (neighbours v bs) s

-- "The walk begins at the lowest atom not yet visited, and for each further piece of the molecule .. begins again"
abbrev pub roots : ℕ → ℕ → List Neighbour
roots a zero = []
roots a (suc n) = neighbour a elided ∷ roots (suc a) n

unfoldable pub forest_of : ℕ → List Bond → Forest
forest_of n bs = visit_in_turn (walk bs n) (roots 0 n) []

-- "The renumbering gives each atom's walk number"
abbrev pub place : List ℕ → ℕ → ℕ
place [] v = 0
place (x ∷ l) v = cond (eqb v x) 0 (suc (place l v))

abbrev pub renumber : List ℕ → Bond → Bond
renumber order b = bond_between (place order b.lo) (place order b.hi) b.kind

-- m without the bonds of t
abbrev pub remove : Bond → List Bond → List Bond
remove b [] = []
remove b (x ∷ l) = cond (eq_bond b x) l (x ∷ remove b l)

abbrev pub remove_all : List Bond → List Bond → List Bond
remove_all [] m = m
remove_all (b ∷ t) m = remove_all t (remove b m)

abbrev pub keep_if : Bool → Bond → List Bond → List Bond
keep_if true b l = b ∷ l
keep_if false b l = l

abbrev pub keep : (Bond → Bool) → List Bond → List Bond
keep p [] = []
keep p (b ∷ l) = keep_if (p b) b (keep p l)

-- the bonds that pass, by ascending key: those with key a, with key a + 1, .. below a + d
abbrev pub sweep : (Bond → ℕ) → List Bond → ℕ → ℕ → List Bond
sweep key l a zero = []
sweep key l a (suc d) = keep (λ b. eqb (key b) a) l ++ sweep key l (suc a) d

-- the bonds that close at n and that open at n, "each by ascending walk number of the other end"; m: the number of atoms
abbrev pub closing_bonds : ℕ → List Bond → ℕ → List Bond
closing_bonds m l n = sweep (λ b. b.lo) (keep (λ b. eqb b.hi n) l) 0 m

abbrev pub opening_bonds : ℕ → List Bond → ℕ → List Bond
opening_bonds m l n = sweep (λ b. b.hi) (keep (λ b. eqb b.lo n) l) 0 m

abbrev pub relabel : (ℕ → ℕ) → Forest → Forest
relabel pay leaf = leaf
relabel pay (node w k f g) = node (pay w) k (relabel pay f) (relabel pay g)

-- the bonds in walk numbers; "Bonds the walk does not use"; what is written of n atoms with the payloads pay and the bonds bs
unfoldable pub renumbered : ℕ → List Bond → List Bond
renumbered n bs = map (renumber (pre (forest_of n bs))) bs

unfoldable pub unused : ℕ → List Bond → List Bond
unused n bs = remove_all (trees (forest_of n bs) 0) (renumbered n bs)

unfoldable pub write : ℕ → (ℕ → ℕ) → List Bond → List Tok
write n pay bs = text (closing_bonds n (unused n bs)) (opening_bonds n (unused n bs)) (relabel pay (forest_of n bs)) 0 []
