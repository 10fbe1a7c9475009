-- auxiliary: emission by rows in walk order, with no tree and no stack: what stands before an atom depends on two flags of its row
use Rattle.std.specs.Prelude.{Bool, true, false, cond, List, [], ◌∷◌, ◌++◌, ℕ, zero, suc, eqb}
use Rattle.writing_walk.specs.Token.{Bond, Tok, apart, along, branch, back}
use Rattle.writing_walk.specs.Emit.{Forest, leaf, node, Slot, rings, ring_toks}
use Rattle.writing_walk.specs.Walk.{member}
pub use Rattle.writing_walk.specs.Parents.{ups}

-- a root; the first child: its parent is the atom just before it; or a later child
pub data Position : Type 0 where
  root : Position
  first : Position
  later : Position

pub record WalkRow : Type 0 where
  pub pay : ℕ
  pub kind : ℕ
  pub position : Position
  pub more? : Bool

abbrev pub walk_row : ℕ → ℕ → Position → Bool → WalkRow
walk_row w k s m = record { pay = w; kind = k; position = s; more? = m }

abbrev pub some? : Forest → Bool
some? leaf = false
some? (node w k f g) = true

abbrev pub walk_rows : Forest → Position → List WalkRow
walk_rows leaf s = []
walk_rows (node w k f g) s = walk_row w k s (some? g) ∷ (walk_rows f first ++ walk_rows g later)

abbrev pub root_rows : Forest → List WalkRow
root_rows leaf = []
root_rows (node w k f g) = walk_row w k root (some? g) ∷ (walk_rows f first ++ root_rows g)

abbrev pub child : Bool → ℕ → ℕ → List Tok
child true k w = branch ∷ along k w ∷ []
child false k w = along k w ∷ []

abbrev pub lead : Position → Bool → ℕ → ℕ → List Tok
lead root m k w = apart w ∷ []
lead first m k w = child m k w
lead later m k w = back ∷ child m k w

module _ (c o : ℕ → List Bond) where
  abbrev pub flat : List WalkRow → ℕ → List Slot → List Tok
  flat [] n t = []
  flat (r ∷ rs) n t = lead r.position r.more? r.kind r.pay ++ (ring_toks c o n t ++ flat rs (suc n) (rings c o n t))

-- the same rows from three lists in walk order: the atom, the kind of the bond to its parent, and the parent's walk number plus 1 (0: a root)
abbrev pub kinds : Forest → List ℕ
kinds leaf = []
kinds (node w k f g) = k ∷ (kinds f ++ kinds g)

abbrev pub position_of : ℕ → ℕ → Position
position_of zero n = root
position_of (suc p) n = cond (eqb (suc p) n) first later

-- an atom stands in a branch if a later one has the same parent
abbrev pub rows_of : List ℕ → List ℕ → List ℕ → ℕ → List WalkRow
rows_of [] ks us n = []
rows_of (w ∷ ws) [] us n = []
rows_of (w ∷ ws) (k ∷ ks) [] n = []
rows_of (w ∷ ws) (k ∷ ks) (u ∷ us) n = walk_row w k (position_of u n) (member u us) ∷ rows_of ws ks us (suc n)
