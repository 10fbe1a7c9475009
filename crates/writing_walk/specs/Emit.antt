-- 01, Writing: the tokens of any forest with any further bonds between its nodes (numbered in preorder), which become bridges
use Rattle.std.specs.Prelude.{cond, List, [], ◌∷◌, ◌++◌, ℕ, suc, ◌+◌}
use Rattle.kinds.specs.Kind.{elided}
use Rattle.writing_walk.specs.Token.{Bond, bond, eq_bond, Tok, apart, along, ring, branch, back}

-- first child and next sibling: an atom, the kind of the bond to its parent, its children, its later siblings
pub data Forest : Type 0 where
  leaf : Forest
  node : ℕ → ℕ → Forest → Forest → Forest

abbrev pub size : Forest → ℕ
size leaf = 0
size (node w k f g) = suc (size f + size g)

-- the atoms in preorder
abbrev pub pre : Forest → List ℕ
pre leaf = []
pre (node w k f g) = w ∷ (pre f ++ pre g)

-- the writer's bridges: each place is free or holds the bond that is open there
pub data Slot : Type 0 where
  free : Slot
  held : Bond → Slot

-- "An opening takes the lowest bridge number that is not open": the lowest free place; the place that holds b
abbrev pub lowest : List Slot → ℕ
lowest [] = 0
lowest (free ∷ t) = 0
lowest (held b ∷ t) = suc (lowest t)

abbrev pub insert : Bond → List Slot → List Slot
insert b [] = held b ∷ []
insert b (free ∷ t) = held b ∷ t
insert b (held x ∷ t) = held x ∷ insert b t

abbrev pub find : Bond → List Slot → ℕ
find b [] = 0
find b (free ∷ t) = suc (find b t)
find b (held x ∷ t) = cond (eq_bond b x) 0 (suc (find b t))

abbrev pub release : Bond → List Slot → List Slot
release b [] = []
release b (free ∷ t) = free ∷ release b t
release b (held x ∷ t) = cond (eq_bond b x) (free ∷ t) (held x ∷ release b t)

abbrev pub close_all : List Bond → List Slot → List Slot
close_all [] t = t
close_all (b ∷ c) t = close_all c (release b t)

-- closings bear no symbol: "the symbol stands at the opening end only"
abbrev pub close_toks : List Bond → List Slot → List Tok
close_toks [] t = []
close_toks (b ∷ c) t = ring elided (find b t) ∷ close_toks c (release b t)

abbrev pub open_all : List Bond → List Slot → List Slot
open_all [] t = t
open_all (b ∷ o) t = open_all o (insert b t)

abbrev pub open_toks : List Bond → List Slot → List Tok
open_toks [] t = []
open_toks (b ∷ o) t = ring b.kind (lowest t) ∷ open_toks o (insert b t)

-- "All children but the last stand in branches"
abbrev pub wrap : Forest → List Tok → List Tok
wrap leaf x = x
wrap (node w k f g) x = branch ∷ (x ++ (back ∷ []))

-- c n and o n: the bonds that close and that open at the atom n
module _ (c o : ℕ → List Bond) where
  -- "At an atom closings come first, then openings"; "a number closed at this atom is free" for an opening
  abbrev pub rings : ℕ → List Slot → List Slot
  rings n t = open_all (o n) (close_all (c n) t)

  abbrev pub ring_toks : ℕ → List Slot → List Tok
  ring_toks n t = close_toks (c n) t ++ open_toks (o n) (close_all (c n) t)

  abbrev pub after : Forest → ℕ → List Slot → List Slot
  after leaf n t = t
  after (node w k f g) n t = after g (suc n + size f) (after f (suc n) (rings n t))

  -- the children of an atom; n is the number of the next atom
  abbrev pub toks : Forest → ℕ → List Slot → List Tok
  toks leaf n t = []
  toks (node w k f g) n t = wrap g (along k w ∷ (ring_toks n t ++ toks f (suc n) (rings n t))) ++ toks g (suc n + size f) (after f (suc n) (rings n t))

  -- "for each further piece of the molecule": the components, each begun by an atom that is joined to nothing
  abbrev pub text : Forest → ℕ → List Slot → List Tok
  text leaf n t = []
  text (node w k f g) n t = apart w ∷ ((ring_toks n t ++ toks f (suc n) (rings n t)) ++ text g (suc n + size f) (after f (suc n) (rings n t)))

  -- the bonds as they are completed: "with the child atom, or with the bridge that closes"
  abbrev pub done : Forest → ℕ → ℕ → List Bond
  done leaf h n = []
  done (node w k f g) h n = bond h n k ∷ (c n ++ (done f n (suc n) ++ done g h (suc n + size f)))

  abbrev pub done_all : Forest → ℕ → List Bond
  done_all leaf n = []
  done_all (node w k f g) n = c n ++ (done f n (suc n) ++ done_all g (suc n + size f))

-- the hub after a child: its parent, if it stood in a branch
abbrev pub hub_after : Forest → ℕ → ℕ → ℕ
hub_after leaf h e = e
hub_after (node w k f g) h e = h

abbrev pub end_hub : Forest → ℕ → ℕ → ℕ
end_hub leaf h n = h
end_hub (node w k f g) h n = end_hub g (hub_after g h (end_hub f n (suc n))) (suc n + size f)

abbrev pub last_hub : Forest → ℕ → ℕ → ℕ
last_hub leaf h n = h
last_hub (node w k f g) h n = last_hub g (end_hub f n (suc n)) (suc n + size f)

-- the bonds of the forest itself, in the numbers of the preorder: below the atom h; at the top
abbrev pub tree : Forest → ℕ → ℕ → List Bond
tree leaf h n = []
tree (node w k f g) h n = bond h n k ∷ (tree f n (suc n) ++ tree g h (suc n + size f))

abbrev pub trees : Forest → ℕ → List Bond
trees leaf n = []
trees (node w k f g) n = tree f n (suc n) ++ trees g (suc n + size f)
