-- The rows in walk order give the tokens of the forest. Assumes nothing.
use mathlib.Core.Path.{◌≡◌, refl, sym, ap, ◌∙◌}
use mathlib.Core.Bool.{Bool}
use mathlib.Core.List.{List, [], ◌∷◌, ◌++◌, append_assoc}
use Prim.Native.Nat.{ℕ, suc, ◌+◌}
use native.Mathlib.Omega.{arith}
use Rattle.writing_walk.specs.Token.{Bond, Tok, apart, along, branch, back}
use Rattle.writing_walk.specs.Emit.{Forest, leaf, node, size, Slot, wrap, rings, ring_toks, after, toks, text}
use Rattle.writing_walk.specs.Flat.{Position, root, first, later, WalkRow, some?, walk_rows, root_rows, child, lead, flat}

-- a branch is left before the next child
abbrev leaving : Forest → List Tok
leaving leaf = []
leaving (node w k f g) = back ∷ []

module _ (c o : ℕ → List Bond) where
  wrapped : (g : Forest) (k w : ℕ) (x y : List Tok) → child (some? g) k w ++ (x ++ (leaving g ++ y)) ≡ wrap g (along k w ∷ x) ++ y
  wrapped leaf k w x y = refl
  wrapped (node w' k' f g) k w x y = ap (λ (l : List Tok). branch ∷ along k w ∷ l) (sym (append_assoc x (back ∷ []) y))

  -- the tokens before a child that is not the first
  abbrev before : Position → Forest → List Tok
  before s leaf = []
  before root (node w k f g) = []
  before first (node w k f g) = []
  before later (node w k f g) = back ∷ []

  abbrev IsChild : Position → Type 0
  IsChild s = (k w : ℕ) (m : Bool) (f g : Forest) → lead s m k w ≡ before s (node w k f g) ++ child m k w

  child-first : IsChild first
  child-first k w m f g = refl

  child-later : IsChild later
  child-later k w m f g = refl

  leaving-later : (g : Forest) → before later g ≡ leaving g
  leaving-later leaf = refl
  leaving-later (node w k f g) = refl

  flat_rows : (F : Forest) (s : Position) → IsChild s → (rs : List WalkRow) (n : ℕ) (t : List Slot)
      → flat c o (walk_rows F s ++ rs) n t ≡ before s F ++ (toks c o F n t ++ flat c o rs (n + size F) (after c o F n t))
  flat_rows leaf s h rs n t = let e : n ≡ n + 0 = omega arith in ap (λ (m : ℕ). flat c o rs m t) e
  flat_rows (node w k f g) s h rs n t =
      let u = rings c o n t in
      let n2 = suc n + size f in
      let t2 = after c o f (suc n) u in
      let R = ring_toks c o n t in
      let X = toks c o f (suc n) u in
      let Y = toks c o g n2 t2 in
      let Z = flat c o rs (n2 + size g) (after c o g n2 t2) in
      let e : n2 + size g ≡ n + suc (size f + size g) = omega arith in
      let q : flat c o ((walk_rows f first ++ walk_rows g later) ++ rs) (suc n) u ≡ X ++ (leaving g ++ (Y ++ Z)) =
      ap (λ (l : List WalkRow). flat c o l (suc n) u) (append_assoc (walk_rows f first) (walk_rows g later) rs)
      ∙ flat_rows f first child-first (walk_rows g later ++ rs) (suc n) u
      ∙ no_lead f (X ++ flat c o (walk_rows g later ++ rs) n2 t2)
      ∙ ap (λ (l : List Tok). X ++ l) (flat_rows g later child-later rs n2 t2 ∙ ap (λ (l : List Tok). l ++ (Y ++ Z)) (leaving-later g)) in
      ap (λ (l : List Tok). l ++ (R ++ flat c o ((walk_rows f first ++ walk_rows g later) ++ rs) (suc n) u)) (h k w (some? g) f g)
      ∙ ap (λ (l : List Tok). (before s (node w k f g) ++ child (some? g) k w) ++ (R ++ l)) q
      ∙ append_assoc (before s (node w k f g)) (child (some? g) k w) (R ++ (X ++ (leaving g ++ (Y ++ Z))))
      ∙ ap (λ (l : List Tok). before s (node w k f g) ++ l)
      (ap (λ (l : List Tok). child (some? g) k w ++ l) (sym (append_assoc R X (leaving g ++ (Y ++ Z))))
      ∙ wrapped g k w (R ++ X) (Y ++ Z)
      ∙ sym (append_assoc (wrap g (along k w ∷ (R ++ X))) Y Z)
      ∙ ap (λ (m : ℕ). (wrap g (along k w ∷ (R ++ X)) ++ Y) ++ flat c o rs m (after c o g n2 t2)) e)
    where
      no_lead : (f : Forest) (l : List Tok) → before first f ++ l ≡ l
      no_lead leaf l = refl
      no_lead (node w k f g) l = refl

  -- THE STATEMENT
  pub flat-text : (F : Forest) (n : ℕ) (t : List Slot) → flat c o (root_rows F) n t ≡ text c o F n t
  flat-text leaf n t = refl
  flat-text (node w k f g) n t =
      let u = rings c o n t in
      let n2 = suc n + size f in
      let t2 = after c o f (suc n) u in
      ap (λ (l : List Tok). apart w ∷ (ring_toks c o n t ++ l))
      (flat_rows f first child-first (root_rows g) (suc n) u ∙ no_lead f (toks c o f (suc n) u ++ flat c o (root_rows g) n2 t2) ∙ ap (λ (l : List Tok). toks c o f (suc n) u ++ l) (flat-text g n2 t2))
      ∙ ap (λ (l : List Tok). apart w ∷ l) (sym (append_assoc (ring_toks c o n t) (toks c o f (suc n) u) (text c o g n2 t2)))
    where
      no_lead : (f : Forest) (l : List Tok) → before first f ++ l ≡ l
      no_lead leaf l = refl
      no_lead (node w k f g) l = refl
