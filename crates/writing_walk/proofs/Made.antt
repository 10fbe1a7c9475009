-- What holds of every atom's payload and of every bond's kind holds in every written token. Assumes nothing.
use mathlib.Core.Path.{◌≡◌, ap}
use mathlib.Core.Bool.{Bool, true, false, cond}
use mathlib.Core.List.{List, [], ◌∷◌, ◌++◌, map}
use Prim.Native.Nat.{ℕ, zero, suc, ◌+◌, ◌≤◌, ◌<◌}
use native.Mathlib.Omega.{arith}
use lib.Dec.{eqb, ltb}
use Rattle.kinds.specs.Kind.{turned}
use Rattle.writing_walk.specs.Token.{Bond, bond, eq_bond, Tok, apart, along, ring, branch, back}
use Rattle.writing_walk.specs.Emit.{Forest, leaf, node, size, pre, Slot, lowest, insert, find, release, close_all, close_toks, open_toks, wrap, rings, ring_toks, after, toks, text, tree, trees}
use Rattle.writing_walk.specs.Walk.{forest_of, place, renumber, keep, sweep, closing_bonds, opening_bonds, relabel, renumbered, unused, remove_all, write}
use Rattle.writing_walk.specs.Flat.{kinds}
use Rattle.writing_walk.proofs.Count.{bit, count, bond-same, All, none, more, all_map, all_append}
use Rattle.writing_walk.proofs.Walk.{Inside}
use Rattle.writing_walk.proofs.Trip.{all-has, all_keep, all-remove_all, renumbering, within, completed, round_trip}
use Rattle.writing_walk.proofs.Bridges.{all_left, all_right}

-- P of the payload and Q of the kind
abbrev pub Made : (ℕ → Type 0) → (ℕ → Type 0) → Tok → Type 0
Made P Q (apart w) = P w
Made P Q (along k w) = Q k × P w
Made P Q (ring k m) = Q k
Made P Q branch = Unit {0}
Made P Q back = Unit {0}

-- the kinds of the bonds below the roots
abbrev below : Forest → List ℕ
below leaf = []
below (node w k f g) = kinds f ++ below g

module _ (P Q : ℕ → Type 0) (zeroth : Q 0) (either_way : (k : ℕ) → Q k → Q (turned k)) where
  abbrev M : Tok → Type 0
  M = Made P Q

  abbrev K : Bond → Type 0
  K b = Q b.kind

  closes-made : (c : List Bond) (t : List Slot) → All M (close_toks c t)
  closes-made [] t = none
  closes-made (b ∷ c) t = more {b = ring 0 (find b t)} zeroth (closes-made c (release b t))

  opens-made : (o : List Bond) (t : List Slot) → All K o → All M (open_toks o t)
  opens-made [] t none = none
  opens-made (b ∷ o) t (more h a) = more {b = ring b.kind (lowest t)} h (opens-made o (insert b t) a)

  wrap-made : (g : Forest) (x : List Tok) → All M x → All M (wrap g x)
  wrap-made leaf x a = a
  wrap-made (node w k f g) x a = more {b = branch} tt (all_append M x (back ∷ []) a (more {b = back} tt none))

  module _ (c o : ℕ → List Bond) (ok : (n : ℕ) → All K (o n)) (pay : ℕ → ℕ) where
    rings-made : (n : ℕ) (t : List Slot) → All M (ring_toks c o n t)
    rings-made n t = all_append M (close_toks (c n) t) (open_toks (o n) (close_all (c n) t)) (closes-made (c n) t) (opens-made (o n) (close_all (c n) t) (ok n))

    toks-made : (F : Forest) (n : ℕ) (t : List Slot) → All (λ v. P (pay v)) (pre F) → All Q (kinds F) → All M (toks c o (relabel pay F) n t)
    toks-made leaf n t a b = none
    toks-made (node w k f g) n t (more h a) (more j b) =
        let u = rings c o n t in
        let f' = relabel pay f in
        let g' = relabel pay g in
        let body = ring_toks c o n t ++ toks c o f' (suc n) u in
        all_append M (wrap g' (along k (pay w) ∷ body)) (toks c o g' (suc n + size f') (after c o f' (suc n) u))
        (wrap-made g' (along k (pay w) ∷ body) (more {b = along k (pay w)} (j, h) (all_append M (ring_toks c o n t) (toks c o f' (suc n) u) (rings-made n t) (toks-made f (suc n) u (all_left (λ v. P (pay v)) (pre f) (pre g) a) (all_left Q (kinds f) (kinds g) b)))))
        (toks-made g (suc n + size f') (after c o f' (suc n) u) (all_right (λ v. P (pay v)) (pre f) (pre g) a) (all_right Q (kinds f) (kinds g) b))

    text-made : (F : Forest) (n : ℕ) (t : List Slot) → All (λ v. P (pay v)) (pre F) → All Q (below F) → All M (text c o (relabel pay F) n t)
    text-made leaf n t a b = none
    text-made (node w k f g) n t (more h a) b =
        let u = rings c o n t in
        let f' = relabel pay f in
        let g' = relabel pay g in
        more {b = apart (pay w)} h
        (all_append M (ring_toks c o n t ++ toks c o f' (suc n) u) (text c o g' (suc n + size f') (after c o f' (suc n) u))
        (all_append M (ring_toks c o n t) (toks c o f' (suc n) u) (rings-made n t) (toks-made f (suc n) u (all_left (λ v. P (pay v)) (pre f) (pre g) a) (all_left Q (kinds f) (below g) b)))
        (text-made g (suc n + size f') (after c o f' (suc n) u) (all_right (λ v. P (pay v)) (pre f) (pre g) a) (all_right Q (kinds f) (below g) b)))

  -- kinds from the forest's bonds
  tree-kinds : (F : Forest) (h n : ℕ) → All K (tree F h n) → All Q (kinds F)
  tree-kinds leaf h n a = none
  tree-kinds (node w k f g) h n (more j a) =
      more j (all_append Q (kinds f) (kinds g) (tree-kinds f n (suc n) (all_left K (tree f n (suc n)) (tree g h (suc n + size f)) a)) (tree-kinds g h (suc n + size f) (all_right K (tree f n (suc n)) (tree g h (suc n + size f)) a)))

  trees-kinds : (F : Forest) (n : ℕ) → All K (trees F n) → All Q (below F)
  trees-kinds leaf n a = none
  trees-kinds (node w k f g) n a =
      all_append Q (kinds f) (below g) (tree-kinds f n (suc n) (all_left K (tree f n (suc n)) (trees g (suc n + size f)) a)) (trees-kinds g (suc n + size f) (all_right K (tree f n (suc n)) (trees g (suc n + size f)) a))

  -- what holds of each bond that a list counts
  all-counted : (l : List Bond) → ((b : Bond) → 0 < count (eq_bond b) l → K b) → All K l
  all-counted [] h = none
  all-counted (x ∷ l) h = more (h x (let e = ap bit (bond-same x) in omega arith)) (all-counted l (λ b g. h b (omega arith)))

  kind-stays : (order : List ℕ) (b : Bond) → K b → K (renumber order b)
  kind-stays order b h = go (ltb (place order b.lo) (place order b.hi))
    where
      go : (x : Bool) → K (cond x (bond (place order b.lo) (place order b.hi) b.kind) (bond (place order b.hi) (place order b.lo) (turned b.kind)))
      go true = h
      go false = either_way b.kind h

  all-renumber : (order : List ℕ) (bs : List Bond) → All K bs → All K (map (renumber order) bs)
  all-renumber order [] none = none
  all-renumber order (b ∷ bs) (more h a) = more (kind-stays order b h) (all-renumber order bs a)

  all-sweep : (key : Bond → ℕ) (l : List Bond) (a d : ℕ) → All K l → All K (sweep key l a d)
  all-sweep key l a zero h = none
  all-sweep key l a (suc d) h = all_append K (keep (λ b. eqb (key b) a) l) (sweep key l (suc a) d) (all_keep K (λ b. eqb (key b) a) l h) (all-sweep key l (suc a) d h)

  -- THE STATEMENT
  pub written-made : (n : ℕ) (pay : ℕ → ℕ) (bs : List Bond) → Inside n bs → ((v : ℕ) → v < n → P (pay v)) → All K bs → All M (write n pay bs)
  unfolding write unused renumbered
  written-made n pay bs i p a =
      let F = forest_of n bs in
      let R = map (renumber (pre F)) bs in
      let N = remove_all (trees F 0) R in
      let r : All K R = all-renumber (pre F) bs a in
      let w : (b : Bond) → count (eq_bond b) (trees F 0) ≤ count (eq_bond b) R = within n bs i in
      let t : All K (trees F 0) = all-counted (trees F 0) (λ b h. all-has K R r b (let q = w b in omega arith)) in
      text-made (closing_bonds n N) (opening_bonds n N) (λ x. all-sweep (λ b. b.hi) (keep (λ b. eqb b.lo x) N) 0 n (all_keep K (λ b. eqb b.lo x) N (all-remove_all K (trees F 0) R r))) pay F 0 []
      (all_map (λ v. v < n) (λ v. P (pay v)) p (pre F) (renumbering n bs i).inside) (trees-kinds F 0 t)

  -- the same of the bonds as they are completed
  pub completed-made : (n : ℕ) (bs : List Bond) → Inside n bs → All K bs → All K (completed n bs)
  unfolding renumbered
  completed-made n bs i a =
      let R = map (renumber (pre (forest_of n bs))) bs in
      let r : All K R = all-renumber (pre (forest_of n bs)) bs a in
      let c : (p : Bond → Bool) → count p (completed n bs) ≡ count p R = (round_trip n (λ v. v) bs i).bonds in
      all-counted (completed n bs) (λ b h. all-has K R r b (let q = c (eq_bond b) in omega arith))
