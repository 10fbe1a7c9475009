-- The rows of a forest from its lists of atoms, kinds and parents in walk order. Assumes nothing.
use mathlib.Core.Path.{◌≡◌, refl, sym, ap, ◌∙◌}
use mathlib.Core.Bool.{Bool, true, false, ◌||◌}
use mathlib.Core.List.{List, [], ◌∷◌, ◌++◌, append_assoc, append-nil}
use Prim.Native.Nat.{ℕ, suc, ◌+◌, ◌≤◌}
use native.Mathlib.Omega.{arith}
use borrow.Author.Tests.{ne_eqb}
use Rattle.writing_walk.specs.Token.{Bond}
use Rattle.writing_walk.specs.Emit.{Forest, leaf, node, size, pre, Slot, text}
use Rattle.writing_walk.specs.Walk.{member}
use Rattle.writing_walk.specs.Flat.{Position, root, first, later, WalkRow, walk_row, some?, walk_rows, root_rows, flat, kinds, ups, position_of, rows_of}
use Rattle.writing_walk.proofs.Count.{All, none, more, all_map, all_append, eqb_same}
use Rattle.writing_walk.proofs.Walk.{member-append}
use Rattle.writing_walk.proofs.Flat.{flat-text}

-- no parent of the list lies from a to b
abbrev Off : ℕ → ℕ → List ℕ → Type 0
Off a b l = All (λ u. a ≤ u → u ≤ b → ⊥) l

ups-off : (G : Forest) (p m a b : ℕ) → (a ≤ p → p ≤ b → ⊥) → b ≤ m → Off a b (ups G p m)
ups-off leaf p m a b h g = none
ups-off (node w k f q) p m a b h g =
    more {b = p} h (all_append (λ u. a ≤ u → u ≤ b → ⊥) (ups f (suc m) (suc m)) (ups q p (suc m + size f)) (ups-off f (suc m) (suc m) a b (λ x y. omega arith) (omega arith)) (ups-off q p (suc m + size f) a b h (omega arith)))

off-mono : (a a' b b' : ℕ) → a ≤ a' → b' ≤ b → (l : List ℕ) → Off a b l → Off a' b' l
off-mono a a' b b' h g l c = all_map (λ u. a ≤ u → u ≤ b → ⊥) (λ u. a' ≤ u → u ≤ b' → ⊥) (λ u r p q. r (omega arith) (omega arith)) l c

off-member : (v a b : ℕ) → a ≤ v → v ≤ b → (l : List ℕ) → Off a b l → member v l ≡ false
off-member v a b h g [] none = refl
off-member v a b h g (x ∷ l) (more r c) = rw (ne_eqb v x (λ e. r (omega arith) (omega arith))) (off-member v a b h g l c)

or-true : (x : Bool) → (x || true) ≡ true
or-true true = refl
or-true false = refl

-- another child follows exactly if its parent stands again in the list
follows : (f g : Forest) (p n : ℕ) (us : List ℕ) → p ≤ n → member p us ≡ false → member p ((ups f (suc n) (suc n) ++ ups g p (suc n + size f)) ++ us) ≡ some? g
follows f leaf p n us h m =
    member-append p (ups f (suc n) (suc n) ++ []) us ∙ ap (λ (x : Bool). member p (ups f (suc n) (suc n) ++ []) || x) m
    ∙ ap (λ (l : List ℕ). member p l || false) (append-nil (ups f (suc n) (suc n)))
    ∙ ap (λ (x : Bool). x || false) (off-member p p n (omega arith) h (ups f (suc n) (suc n)) (ups-off f (suc n) (suc n) p n (λ x y. omega arith) (omega arith)))
follows f (node w k q r) p n us h m =
    let G = ups (node w k q r) p (suc n + size f) in
    let a : member p G ≡ true = rw (eqb_same p) in
    let b : member p (ups f (suc n) (suc n) ++ G) ≡ true = member-append p (ups f (suc n) (suc n)) G ∙ ap (λ (x : Bool). member p (ups f (suc n) (suc n)) || x) a ∙ or-true (member p (ups f (suc n) (suc n))) in
    member-append p (ups f (suc n) (suc n) ++ G) us ∙ ap (λ (x : Bool). x || member p us) b

kids-rows : (F : Forest) (p n : ℕ) → suc p ≤ n → (ws ks us : List ℕ) → Off (suc p) (n + size F) us
    → rows_of (pre F ++ ws) (kinds F ++ ks) (ups F (suc p) n ++ us) n ≡ walk_rows F (position_of (suc p) n) ++ rows_of ws ks us (n + size F)
kids-rows leaf p n h ws ks us c = let e : n ≡ n + 0 = omega arith in ap (rows_of ws ks us) e
kids-rows (node w k f g) p n h ws ks us c =
    let n2 = suc n + size f in
    let e : n2 + size g ≡ n + suc (size f + size g) = omega arith in
    let m0 : member (suc p) us ≡ false = off-member (suc p) (suc p) (n + suc (size f + size g)) (omega arith) (omega arith) us c in
    let c1 : Off (suc n) n2 (ups g (suc p) n2 ++ us) = all_append (λ u. suc n ≤ u → u ≤ n2 → ⊥) (ups g (suc p) n2) us (ups-off g (suc p) n2 (suc n) n2 (λ x y. omega arith) (omega arith)) (off-mono (suc p) (suc n) (n + suc (size f + size g)) n2 (omega arith) (omega arith) us c) in
    let s1 : position_of (suc n) (suc n) ≡ first = rw (eqb_same (suc n)) in
    let s2 : position_of (suc p) n2 ≡ later = rw (ne_eqb (suc p) n2 (omega arith)) in
    let r1 : rows_of (pre f ++ (pre g ++ ws)) (kinds f ++ (kinds g ++ ks)) (ups f (suc n) (suc n) ++ (ups g (suc p) n2 ++ us)) (suc n) ≡ walk_rows f first ++ rows_of (pre g ++ ws) (kinds g ++ ks) (ups g (suc p) n2 ++ us) n2 =
    kids-rows f n (suc n) (omega arith) (pre g ++ ws) (kinds g ++ ks) (ups g (suc p) n2 ++ us) c1 ∙ ap (λ (s : Position). walk_rows f s ++ rows_of (pre g ++ ws) (kinds g ++ ks) (ups g (suc p) n2 ++ us) n2) s1 in
    let r2 : rows_of (pre g ++ ws) (kinds g ++ ks) (ups g (suc p) n2 ++ us) n2 ≡ walk_rows g later ++ rows_of ws ks us (n + suc (size f + size g)) =
    kids-rows g p n2 (omega arith) ws ks us (off-mono (suc p) (suc p) (n + suc (size f + size g)) (n2 + size g) (omega arith) (omega arith) us c) ∙ (λ i. walk_rows g (s2 i) ++ rows_of ws ks us (e i)) in
    ap (λ (m : Bool). walk_row w k (position_of (suc p) n) m ∷ rows_of ((pre f ++ pre g) ++ ws) ((kinds f ++ kinds g) ++ ks) ((ups f (suc n) (suc n) ++ ups g (suc p) n2) ++ us) (suc n)) (follows f g (suc p) n us h m0)
    ∙ ap (λ (l : List WalkRow). walk_row w k (position_of (suc p) n) (some? g) ∷ l)
    ((λ i. rows_of (append_assoc (pre f) (pre g) ws i) (append_assoc (kinds f) (kinds g) ks i) (append_assoc (ups f (suc n) (suc n)) (ups g (suc p) n2) us i) (suc n))
    ∙ r1 ∙ ap (λ (l : List WalkRow). walk_rows f first ++ l) r2 ∙ sym (append_assoc (walk_rows f first) (walk_rows g later) (rows_of ws ks us (n + suc (size f + size g)))))

-- the whole forest
root-rows : (F : Forest) (n : ℕ) → rows_of (pre F) (kinds F) (ups F 0 n) n ≡ root_rows F
root-rows leaf n = refl
root-rows (node w k f g) n =
    let n2 = suc n + size f in
    let c1 : Off (suc n) n2 (ups g 0 n2) = ups-off g 0 n2 (suc n) n2 (λ x y. omega arith) (omega arith) in
    let s1 : position_of (suc n) (suc n) ≡ first = rw (eqb_same (suc n)) in
    ap (λ (m : Bool). walk_row w k root m ∷ rows_of (pre f ++ pre g) (kinds f ++ kinds g) (ups f (suc n) (suc n) ++ ups g 0 n2) (suc n))
    (ap (member 0) (sym (append-nil (ups f (suc n) (suc n) ++ ups g 0 n2))) ∙ follows f g 0 n [] (omega arith) refl)
    ∙ ap (λ (l : List WalkRow). walk_row w k root (some? g) ∷ l)
    (kids-rows f n (suc n) (omega arith) (pre g) (kinds g) (ups g 0 n2) c1 ∙ (λ i. walk_rows f (s1 i) ++ root-rows g n2 i))

-- THE STATEMENT: the tokens from three lists in walk order
pub rows-text : (c o : ℕ → List Bond) (F : Forest) (t : List Slot) → flat c o (rows_of (pre F) (kinds F) (ups F 0 0) 0) 0 t ≡ text c o F 0 t
rows-text c o F t = ap (λ (l : List WalkRow). flat c o l 0 t) (root-rows F 0) ∙ flat-text c o F 0 t
