-- The list of parents in walk order tells the bonds of the forest. Assumes nothing.
use mathlib.Core.Path.{◌≡◌, refl, sym, ap, ◌∙◌}
use mathlib.Core.Bool.{Bool, true, false, ◌&&◌}
use mathlib.Core.List.{List, [], ◌∷◌, ◌++◌, append_assoc}
use Prim.Native.Nat.{ℕ, zero, suc, ◌+◌, ◌≤◌, ◌<◌}
use native.Mathlib.Omega.{arith}
use lib.Dec.{eqb}
use lib.ListN.{length, get_or, length-append}
use borrow.Author.Tests.{eq-eqb, ne_eqb, eqb-true, eqb-false}
use Rattle.writing_walk.specs.Token.{Bond, bond, eq_bond}
use Rattle.writing_walk.specs.Emit.{Forest, leaf, node, size, tree, trees}
use Rattle.writing_walk.specs.Check.{ends}
use Rattle.writing_walk.specs.Flat.{kinds, ups}
use Rattle.writing_walk.proofs.Count.{bit, count, and_left, and_right, eqb_same}
use Rattle.writing_walk.proofs.Times.{count-ends}

-- the bonds from each atom to its parent; us: the parent's number plus 1 (0: none)
abbrev up_bonds : List ℕ → List ℕ → ℕ → List Bond
up_bonds [] ks n = []
up_bonds (u ∷ us) [] n = []
up_bonds (zero ∷ us) (k ∷ ks) n = up_bonds us ks (suc n)
up_bonds (suc u ∷ us) (k ∷ ks) n = bond u n k ∷ up_bonds us ks (suc n)

tree-up : (F : Forest) (h n : ℕ) (us ks : List ℕ) → up_bonds (ups F (suc h) n ++ us) (kinds F ++ ks) n ≡ tree F h n ++ up_bonds us ks (n + size F)
tree-up leaf h n us ks = let e : n ≡ n + 0 = omega arith in ap (up_bonds us ks) e
tree-up (node w k f g) h n us ks =
    let n2 = suc n + size f in
    let e : n2 + size g ≡ n + suc (size f + size g) = omega arith in
    ap (λ (l : List Bond). bond h n k ∷ l)
    ((λ i. up_bonds (append_assoc (ups f (suc n) (suc n)) (ups g (suc h) n2) us i) (append_assoc (kinds f) (kinds g) ks i) (suc n))
    ∙ tree-up f n (suc n) (ups g (suc h) n2 ++ us) (kinds g ++ ks)
    ∙ ap (λ (l : List Bond). tree f n (suc n) ++ l) (tree-up g h n2 us ks)
    ∙ sym (append_assoc (tree f n (suc n)) (tree g h n2) (up_bonds us ks (n2 + size g)))
    ∙ ap (λ (m : ℕ). (tree f n (suc n) ++ tree g h n2) ++ up_bonds us ks m) e)

trees-up : (F : Forest) (n : ℕ) → up_bonds (ups F 0 n) (kinds F) n ≡ trees F n
trees-up leaf n = refl
trees-up (node w k f g) n = tree-up f n (suc n) (ups g 0 (suc n + size f)) (kinds g) ∙ ap (λ (l : List Bond). tree f n (suc n) ++ l) (trees-up g (suc n + size f))

ups-long : (F : Forest) (p n : ℕ) → length (ups F p n) ≡ length (kinds F)
ups-long leaf p n = refl
ups-long (node w k f g) p n =
    ap suc (length-append (ups f (suc n) (suc n)) (ups g p (suc n + size f)) ∙ (λ i. ups-long f (suc n) (suc n) i + ups-long g p (suc n + size f) i) ∙ sym (length-append (kinds f) (kinds g)))

off : (a b : Bool) → b ≡ false → bit (a && b) ≡ 0
off true b e = ap bit e
off false b e = refl

off-more : (a b : Bool) → b ≡ false → (s t : ℕ) → s ≡ t → bit (a && b) + s ≡ t
off-more a b e s t q = omega (arith, off a b e)

-- no bond upwards ends before it begins
late : (x y : ℕ) (us ks : List ℕ) (n : ℕ) → suc y ≤ n → count (ends x y) (up_bonds us ks n) ≡ 0
late x y [] ks n h = refl
late x y (u ∷ us) [] n h = refl
late x y (zero ∷ us) (k ∷ ks) n h = late x y us ks (suc n) (omega arith)
late x y (suc u ∷ us) (k ∷ ks) n h = omega (arith, off (eqb u x) (eqb n y) (ne_eqb n y (omega arith)), late x y us ks (suc n) (omega arith))

bit_and : (a b : Bool) → b ≡ true → bit (a && b) ≡ bit a
bit_and true b e = ap bit e
bit_and false b e = refl

suc-eqb : (a b : ℕ) → eqb (suc a) (suc b) ≡ eqb a b
suc-eqb a b = go (eqb a b) refl
  where
    go : (x : Bool) → eqb a b ≡ x → eqb (suc a) (suc b) ≡ x
    go true e = eq-eqb (suc a) (suc b) (ap suc (eqb-true a b e))
    go false e = ne_eqb (suc a) (suc b) (λ q. eqb-false a b e (omega arith))

up-count : (x : ℕ) (us ks : List ℕ) (n j : ℕ) → length us ≡ length ks → count (ends x (n + j)) (up_bonds us ks n) ≡ bit (eqb (get_or us j 0) (suc x))
up-count x [] ks n j e = ap bit (sym (ne_eqb 0 (suc x) (omega arith)))
up-count x (u ∷ us) [] n j e = absurd (omega arith)
up-count x (zero ∷ us) (k ∷ ks) n zero e = late x (n + 0) us ks (suc n) (omega arith) ∙ ap bit (sym (ne_eqb 0 (suc x) (omega arith)))
up-count x (suc u ∷ us) (k ∷ ks) n zero e =
    omega (arith, late x (n + 0) us ks (suc n) (omega arith), bit_and (eqb u x) (eqb n (n + 0)) (eq-eqb n (n + 0) (omega arith)), ap bit (suc-eqb u x))
up-count x (zero ∷ us) (k ∷ ks) n (suc j) e = let q : n + suc j ≡ suc n + j = omega arith in rw q (up-count x us ks (suc n) j (omega arith))
up-count x (suc u ∷ us) (k ∷ ks) n (suc j) e =
    let q : n + suc j ≡ suc n + j = omega arith in
    let r : count (ends x (n + suc j)) (up_bonds us ks (suc n)) ≡ bit (eqb (get_or us j 0) (suc x)) = rw q (up-count x us ks (suc n) j (omega arith)) in
    off-more (eqb u x) (eqb n (n + suc j)) (ne_eqb n (n + suc j) (omega arith)) (count (ends x (n + suc j)) (up_bonds us ks (suc n))) _ r

-- THE STATEMENT: x is the parent of y exactly if the forest has a bond from x to y, and then it has one
pub parent-bond : (F : Forest) (x y : ℕ) → count (ends x y) (trees F 0) ≡ bit (eqb (get_or (ups F 0 0) y 0) (suc x))
parent-bond F x y =
    let q : y ≡ 0 + y = omega arith in
    (λ i. count (ends x (q i)) (sym (trees-up F 0) i)) ∙ up-count x (ups F 0 0) (kinds F) 0 y (ups-long F 0 0)

-- the same of one bond
bond-found : (x y : ℕ) (l : List Bond) → 0 < count (ends x y) l → (k : ℕ) × (0 < count (eq_bond (bond x y k)) l)
bond-found x y [] h = absurd (omega arith)
bond-found x y (b ∷ l) h = go (ends x y b) refl h (bond-found x y l)
  where
    go : (e : Bool) → ends x y b ≡ e → 0 < bit e + count (ends x y) l → (0 < count (ends x y) l → (k : ℕ) × (0 < count (eq_bond (bond x y k)) l)) → (k : ℕ) × (0 < count (eq_bond (bond x y k)) (b ∷ l))
    go true e h f =
        let p = eqb-true b.lo x (and_left (eqb b.lo x) (eqb b.hi y) e) in
        let q = eqb-true b.hi y (and_right (eqb b.lo x) (eqb b.hi y) e) in
        let s : eq_bond (bond x y b.kind) b ≡ true = rw (eq-eqb x b.lo (sym p), eq-eqb y b.hi (sym q), eqb_same b.kind) in
        (b.kind, omega (arith, ap bit s))
    go false e h f = let r = f (omega arith) in (r.0, let s = r.1 in omega arith)

-- THE SAME, by a bond: x is the parent of y exactly if some bond from x to y is in the forest
pub parent_in : (F : Forest) (x y : ℕ) → get_or (ups F 0 0) y 0 ≡ suc x → (k : ℕ) × (0 < count (eq_bond (bond x y k)) (trees F 0))
parent_in F x y e = bond-found x y (trees F 0) (omega (arith, parent-bond F x y, ap bit (eq-eqb (get_or (ups F 0 0) y 0) (suc x) e)))

pub in-parent : (F : Forest) (b : Bond) → 0 < count (eq_bond b) (trees F 0) → get_or (ups F 0 0) b.hi 0 ≡ suc b.lo
in-parent F b h = go (eqb (get_or (ups F 0 0) b.hi 0) (suc b.lo)) refl
  where
    go : (x : Bool) → eqb (get_or (ups F 0 0) b.hi 0) (suc b.lo) ≡ x → get_or (ups F 0 0) b.hi 0 ≡ suc b.lo
    go true e = eqb-true (get_or (ups F 0 0) b.hi 0) (suc b.lo) e
    go false e = absurd (omega (arith, parent-bond F b.lo b.hi, ap bit e, count-ends b (trees F 0)))
