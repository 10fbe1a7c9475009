-- Lists that every test counts alike are permutations of each other. Assumes nothing.
use mathlib.Core.Path.{◌≡◌, refl, ap, subst}
use mathlib.Core.Bool.{Bool, true, false, cond}
use mathlib.Core.List.{List, [], ◌∷◌}
use Prim.Native.Nat.{ℕ, ◌+◌, ◌<◌}
use native.Mathlib.Omega.{arith}
use Rattle.writing_walk.specs.Token.{Bond, eq_bond}
use Rattle.writing_walk.specs.Walk.{remove, renumbered}
pub use Rattle.writing_walk.specs.Same.{Perm, nil, cons, swap, trans}
use Rattle.writing_walk.proofs.Count.{bit, count, bond-same, bond-eq}
use Rattle.writing_walk.proofs.Walk.{Inside}
use Rattle.writing_walk.proofs.Trip.{remove-count, completed, round_trip}

perm_same : (l : List Bond) → Perm l l
perm_same [] = nil
perm_same (x ∷ l) = cons (perm_same l)

-- a bond of the list brought to the front
front : (b : Bond) (l : List Bond) → 0 < count (eq_bond b) l → Perm (b ∷ remove b l) l
front b [] h = absurd (omega arith)
front b (x ∷ l) h = go (eq_bond b x) refl h (front b l)
  where
    go : (e : Bool) → eq_bond b x ≡ e → 0 < bit e + count (eq_bond b) l → (0 < count (eq_bond b) l → Perm (b ∷ remove b l) l) → Perm (b ∷ cond e l (x ∷ remove b l)) (x ∷ l)
    go true e h f = subst (λ (y : Bond). Perm (b ∷ l) (y ∷ l)) (bond-eq b x e) (perm_same (b ∷ l))
    go false e h f = trans (swap (perm_same (remove b l))) (cons (f (omega arith)))

pub perm-of : (l m : List Bond) → ((p : Bond → Bool) → count p l ≡ count p m) → Perm l m
perm-of [] [] h = nil
perm-of [] (y ∷ m) h = absurd (let z = h (λ b. true) in omega arith)
perm-of (x ∷ l) m h =
    let i : 0 < count (eq_bond x) m = omega (arith, h (eq_bond x), ap bit (bond-same x)) in
    trans (cons (perm-of l (remove x m) (λ p. let r = remove-count p x m i in let q = h p in omega arith))) (front x m i)

-- THE STATEMENT: the bonds read are a permutation of the renumbered bonds
pub bonds-permuted : (n : ℕ) (bs : List Bond) → Inside n bs → Perm (completed n bs) (renumbered n bs)
bonds-permuted n bs i = perm-of (completed n bs) (renumbered n bs) (round_trip n (λ v. v) bs i).bonds
