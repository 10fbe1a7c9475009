-- The renumbering and the order of the walk undo each other: the renumbering is a permutation of the atom numbers. Assumes nothing.
use mathlib.Core.Path.{◌≡◌, refl, sym, ◌∙◌}
use mathlib.Core.Bool.{Bool, true, false, cond}
use mathlib.Core.List.{List, [], ◌∷◌}
use Prim.Native.Nat.{ℕ, suc, ◌+◌, ◌<◌}
use native.Mathlib.Omega.{arith}
use lib.Dec.{eqb}
use lib.ListN.{length, get_or, take, drop}
use lib.Seq.{split_at, length-take-le}
use borrow.Author.Tests.{eqb-true}
use Rattle.writing_walk.specs.Walk.{place}
use Rattle.writing_walk.proofs.Count.{bit, all-at}
use Rattle.writing_walk.proofs.Walk.{times}
use Rattle.writing_walk.proofs.Trip.{placed, place-lt, Renumbering}

-- the atom at the place of an atom
at_place : (l : List ℕ) (v : ℕ) → 0 < times v l → get_or l (place l v) 0 ≡ v
at_place [] v h = absurd (omega arith)
at_place (x ∷ l) v h = go (eqb v x) refl h (at_place l v)
  where
    go : (e : Bool) → eqb v x ≡ e → 0 < bit e + times v l → (0 < times v l → get_or l (place l v) 0 ≡ v) → get_or (x ∷ l) (cond e 0 (suc (place l v))) 0 ≡ v
    go true e h f = sym (eqb-true v x e)
    go false e h f = f (omega arith)

module _ {n : ℕ} {order : List ℕ} (r : Renumbering n order) where
  -- THE STATEMENTS: each atom has a walk number below n, each walk number an atom below n, and the two undo each other
  pub place-below : (v : ℕ) → v < n → place order v < n
  place-below v h = let l = place-lt v order (r.every v h) in let e = r.long in omega arith

  pub atom-below : (a : ℕ) → a < n → get_or order a 0 < n
  atom-below a h = all-at (λ v. v < n) 0 order a r.inside (let e = r.long in omega arith)

  pub atom-place : (v : ℕ) → v < n → get_or order (place order v) 0 ≡ v
  atom-place v h = at_place order v (r.every v h)

  pub place-atom : (a : ℕ) → a < n → place order (get_or order a 0) ≡ a
  place-atom a h =
      let l : a < length order = (let e = r.long in omega arith) in
      placed order r.once (get_or order a 0) (take a order) (drop (suc a) order) (split_at order a 0 l) ∙ length-take-le a order (omega arith)
