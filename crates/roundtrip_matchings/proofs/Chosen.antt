-- A choice of bonds, as a row, is carried along a permutation of the bonds: every sum over the chosen bonds stays. Assumes nothing.
use mathlib.Core.Path.{◌≡◌, refl, ap, ◌∙◌}
use mathlib.Core.Bool.{Bool, true, false, ◌&&◌}
use mathlib.Core.List.{List, [], ◌∷◌, map}
use Prim.Native.Nat.{ℕ, ◌+◌}
use native.Mathlib.Omega.{arith}
use lib.Dec.{eqb, leb}
use lib.ListN.{length}
use Rattle.loops.specs.Loop.{pick}
use Rattle.loops.proofs.Loops.{and_left, and_right}
use Rattle.matching.specs.Enumeration.{Row, is_row}
use Rattle.matching.proofs.Graph.{and_intro}
use Rattle.writing_walk.specs.Token.{Bond}
use Rattle.writing_walk.proofs.Count.{All, none, more}
use Rattle.writing_walk.proofs.Perm.{Perm, nil, cons, swap, trans}

-- the sum of f over the bonds that the row chooses
unfoldable pub chosen_sum : (Bond → ℕ) → List Bond → Row → ℕ
chosen_sum f [] r = 0
chosen_sum f (b ∷ bs) [] = 0
chosen_sum f (b ∷ bs) (x ∷ r) = pick (eqb x 0) 0 (f b) + chosen_sum f bs r

-- a row of the bonds m that chooses what the row r of the bonds l does
pub record Carried (l m : List Bond) (r : Row) : Type 0 where
  pub row : Row
  pub fits : is_row (length m) row ≡ true
  pub same : (f : Bond → ℕ) → chosen_sum f m row ≡ chosen_sum f l r

none-such : {A : Type 0} → ◌≡◌ {A = Bool} false true → A
none-such h = absurd (let z : ◌≡◌ {A = ℕ} 0 1 = cc in omega arith)

pub carried : {l m : List Bond} → Perm l m → (r : Row) → is_row (length l) r ≡ true → Carried l m r
unfolding is_row chosen_sum
carried nil r h = record { row = r; fits = h; same = λ f. refl }
carried (cons p) [] h = none-such h
carried (cons {x = b} {l} {m} p) (x ∷ r) h =
    let c = carried p r (and_right (leb x 1) (is_row (length l) r) h) in
    record {
      row = x ∷ c.row;
      fits = and_intro (leb x 1) (is_row (length m) c.row) (and_left (leb x 1) (is_row (length l) r) h) c.fits;
      same = λ f. ap (λ (k : ℕ). pick (eqb x 0) 0 (f b) + k) (c.same f);
    }
carried (swap p) [] h = none-such h
carried (swap p) (x ∷ []) h = none-such (and_right (leb x 1) false h)
carried (swap {x = b} {y = d} {l} {m} p) (x ∷ y ∷ r) h =
    let g = and_right (leb x 1) (leb y 1 && is_row (length l) r) h in
    let c = carried p r (and_right (leb y 1) (is_row (length l) r) g) in
    record {
      row = y ∷ x ∷ c.row;
      fits = and_intro (leb y 1) (leb x 1 && is_row (length m) c.row) (and_left (leb y 1) (is_row (length l) r) g)
          (and_intro (leb x 1) (is_row (length m) c.row) (and_left (leb x 1) (leb y 1 && is_row (length l) r) h) c.fits);
      same = λ f. let e = c.same f in omega arith;
    }
carried (trans p q) r h =
    let c = carried p r h in
    let d = carried q c.row c.fits in
    record { row = d.row; fits = d.fits; same = λ f. d.same f ∙ c.same f }

-- a permutation turned round
pub perm-sym : {l m : List Bond} → Perm l m → Perm m l
perm-sym nil = nil
perm-sym (cons p) = cons (perm-sym p)
perm-sym (swap p) = swap (perm-sym p)
perm-sym (trans p q) = trans (perm-sym q) (perm-sym p)

-- bonds that are renamed, with a sum that follows them
pub sum-renamed : (P : Bond → Type 0) (g : Bond → Bond) (f f' : Bond → ℕ) → ((b : Bond) → P b → f' (g b) ≡ f b) → (bs : List Bond) → All P bs → (r : Row) → chosen_sum f' (map g bs) r ≡ chosen_sum f bs r
unfolding chosen_sum
sum-renamed P g f f' e [] none r = refl
sum-renamed P g f f' e (b ∷ bs) (more h a) [] = refl
sum-renamed P g f f' e (b ∷ bs) (more h a) (x ∷ r) = λ i. pick (eqb x 0) 0 (e b h i) + sum-renamed P g f f' e bs a r i
