-- A renumbering that the search over matrices goes to is a way between the matrices of orders, and so is the one back. Assumes nothing.
use mathlib.Core.Path.{◌≡◌, refl, sym, ap, ◌∙◌}
use mathlib.Core.Bool.{Bool, true, false, not}
use mathlib.Core.List.{List, []}
use Prim.Native.Nat.{ℕ, ◌+◌, ◌*◌, ◌<◌, ◌≤◌}
use native.Mathlib.Omega.{arith}
use lib.Dec.{eqb, ltb}
use lib.ListN.{length, replicate, length-replicate, get_or-replicate}
use borrow.Author.Tests.{eqb-true, eqb-false, ltb-true, ltb-false, not-true}
use Rattle.loops.specs.Loop.{run, each, up_to}
use Rattle.loops.proofs.Loops.{and_left, and_right, each_at, up_to-at}
use Rattle.table.specs.Valid.{Valid}
use Rattle.table.proofs.Valid.{Enough}
use Rattle.matching.specs.Enumeration.{Row}
use Rattle.matching.specs.Model.{some?, head_or}
use Rattle.kekule.proofs.Kekulized.{kekulized-valid}
use Rattle.same_model.specs.Same.{max_same, Molecule, settled, order_between, image}
use Rattle.same_model.specs.Redrawing.{Renumbering}
use Rattle.same_model.proofs.Lists.{all-at, all_head, all-passing}
use Rattle.same_model.proofs.Words.{Word, words-all}
use Rattle.same_model.proofs.Onto.{made, inverse, inverse-renumbers, image-back}
use Rattle.same_model.proofs.Single.{orders-low}
use Rattle.same_place.specs.Place.{entry, beside, placeable, good_from, goods}
use Rattle.same_drawing.specs.Drawing.{cells, with_bond, Orders}
use Rattle.same_drawing.proofs.Drawn.{orders-drawn}
use Rattle.same_drawing.proofs.Fitting.{good-index, orders-swap}
use Rattle.same_open.specs.Open.{agree, Way, Goes}
use Rattle.same_part.specs.Part.{closed_matrix}
use Rattle.same_open.proofs.Laws.{agree-turned, agree_same}

-- what a good list says of one atom, and of two
module _ (o1 o2 ok t : List ℕ) (n : ℕ) (w : Word n n t) (good : good_from o1 o2 ok [] t ≡ true) where
  low : (a : ℕ) → a < n → image t a < n
  low a l = all-at 0 w.below a (omega (arith, w.size))

  placed : (a : ℕ) → a < n → placeable o1 o2 ok t a (image t a) ≡ true
  placed a l = each_at (λ a. placeable o1 o2 ok t a (image t a)) (length t) a (sym (good-index o1 o2 ok [] t) ∙ good) (omega (arith, w.size))

  goes : Goes ok n t
  unfolding placeable
  goes a l = eqb-true (entry ok a (image t a)) 1 (and_left (eqb (entry ok a (image t a)) 1) (each (beside o1 o2 t a (image t a)) 0 a) (placed a l))

  beside_at : (a b : ℕ) → a < n → b < a → beside o1 o2 t a (image t a) b ≡ true
  unfolding placeable
  beside_at a b l i = each_at (beside o1 o2 t a (image t a)) a b (and_right (eqb (entry ok a (image t a)) 1) (each (beside o1 o2 t a (image t a)) 0 a) (placed a l)) i

  differ : (a b : ℕ) → a < n → b < a → image t b ≡ image t a → ⊥
  differ a b l i = eqb-false (image t b) (image t a) (not-true (eqb (image t b) (image t a)) (and_left (not (eqb (image t b) (image t a))) (eqb (entry o1 a b) (entry o2 (image t a) (image t b))) (beside_at a b l i)))

  equal : (a b : ℕ) → a < n → b < a → entry o1 a b ≡ entry o2 (image t a) (image t b)
  equal a b l i = eqb-true (entry o1 a b) (entry o2 (image t a) (image t b)) (and_right (not (eqb (image t b) (image t a))) (eqb (entry o1 a b) (entry o2 (image t a) (image t b))) (beside_at a b l i))

  one : (a b : ℕ) → a < n → b < n → image t a ≡ image t b → a ≡ b
  one a b la lb q = go (ltb b a) (ltb a b) refl refl
    where
      go : (y z : Bool) → ltb b a ≡ y → ltb a b ≡ z → a ≡ b
      go true z i j = absurd (differ a b la (ltb-true b a i) (sym q))
      go false true i j = absurd (differ b a lb (ltb-true a b j) q)
      go false false i j = let k = ltb-false b a i in let h = ltb-false a b j in omega arith

-- the matrix of a whole row holds the orders and nothing else
closed_at : (x : Molecule) (r : Row) → Valid x.atoms x.bonds x.n x.m → Enough x.atoms x.bonds → x.n ≤ max_same → (a b : ℕ) → a < x.n → b < x.n → entry (closed_matrix x.bonds r x.m) a b ≡ order_between (settled x r) a b
unfolding closed_matrix
closed_at x r v e few a b la lb =
    (orders-drawn x r v e few (λ a b. 0) (replicate cells 0) (length-replicate {A = ℕ} cells 0) (λ a b la lb. get_or-replicate {A = ℕ} cells (max_same * a + b) 0 0 (omega arith))).at a b la lb
    ∙ no_key (order_between (settled x r) a b)
  where
    no_key : (u : ℕ) → 4 * 0 + u ≡ u
    no_key u = omega arith

module _ (x y : Molecule) (r s : Row) (v1 : Valid x.atoms x.bonds x.n x.m) (e1 : Enough x.atoms x.bonds) (v2 : Valid y.atoms y.bonds y.n y.m) (e2 : Enough y.atoms y.bonds)
    (few : x.n ≤ max_same) (counts : x.n ≡ y.n) where
  -- matrices that hold keys and orders
  module _ {o1 o2 : List ℕ} (ok : List ℕ) {t : List ℕ} {q1 q2 : ℕ → ℕ → ℕ} (w1 : Orders (settled x r) q1 o1) (w2 : Orders (settled y s) q2 o2) (w : Word x.n x.n t) (good : good_from o1 o2 ok [] t ≡ true) where
    goes-low : (a : ℕ) → a < x.n → image t a < y.n
    goes-low a l = let i = low o1 o2 ok t x.n w good a l in omega arith

    below : (a b : ℕ) → a < x.n → b < a → order_between (settled x r) a b ≡ order_between (settled y s) (image t a) (image t b)
    below a b l i =
        let lb : b < x.n = omega arith in
        let u = orders-low (settled x r) (kekulized-valid v1 e1 r) a b in
        let z = orders-low (settled y s) (kekulized-valid v2 e2 s) (image t a) (image t b) in
        let k = sym (w1.at a b l lb) ∙ equal o1 o2 ok t x.n w good a b l i ∙ w2.at (image t a) (image t b) (goes-low a l) (goes-low b lb) in
        omega arith

    orders : (a b : ℕ) → a < x.n → b < x.n → (a ≡ b → ⊥) → order_between (settled x r) a b ≡ order_between (settled y s) (image t a) (image t b)
    orders a b la lb d = go (ltb b a) refl
      where
        go : (z : Bool) → ltb b a ≡ z → order_between (settled x r) a b ≡ order_between (settled y s) (image t a) (image t b)
        go true i = below a b la (ltb-true b a i)
        go false i = let k = ltb-false b a i in orders-swap (settled x r) a b ∙ below b a lb (omega (arith, d)) ∙ orders-swap (settled y s) (image t b) (image t a)

    agreeing : (a b : ℕ) → a < x.n → b < x.n → (a ≡ b → ⊥) → agree (entry (closed_matrix x.bonds r x.m) a b) (entry (closed_matrix y.bonds s y.m) (image t a) (image t b)) ≡ true
    agreeing a b la lb d =
        let c = closed_at x r v1 e1 few a b la lb in
        let e = closed_at y s v2 e2 (omega arith) (image t a) (image t b) (goes-low a la) (goes-low b lb) in
        let u = orders-low (settled x r) (kekulized-valid v1 e1 r) a b in
        agree_same (entry (closed_matrix x.bonds r x.m) a b) (entry (closed_matrix y.bonds s y.m) (image t a) (image t b)) (c ∙ orders a b la lb d ∙ sym e) (omega arith)

    way : Way (closed_matrix x.bonds r x.m) (closed_matrix y.bonds s y.m) x.n t
    way = record { below = low o1 o2 ok t x.n w good; one = one o1 o2 ok t x.n w good; cells = agreeing }

  -- a good list of numbers is a way between the matrices of orders, and goes where atoms may go
  pub good-way : (base1 base2 ok : List ℕ) {t : List ℕ} (q1 q2 : ℕ → ℕ → ℕ) → length base1 ≡ cells → length base2 ≡ cells
      → ((a b : ℕ) → a < x.n → b < x.n → entry base1 a b ≡ 4 * q1 a b) → ((a b : ℕ) → a < y.n → b < y.n → entry base2 a b ≡ 4 * q2 a b)
      → good_from (run (with_bond x.bonds r) 0 x.m base1) (run (with_bond y.bonds s) 0 y.m base2) ok [] t ≡ true → Word x.n x.n t
      → Way (closed_matrix x.bonds r x.m) (closed_matrix y.bonds s y.m) x.n t × Goes ok x.n t
  good-way base1 base2 ok {t} q1 q2 size1 size2 based1 based2 good w =
      let w1 = orders-drawn x r v1 e1 few q1 base1 size1 based1 in
      let w2 = orders-drawn y s v2 e2 (omega arith) q2 base2 size2 based2 in
      (way ok w1 w2 w good, goes (run (with_bond x.bonds r) 0 x.m base1) (run (with_bond y.bonds s) 0 y.m base2) ok t x.n w good)

-- where the search finds something, there is a good list of numbers
pub some-way : (o1 o2 ok : List ℕ) (n : ℕ) → some? (goods o1 o2 ok n [] n) ≡ true → (t : List ℕ) × Word n n t × (good_from o1 o2 ok [] t ≡ true)
unfolding goods
some-way o1 o2 ok n h = let k = all_head [] (all-passing (good_from o1 o2 ok []) (words-all n n)) h in (head_or [] (goods o1 o2 ok n [] n), k.0, k.1)

-- the way back
module _ {p q : List ℕ} {n : ℕ} {t : List ℕ} (w : Way p q n t) where
  abbrev back : List ℕ
  back = inverse n (up_to (image t) 0 n)

  renumbers : Renumbering n (up_to (image t) 0 n)
  renumbers = made n (image t) w.below w.one

  back_low : (d : ℕ) → d < n → image back d < n
  back_low d l = (inverse-renumbers renumbers).below d l

  there : (d : ℕ) → d < n → image t (image back d) ≡ d
  there d l = sym (up_to-at (image t) n (image back d) 0 (back_low d l)) ∙ image-back renumbers d l

  facing : (a b : ℕ) → a < n → b < n → (a ≡ b → ⊥) → agree (entry q a b) (entry p (image back a) (image back b)) ≡ true
  facing a b la lb d =
      sym (λ i. agree (entry q (there a la i) (there b lb i)) (entry p (image back a) (image back b)))
      ∙ agree-turned (entry q (image t (image back a)) (image t (image back b))) (entry p (image back a) (image back b))
      ∙ w.cells (image back a) (image back b) (back_low a la) (back_low b lb) (λ e. d (sym (there a la) ∙ ap (image t) e ∙ there b lb))

  -- a way from one matrix to another has a way back, which goes where atoms may go back
  pub way_back : (ok okt : List ℕ) → Goes ok n t → ((a d : ℕ) → a < n → d < n → entry okt d a ≡ entry ok a d) → (u : List ℕ) × Way q p n u × Goes okt n u
  way_back ok okt g turned = (
    back,
    record { below = back_low; one = (inverse-renumbers renumbers).one; cells = facing },
    λ d l. turned (image back d) d (back_low d l) l ∙ ap (entry ok (image back d)) (sym (there d l)) ∙ g (image back d) (back_low d l),
  )
