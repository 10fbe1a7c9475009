-- The renumberings that fit are those that the search over the matrices goes through. Assumes nothing.
use mathlib.Core.Path.{◌≡◌, refl, sym, ap, ◌∙◌}
use mathlib.Core.Bool.{Bool, true, false, ◌&&◌, ◌||◌, not}
use mathlib.Core.List.{List, [], ◌∷◌, ◌++◌}
use Prim.Native.Nat.{ℕ, suc, ◌+◌, ◌*◌, ◌<◌, ◌≤◌}
use native.Mathlib.Omega.{arith}
use lib.Dec.{eqb, ltb}
use lib.ListN.{length, get_or, length-append, get_or-append}
use lib.Seq.{get_or-append_seam}
use borrow.Author.Tests.{eqb-true, eq-eqb, ne_eqb, eqb-false, ltb-true, ltb-false}
use Rattle.loops.specs.Loop.{pick, each}
use Rattle.loops.proofs.Loops.{and_left, and_right, each_at, each_all, each_same}
use Rattle.table.specs.Valid.{Valid}
use Rattle.table.specs.Cells.{end1, end2, kind}
use Rattle.table.proofs.Valid.{Enough, bond-row}
use Rattle.kinds.specs.Kind.{order}
use Rattle.matching.specs.Enumeration.{Row, cons_if, passing}
use Rattle.matching.proofs.Graph.{and_intro, same_bool, never}
use Rattle.table_graph.specs.Graph.{flag}
use Rattle.kekule.proofs.Kekulized.{kekulized-valid}
use Rattle.same_model.specs.Same.{max_same, Molecule, settled, same_cells, joins, order_between, image, words, apart, fits, fitting}
use Rattle.same_model.specs.Redrawing.{Renumbering}
use Rattle.same_model.proofs.Lists.{All, none, more, all-at}
use Rattle.same_model.proofs.Words.{Word, words-all, apart-one, one_apart, word-renumbers}
use Rattle.same_model.proofs.Cells.{alike, cells-alike, alike-sym, alike-trans, alike-settled}
use Rattle.same_model.proofs.Sameness.{Carried, carried-facts, facts-carried}
use Rattle.same_model.proofs.Totals.{total-same, total-none}
use Rattle.same_model.proofs.Orders.{between, order-total}
use Rattle.same_model.proofs.Single.{orders-low}
use Rattle.same_place.specs.Place.{entry, beside, placeable, good_from, goods}
use Rattle.same_drawing.specs.Drawing.{Orders, Matches}

-- one test after the other is both at once
pub passing-both : (p q : Row → Bool) (l : List Row) → passing p (passing q l) ≡ passing (λ t. q t && p t) l
unfolding passing
passing-both p q [] = refl
passing-both p q (r ∷ l) = go (q r) (passing-both p q l)
  where
    go : (z : Bool) → passing p (passing q l) ≡ passing (λ t. q t && p t) l → passing p (cons_if z r (passing q l)) ≡ cons_if (z && p r) r (passing (λ t. q t && p t) l)
    go true e = ap (cons_if (p r) r) e
    go false e = e

-- tests that agree on what stands in the list
pub passing-agree : {P : Row → Type 0} (p q : Row → Bool) {l : List Row} → ((t : Row) → P t → p t ≡ q t) → All P l → passing p l ≡ passing q l
unfolding passing
passing-agree p q h none = refl
passing-agree p q h (more {b = t} {l = l} w a) = ap (λ (z : Bool). cons_if z t (passing p l)) (h t w) ∙ ap (cons_if (q t) t) (passing-agree p q h a)

-- atom by atom is by index
module _ (o1 o2 ok : List ℕ) where
  abbrev placed : List ℕ → ℕ → Bool
  placed t a = placeable o1 o2 ok t a (image t a)

  prefix-only : (p s : List ℕ) (d : ℕ) → placeable o1 o2 ok p (length p) d ≡ placeable o1 o2 ok (p ++ s) (length p) d
  unfolding placeable
  prefix-only p s d =
      ap (λ (z : Bool). eqb (entry ok (length p) d) 1 && z)
      (each_same (beside o1 o2 p (length p) d) (beside o1 o2 (p ++ s) (length p) d) (length p) (λ b l. ap (λ (i : ℕ). not (eqb i d) && eqb (entry o1 (length p) b) (entry o2 d i)) (sym (get_or-append p s 0 b l))))

  pub good-index : (p s : List ℕ) → good_from o1 o2 ok p s ≡ each (placed (p ++ s)) (length p) (length s)
  unfolding good_from each
  good-index p [] = refl
  good-index p (d ∷ s) =
      let i : image (p ++ (d ∷ s)) (length p) ≡ d = get_or-append_seam p d s 0 in
      let n : length (p ++ (d ∷ [])) ≡ suc (length p) = length-append p (d ∷ []) ∙ omega arith in
      let ih = good-index (p ++ (d ∷ [])) s in
      ap (λ (z : Bool). z && good_from o1 o2 ok (p ++ (d ∷ [])) s) (prefix-only p (d ∷ s) d ∙ ap (placeable o1 o2 ok (p ++ (d ∷ s)) (length p)) (sym i))
      ∙ ap (λ (z : Bool). placed (p ++ (d ∷ s)) (length p) && z)
      (ih ∙ ap (λ (t : List ℕ). each (placed t) (length (p ++ (d ∷ []))) (length s)) (snoc p d s) ∙ ap (λ (k : ℕ). each (placed (p ++ (d ∷ s))) k (length s)) n)
    where
      snoc : (p : List ℕ) (d : ℕ) (s : List ℕ) → (p ++ (d ∷ [])) ++ s ≡ p ++ (d ∷ s)
      snoc [] d s = refl
      snoc (c ∷ p) d s = ap (λ (r : List ℕ). c ∷ r) (snoc p d s)

-- orders are the same both ways, and there is none between an atom and itself
or_swap : (a b : Bool) → (a || b) ≡ (b || a)
or_swap true true = refl
or_swap true false = refl
or_swap false true = refl
or_swap false false = refl

pub orders-swap : (x : Molecule) (a b : ℕ) → order_between x a b ≡ order_between x b a
unfolding joins
orders-swap x a b =
    order-total x a b
    ∙ total-same (between x a b) (between x b a) x.m (λ k l. ap (λ (z : Bool). pick z (order (kind x.bonds k)) 0) (or_swap (eqb (end1 x.bonds k) a && eqb (end2 x.bonds k) b) (eqb (end1 x.bonds k) b && eqb (end2 x.bonds k) a)))
    ∙ sym (order-total x b a)

pub orders-self : (x : Molecule) → Valid x.atoms x.bonds x.n x.m → (a : ℕ) → order_between x a a ≡ 0
unfolding joins
orders-self x v a =
    order-total x a a
    ∙ total-none (between x a a) x.m (λ k l. let f = bond-row v k l in ap (λ (z : Bool). pick z (order (kind x.bonds k)) 0) (go (eqb (end1 x.bonds k) a) (eqb (end2 x.bonds k) a) refl refl f.order))
  where
    go : {e f : ℕ} (y z : Bool) → eqb e a ≡ y → eqb f a ≡ z → e < f → ((y && z) || (y && z)) ≡ false
    go {e} {f} true true p q l = let u = eqb-true e a p in let w = eqb-true f a q in absurd (omega arith)
    go true false p q l = refl
    go false z p q l = refl

flag_one : (z : Bool) → flag z ≡ 1 → z ≡ true
flag_one true e = refl
flag_one false e = absurd (omega arith)

not_back : (z : Bool) → not z ≡ true → z ≡ false
not_back true h = absurd (never false h refl)
not_back false h = refl

-- the keys of atoms and of pairs are kept by a renumbering
pub record Finer (n : ℕ) (keys1 keys2 : List ℕ) (q1 q2 : ℕ → ℕ → ℕ) (t : List ℕ) : Type 0 where
  pub keys : (a : ℕ) → a < n → get_or keys1 a 0 ≡ get_or keys2 (image t a) 0
  pub pairs : (a b : ℕ) → a < n → b < n → q1 a b ≡ q2 (image t a) (image t b)

module _ (x y : Molecule) (r s : Row) (v1 : Valid x.atoms x.bonds x.n x.m) (e1 : Enough x.atoms x.bonds) (v2 : Valid y.atoms y.bonds y.n y.m) (e2 : Enough y.atoms y.bonds)
    (few : x.n ≤ max_same) (counts : x.n ≡ y.n) {o1 o2 ok keys1 keys2 : List ℕ} {q1 q2 : ℕ → ℕ → ℕ} (w1 : Orders (settled x r) q1 o1) (w2 : Orders (settled y s) q2 o2) (m : Matches x y keys1 keys2 ok)
    (finer : (t : List ℕ) → Renumbering x.n t → fits x y r s t ≡ true → Finer x.n keys1 keys2 q1 q2 t) where
  -- one renumbering: the test of the search says what P4 says
  module _ (t : List ℕ) (w : Word x.n x.n t) where
    size : length t ≡ x.n
    size = w.size

    low : (a : ℕ) → a < x.n → image t a < x.n
    low a l = all-at 0 w.below a (omega arith)

    cells-settled : (a : ℕ) → same_cells (settled x r) (settled y s) a (image t a) ≡ same_cells x y a (image t a)
    cells-settled a =
        same_bool (same_cells (settled x r) (settled y s) a (image t a)) (same_cells x y a (image t a))
        (λ h. cells-alike x y a (image t a) (alike-trans (alike-settled x r a) (alike-trans (alike (settled x r) (settled y s) a (image t a) h) (alike-sym (alike-settled y s (image t a))))))
        (λ h. cells-alike (settled x r) (settled y s) a (image t a) (alike-trans (alike-sym (alike-settled x r a)) (alike-trans (alike x y a (image t a) h) (alike-settled y s (image t a)))))

    entry1 : (a b : ℕ) → a < x.n → b < x.n → entry o1 a b ≡ 4 * q1 a b + order_between (settled x r) a b
    entry1 a b la lb = w1.at a b la lb

    entry2 : (a b : ℕ) → a < x.n → b < x.n → entry o2 (image t a) (image t b) ≡ 4 * q2 (image t a) (image t b) + order_between (settled y s) (image t a) (image t b)
    entry2 a b la lb = let i = low a la in let j = low b lb in w2.at (image t a) (image t b) (omega arith) (omega arith)

    -- what P4 asks, the search finds
    there : (apart t && fits x y r s t) ≡ true → good_from o1 o2 ok [] t ≡ true
    unfolding placeable
    there h =
        good-index o1 o2 ok [] t
        ∙ each_all (λ a. placeable o1 o2 ok t a (image t a)) (length t)
        (λ a l.
        let la : a < x.n = omega arith in
        let k = m.at a (image t a) la (let i = low a la in omega arith) in
        and_intro (eqb (entry ok a (image t a)) 1) (each (beside o1 o2 t a (image t a)) 0 a)
        (eq-eqb (entry ok a (image t a)) 1
        (k ∙ ap flag (and_intro (eqb (get_or keys1 a 0) (get_or keys2 (image t a) 0)) (same_cells x y a (image t a)) (eq-eqb (get_or keys1 a 0) (get_or keys2 (image t a) 0) (f.keys a la)) (sym (cells-settled a) ∙ c.cells a la))))
        (each_all (beside o1 o2 t a (image t a)) a
        (λ b i.
        let lb : b < x.n = omega arith in
        and_intro (not (eqb (image t b) (image t a))) (eqb (entry o1 a b) (entry o2 (image t a) (image t b)))
        (ap not (ne_eqb (image t b) (image t a) (λ q. let z : b ≡ a = apart-one t (and_left (apart t) (fits x y r s t) h) b a (omega arith) l q in omega arith)))
        (eq-eqb (entry o1 a b) (entry o2 (image t a) (image t b)) (entry1 a b la lb ∙ (λ i. 4 * f.pairs a b la lb i + c.orders a b la lb i) ∙ sym (entry2 a b la lb))))))
      where
        f : Finer x.n keys1 keys2 q1 q2 t
        f = finer t (word-renumbers w (and_left (apart t) (fits x y r s t) h)) (and_right (apart t) (fits x y r s t) h)

        c : Carried (settled x r) (settled y s) t
        c = carried-facts (settled x r) (settled y s) t (and_right (apart t) (fits x y r s t) h)

    -- what the search finds, P4 asks
    module _ (h : good_from o1 o2 ok [] t ≡ true) where
      each_placed : (a : ℕ) → a < x.n → placeable o1 o2 ok t a (image t a) ≡ true
      each_placed a l = each_at (λ a. placeable o1 o2 ok t a (image t a)) (length t) a (sym (good-index o1 o2 ok [] t) ∙ h) (omega arith)

      matched : (a : ℕ) → a < x.n → same_cells x y a (image t a) ≡ true
      unfolding placeable
      matched a l =
          let k = m.at a (image t a) l (let i = low a l in omega arith) in
          and_right (eqb (get_or keys1 a 0) (get_or keys2 (image t a) 0)) (same_cells x y a (image t a)) (flag_one (eqb (get_or keys1 a 0) (get_or keys2 (image t a) 0) && same_cells x y a (image t a)) (sym k ∙ eqb-true (entry ok a (image t a)) 1 (and_left (eqb (entry ok a (image t a)) 1) (each (beside o1 o2 t a (image t a)) 0 a) (each_placed a l))))

      beside_at : (a b : ℕ) → a < x.n → b < a → beside o1 o2 t a (image t a) b ≡ true
      unfolding placeable
      beside_at a b l i = each_at (beside o1 o2 t a (image t a)) a b (and_right (eqb (entry ok a (image t a)) 1) (each (beside o1 o2 t a (image t a)) 0 a) (each_placed a l)) i

      differ : (a b : ℕ) → a < x.n → b < a → image t b ≡ image t a → ⊥
      differ a b l i = eqb-false (image t b) (image t a) (not_back (eqb (image t b) (image t a)) (and_left (not (eqb (image t b) (image t a))) (eqb (entry o1 a b) (entry o2 (image t a) (image t b))) (beside_at a b l i)))

      below : (a b : ℕ) → a < x.n → b < a → order_between (settled x r) a b ≡ order_between (settled y s) (image t a) (image t b)
      below a b l i =
          let lb : b < x.n = omega arith in
          let u = orders-low (settled x r) (kekulized-valid v1 e1 r) a b in
          let z = orders-low (settled y s) (kekulized-valid v2 e2 s) (image t a) (image t b) in
          let q = sym (entry1 a b l lb) ∙ eqb-true (entry o1 a b) (entry o2 (image t a) (image t b)) (and_right (not (eqb (image t b) (image t a))) (eqb (entry o1 a b) (entry o2 (image t a) (image t b))) (beside_at a b l i)) ∙ entry2 a b l lb in
          omega arith

      orders : (a b : ℕ) → a < x.n → b < x.n → order_between (settled x r) a b ≡ order_between (settled y s) (image t a) (image t b)
      orders a b la lb = go (ltb b a) (ltb a b) refl refl
        where
          go : (p q : Bool) → ltb b a ≡ p → ltb a b ≡ q → order_between (settled x r) a b ≡ order_between (settled y s) (image t a) (image t b)
          go true q i j = below a b la (ltb-true b a i)
          go false true i j = orders-swap (settled x r) a b ∙ below b a lb (ltb-true a b j) ∙ orders-swap (settled y s) (image t b) (image t a)
          go false false i j =
              let u = ltb-false b a i in
              let z = ltb-false a b j in
              let k : a ≡ b = omega arith in
              rw k (orders-self (settled x r) (kekulized-valid v1 e1 r) b ∙ sym (orders-self (settled y s) (kekulized-valid v2 e2 s) (image t b)))

      one : (a b : ℕ) → a < length t → b < length t → get_or t a 0 ≡ get_or t b 0 → a ≡ b
      one a b la lb q = go (ltb b a) (ltb a b) refl refl
        where
          go : (p u : Bool) → ltb b a ≡ p → ltb a b ≡ u → a ≡ b
          go true u i j = absurd (differ a b (omega arith) (ltb-true b a i) (sym q))
          go false true i j = absurd (differ b a (omega arith) (ltb-true a b j) q)
          go false false i j = let k = ltb-false b a i in let z = ltb-false a b j in omega arith

      back : (apart t && fits x y r s t) ≡ true
      back =
          and_intro (apart t) (fits x y r s t) (one_apart t one)
          (facts-carried (settled x r) (settled y s) t (record { cells = λ a l. cells-settled a ∙ matched a l; orders = orders }))

    agree : (apart t && fits x y r s t) ≡ good_from o1 o2 ok [] t
    agree = same_bool (apart t && fits x y r s t) (good_from o1 o2 ok [] t) there back

  pub fitting-goods : fitting x y r s ≡ goods o1 o2 ok x.n [] x.n
  unfolding fitting goods
  fitting-goods = passing-both (fits x y r s) apart (words x.n x.n) ∙ passing-agree (λ t. apart t && fits x y r s t) (good_from o1 o2 ok []) agree (words-all x.n x.n)
