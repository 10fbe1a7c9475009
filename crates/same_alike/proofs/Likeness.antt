-- Where an atom's image cannot come next, neither can the atom. Assumes nothing.
use mathlib.Core.Path.{◌≡◌, refl, sym, ap, ◌∙◌, subst}
use mathlib.Core.Bool.{Bool, true, false, ◌&&◌, not}
use mathlib.Core.List.{List, [], ◌∷◌, ◌++◌, map}
use Prim.Native.Nat.{ℕ, zero, suc, ◌+◌, ◌-◌, ◌<◌, ◌≤◌}
use native.Mathlib.Omega.{arith}
use lib.Dec.{eqb}
use lib.ListN.{length, get_or, take, length-append}
use lib.Seq.{get_or-take, length-take-le}
use borrow.Author.Tests.{eqb-true, eqb-false, eq-eqb, ne_eqb}
use Rattle.loops.specs.Loop.{pick, each}
use Rattle.loops.proofs.Loops.{and_left, and_right, each_at, each_all}
use Rattle.matching.specs.Enumeration.{Row, passing}
use Rattle.matching.specs.Model.{some?, head_or}
use Rattle.matching.proofs.Graph.{and_intro, never}
use Rattle.same_model.specs.Same.{image, words}
use Rattle.same_model.proofs.Lists.{All, none, more, all_append, all-at, at_all, all_map, all_head, all-passing, in-passing, in_some}
use Rattle.same_model.proofs.Words.{words-all, word_in}
use Rattle.same_place.specs.Place.{entry, beside, placeable, good_from, Prefix}
use Rattle.same_keys.specs.Keys.{at}
use Rattle.same_finer.specs.Finer.{ways_by}
use Rattle.same_alike.specs.Alike.{Like}

no : {A : Type 0} → ◌≡◌ {A = Bool} true false → A
no h = absurd (never true refl h)

length-map : (f : ℕ → ℕ) (l : List ℕ) → length (map f l) ≡ length l
length-map f [] = refl
length-map f (x ∷ l) = ap suc (length-map f l)

map_at : (f : ℕ → ℕ) (l : List ℕ) (b : ℕ) → b < length l → get_or (map f l) b 0 ≡ f (get_or l b 0)
map_at f [] b h = absurd (omega arith)
map_at f (x ∷ l) zero h = refl
map_at f (x ∷ l) (suc b) h = map_at f l b (omega arith)

map-append : (f : ℕ → ℕ) (l m : List ℕ) → map f (l ++ m) ≡ map f l ++ map f m
map-append f [] m = refl
map-append f (x ∷ l) m = ap (λ (r : List ℕ). f x ∷ r) (map-append f l m)

map_same : (f : ℕ → ℕ) (l : List ℕ) → ((b : ℕ) → b < length l → f (get_or l b 0) ≡ get_or l b 0) → map f l ≡ l
map_same f [] h = refl
map_same f (x ∷ l) h = λ i. h 0 (omega arith) i ∷ map_same f l (λ b j. h (suc b) (omega arith)) i

module _ (o1 o2 ok : List ℕ) (n : ℕ) (tau ren : List ℕ) (from : ℕ) (v : Like o2 ok n tau ren from) where
  columns : (a b : ℕ) → a < n → b < n → entry ok a (at tau b) ≡ entry ok a b
  columns a b l h =
      eqb-true (entry ok a (at tau b)) (entry ok a b)
      (and_left (eqb (entry ok a (at tau b)) (entry ok a b)) (pick (eqb a b) true (not (eqb (at tau a) (at tau b)) && eqb (entry o2 (at tau a) (at tau b)) (entry o2 a b))) (v.pairs a b l h))

  both : (a b : ℕ) → a < n → b < n → (a ≡ b → ⊥) → (not (eqb (at tau a) (at tau b)) && eqb (entry o2 (at tau a) (at tau b)) (entry o2 a b)) ≡ true
  both a b l h q =
      sym (ap (λ (z : Bool). pick z true (not (eqb (at tau a) (at tau b)) && eqb (entry o2 (at tau a) (at tau b)) (entry o2 a b))) (ne_eqb a b q))
      ∙ and_right (eqb (entry ok a (at tau b)) (entry ok a b)) (pick (eqb a b) true (not (eqb (at tau a) (at tau b)) && eqb (entry o2 (at tau a) (at tau b)) (entry o2 a b))) (v.pairs a b l h)

  orders : (a b : ℕ) → a < n → b < n → (a ≡ b → ⊥) → entry o2 (at tau a) (at tau b) ≡ entry o2 a b
  orders a b l h q = eqb-true (entry o2 (at tau a) (at tau b)) (entry o2 a b) (and_right (not (eqb (at tau a) (at tau b))) (eqb (entry o2 (at tau a) (at tau b)) (entry o2 a b)) (both a b l h q))

  apart : (a b : ℕ) → a < n → b < n → (a ≡ b → ⊥) → at tau b ≡ at tau a → ⊥
  apart a b l h q e = never (eqb (at tau a) (at tau b)) (eq-eqb (at tau a) (at tau b) (sym e)) (go (eqb (at tau a) (at tau b)) (and_left (not (eqb (at tau a) (at tau b))) (eqb (entry o2 (at tau a) (at tau b)) (entry o2 a b)) (both a b l h q)))
    where
      go : (z : Bool) → not z ≡ true → z ≡ false
      go true k = no (sym k)
      go false k = refl

  -- one atom
  placed : (p : List ℕ) (d : ℕ) → All (λ x. x < n) p → d < n → length p < n → placeable o1 o2 ok p (length p) d ≡ true → placeable o1 o2 ok (map (at tau) p) (length (map (at tau) p)) (at tau d) ≡ true
  unfolding placeable
  placed p d low l few h =
      subst (λ (a : ℕ). (eqb (entry ok a (at tau d)) 1 && each (beside o1 o2 (map (at tau) p) a (at tau d)) 0 a) ≡ true) (sym (length-map (at tau) p))
      (and_intro (eqb (entry ok (length p) (at tau d)) 1) (each (beside o1 o2 (map (at tau) p) (length p) (at tau d)) 0 (length p))
      (ap (λ (z : ℕ). eqb z 1) (columns (length p) d few l) ∙ and_left (eqb (entry ok (length p) d) 1) (each (beside o1 o2 p (length p) d) 0 (length p)) h)
      (each_all (beside o1 o2 (map (at tau) p) (length p) (at tau d)) (length p)
      (λ b i. one b i (each_at (beside o1 o2 p (length p) d) (length p) b (and_right (eqb (entry ok (length p) d) 1) (each (beside o1 o2 p (length p) d) 0 (length p)) h) i))))
    where
      go : (z : Bool) → not z ≡ true → z ≡ false
      go true k = no (sym k)
      go false k = refl

      one : (b : ℕ) → b < length p → beside o1 o2 p (length p) d b ≡ true → beside o1 o2 (map (at tau) p) (length p) (at tau d) b ≡ true
      one b i k =
          let x = image p b in
          let j : x < n = all-at 0 low b i in
          let q : x ≡ d → ⊥ = eqb-false x d (go (eqb x d) (and_left (not (eqb x d)) (eqb (entry o1 (length p) b) (entry o2 d x)) k)) in
          subst (λ (u : ℕ). (not (eqb u (at tau d)) && eqb (entry o1 (length p) b) (entry o2 (at tau d) u)) ≡ true) (sym (map_at (at tau) p b i))
          (and_intro (not (eqb (at tau x) (at tau d))) (eqb (entry o1 (length p) b) (entry o2 (at tau d) (at tau x)))
          (ap not (ne_eqb (at tau x) (at tau d) (λ e. apart d x l j (λ u. q (sym u)) e)))
          (ap (λ (z : ℕ). eqb (entry o1 (length p) b) z) (orders d x l j (λ u. q (sym u))) ∙ and_right (not (eqb x d)) (eqb (entry o1 (length p) b) (entry o2 d x)) k))

  -- one after the other
  carried : (p s : List ℕ) → All (λ x. x < n) p → All (λ x. x < n) s → length p + length s ≤ n → good_from o1 o2 ok p s ≡ true → good_from o1 o2 ok (map (at tau) p) (map (at tau) s) ≡ true
  unfolding good_from
  carried p [] low below few h = refl
  carried p (d ∷ s) low (more l below) few h =
      and_intro (placeable o1 o2 ok (map (at tau) p) (length (map (at tau) p)) (at tau d)) (good_from o1 o2 ok (map (at tau) p ++ (at tau d ∷ [])) (map (at tau) s))
      (placed p d low l (omega arith) (and_left (placeable o1 o2 ok p (length p) d) (good_from o1 o2 ok (p ++ (d ∷ [])) s) h))
      (subst (λ (u : List ℕ). good_from o1 o2 ok u (map (at tau) s) ≡ true) (map-append (at tau) p (d ∷ []))
      (carried (p ++ (d ∷ [])) s (all_append low (more l none)) below (let e = length-append p (d ∷ []) in omega arith) (and_right (placeable o1 o2 ok p (length p) d) (good_from o1 o2 ok (p ++ (d ∷ [])) s) h)))

  module _ (q : Prefix n ren from) (room : from < n) where
    p : List ℕ
    p = take from ren

    size : length (take from ren) ≡ from
    size = length-take-le from ren (omega (arith, q.upto, q.room))

    low : All (λ d. d < n) (take from ren)
    low = at_all (λ (d : ℕ). d < n) 0 (take from ren) (λ i h. let j : i < from = omega (arith, size) in rw (get_or-take from ren i 0 j) (q.below i j))

    still : map (at tau) (take from ren) ≡ take from ren
    still = map_same (at tau) (take from ren) (λ b h. let j : b < from = omega (arith, size) in ap (at tau) (get_or-take from ren b 0 j) ∙ v.fixed b j ∙ sym (get_or-take from ren b 0 j))

    -- a way on with y gives one with its image
    pub hopeless-back : (y : ℕ) → y < n → ways_by o1 o2 ok n (take from ren) (n - (from + 1)) (at tau y) ≡ [] → ways_by o1 o2 ok n (take from ren) (n - (from + 1)) y ≡ []
    unfolding ways_by
    hopeless-back y l e = go (passing (λ s. good_from o1 o2 ok (take from ren) (y ∷ s)) (words n (n - (from + 1)))) refl
      where
        go : (g : List Row) → passing (λ s. good_from o1 o2 ok (take from ren) (y ∷ s)) (words n (n - (from + 1))) ≡ g → g ≡ []
        go [] u = refl
        go (s ∷ g) u =
            let h = all_head [] (all-passing (λ s. good_from o1 o2 ok (take from ren) (y ∷ s)) (words-all n (n - (from + 1)))) (ap some? u) in
            let t = head_or [] (passing (λ s. good_from o1 o2 ok (take from ren) (y ∷ s)) (words n (n - (from + 1)))) in
            let z : length t ≡ n - (from + 1) = h.0.size in
            let c = carried (take from ren) (y ∷ t) low (more l h.0.below) (omega (arith, size)) h.1 in
            let c' : good_from o1 o2 ok (take from ren) (at tau y ∷ map (at tau) t) ≡ true = subst (λ (r : List ℕ). good_from o1 o2 ok r (at tau y ∷ map (at tau) t) ≡ true) still c in
            let w = word_in n (n - (from + 1)) (map (at tau) t) (length-map (at tau) t ∙ z) (all_map (at tau) h.0.below v.below) in
            let i = in_some (in-passing (λ s. good_from o1 o2 ok (take from ren) (at tau y ∷ s)) w c') in
            no (sym i ∙ ap some? e)
