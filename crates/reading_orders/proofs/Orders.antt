-- The order of the text lists the same neighbours as the stored one, by ascending ranks. Assumes nothing.
use Prim.Native.Nat.{ℕ, zero, suc, ◌+◌, ◌≤◌, ◌<◌}
use native.Mathlib.Omega.{arith}
use mathlib.Core.Path.{◌≡◌, refl, sym, ap, subst, ◌∙◌}
use mathlib.Core.Bool.{Bool, true, false, ◌&&◌, ◌||◌, not, true≢false}
use mathlib.Core.List.{List, [], ◌∷◌, ◌++◌, map}
use lib.IntN.{ℤ}
use lib.Dec.{eqb, leb}
use borrow.Author.Tests.{eqb-true, eqb-false, ne_eqb, leb-true, leb-false, not-true}
use Rattle.loops.specs.Loop.{pick}
use Rattle.loops.proofs.Loops.{and_left, and_right}
use Rattle.parity.specs.Parity.{absent, unlike, Swaps, odd_number, Perm, nil, cons, swap, trans}
use Rattle.parity.proofs.Items.{perm_same, perm-map, unlike-perm}
use Rattle.ids.specs.Limits.{max_text}
use Rattle.table.specs.Cells.{hydrogens, end1, end2, touches}
use Rattle.table.specs.Orders.{bonds_from, bonds_at, ranks_at, turns, at_end}
use Rattle.table.proofs.Orders.{turns-swaps}
use Rattle.reading.proofs.Cases.{by-test}
use Rattle.reading.specs.Read.{text_rank}
use Rattle.reading_orders.specs.Neighbours.{along, hydrogen, stored_order, those, insert, sorted, preceding, bridges_here, children, text_order}
use Rattle.reading_orders.proofs.Swaps.{swaps-map}
use Rattle.reading_orders.proofs.Rising.{Climbs, Under, AtLeast, climbs-lower, climbs-on, climbs-ascending, ascending-unlike, perm-both, perm-past, perm-around, map_both}
use Rattle.reading_orders.proofs.Told.{Told}

-- ---- sorted by f
module _ (f : ℕ → ℕ) where
  insert-perm : (b : ℕ) (l : List ℕ) → Perm (b ∷ l) (insert f b l)
  unfolding insert
  insert-perm b [] = perm_same (b ∷ [])
  insert-perm b (c ∷ l) = by-test (Perm (b ∷ c ∷ l)) (leb (f b) (f c)) _ _ (λ e. perm_same (b ∷ c ∷ l)) (λ e. trans (swap (perm_same l)) (cons (insert-perm b l)))

  pub sorted-perm : (l : List ℕ) → Perm l (sorted f l)
  unfolding sorted
  sorted-perm [] = nil
  sorted-perm (b ∷ l) = trans (cons (sorted-perm l)) (insert-perm b (sorted f l))

  insert-climbs : {low : ℕ} (b : ℕ) (l : List ℕ) → Climbs f low l → low ≤ f b → absent (f b) (map f l) ≡ true → Climbs f low (insert f b l)
  unfolding insert absent
  insert-climbs b [] c h n = (h, tt)
  insert-climbs {low = low} b (x ∷ l) c h n =
      let differ = eqb-false (f b) (f x) (not-true (eqb (f b) (f x)) (and_left (not (eqb (f b) (f x))) (absent (f b) (map f l)) n)) in
      by-test (Climbs f low) (leb (f b) (f x)) _ _
      (λ e. (h, (let g = leb-true (f b) (f x) e in omega (arith, differ), c.1)))
      (λ e. (c.0, insert-climbs {low = suc (f x)} b l c.1 (let g = leb-false (f b) (f x) e in omega arith) (and_right (not (eqb (f b) (f x))) (absent (f b) (map f l)) n)))

  -- where no two have the same
  pub sorted-climbs : (low : ℕ) (l : List ℕ) → AtLeast f low l → unlike (map f l) ≡ true → Climbs f low (sorted f l)
  unfolding sorted unlike
  sorted-climbs low [] h u = tt
  sorted-climbs low (b ∷ l) h u =
      insert-climbs b (sorted f l) (sorted-climbs low l h.1 (and_right (absent (f b) (map f l)) (unlike (map f l)) u)) h.0
      (and_left (absent (f b) (map f (sorted f l))) (unlike (map f (sorted f l))) (sym (unlike-perm (perm-map f (cons {x = b} (sorted-perm l)))) ∙ u))

-- ---- the rank of a neighbour, the hydrogen's being 1
abbrev place : (ℕ → ℕ) → ℕ → ℕ
place rank zero = 1
place rank (suc b) = rank b

module _ (rank : ℕ → ℕ) where
  along-climbs : (low : ℕ) (l : List ℕ) → Climbs rank low l → Climbs (place rank) low (along l)
  along-climbs low [] c = tt
  along-climbs low (b ∷ l) c = (c.0, along-climbs (suc (rank b)) l c.1)

  along_under : (high : ℕ) (l : List ℕ) → Under rank high l → Under (place rank) high (along l)
  along_under high [] u = tt
  along_under high (b ∷ l) u = (u.0, along_under high l u.1)

  along-ranks : (l : List ℕ) → map (place rank) (along l) ≡ map rank l
  along-ranks [] = refl
  along-ranks (b ∷ l) = ap (λ (r : List ℕ). rank b ∷ r) (along-ranks l)

  hydrogen-climbs : (t : Bool) → Climbs (place rank) 1 (pick t (0 ∷ []) [])
  hydrogen-climbs true = (omega arith, tt)
  hydrogen-climbs false = tt

  hydrogen-under : (t : Bool) → Under (place rank) 2 (pick t (0 ∷ []) [])
  hydrogen-under true = (omega arith, tt)
  hydrogen-under false = tt

  stored-ranks : (atoms bonds : List ℤ) (m a : ℕ) → map (place rank) (stored_order atoms bonds m a) ≡ ranks_at rank atoms bonds m a
  unfolding stored_order
  stored-ranks atoms bonds m a = go (eqb (hydrogens atoms a) 1)
    where
      go : (t : Bool) → map (place rank) (pick t (0 ∷ []) [] ++ along (bonds_at bonds m a)) ≡ pick t (1 ∷ []) [] ++ map rank (bonds_at bonds m a)
      go true = ap (λ (r : List ℕ). 1 ∷ r) (along-ranks (bonds_at bonds m a))
      go false = along-ranks (bonds_at bonds m a)

-- ---- the neighbours of an atom
module _ {keys : List ℕ} {bonds : List ℤ} {m : ℕ} (w : Told keys bonds m) (a : ℕ) where
  abbrev key : ℕ → ℕ
  key b = at_end keys bonds a b

  abbrev rank : ℕ → ℕ
  rank b = text_rank keys bonds a b

  abbrev is_preceding : ℕ → Bool
  is_preceding b = eqb (key b) 0 && eqb (end2 bonds b) a

  abbrev is_bridge : ℕ → Bool
  is_bridge b = not (eqb (key b) 0)

  abbrev is_child : ℕ → Bool
  is_child b = eqb (key b) 0 && eqb (end1 bonds b) a

  -- bonds at the atom, by ascending number
  abbrev Found : ℕ → List ℕ → Type 0
  Found low [] = Unit {0}
  Found low (b ∷ l) = (low ≤ b) × (b < m) × (touches bonds a b ≡ true) × Found (suc b) l

  found-lower : {low mid : ℕ} (l : List ℕ) → low ≤ mid → Found mid l → Found low l
  found-lower [] h f = tt
  found-lower (b ∷ l) h f = (omega (arith, f.0), f.1, f.2, f.3)

  from_found : (b k : ℕ) → b + k ≤ m → Found b (bonds_from bonds a b k)
  unfolding bonds_from
  from_found b zero h = tt
  from_found b (suc k) h =
      let r = from_found (suc b) k (omega arith) in
      by-test (Found b) (touches bonds a b) _ _ (λ e. (omega arith, omega arith, e, r)) (λ e. found-lower (bonds_from bonds a (suc b) k) (omega arith) r)

  found : Found 0 (bonds_at bonds m a)
  unfolding bonds_at
  found = from_found 0 m (omega arith)

  -- ---- they are the preceding atom's, bridges, and children's
  three : (low : ℕ) (l : List ℕ) → Found low l → Perm l (those is_preceding l ++ (those is_bridge l ++ those is_child l))
  unfolding those touches
  three low [] f = nil
  three low (b ∷ l) f = go (eqb (key b) 0) (eqb (end1 bonds b) a) refl (eqb (end2 bonds b) a) refl f.2 (three (suc b) l f.3)
    where
      P : List ℕ
      P = those is_preceding l

      B : List ℕ
      B = those is_bridge l

      C : List ℕ
      C = those is_child l

      go : (k x : Bool) → eqb (end1 bonds b) a ≡ x → (y : Bool) → eqb (end2 bonds b) a ≡ y → (x || y) ≡ true → Perm l (P ++ (B ++ C))
          → Perm (b ∷ l) (pick (k && y) (b ∷ P) P ++ (pick (not k) (b ∷ B) B ++ pick (k && x) (b ∷ C) C))
      go true true e true g t r = absurd (let p = eqb-true (end1 bonds b) a e in let q = eqb-true (end2 bonds b) a g in omega (arith, w.order b f.1))
      go true true e false g t r = trans (cons r) (trans (perm-past b P (B ++ C)) (perm-both (perm_same P) (perm-past b B C)))
      go true false e true g t r = cons r
      go true false e false g t r = absurd (true≢false (sym t))
      go false x e y g t r = trans (cons r) (perm-past b P (B ++ C))

  -- ---- their ranks
  rank-preceding : (b : ℕ) → is_preceding b ≡ true → rank b ≡ 0
  unfolding text_rank
  rank-preceding b e = rw (and_left (eqb (key b) 0) (eqb (end2 bonds b) a) e, and_right (eqb (key b) 0) (eqb (end2 bonds b) a) e)

  rank-bridge : (b : ℕ) → 0 < key b → rank b ≡ key b + 1
  unfolding text_rank
  rank-bridge b h = rw (ne_eqb (key b) 0 (λ e. omega arith))

  rank-child : (b : ℕ) → b < m → is_child b ≡ true → rank b ≡ max_text + 2 + end2 bonds b
  unfolding text_rank
  rank-child b h e =
      let q = eqb-true (end1 bonds b) a (and_right (eqb (key b) 0) (eqb (end1 bonds b) a) e) in
      rw (and_left (eqb (key b) 0) (eqb (end1 bonds b) a) e, ne_eqb (end2 bonds b) a (λ z. omega (arith, w.order b h)))

  -- there is one preceding atom at most
  none-preceding : (c low : ℕ) (l : List ℕ) → c < low → is_preceding c ≡ true → Found low l → those is_preceding l ≡ []
  unfolding those
  none-preceding c low [] h e f = refl
  none-preceding c low (b ∷ l) h e f =
      by-test (λ (r : List ℕ). r ≡ []) (is_preceding b) _ _
      (λ g.
      let p = eqb-true (end2 bonds c) a (and_right (eqb (key c) 0) (eqb (end2 bonds c) a) e) in
      let q = eqb-true (end2 bonds b) a (and_right (eqb (key b) 0) (eqb (end2 bonds b) a) g) in
      let z = eqb-true (key b) 0 (and_left (eqb (key b) 0) (eqb (end2 bonds b) a) g) in
      absurd (omega (arith, w.later a c b (omega (arith, f.0)) f.1 z)))
      (λ g. none-preceding c (suc b) l (omega (arith, f.0)) e f.3)

  preceding-ranks : (low : ℕ) (l : List ℕ) → Found low l → Climbs rank 0 (those is_preceding l) × Under rank 1 (those is_preceding l)
  unfolding those
  preceding-ranks low [] f = (tt, tt)
  preceding-ranks low (b ∷ l) f =
      by-test (λ (r : List ℕ). Climbs rank 0 r × Under rank 1 r) (is_preceding b) _ _
      (λ e. subst (λ (r : List ℕ). Climbs rank 0 (b ∷ r) × Under rank 1 (b ∷ r)) (sym (none-preceding b (suc b) l (omega arith) e f.3)) ((omega arith, tt), (omega (arith, rank-preceding b e), tt)))
      (λ e. preceding-ranks (suc b) l f.3)

  -- no two digits of bridges stand at the same place
  bridge-absent : (c low : ℕ) (l : List ℕ) → c < low → 0 < key c → Found low l → absent (key c) (map key (those is_bridge l)) ≡ true
  unfolding those absent
  bridge-absent c low [] h p f = refl
  bridge-absent c low (b ∷ l) h p f =
      let r = bridge-absent c (suc b) l (omega (arith, f.0)) p f.3 in
      by-test (λ (r : List ℕ). absent (key c) (map key r) ≡ true) (is_bridge b) _ _
      (λ e. rw (ne_eqb (key c) (key b) (λ q. w.apart a c b (λ z. omega (arith, f.0)) p q)) r)
      (λ e. r)

  some_key : (b : ℕ) → is_bridge b ≡ true → 0 < key b
  some_key b e = let n = eqb-false (key b) 0 (not-true (eqb (key b) 0) e) in omega (arith, n)

  bridge-unlike : (low : ℕ) (l : List ℕ) → Found low l → unlike (map key (those is_bridge l)) ≡ true
  unfolding those unlike
  bridge-unlike low [] f = refl
  bridge-unlike low (b ∷ l) f =
      let r = bridge-unlike (suc b) l f.3 in
      by-test (λ (r : List ℕ). unlike (map key r) ≡ true) (is_bridge b) _ _ (λ e. rw (bridge-absent b (suc b) l (omega arith) (some_key b e) f.3) r) (λ e. r)

  bridge-least : (low : ℕ) (l : List ℕ) → Found low l → AtLeast key 1 (those is_bridge l)
  unfolding those
  bridge-least low [] f = tt
  bridge-least low (b ∷ l) f =
      let r = bridge-least (suc b) l f.3 in
      by-test (AtLeast key 1) (is_bridge b) _ _ (λ e. (some_key b e, r)) (λ e. r)

  bridge-ranks : (low : ℕ) (l : List ℕ) → 1 ≤ low → Climbs key low l → Climbs rank (suc low) l × Under rank (max_text + 2) l
  bridge-ranks low [] h c = (tt, tt)
  bridge-ranks low (b ∷ l) h c =
      let e = rank-bridge b (omega (arith, c.0)) in
      let r = bridge-ranks (suc (key b)) l (omega arith) c.1 in
      ((omega (arith, c.0), climbs-lower rank l (omega arith) r.0), (omega (arith, w.short a b), r.1))

  -- children are in the order of their numbers
  child-ranks : (low least : ℕ) (l : List ℕ) → ((b : ℕ) → low ≤ b → b < m → is_child b ≡ true → least ≤ max_text + 2 + end2 bonds b) → Found low l → Climbs rank least (those is_child l)
  unfolding those
  child-ranks low least [] h f = tt
  child-ranks low least (b ∷ l) h f =
      by-test (Climbs rank least) (is_child b) _ _
      (λ e.
      let q = rank-child b f.1 e in (
        omega (arith, h b f.0 f.1 e),
        child-ranks (suc b) (suc (rank b)) l (λ c u v g. omega (arith, w.later a b c (omega arith) v (eqb-true (key c) 0 (and_left (eqb (key c) 0) (eqb (end1 bonds c) a) g)))) f.3,
      ))
      (λ e. child-ranks (suc b) least l (λ c u v g. h c (omega (arith, f.0)) v g) f.3)

  -- ---- the two orders
  module _ (atoms : List ℤ) where
    text-climbs : Climbs (place rank) 0 (text_order keys atoms bonds m a)
    unfolding text_order preceding bridges_here children
    text-climbs =
        let l = bonds_at bonds m a in
        let P = those is_preceding l in
        let S = sorted key (those is_bridge l) in
        let C = those is_child l in
        let p = preceding-ranks 0 l found in
        let b = bridge-ranks 1 S (omega arith) (sorted-climbs key 1 (those is_bridge l) (bridge-least 0 l found) (bridge-unlike 0 l found)) in
        let c = child-ranks 0 (max_text + 2) l (λ c u v g. omega arith) found in
        climbs-on (place rank) 0 1 (along P) (hydrogen atoms a ++ (along S ++ along C)) (omega arith) (along-climbs rank 0 P p.0) (along_under rank 1 P p.1)
        (climbs-on (place rank) 1 2 (hydrogen atoms a) (along S ++ along C) (omega arith) (hydrogen-climbs rank (eqb (hydrogens atoms a) 1)) (hydrogen-under rank (eqb (hydrogens atoms a) 1))
        (climbs-on (place rank) 2 (max_text + 2) (along S) (along C) (omega arith) (along-climbs rank 2 S b.0) (along_under rank (max_text + 2) S b.1) (along-climbs rank (max_text + 2) C c)))

    -- both list the same neighbours
    pub same-neighbours : Perm (stored_order atoms bonds m a) (text_order keys atoms bonds m a)
    unfolding stored_order text_order preceding bridges_here children
    same-neighbours =
        let l = bonds_at bonds m a in
        let P = those is_preceding l in
        let S = sorted key (those is_bridge l) in
        let C = those is_child l in
        let parts = trans (three 0 l found) (perm-both (perm_same P) (perm-both (sorted-perm key (those is_bridge l)) (perm_same C))) in
        trans
        (perm-both (perm_same (hydrogen atoms a)) (subst (Perm (along l)) (map_both suc P (S ++ C) ∙ ap (λ (r : List ℕ). along P ++ r) (map_both suc S C)) (perm-map suc parts)))
        (perm-around (hydrogen atoms a) (along P) (along S ++ along C))

    -- LAW: what the ranks compute is the parity of every number of swaps from the stored order to the text's
    pub orders-turn : (k : ℕ) → Swaps (stored_order atoms bonds m a) (text_order keys atoms bonds m a) k → turns (text_rank keys bonds a) atoms bonds m a ≡ odd_number k
    orders-turn k s =
        let up = climbs-ascending (place rank) 0 (text_order keys atoms bonds m a) text-climbs in
        let e = stored-ranks rank atoms bonds m a in
        turns-swaps rank atoms bonds m a (subst (λ (p : List ℕ). Swaps p (map (place rank) (text_order keys atoms bonds m a)) k) e (swaps-map (place rank) s))
        (ap unlike (sym e) ∙ unlike-perm (perm-map (place rank) same-neighbours) ∙ ascending-unlike (map (place rank) (text_order keys atoms bonds m a)) up) up
