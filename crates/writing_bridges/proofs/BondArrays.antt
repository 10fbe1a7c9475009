-- Laws of the arrays of unused bonds. Assumes nothing.
use Prim.Native.Nat.{ℕ, suc, ◌+◌, ◌-◌, ◌<◌, ◌≤◌}
use native.Mathlib.Omega.{arith}
use native.Mathlib.Numerals.{add-one}
use mathlib.Core.Path.{◌≡◌, refl, sym, ap, ◌∙◌}
use mathlib.Core.Bool.{Bool, true, false}
use mathlib.Core.List.{List}
use lib.ListN.{length, get_or, set, replicate, length-set}
use lib.Seq.{get_or-set_same, get_or-set_other}
use lib.Dec.{eqb}
use borrow.Author.Tests.{eq-eqb, ne_eqb, eqb-true, eqb-false, lt-ltb, le-ltb}
use Rattle.loops.proofs.Loops.{repeated-at}
use Rattle.kinds.specs.Kind.{turned}
use Rattle.loops.specs.Loop.{pick, up_to}
use Rattle.writing_walk.specs.Token.{Bond, bond}
use Rattle.writing_walk.specs.Emit.{pre}
use Rattle.writing_walk.specs.Walk.{forest_of, place}
use Rattle.writing_walk.proofs.Trip.{renumbering, place-inj}
use Rattle.writing_visit.specs.Visit.{BondsFit}
use Rattle.writing_visit.proofs.Ways.{bonds-inside}
use Rattle.writing_bridges.specs.Unused.{BondArrays, bond_arrays, tree_bond, add_bond, in_walk, Numbered, BondRoom, many, end_mark, Mark, Single, Marked}

-- the bond of a tree is left out; another is added
pub left_out : (up l h k : List ℕ) (p q kd c : ℕ) → 0 < p → 0 < q → get_or up (q - 1) 0 ≡ p → bond_arrays l h k c ≡ add_bond up (bond (p - 1) (q - 1) kd) (bond_arrays l h k c)
unfolding add_bond
left_out up l h k p q kd c a b e =
    let z : suc (p - 1) ≡ p = omega arith in
    sym (rw (z, eq-eqb (get_or up (q - 1) 0) p e))

pub taken_in : (up l h k : List ℕ) (p q kd c : ℕ) → 0 < p → (get_or up (q - 1) 0 ≡ p → ⊥)
    → bond_arrays (set l c (p - 1)) (set h c (q - 1)) (set k c kd) (c + 1) ≡ add_bond up (bond (p - 1) (q - 1) kd) (bond_arrays l h k c)
unfolding add_bond
taken_in up l h k p q kd c a e =
    let z : suc (p - 1) ≡ p = omega arith in
    sym (rw (z, ne_eqb (get_or up (q - 1) 0) p e, add-one c))

-- the ends in walk numbers
module _ {bonds : ℕ → Bond} {n m : ℕ} {v u : List ℕ} (fit : BondsFit bonds n m) (num : Numbered (up_to bonds 0 m) n v u) (b : ℕ) (h : b < m) where
  abbrev at : ℕ → ℕ
  at = place (pre (forest_of n (up_to bonds 0 m)))

  pub first-number : (e : ℕ) → e ≡ (bonds b).lo → get_or v e 0 ≡ suc (at (bonds b).lo)
  first-number e q = let w = fit.ends b h in ap (λ (x : ℕ). get_or v x 0) q ∙ num.number (bonds b).lo (omega arith)

  pub second-number : (f : ℕ) → f ≡ (bonds b).hi → get_or v f 0 ≡ suc (at (bonds b).hi)
  second-number f q = let w = fit.ends b h in ap (λ (x : ℕ). get_or v x 0) q ∙ num.number (bonds b).hi w.1

  pub numbers-below : (at (bonds b).lo < n) × (at (bonds b).hi < n)
  numbers-below = let w = fit.ends b h in (num.below (bonds b).lo (omega arith), num.below (bonds b).hi w.1)

  pub numbers-differ : at (bonds b).lo ≡ at (bonds b).hi → ⊥
  numbers-differ e =
      let r = renumbering n (up_to bonds 0 m) (bonds-inside fit) in
      let w = fit.ends b h in
      let q = place-inj (bonds b).lo (bonds b).hi (pre (forest_of n (up_to bonds 0 m))) (r.every (bonds b).lo (omega arith)) (r.every (bonds b).hi w.1) e in
      omega arith

  pub straight : (p q k : ℕ) → p ≡ suc (at (bonds b).lo) → q ≡ suc (at (bonds b).hi) → k ≡ (bonds b).kind → p < q → bond (p - 1) (q - 1) k ≡ in_walk bonds n m b
  unfolding in_walk
  straight p q k e f g l =
      let x : p - 1 ≡ at (bonds b).lo = omega arith in
      let y : q - 1 ≡ at (bonds b).hi = omega arith in
      let t : at (bonds b).lo < at (bonds b).hi = omega arith in
      (λ i. bond (x i) (y i) (g i)) ∙ sym (rw (lt-ltb (at (bonds b).lo) (at (bonds b).hi) t))

  pub swapped : (p q k : ℕ) → p ≡ suc (at (bonds b).lo) → q ≡ suc (at (bonds b).hi) → k ≡ turned (bonds b).kind → q ≤ p → bond (q - 1) (p - 1) k ≡ in_walk bonds n m b
  unfolding in_walk
  swapped p q k e f g l =
      let x : p - 1 ≡ at (bonds b).lo = omega arith in
      let y : q - 1 ≡ at (bonds b).hi = omega arith in
      let t : at (bonds b).hi ≤ at (bonds b).lo = omega arith in
      (λ i. bond (y i) (x i) (g i)) ∙ sym (rw (le-ltb (at (bonds b).lo) (at (bonds b).hi) t))

-- at most one more is used, and the lengths stay
pub bag-grows : (up : List ℕ) (b : Bond) (g : BondArrays) → (add_bond up b g).used ≤ suc g.used
unfolding add_bond
bag-grows up b g = go (tree_bond up b)
  where
    go : (t : Bool) → (pick t g (bond_arrays (set g.los g.used b.lo) (set g.his g.used b.hi) (set g.kinds g.used b.kind) (suc g.used))).used ≤ suc g.used
    go true = omega arith
    go false = omega arith

pub bag-room : {m : ℕ} {l h k l2 h2 k2 : List ℕ} → BondRoom m l h k → length l2 ≡ length l → length h2 ≡ length h → length k2 ≡ length k → BondRoom m l2 h2 k2
bag-room r a b c = let x = r.los in let y = r.his in let z = r.kinds in record { los = omega arith; his = omega arith; kinds = omega arith }

pub bag-less : {j m : ℕ} {l h k : List ℕ} → BondRoom m l h k → j ≤ m → BondRoom j l h k
bag-less r e = let x = r.los in let y = r.his in let z = r.kinds in record { los = omega arith; his = omega arith; kinds = omega arith }

pub strictly : (x y : ℕ) → (x ≡ y → ⊥) → y ≤ x → y < x
strictly x y h l = go (eqb x y) refl
  where
    go : (t : Bool) → eqb x y ≡ t → y < x
    go true e = absurd (h (eqb-true x y e))
    go false e = let z = eqb-false x y e in omega arith

-- the marks: none yet
pub marked_start : {marks l h : List ℕ} → marks ≡ replicate (length marks) 0 → Marked marks l h 0
marked_start {marks} e =
    record {
      los = λ i a. absurd (omega arith);
      his = λ i a. absurd (omega arith);
      single = λ x a. absurd (let z : get_or marks x 0 ≡ 0 = ap (λ (t : List ℕ). get_or t x 0) e ∙ repeated-at (length marks) x 0 in omega arith);
    }

-- a mark after one end more
pub mark-first : (m i : ℕ) → m ≡ 0 → i + 1 ≡ end_mark m i
unfolding end_mark
mark-first m i e = rw (eq-eqb m 0 e, add-one i)

pub mark-further : (m i : ℕ) → (m ≡ 0 → ⊥) → many ≡ end_mark m i
unfolding end_mark
mark-further m i e = rw (ne_eqb m 0 e)

mark-new : (m k : ℕ) → Mark (end_mark m k) k
unfolding end_mark
mark-new m k = go (eqb m 0)
  where
    go : (b : Bool) → Mark (pick b (suc k) many) k
    go true = record { some = omega arith; only = λ _. refl }
    go false = record { some = omega arith; only = λ h. absurd (omega arith) }

mark-again : (m k i : ℕ) → Mark m i → Mark (end_mark m k) i
unfolding end_mark
mark-again m k i h =
    let s = h.some in
    rw (ne_eqb m 0 (λ e. omega arith)) (record { some = omega arith; only = λ g. absurd (omega arith) })

-- the marks after one end more
abbrev noted : List ℕ → ℕ → ℕ → List ℕ
noted t p k = set t p (end_mark (get_or t p 0) k)

noted_here : (t : List ℕ) (p k : ℕ) → p < length t → Mark (get_or (noted t p k) p 0) k
noted_here t p k r = rw (get_or-set_same t p (end_mark (get_or t p 0) k) 0 r) (mark-new (get_or t p 0) k)

noted-kept : (t : List ℕ) (p k x i : ℕ) → p < length t → Mark (get_or t x 0) i → Mark (get_or (noted t p k) x 0) i
noted-kept t p k x i r m = go (eqb x p) refl
  where
    go : (b : Bool) → eqb x p ≡ b → Mark (get_or (noted t p k) x 0) i
    go true e =
        let q = eqb-true x p e in
        rw (q, get_or-set_same t p (end_mark (get_or t p 0) k) 0 r) (mark-again (get_or t p 0) k i (rw q at m))
    go false e = rw (get_or-set_other t p x (end_mark (get_or t p 0) k) 0 (eqb-false x p e)) m

mark-more : (t u l : List ℕ) (k p : ℕ) → ((x i : ℕ) → Mark (get_or t x 0) i → Mark (get_or u x 0) i) → Mark (get_or u p 0) k → k < length l
    → ((i : ℕ) → i < k → Mark (get_or t (get_or l i 0) 0) i) → (i : ℕ) → i < k + 1 → Mark (get_or u (get_or (set l k p) i 0) 0) i
mark-more t u l k p up here r old i h = go (eqb i k) refl
  where
    go : (b : Bool) → eqb i k ≡ b → Mark (get_or u (get_or (set l k p) i 0) 0) i
    go true e = rw (eqb-true i k e, get_or-set_same l k p 0 r) here
    go false e = let q = eqb-false i k e in rw (get_or-set_other l k i p 0 q) (up (get_or l i 0) i (old i (omega arith)))

-- a single mark after a bond more
module _ (t l h : List ℕ) (k p q : ℕ) (rp : p < length t) (rq : q < length t) (rl : k < length l) (rh : k < length h) (old : (x : ℕ) → 0 < get_or t x 0 → get_or t x 0 < many → Single l h k x (get_or t x 0)) where
  abbrev New : ℕ → ℕ → Type 0
  New x m = 0 < m → m < many → Single (set l k p) (set h k q) (k + 1) x m

  single-high : (m : ℕ) → Mark m k → New q m
  single-high m n a b =
      let e : m ≡ suc k = n.only b in
      let z : m - 1 ≡ k = omega arith in
      record { within = omega arith; low = λ g. absurd (g (rw (z, get_or-set_same h k q 0 rh))) }

  single-low : (m : ℕ) → Mark m k → New p m
  single-low m n a b =
      let e : m ≡ suc k = n.only b in
      let z : m - 1 ≡ k = omega arith in
      record { within = omega arith; low = λ g. rw (z, get_or-set_same l k p 0 rl) }

  single-kept : (x : ℕ) → New x (get_or t x 0)
  single-kept x a b =
      let s = old x a b in
      let w = s.within in
      let e : get_or (set l k p) (get_or t x 0 - 1) 0 ≡ get_or l (get_or t x 0 - 1) 0 = get_or-set_other l k (get_or t x 0 - 1) p 0 (λ g. omega arith) in
      let f : get_or (set h k q) (get_or t x 0 - 1) 0 ≡ get_or h (get_or t x 0 - 1) 0 = get_or-set_other h k (get_or t x 0 - 1) q 0 (λ g. omega arith) in
      record { within = omega arith; low = λ g. e ∙ s.low (λ v. g (f ∙ v)) }

  single-first : (x : ℕ) → New x (get_or (noted t p k) x 0)
  single-first x = go (eqb x p) refl
    where
      go : (b : Bool) → eqb x p ≡ b → New x (get_or (noted t p k) x 0)
      go true e = rw (eqb-true x p e) (single-low (get_or (noted t p k) p 0) (noted_here t p k rp))
      go false e = rw (get_or-set_other t p x (end_mark (get_or t p 0) k) 0 (eqb-false x p e)) (single-kept x)

  single_more : (x : ℕ) → New x (get_or (noted (noted t p k) q k) x 0)
  single_more x = go (eqb x q) refl
    where
      go : (b : Bool) → eqb x q ≡ b → New x (get_or (noted (noted t p k) q k) x 0)
      go true e = rw (eqb-true x q e) (single-high (get_or (noted (noted t p k) q k) q 0) (noted_here (noted t p k) q k (simp length-set (omega arith))))
      go false e = rw (get_or-set_other (noted t p k) q x (end_mark (get_or (noted t p k) q 0) k) 0 (eqb-false x q e)) (single-first x)

-- the marks of the two ends of one bond more
pub marked-add : {marks l h : List ℕ} {k : ℕ} (p q v w : ℕ) → Marked marks l h k → p < length marks → q < length marks → k < length l → k < length h
    → v ≡ end_mark (get_or marks p 0) k → w ≡ end_mark (get_or (set marks p v) q 0) k
    → Marked (set (set marks p v) q w) (set l k p) (set h k q) (k + 1)
marked-add {marks} {l} {h} {k} p q v w m rp rq rl rh ev ew =
    let r1 : q < length (noted marks p k) = simp length-set rq in
    let up : (x i : ℕ) → Mark (get_or marks x 0) i → Mark (get_or (noted (noted marks p k) q k) x 0) i = λ x i z. noted-kept (noted marks p k) q k x i r1 (noted-kept marks p k x i rp z) in
    rw (ew, ev)
    (record {
      los = mark-more marks (noted (noted marks p k) q k) l k p up (noted-kept (noted marks p k) q k p k r1 (noted_here marks p k rp)) rl m.los;
      his = mark-more marks (noted (noted marks p k) q k) h k q up (noted_here (noted marks p k) q k r1) rh m.his;
      single = single_more marks l h k p q rp rq rl rh m.single;
    })
