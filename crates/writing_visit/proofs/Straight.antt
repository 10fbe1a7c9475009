-- The straight walk: where the bonds were passed so, the walk's forest has the atoms by ascending number, with the parents and kinds that were noted. Assumes nothing.
use Prim.Native.Nat.{ℕ, zero, suc, ◌+◌, ◌<◌, ◌≤◌}
use native.Mathlib.Omega.{arith}
use mathlib.Core.Path.{◌≡◌, refl, sym, ap, ◌∙◌, subst}
use mathlib.Core.Bool.{Bool, true, false, ◌||◌, cond}
use mathlib.Core.List.{List, [], ◌∷◌, ◌++◌}
use lib.ListN.{get_or}
use lib.Dec.{eqb, ltb}
use borrow.Author.Tests.{eqb-true, eqb-false, ltb-true, ltb-false, ne_eqb}
use Rattle.kinds.specs.Kind.{turned}
use Rattle.loops.specs.Loop.{up_to}
use Rattle.loops.proofs.Loops.{up_to-at}
use Rattle.writing_walk.specs.Token.{Bond}
use Rattle.writing_walk.specs.Emit.{Forest, leaf, node, size, pre}
use Rattle.writing_walk.specs.Walk.{Neighbour, neighbour, member, neighbours, roots, forest_of, place}
use Rattle.writing_walk.specs.Flat.{kinds, ups}
use Rattle.writing_walk.proofs.Count.{never}
use Rattle.writing_walk.proofs.Walk.{range, Dfs, end, skip, visit, forest-dfs}
use Rattle.writing_walk.proofs.Trip.{size-length, renumbering}
use Rattle.writing_walk.proofs.Again.{range-append}
use Rattle.writing_walk.proofs.Twice.{place_same}
use Rattle.writing_visit.specs.Visit.{BondsFit, Walked}
use Rattle.writing_visit.specs.Straight.{Entry, Passed, InTurn}
use Rattle.writing_visit.proofs.Ways.{bonds-inside}

-- the numbers from 0 on
in-range : (w a d : ℕ) → a ≤ w → w < a + d → member w (range a d) ≡ true
in-range w a zero h g = absurd (omega arith)
in-range w a (suc d) h g = go (eqb w a) refl (in-range w (suc a) d)
  where
    go : (y : Bool) → eqb w a ≡ y → (suc a ≤ w → w < suc a + d → member w (range (suc a) d) ≡ true) → (y || member w (range (suc a) d)) ≡ true
    go true y f = refl
    go false y f = let z = eqb-false w a y in f (omega arith) (omega arith)

out-range : (w a d : ℕ) → a + d ≤ w → member w (range a d) ≡ false
out-range w a zero h = refl
out-range w a (suc d) h = rw (ne_eqb w a (omega arith)) (out-range w (suc a) d (omega arith))

fresh : (w c : ℕ) → member w (range 0 c) ≡ false → c ≤ w
fresh w c e = go (ltb w c) refl
  where
    go : (y : Bool) → ltb w c ≡ y → c ≤ w
    go true y = absurd (never (member w (range 0 c)) (in-range w 0 c (omega arith) (let z = ltb-true w c y in omega arith)) e)
    go false y = ltb-false w c y

seen : (w c : ℕ) → member w (range 0 c) ≡ true → w < c
seen w c e = go (ltb w c) refl
  where
    go : (y : Bool) → ltb w c ≡ y → w < c
    go true y = ltb-true w c y
    go false y = absurd (never (member w (range 0 c)) e (out-range w 0 c (let z = ltb-false w c y in omega arith)))

next-range : (c w : ℕ) (s : List ℕ) → s ≡ range 0 c → w ≡ c → s ++ (w ∷ []) ≡ range 0 (suc c)
next-range c w s e q = let p : 0 + c ≡ c = omega arith in let r : c + 1 ≡ suc c = omega arith in (λ i. e i ++ (q i ∷ [])) ∙ (rw p at (range-append 0 c 1)) ∙ ap (range 0) r

far-range : (c : ℕ) (s t : List ℕ) (d : ℕ) → s ≡ range 0 c → t ≡ range c d → s ++ t ≡ range 0 (c + d)
far-range c s t d e q = (λ i. e i ++ q i) ∙ (let p : 0 + c ≡ c = omega arith in rw p at (range-append 0 c d))

range-from : (a d x : ℕ) → x < d → get_or (range a d) x 0 ≡ a + x
range-from a zero x h = absurd (omega arith)
range-from a (suc d) zero h = omega arith
range-from a (suc d) (suc x) h = let e : suc a + x ≡ a + suc x = omega arith in range-from (suc a) d x (omega arith) ∙ e

range_at : (d x : ℕ) → x < d → get_or (range 0 d) x 0 ≡ x
range_at d x h = range-from 0 d x h ∙ omega arith

up_to-append : (f : ℕ → ℕ) (a d e : ℕ) → up_to f a d ++ up_to f (a + d) e ≡ up_to f a (d + e)
unfolding up_to
up_to-append f a zero e = let p : a + 0 ≡ a = omega arith in let q : 0 + e ≡ e = omega arith in rw (p, q)
up_to-append f a (suc d) e =
    let p : a + suc d ≡ suc a + d = omega arith in
    let q : suc d + e ≡ suc (d + e) = omega arith in
    rw (p, q) (ap (λ (l : List ℕ). f a ∷ l) (up_to-append f (suc a) d e))

-- the bonds at an atom in turn
module _ (bonds : ℕ → Bond) (m v : ℕ) where
  data Way (i : ℕ) : Neighbour → Type 0 where
    down : (bonds i).lo ≡ v → Way i (neighbour (bonds i).hi (bonds i).kind)
    back : (bonds i).hi ≡ v → Way i (neighbour (bonds i).lo (turned (bonds i).kind))

  data Ways : ℕ → List Neighbour → Type 0 where
    last : {b : ℕ} → ((j : ℕ) → b ≤ j → j < m → (bonds j).lo ≡ v → ⊥) → Ways b []
    next : {b : ℕ} {x : Neighbour} {cs : List Neighbour} (i : ℕ) → b ≤ i → i < m → ((j : ℕ) → b ≤ j → j < i → (bonds j).lo ≡ v → ⊥) → Way i x → Ways (suc i) cs → Ways b (x ∷ cs)

  one_more : (b : ℕ) → ((bonds b).lo ≡ v → ⊥) → (P : ℕ → Type 0) → ((j : ℕ) → suc b ≤ j → P j → (bonds j).lo ≡ v → ⊥) → (j : ℕ) → b ≤ j → P j → (bonds j).lo ≡ v → ⊥
  one_more b h P f j l p e = go (eqb j b) refl
    where
      go : (y : Bool) → eqb j b ≡ y → ⊥
      go true y = h (subst (λ (k : ℕ). (bonds k).lo ≡ v) (eqb-true j b y) e)
      go false y = let z = eqb-false j b y in f j (omega arith) p e

  wider : (b : ℕ) {cs : List Neighbour} → ((bonds b).lo ≡ v → ⊥) → Ways (suc b) cs → Ways b cs
  wider b h (last f) = last {b = b} (one_more b h (λ j. j < m) f)
  wider b h (next i l k f w r) = next {b = b} i (omega arith) k (one_more b h (λ j. j < i) f) w r

  ways : (b d : ℕ) → b + d ≡ m → Ways b (neighbours v (up_to bonds b d))
  unfolding up_to
  ways b zero h = last {b = b} (λ j l k e. omega arith)
  ways b (suc d) h = go (eqb (bonds b).lo v) refl (eqb (bonds b).hi v) refl (ways (suc b) d (omega arith))
    where
      go : (x : Bool) → eqb (bonds b).lo v ≡ x → (y : Bool) → eqb (bonds b).hi v ≡ y → Ways (suc b) (neighbours v (up_to bonds (suc b) d))
          → Ways b (cond x (neighbour (bonds b).hi (bonds b).kind ∷ neighbours v (up_to bonds (suc b) d)) (cond y (neighbour (bonds b).lo (turned (bonds b).kind) ∷ neighbours v (up_to bonds (suc b) d)) (neighbours v (up_to bonds (suc b) d))))
      go true x y q r = next {b = b} b (omega arith) (omega arith) (λ j l k e. omega arith) (down (eqb-true (bonds b).lo v x)) r
      go false x true q r = next {b = b} b (omega arith) (omega arith) (λ j l k e. omega arith) (back (eqb-true (bonds b).hi v q)) r
      go false x false q r = wider b (eqb-false (bonds b).lo v x) r

-- a forest whose atoms have the numbers from c on in preorder, with these parents and kinds
record Run (up kind : List ℕ) (F : Forest) (p c : ℕ) : Type 0 where
  pub atoms : pre F ≡ range c (size F)
  pub links : kinds F ≡ up_to (λ x. get_or kind x 0) c (size F)
  pub parents : ups F p c ≡ up_to (λ x. get_or up x 0) c (size F)

run-leaf : {up kind : List ℕ} (p c : ℕ) → Run up kind leaf p c
unfolding up_to
run-leaf p c = record { atoms = refl; links = refl; parents = refl }

run-node : {up kind : List ℕ} {f g : Forest} (w k p c : ℕ) → w ≡ c → k ≡ get_or kind c 0 → p ≡ get_or up c 0 → Run up kind f (suc w) (suc c) → Run up kind g p (suc c + size f) → Run up kind (node w k f g) p c
unfolding up_to
run-node {up} {kind} {f} {g} w k p c ew ek ep a b =
    record {
      atoms = λ i. ew i ∷ ((λ j. a.atoms j ++ b.atoms j) ∙ range-append (suc c) (size f) (size g)) i;
      links = λ i. ek i ∷ ((λ j. a.links j ++ b.links j) ∙ up_to-append (λ x. get_or kind x 0) (suc c) (size f) (size g)) i;
      parents = λ i. ep i ∷ (heads ∙ up_to-append (λ x. get_or up x 0) (suc c) (size f) (size g)) i;
    }
  where
    first : ups f (suc c) (suc c) ≡ up_to (λ x. get_or up x 0) (suc c) (size f)
    first = ap (λ (q : ℕ). ups f (suc q) (suc c)) (sym ew) ∙ a.parents

    heads : ups f (suc c) (suc c) ++ ups g p (suc c + size f) ≡ up_to (λ x. get_or up x 0) (suc c) (size f) ++ up_to (λ x. get_or up x 0) (suc c + size f) (size g)
    heads = λ j. first j ++ b.parents j

-- from the atom v on, bonds from atoms before e end before e
abbrev Closed : (ℕ → Bond) → ℕ → ℕ → ℕ → Type 0
Closed bonds m v e = (i : ℕ) → i < m → v ≤ (bonds i).lo → (bonds i).lo < e → (bonds i).hi < e

module _ {bonds : ℕ → Bond} {n m : ℕ} {up kind : List ℕ} (fit : BondsFit bonds n m) (passed : Passed bonds m n up kind) where
  abbrev bs : List Bond
  bs = up_to bonds 0 m

  -- the atom that is entered next, by the bond i from the atom v: it is c, v is its parent and the bond's kind is noted
  record Entered (v c i : ℕ) : Type 0 where
    pub atom : (bonds i).hi ≡ c
    pub link : (bonds i).kind ≡ get_or kind c 0
    pub parent : suc v ≡ get_or up c 0

  module _ (v b c i : ℕ) (h : v < c) (l : b ≤ i) (k : i < m) (new : c ≤ (bonds i).hi) (from : (bonds i).lo ≡ v)
      (gap : (j : ℕ) → b ≤ j → j < i → (bonds j).lo ≡ v → ⊥) (old : (j : ℕ) → j < b → j < m → (bonds j).lo ≡ v → (bonds j).hi < c) (done : Closed bonds m (suc v) c) where
    enters : Entered v c i
    enters = go (get_or up c 0) refl
      where
        ends : (bonds i).hi < n
        ends = (fit.ends i k).1

        above : suc v ≤ get_or up c 0
        above = rw from at ((passed.held i k).held c (omega arith) (omega arith))

        found : (p : ℕ) → get_or up c 0 ≡ suc p → Entry bonds m p c (get_or kind c 0) → Entered v c i
        found p e x =
            let f = fit.ends x.at x.below in
            let q : p ≤ v = not-later (ltb v p) refl in
            let r : p ≡ v = omega (arith, above) in
            let low : i ≤ x.at = not-before (ltb x.at i) refl r in
            let a = passed.ascending i x.at low x.below in
            let same : (bonds i).hi ≡ c = omega (arith, x.hi) in
            let u = x.first i k same in
            let z : x.at ≡ i = omega arith in
            record { atom = same; link = ap (λ (j : ℕ). (bonds j).kind) (sym z) ∙ x.kind; parent = ap suc (sym r) ∙ sym e }
          where
            not-later : (y : Bool) → ltb v p ≡ y → p ≤ v
            not-later true y = absurd (let z = ltb-true v p y in let f = fit.ends x.at x.below in let w = done x.at x.below (omega (arith, x.lo)) (omega (arith, x.lo, x.hi)) in omega (arith, x.hi))
            not-later false y = ltb-false v p y

            not-gap : (y : Bool) → ltb x.at b ≡ y → x.at < i → p ≡ v → ⊥
            not-gap true y t r = let w = old x.at (ltb-true x.at b y) x.below (x.lo ∙ r) in omega (arith, x.hi)
            not-gap false y t r = gap x.at (ltb-false x.at b y) t (x.lo ∙ r)

            not-before : (y : Bool) → ltb x.at i ≡ y → p ≡ v → i ≤ x.at
            not-before true y r = absurd (not-gap (ltb x.at b) refl (ltb-true x.at i y) r)
            not-before false y r = ltb-false x.at i y

        go : (u : ℕ) → get_or up c 0 ≡ u → Entered v c i
        go zero e = absurd (omega (arith, above))
        go (suc p) e = found p e (passed.entries c p (omega (arith, ends)) e)

  record Kids (F : Forest) (v c : ℕ) : Type 0 where
    pub run : Run up kind F (suc v) c
    pub closed : Closed bonds m v (c + size F)

  -- v's bonds before the next one
  older : (v b c e i : ℕ) → c ≤ e → ((j : ℕ) → b ≤ j → j < i → (bonds j).lo ≡ v → ⊥) → ((j : ℕ) → j < b → j < m → (bonds j).lo ≡ v → (bonds j).hi < c) → ((bonds i).lo ≡ v → (bonds i).hi < e)
      → (j : ℕ) → j < suc i → j < m → (bonds j).lo ≡ v → (bonds j).hi < e
  older v b c e i h gap old this j l k f = go (eqb j i) refl (ltb j b) refl
    where
      go : (x : Bool) → eqb j i ≡ x → (y : Bool) → ltb j b ≡ y → (bonds j).hi < e
      go true x y q = let z : j ≡ i = eqb-true j i x in subst (λ (a : ℕ). (bonds a).hi < e) (sym z) (this (subst (λ (a : ℕ). (bonds a).lo ≡ v) z f))
      go false x true q = let z = old j (ltb-true j b q) k f in omega arith
      go false x false q = let z = eqb-false j i x in absurd (gap j (ltb-false j b q) (omega arith) f)

  -- a bond that is tried and leads to an atom before c
  tried : (v c i : ℕ) {x : Neighbour} (s : List ℕ) → i < m → Way bonds m v i x → s ≡ range 0 c → member x.to s ≡ true → (bonds i).lo ≡ v → (bonds i).hi < c
  tried v c i s k (down _) e q f = seen (bonds i).hi c (ap (member (bonds i).hi) (sym e) ∙ q)
  tried v c i s k (back g) e q f = absurd (let z = (fit.ends i k).0 in omega arith)

  closes : (v b c : ℕ) → ((j : ℕ) → b ≤ j → j < m → (bonds j).lo ≡ v → ⊥) → ((j : ℕ) → j < b → j < m → (bonds j).lo ≡ v → (bonds j).hi < c) → Closed bonds m (suc v) c → Closed bonds m v c
  closes v b c gap old done i k l h = go (eqb (bonds i).lo v) refl (ltb i b) refl
    where
      go : (x : Bool) → eqb (bonds i).lo v ≡ x → (y : Bool) → ltb i b ≡ y → (bonds i).hi < c
      go true x true q = old i (ltb-true i b q) k (eqb-true (bonds i).lo v x)
      go true x false q = absurd (gap i (ltb-false i b q) k (eqb-true (bonds i).lo v x))
      go false x y q = let z = eqb-false (bonds i).lo v x in done i k (omega arith) h

  after-child : (v w c e : ℕ) → w ≡ c → c ≤ e → Closed bonds m (suc v) c → Closed bonds m w e → Closed bonds m (suc v) e
  after-child v w c e z h done one i k l f = go (ltb (bonds i).lo c) refl
    where
      go : (x : Bool) → ltb (bonds i).lo c ≡ x → (bonds i).hi < e
      go true x = let q = done i k l (ltb-true (bonds i).lo c x) in omega arith
      go false x = let q = ltb-false (bonds i).lo c x in one i k (omega arith) f

  -- what the walk below a list of neighbours gives
  abbrev KidsOf : List Neighbour → List ℕ → Forest → Type 0
  KidsOf cs s F = (v b c : ℕ) → Ways bonds m v b cs → s ≡ range 0 c → v < c
      → ((j : ℕ) → j < b → j < m → (bonds j).lo ≡ v → (bonds j).hi < c) → Closed bonds m (suc v) c → Kids F v c

  child : (v b c i : ℕ) (y : Neighbour) {cs : List Neighbour} (s : List ℕ) (f g : Forest) → b ≤ i → i < m → ((j : ℕ) → b ≤ j → j < i → (bonds j).lo ≡ v → ⊥)
      → Way bonds m v i y → Ways bonds m v (suc i) cs → member y.to s ≡ false
      → KidsOf (neighbours y.to bs) (s ++ (y.to ∷ [])) f → KidsOf cs ((s ++ (y.to ∷ [])) ++ pre f) g
      → s ≡ range 0 c → v < c → ((j : ℕ) → j < b → j < m → (bonds j).lo ≡ v → (bonds j).hi < c) → Closed bonds m (suc v) c → Kids (node y.to y.kind f g) v c
  child v b c i _ s f g l k gap (down x) r q d1 d2 e h old done =
      let new = fresh (bonds i).hi c (ap (member (bonds i).hi) (sym e) ∙ q) in
      let E = enters v b c i h l k new x gap old done in
      let at = E.atom in
      let e1 = next-range c (bonds i).hi s e at in
      let k1 = d1 (bonds i).hi 0 (suc c) (ways bonds m (bonds i).hi 0 m (omega arith)) e1 (omega arith) (λ j t. absurd (omega arith)) (λ j t u a. absurd (omega arith)) in
      let e2 = far-range (suc c) (s ++ ((bonds i).hi ∷ [])) (pre f) (size f) e1 k1.run.atoms in
      let k2 = d2 v (suc i) (suc c + size f) r e2 (omega arith) (older v b c (suc c + size f) i (omega arith) gap old (λ t. omega arith)) (after-child v (bonds i).hi c (suc c + size f) at (omega arith) done k1.closed) in
      let z : c + suc (size f + size g) ≡ suc c + size f + size g = omega arith in
      record { run = run-node (bonds i).hi (bonds i).kind (suc v) c at E.link E.parent k1.run k2.run; closed = rw z k2.closed }
  child v b c i _ s f g l k gap (back x) r q d1 d2 e h old done =
      absurd (let new = fresh (bonds i).lo c (ap (member (bonds i).lo) (sym e) ∙ q) in let z = (fit.ends i k).0 in omega arith)

  kids : {cs : List Neighbour} {s : List ℕ} {F : Forest} → Dfs bs cs s F → (v b c : ℕ) → Ways bonds m v b cs → s ≡ range 0 c → v < c
      → ((j : ℕ) → j < b → j < m → (bonds j).lo ≡ v → (bonds j).hi < c) → Closed bonds m (suc v) c → Kids F v c
  kids end v b c (last f) e h old done =
      let z : c + 0 ≡ c = omega arith in
      record { run = run-leaf (suc v) c; closed = rw z (closes v b c f old done) }
  kids (skip {s = s} q d) v b c (next i l k gap w r) e h old done = kids d v (suc i) c r e h (older v b c c i (omega arith) gap old (tried v c i s k w e q)) done
  kids (visit {x = y} {s = s} {f = f} {g = g} q d1 d2) v b c (next i l k gap w r) e h old done = child v b c i y s f g l k gap w r q (kids d1) (kids d2) e h old done

  -- the roots in turn
  from-roots : (r a c : ℕ) {s : List ℕ} {F : Forest} → Dfs bs (roots a r) s F → a + r ≡ n → a ≤ c → s ≡ range 0 c → Closed bonds m 0 c → Run up kind F 0 c
  from-roots zero a c end h l e done = run-leaf 0 c
  from-roots (suc r) a c (skip q d) h l e done = let z = seen a c (ap (member a) (sym e) ∙ q) in from-roots r (suc a) c d (omega arith) (omega arith) e done
  from-roots (suc r) a c (visit {s = s} {f = f} {g = g} q d1 d2) h l e done =
      let new = fresh a c (ap (member a) (sym e) ∙ q) in
      let at : a ≡ c = omega arith in
      let e1 = next-range c a s e at in
      let k1 = kids d1 a 0 (suc c) (ways bonds m a 0 m (omega arith)) e1 (omega arith) (λ j t. absurd (omega arith)) (λ j t u x. absurd (omega arith)) in
      let e2 = far-range (suc c) (s ++ (a ∷ [])) (pre f) (size f) e1 k1.run.atoms in
      let top : get_or up c 0 ≡ 0 = none at (get_or up c 0) refl in
      run-node a 0 0 c at (sym (passed.roots c (omega arith) top)) (sym top) k1.run
      (from-roots r (suc a) (suc c + size f) d2 (omega arith) (omega arith) e2 (later at k1.closed))
    where
      none : a ≡ c → (u : ℕ) → get_or up c 0 ≡ u → u ≡ 0
      none at zero z = refl
      none at (suc p) z = absurd (let x = passed.entries c p (omega arith) z in let t = fit.ends x.at x.below in let w = done x.at x.below (omega arith) (omega (arith, x.hi)) in omega (arith, x.hi))

      later : a ≡ c → Closed bonds m a (suc c + size f) → Closed bonds m 0 (suc c + size f)
      later at one i k u t = go (ltb (bonds i).lo c) refl
        where
          go : (x : Bool) → ltb (bonds i).lo c ≡ x → (bonds i).hi < suc c + size f
          go true x = let w = done i k u (ltb-true (bonds i).lo c x) in omega arith
          go false x = let w = ltb-false (bonds i).lo c x in one i k (omega arith) t

  -- THE STATEMENT: the walk visits the atoms by ascending number, with the parents and kinds that were noted
  pub straight-walk : {o v : List ℕ} → InTurn n o v → Walked bs n o v up kind
  straight-walk {o} {v} t =
      let F = forest_of n bs in
      let i = bonds-inside fit in
      let r = from-roots n 0 0 (forest-dfs n bs i) (omega arith) (omega arith) refl (λ j k u x. absurd (omega arith)) in
      let z : size F ≡ n = sym (size-length F) ∙ (renumbering n bs i).long in
      let p : pre F ≡ range 0 n = r.atoms ∙ ap (range 0) z in
      let q : ups F 0 0 ≡ up_to (λ x. get_or up x 0) 0 n = r.parents ∙ ap (up_to (λ x. get_or up x 0) 0) z in
      let k : kinds F ≡ up_to (λ x. get_or kind x 0) 0 n = r.links ∙ ap (up_to (λ x. get_or kind x 0) 0) z in
      record {
        order = λ x h. t.order x h ∙ sym (ap (λ (l : List ℕ). get_or l x 0) p ∙ range_at n x h);
        number = λ a h. t.number a h ∙ ap suc (sym (ap (λ (l : List ℕ). place l a) p ∙ place_same n a h));
        up = λ x h. sym (ap (λ (l : List ℕ). get_or l x 0) q ∙ up_to-at (λ y. get_or up y 0) n x 0 h);
        kind = λ x h. sym (ap (λ (l : List ℕ). get_or l x 0) k ∙ up_to-at (λ y. get_or kind y 0) n x 0 h);
      }
