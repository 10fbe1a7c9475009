-- The row of sides in words: its definition finds the lowest marked neighbours, and each of its numbers says what 02 says. Assumes nothing.
use Prim.Native.Nat.{ℕ, zero, suc, ◌+◌, ◌-◌, ◌<◌, ◌≤◌}
use native.Mathlib.Omega.{arith}
use mathlib.Core.Path.{◌≡◌, refl, sym, ap, subst, ◌∙◌}
use mathlib.Core.Bool.{Bool, true, false, ◌&&◌, ◌||◌, not, true≢false}
use mathlib.Core.Logic.{◌⊎◌, inl, inr, ◌↔◌}
use mathlib.Core.List.{List, ◌++◌}
use lib.ListN.{length, get_or, replicate, length-replicate, get_or-replicate, get_or-eq_default}
use lib.Seq.{get_or-append-add}
use lib.IntN.{ℤ}
use lib.Dec.{eqb, leb, ltb}
use borrow.Author.Tests.{eqb-true, eqb-false, eq-eqb, ne_eqb, ltb-true, ltb-false}
use Rattle.loops.specs.Loop.{pick, run, up_to}
use Rattle.loops.proofs.Loops.{length-up_to, filled_at}
use Rattle.kinds.specs.Kind.{elided, double}
use Rattle.table.specs.Limits.{max_bonds}
use Rattle.table.specs.Cells.{end1, end2, kind}
use Rattle.table.specs.Valid.{Valid, same_ends, enough}
use Rattle.table.specs.Sound.{sound}
use Rattle.table.specs.Marks.{side}
use Rattle.table.proofs.Sound.{sound-valid}
use Rattle.table.proofs.Valid.{bond-row, apart-at}
use Rattle.conformation.specs.declared.Lowest.{Lowest}
use Rattle.conformation.specs.Sides.{other_end, none_yet, lower, lowest_of, compared, side_of, sides_reply, sides_of}
use Rattle.conformation.proofs.Laws.{none-compared, same-compared, opposite-compared, not_double, at-double}
use Rattle.conformation.specs.Claims.{Lies, LowestMarked, NoneMarked, Entry}

-- ---- the lowest marked neighbour of an atom
module _ (bonds : List ℤ) (a : ℕ) where
  -- what is known of k bonds: none is marked at a, or the lowest neighbour
  pub data Known (k : ℕ) (w : Lowest) : Type 0 where
    none : w.side ≡ 0 → NoneMarked bonds k a → Known k w
    some : LowestMarked bonds k a w.neighbour w.side → Known k w

  -- one bond more
  wider : {k v t : ℕ} → Lies bonds k a v t → Lies bonds (suc k) a v t
  wider l = record { bond = l.bond; used = omega (arith, l.used); neighbour = l.neighbour; placed = l.placed; marked = l.marked }

  data Split (k v t : ℕ) : Type 0 where
    before : Lies bonds k a v t → Split k v t
    last : other_end bonds a k ≡ v → side bonds a k ≡ t → 0 < t → Split k v t

  split : {k v t : ℕ} → Lies bonds (suc k) a v t → Split k v t
  split {k} {v} {t} l = go (ltb l.bond k) refl
    where
      go : (x : Bool) → ltb l.bond k ≡ x → Split k v t
      go true e = before (record { bond = l.bond; used = ltb-true l.bond k e; neighbour = l.neighbour; placed = l.placed; marked = l.marked })
      go false e =
          let q : l.bond ≡ k = omega (arith, l.used, ltb-false l.bond k e) in
          last (sym (ap (other_end bonds a) q) ∙ l.neighbour) (sym (ap (side bonds a) q) ∙ l.placed) l.marked

  known_step : (k : ℕ) (w : Lowest) → Known k w → Known (suc k) (lower bonds a k w)
  unfolding lower
  known_step k w h = go (eqb (side bonds a k) elided) refl (eqb w.side elided) refl (ltb (other_end bonds a k) w.neighbour) refl h
    where
      found : Lowest
      found = record { neighbour = other_end bonds a k; side = side bonds a k }

      here : eqb (side bonds a k) elided ≡ false → Lies bonds (suc k) a (other_end bonds a k) (side bonds a k)
      here e = record { bond = k; used = omega arith; neighbour = refl; placed = refl; marked = omega (arith, eqb-false (side bonds a k) 0 e) }

      go : (x : Bool) → eqb (side bonds a k) elided ≡ x → (y : Bool) → eqb w.side elided ≡ y → (z : Bool) → ltb (other_end bonds a k) w.neighbour ≡ z → Known k w → Known (suc k) (pick (not x && (y || z)) found w)
      go true e y f z g (none s u) = none s (λ v t l. unmarked v t (split l))
        where
          unmarked : (v t : ℕ) → Split k v t → ⊥
          unmarked v t (before l) = u v t l
          unmarked v t (last p q r) = omega (arith, r, q, eqb-true (side bonds a k) 0 e)
      go true e y f z g (some s) = some (record { lies = wider s.lies; lowest = λ v t l. least v t (split l) })
        where
          least : (v t : ℕ) → Split k v t → w.neighbour ≤ v
          least v t (before l) = s.lowest v t l
          least v t (last p q r) = absurd (omega (arith, r, q, eqb-true (side bonds a k) 0 e))
      go false e true f z g (none s u) = some (record { lies = here e; lowest = λ v t l. least v t (split l) })
        where
          least : (v t : ℕ) → Split k v t → other_end bonds a k ≤ v
          least v t (before l) = absurd (u v t l)
          least v t (last p q r) = omega (arith, p)
      go false e true f z g (some s) = absurd (omega (arith, s.lies.marked, eqb-true w.side 0 f))
      go false e false f z g (none s u) = absurd (eqb-false w.side 0 f s)
      go false e false f true g (some s) = some (record { lies = here e; lowest = λ v t l. least v t (split l) })
        where
          least : (v t : ℕ) → Split k v t → other_end bonds a k ≤ v
          least v t (before l) = omega (arith, s.lowest v t l, ltb-true (other_end bonds a k) w.neighbour g)
          least v t (last p q r) = omega (arith, p)
      go false e false f false g (some s) = some (record { lies = wider s.lies; lowest = λ v t l. least v t (split l) })
        where
          least : (v t : ℕ) → Split k v t → w.neighbour ≤ v
          least v t (before l) = s.lowest v t l
          least v t (last p q r) = omega (arith, p, ltb-false (other_end bonds a k) w.neighbour g)

  known_from : (k m : ℕ) (w : Lowest) → Known k w → Known (k + m) (run (lower bonds a) k m w)
  unfolding run
  known_from k zero w h = let e : k + 0 ≡ k = omega arith in rw e h
  known_from k (suc m) w h = let e : k + suc m ≡ suc k + m = omega arith in rw e (known_from (suc k) m (lower bonds a k w) (known_step k w h))

  -- THE STATEMENT: the definition finds the lowest marked neighbour, or that there is none
  pub lowest-known : (m : ℕ) → Known m (lowest_of bonds m a)
  unfolding lowest_of
  lowest-known m = let e : 0 + m ≡ m = omega arith in rw e at (known_from 0 m none_yet (none refl (λ w s l. omega (arith, l.used))))

  -- on one side only
  abbrev pub OneSided : ℕ → Type 0
  OneSided m = (w s t : ℕ) → Lies bonds m a w s → Lies bonds m a w t → s ≡ t

  pub lowest-side : {m w s : ℕ} → OneSided m → LowestMarked bonds m a w s → (lowest_of bonds m a).side ≡ s
  lowest-side {m} {w} {s} one h = go (lowest-known m)
    where
      go : Known m (lowest_of bonds m a) → (lowest_of bonds m a).side ≡ s
      go (none z u) = absurd (u w s h.lies)
      go (some k) =
          let q : (lowest_of bonds m a).neighbour ≡ w = omega (arith, k.lowest w s h.lies, h.lowest (lowest_of bonds m a).neighbour (lowest_of bonds m a).side k.lies) in
          one w (lowest_of bonds m a).side s (subst (λ (x : ℕ). Lies bonds m a x (lowest_of bonds m a).side) q k.lies) h.lies

  pub lowest-none : {m : ℕ} → NoneMarked bonds m a → (lowest_of bonds m a).side ≡ 0
  lowest-none {m} u = go (lowest-known m)
    where
      go : Known m (lowest_of bonds m a) → (lowest_of bonds m a).side ≡ 0
      go (none z v) = z
      go (some k) = absurd (u (lowest_of bonds m a).neighbour (lowest_of bonds m a).side k.lies)

-- ---- in valid tables one bond joins two atoms, so a neighbour lies on one side
-- the ends of a bond that places a neighbour
pub data Joins (bonds : List ℤ) (a w b : ℕ) : Type 0 where
  forth : end1 bonds b ≡ a → end2 bonds b ≡ w → Joins bonds a w b
  back : end2 bonds b ≡ a → end1 bonds b ≡ w → Joins bonds a w b

pub joins : {bonds : List ℤ} {m a w s : ℕ} (l : Lies bonds m a w s) → Joins bonds a w l.bond
unfolding side
joins {bonds} {m} {a} {w} {s} l = go (eqb (end1 bonds l.bond) a) refl (eqb (end2 bonds l.bond) a) refl
  where
    go : (x : Bool) → eqb (end1 bonds l.bond) a ≡ x → (y : Bool) → eqb (end2 bonds l.bond) a ≡ y → Joins bonds a w l.bond
    go true e y f = forth (eqb-true (end1 bonds l.bond) a e) (sym (rw e) ∙ l.neighbour)
    go false e true f = back (eqb-true (end2 bonds l.bond) a f) (sym (rw e) ∙ l.neighbour)
    go false e false f = let z : side bonds a l.bond ≡ 0 = rw (e, f) in absurd (omega (arith, l.marked, l.placed, z))

module _ {atoms bonds : List ℤ} {n m : ℕ} (v : Valid atoms bonds n m) where
  pub not-twice : (i j : ℕ) → i < m → j < m → end1 bonds i ≡ end1 bonds j → end2 bonds i ≡ end2 bonds j → i ≡ j
  unfolding same_ends
  not-twice i j l k e f = go (ltb i j) refl (ltb j i) refl
    where
      same : (i j : ℕ) → end1 bonds i ≡ end1 bonds j → end2 bonds i ≡ end2 bonds j → same_ends bonds i j ≡ true
      same i j e f = rw (eq-eqb (end1 bonds i) (end1 bonds j) e, eq-eqb (end2 bonds i) (end2 bonds j) f)

      go : (x : Bool) → ltb i j ≡ x → (y : Bool) → ltb j i ≡ y → i ≡ j
      go true p y q = absurd (true≢false (sym (same j i (sym e) (sym f)) ∙ apart-at v j i k (ltb-true i j p)))
      go false p true q = absurd (true≢false (sym (same i j e f) ∙ apart-at v i j l (ltb-true j i q)))
      go false p false q = omega (arith, ltb-false i j p, ltb-false j i q)

  pub one-sided : (a : ℕ) → OneSided bonds a m
  one-sided a w s t l k = sym l.placed ∙ ap (side bonds a) (go (joins l) (joins k)) ∙ k.placed
    where
      go : Joins bonds a w l.bond → Joins bonds a w k.bond → l.bond ≡ k.bond
      go (forth p q) (forth p' q') = not-twice l.bond k.bond l.used k.used (p ∙ sym p') (q ∙ sym q')
      go (back p q) (back p' q') = not-twice l.bond k.bond l.used k.used (q ∙ sym q') (p ∙ sym p')
      go (forth p q) (back p' q') = absurd (omega (arith, p, q, p', q', (bond-row v l.bond l.used).order, (bond-row v k.bond k.used).order))
      go (back p q) (forth p' q') = absurd (omega (arith, p, q, p', q', (bond-row v l.bond l.used).order, (bond-row v k.bond k.used).order))

-- ---- two sides compared
compared-none : (s t : ℕ) → (s ≡ 0) ⊎ (t ≡ 0) → compared s t ≡ 0
compared-none s t (inl e) = sym (none-compared s t (rw e))
compared-none s t (inr e) = sym (none-compared s t (rw e (go (eqb s 0))))
  where
    go : (x : Bool) → (x || true) ≡ true
    go true = refl
    go false = refl

module _ (s t : ℕ) (p : 0 < s) (q : 0 < t) where
  both-marked : (eqb s 0 || eqb t 0) ≡ false
  both-marked = rw (ne_eqb s 0 (λ z. omega arith), ne_eqb t 0 (λ z. omega arith))

  compared_same : s ≡ t → compared s t ≡ 1
  compared_same e = sym (same-compared s t both-marked e)

  compared-opposite : ¬ (s ≡ t) → compared s t ≡ 2
  compared-opposite n = sym (opposite-compared s t both-marked n)

-- ---- the cell of a bond
module _ (bonds : List ℤ) (m b : ℕ) where
  abbrev first : Lowest
  first = lowest_of bonds m (end1 bonds b)

  abbrev second : Lowest
  second = lowest_of bonds m (end2 bonds b)

  is_double : kind bonds b ≡ double → side_of bonds m b ≡ compared first.side second.side
  is_double k = sym (at-double bonds m b refl k refl refl refl refl refl)

  is-other : ¬ (kind bonds b ≡ double) → side_of bonds m b ≡ 0
  is-other n = sym (not_double bonds m b refl n)

  -- each cell says what its number means
  pub entry_of : Entry bonds m b (side_of bonds m b)
  entry_of = go (eqb (kind bonds b) double) refl
    where
      is : {k : ℕ} → side_of bonds m b ≡ k → Entry bonds m b k → Entry bonds m b (side_of bonds m b)
      is e h = subst (Entry bonds m b) (sym e) h

      both : kind bonds b ≡ double → Known bonds (end1 bonds b) m first → Known bonds (end2 bonds b) m second → Entry bonds m b (side_of bonds m b)
      both k (none z u) h = is (is_double k ∙ compared-none first.side second.side (inl z)) (Entry.first_unmarked u)
      both k (some s) (none z u) = is (is_double k ∙ compared-none first.side second.side (inr z)) (Entry.second_unmarked u)
      both k (some s) (some t) = cases (eqb first.side second.side) refl
        where
          cases : (x : Bool) → eqb first.side second.side ≡ x → Entry bonds m b (side_of bonds m b)
          cases true e =
              let q = eqb-true first.side second.side e in
              is (is_double k ∙ compared_same first.side second.side s.lies.marked t.lies.marked q)
              (Entry.same_side k s (subst (LowestMarked bonds m (end2 bonds b) second.neighbour) (sym q) t))
          cases false e =
              let q = eqb-false first.side second.side e in
              is (is_double k ∙ compared-opposite first.side second.side s.lies.marked t.lies.marked q) (Entry.opposite_sides k s t q)

      go : (x : Bool) → eqb (kind bonds b) double ≡ x → Entry bonds m b (side_of bonds m b)
      go true e = both (eqb-true (kind bonds b) double e) (lowest-known bonds (end1 bonds b) m) (lowest-known bonds (end2 bonds b) m)
      go false e = let q = eqb-false (kind bonds b) double e in is (is-other q) (Entry.not_double q)

  unmarked : (first.side ≡ 0) ⊎ (second.side ≡ 0) → side_of bonds m b ≡ 0
  unmarked z = go (eqb (kind bonds b) double) refl
    where
      go : (x : Bool) → eqb (kind bonds b) double ≡ x → side_of bonds m b ≡ 0
      go true e = is_double (eqb-true (kind bonds b) double e) ∙ compared-none first.side second.side z
      go false e = is-other (eqb-false (kind bonds b) double e)

  -- and what holds is what it says
  entry-told : {k : ℕ} → OneSided bonds (end1 bonds b) m → OneSided bonds (end2 bonds b) m → Entry bonds m b k → side_of bonds m b ≡ k
  entry-told one two (Entry.same_side {s = s} k x y) =
      is_double k ∙ (λ i. compared (lowest-side bonds (end1 bonds b) one x i) (lowest-side bonds (end2 bonds b) two y i)) ∙ compared_same s s x.lies.marked y.lies.marked refl
  entry-told one two (Entry.opposite_sides {s = s} {t = t} k x y n) =
      is_double k ∙ (λ i. compared (lowest-side bonds (end1 bonds b) one x i) (lowest-side bonds (end2 bonds b) two y i)) ∙ compared-opposite s t x.lies.marked y.lies.marked n
  entry-told one two (Entry.not_double n) = is-other n
  entry-told one two (Entry.first_unmarked u) = unmarked (inl (lowest-none bonds (end1 bonds b) u))
  entry-told one two (Entry.second_unmarked u) = unmarked (inr (lowest-none bonds (end2 bonds b) u))

module _ (atoms bonds : List ℤ) (n m : ℕ) where
  -- THE STATEMENT: in sound tables the cell of a bond is 1, 2 or 0 exactly if 02 says so
  pub entry-iff : sound atoms bonds n m ≡ true → (b k : ℕ) → (side_of bonds m b ≡ k) ↔ Entry bonds m b k
  entry-iff h b k =
      let v = sound-valid atoms bonds n m h in
      (λ e. subst (Entry bonds m b) e (entry_of bonds m b), λ w. entry-told bonds m b (one-sided v (end1 bonds b)) (one-sided v (end2 bonds b)) w)

  -- what the call hands back where it is not refused
  module _ (row : List ℕ) (h : (sides_of atoms bonds n m row).code ≡ 0) where
    record Filled : Type 0 where
      pub tables : sound atoms bonds n m ≡ true
      pub filled : (sides_of atoms bonds n m row).row ≡ up_to (side_of bonds m) 0 m ++ replicate (length row - m) 0

    filled_row : Filled
    unfolding sides_of
    filled_row = go (leb max_bonds (length row)) refl (enough atoms bonds) refl (sound atoms bonds n m) refl h
      where
        go : (x : Bool) → leb max_bonds (length row) ≡ x → (y : Bool) → enough atoms bonds ≡ y → (z : Bool) → sound atoms bonds n m ≡ z
            → (pick (x && y) (pick z (sides_reply 0 (up_to (side_of bonds m) 0 m ++ replicate (length row - m) 0)) (sides_reply 13 (replicate (length row) 0))) (sides_reply 1 row)).code ≡ 0 → Filled
        go false e y f z g k = absurd (omega arith)
        go true e false f z g k = absurd (omega arith)
        go true e true f false g k = absurd (omega arith)
        go true e true f true g k = record { tables = g; filled = rw (e, f, g) }

    pub row-cell : (b : ℕ) → b < m → get_or (sides_of atoms bonds n m row).row b 0 ≡ side_of bonds m b
    row-cell b l = filled_at (side_of bonds m) m b 0 (sides_of atoms bonds n m row).row (replicate (length row - m) 0) filled_row.filled l

    -- THE STATEMENT: each cell of the row up to the last bond says what its number means, and those after it are 0
    pub row-iff : (b k : ℕ) → b < m → (get_or (sides_of atoms bonds n m row).row b 0 ≡ k) ↔ Entry bonds m b k
    row-iff b k l = let i = entry-iff filled_row.tables b k in (λ q. i.0 (sym (row-cell b l) ∙ q), λ w. row-cell b l ∙ i.1 w)

    pub row-rest : (b : ℕ) → m ≤ b → get_or (sides_of atoms bonds n m row).row b 0 ≡ 0
    row-rest b l = go (ltb (b - m) (length row - m)) refl
      where
        zeros : List ℕ
        zeros = replicate (length row - m) 0

        there : get_or (sides_of atoms bonds n m row).row b 0 ≡ get_or zeros (b - m) 0
        there =
            let q : b ≡ length (up_to (side_of bonds m) 0 m) + (b - m) = omega (arith, length-up_to (side_of bonds m) 0 m) in
            ap (λ (r : List ℕ). get_or r b 0) filled_row.filled ∙ ap (λ (j : ℕ). get_or (up_to (side_of bonds m) 0 m ++ zeros) j 0) q ∙ get_or-append-add (up_to (side_of bonds m) 0 m) zeros (b - m) 0

        go : (x : Bool) → ltb (b - m) (length row - m) ≡ x → get_or (sides_of atoms bonds n m row).row b 0 ≡ 0
        go true e = there ∙ get_or-replicate (length row - m) (b - m) 0 0 (ltb-true (b - m) (length row - m) e)
        go false e = there ∙ get_or-eq_default zeros 0 (omega (arith, ltb-false (b - m) (length row - m) e, length-replicate {A = ℕ} (length row - m) 0))
