-- What a renumbering does to the row of sides: a cell turns exactly if another marked neighbour becomes the lower one at one end and not at the other. Assumes nothing.
use Prim.Native.Nat.{ℕ, ◌<◌, ◌≤◌}
use native.Mathlib.Omega.{arith}
use mathlib.Core.Path.{◌≡◌, refl, sym, ap, subst, ◌∙◌}
use mathlib.Core.Bool.{Bool, true, false, ◌&&◌, ◌||◌, not, true≢false, cond}
use mathlib.Core.List.{List}
use mathlib.Core.Logic.{◌⊎◌, inl, inr, ◌↔◌}
use lib.IntN.{ℤ}
use lib.Dec.{eqb, ltb}
use borrow.Author.Tests.{eqb-true, eqb-false, eq-eqb, ne_eqb, ltb-true, ltb-false, lt-ltb, not-true, not-false}
use Rattle.loops.specs.Loop.{pick, each}
use Rattle.loops.proofs.Loops.{and_left, and_right, each_at, each-fails}
use Rattle.loops.proofs.Counting.{many-two}
use Rattle.kinds.specs.Kind.{elided, double, up, down, turned}
use Rattle.kinds.proofs.Kind.{turned-double}
use Rattle.table.specs.Cells.{end1, end2, kind}
use Rattle.table.specs.Valid.{Valid}
use Rattle.table.specs.Sound.{sound}
use Rattle.table.specs.Marks.{side, side_count, crowded, crowded_ends, crowded_bond, none_crowded}
use Rattle.table.proofs.Valid.{bond-row}
use Rattle.table.proofs.Sound.{sound-valid, sound-late, late-none}
use Rattle.table.proofs.Marks.{Sided, sided}
use Rattle.conformation.specs.Sides.{other_end, lowest_of, compared, side_of}
use Rattle.conformation.specs.Claims.{Lies, LowestMarked}
use Rattle.conformation.proofs.Claims.{Known, lowest-known, lowest-none, one-sided}
use Rattle.writing_walk.specs.Token.{Bond, bond}
use Rattle.writing.specs.Write.{walk_bond}
use Rattle.roundtrip.specs.Claims.{numbered, renamed}
use Rattle.conformation_laws.specs.Claims.{Renumbers, Follows, swapped, swaps, Swaps, exchanged, differ, cell_after, OneMarked, SidesFollow}
use Rattle.conformation_laws.proofs.Kept.{from-bond, there-bond, lies-below, lies-forth, Source, lies-source, lies-kept, none_kept, only-bond}

-- ---- which of two marked neighbours is the lower one
module _ (r : List ℕ) (bonds : List ℤ) (m a : ℕ) where
  swaps-found : swaps r bonds m a ≡ true → Swaps r bonds m a
  unfolding swaps
  swaps-found h =
      let f = each-fails (λ b. each (λ c. not (swapped r bonds a b c)) 0 m) 0 m (not-true (each (λ b. each (λ c. not (swapped r bonds a b c)) 0 m) 0 m) h) in
      let g = each-fails (λ c. not (swapped r bonds a f.at c)) 0 m f.fails in
      found f.at g.at (omega (arith, f.below)) (omega (arith, g.below)) (not-false (swapped r bonds a f.at g.at) g.fails)
    where
      found : (b c : ℕ) → b < m → c < m → swapped r bonds a b c ≡ true → Swaps r bonds m a
      found b c l k s =
          let p = not (eqb (side bonds a b) elided) in
          let q = not (eqb (side bonds a c) elided) in
          let u = ltb (other_end bonds a b) (other_end bonds a c) in
          let v = ltb (numbered r (other_end bonds a c)) (numbered r (other_end bonds a b)) in
          let x = and_left (p && q) (u && v) s in
          let y = and_right (p && q) (u && v) s in
          record {
            low = other_end bonds a b;
            high = other_end bonds a c;
            low_side = side bonds a b;
            high_side = side bonds a c;
            low_lies = record { bond = b; used = l; neighbour = refl; placed = refl; marked = omega (arith, eqb-false (side bonds a b) 0 (not-true (eqb (side bonds a b) 0) (and_left p q x))) };
            high_lies = record { bond = c; used = k; neighbour = refl; placed = refl; marked = omega (arith, eqb-false (side bonds a c) 0 (not-true (eqb (side bonds a c) 0) (and_right p q x))) };
            before = ltb-true (other_end bonds a b) (other_end bonds a c) (and_left u v y);
            after = ltb-true (numbered r (other_end bonds a c)) (numbered r (other_end bonds a b)) (and_right u v y);
          }

  swaps-told : Swaps r bonds m a → swaps r bonds m a ≡ true
  unfolding swaps
  swaps-told w = go (each (λ b. each (λ c. not (swapped r bonds a b c)) 0 m) 0 m) refl
    where
      b : ℕ
      b = w.low_lies.bond

      c : ℕ
      c = w.high_lies.bond

      is : swapped r bonds a b c ≡ true
      is = rw (
        ne_eqb (side bonds a b) 0 (λ z. omega (arith, z, w.low_lies.placed, w.low_lies.marked)),
        ne_eqb (side bonds a c) 0 (λ z. omega (arith, z, w.high_lies.placed, w.high_lies.marked)),
        w.low_lies.neighbour,
        w.high_lies.neighbour,
        lt-ltb w.low w.high w.before,
        lt-ltb (numbered r w.high) (numbered r w.low) w.after,
      )

      go : (x : Bool) → each (λ b. each (λ c. not (swapped r bonds a b c)) 0 m) 0 m ≡ x → not x ≡ true
      go false e = refl
      go true e =
          let f = each_at (λ b. each (λ c. not (swapped r bonds a b c)) 0 m) m b e w.low_lies.used in
          absurd (true≢false (sym is ∙ not-true (swapped r bonds a b c) (each_at (λ c. not (swapped r bonds a b c)) m c f w.high_lies.used)))

  -- in words
  pub swaps-iff : (swaps r bonds m a ≡ true) ↔ Swaps r bonds m a
  swaps-iff = (swaps-found, swaps-told)

  -- with one marked neighbour at most none becomes the lower one
  one-swaps : OneMarked bonds m a → swaps r bonds m a ≡ false
  one-swaps one = go (swaps r bonds m a) refl
    where
      go : (x : Bool) → swaps r bonds m a ≡ x → x ≡ false
      go false e = refl
      go true e =
          let w = swaps-found e in
          absurd (omega (arith, w.before, one w.low w.high w.low_side w.high_side w.low_lies w.high_lies))

-- ---- an end that is not crowded has one neighbour on each side at most
module _ (bonds : List ℤ) (m a : ℕ) (h : crowded bonds m a ≡ false) where
  few : (s : ℕ) → Sided s → 0 < s → side_count bonds m a s ≤ 1
  few s z p = go z.is
    where
      or-false : (x y : Bool) → (x || y) ≡ false → (x ≡ false) × (y ≡ false)
      or-false false y e = (refl, e)
      or-false true y e = absurd (true≢false e)

      two : (ltb 1 (side_count bonds m a up) ≡ false) × (ltb 1 (side_count bonds m a down) ≡ false)
      two = or-false (ltb 1 (side_count bonds m a up)) (ltb 1 (side_count bonds m a down)) h

      go : (s ≡ elided) ⊎ ((s ≡ up) ⊎ (s ≡ down)) → side_count bonds m a s ≤ 1
      go (inl e) = absurd (omega (arith, p, e))
      go (inr (inl e)) = rw e (ltb-false 1 (side_count bonds m a up) two.0)
      go (inr (inr e)) = rw e (ltb-false 1 (side_count bonds m a down) two.1)

  -- two neighbours lie on opposite sides
  apart : {v w s t : ℕ} → Lies bonds m a v s → Lies bonds m a w t → ¬ (v ≡ w) → ¬ (s ≡ t)
  unfolding side_count
  apart {v} {w} {s} {t} k l n e = go (ltb i j) refl (ltb j i) refl
    where
      i : ℕ
      i = k.bond

      j : ℕ
      j = l.bond

      most : side_count bonds m a s ≤ 1
      most = few s (subst Sided k.placed (sided bonds a i)) k.marked

      first : eqb (side bonds a i) s ≡ true
      first = eq-eqb (side bonds a i) s k.placed

      second : eqb (side bonds a j) s ≡ true
      second = eq-eqb (side bonds a j) s (l.placed ∙ sym e)

      go : (x : Bool) → ltb i j ≡ x → (y : Bool) → ltb j i ≡ y → ⊥
      go true p y q = omega (arith, most, many-two (λ b. eqb (side bonds a b) s) m i j (ltb-true i j p) l.used first second)
      go false p true q = omega (arith, most, many-two (λ b. eqb (side bonds a b) s) m j i (ltb-true j i q) k.used second first)
      go false p false q =
          let same : i ≡ j = omega (arith, ltb-false i j p, ltb-false j i q) in
          n (sym k.neighbour ∙ ap (other_end bonds a) same ∙ l.neighbour)

  opposite : {v w s t : ℕ} → Lies bonds m a v s → Lies bonds m a w t → ¬ (v ≡ w) → t ≡ turned s
  unfolding turned
  opposite {v} {w} {s} {t} k l n = go (subst Sided k.placed (sided bonds a k.bond)).is (subst Sided l.placed (sided bonds a l.bond)).is
    where
      go : (s ≡ elided) ⊎ ((s ≡ up) ⊎ (s ≡ down)) → (t ≡ elided) ⊎ ((t ≡ up) ⊎ (t ≡ down)) → t ≡ turned s
      go (inl e) f = absurd (omega (arith, e, k.marked))
      go (inr e) (inl f) = absurd (omega (arith, f, l.marked))
      go (inr (inl e)) (inr (inl f)) = absurd (apart k l n (e ∙ sym f))
      go (inr (inl e)) (inr (inr f)) = rw (e, f)
      go (inr (inr e)) (inr (inl f)) = rw (e, f)
      go (inr (inr e)) (inr (inr f)) = absurd (apart k l n (e ∙ sym f))

  -- there are no three
  no_third : {x v w s t u : ℕ} → Lies bonds m a x s → Lies bonds m a v t → Lies bonds m a w u → x < v → v < w → ⊥
  no_third k l o p q = apart l o (λ e. omega (arith, e)) (opposite k l (λ e. omega (arith, e)) ∙ sym (opposite k o (λ e. omega (arith, e))))

-- ---- two sides compared
compared-turn : (s t : ℕ) → compared s t ≡ compared t s
unfolding compared
compared-turn s t = go (eqb s 0) (eqb t 0) (eqb s t) refl
  where
    go : (x y z : Bool) → eqb s t ≡ z → pick {A = ℕ} (x || y) 0 (pick z 1 2) ≡ pick (y || x) 0 (pick (eqb t s) 1 2)
    go true true z e = refl
    go true false z e = refl
    go false true z e = refl
    go false false true e = rw (eq-eqb t s (sym (eqb-true s t e)))
    go false false false e = rw (ne_eqb t s (λ q. eqb-false s t e (sym q)))

-- the other side compared gives the other number
compared-first : (s t : ℕ) → Sided s → Sided t → compared (turned s) t ≡ exchanged (compared s t)
unfolding compared turned
compared-first s t x y = go x.is y.is
  where
    go : (s ≡ elided) ⊎ ((s ≡ up) ⊎ (s ≡ down)) → (t ≡ elided) ⊎ ((t ≡ up) ⊎ (t ≡ down)) → compared (turned s) t ≡ exchanged (compared s t)
    go (inl e) f = rw e
    go (inr (inl e)) (inl f) = rw (e, f)
    go (inr (inl e)) (inr (inl f)) = rw (e, f)
    go (inr (inl e)) (inr (inr f)) = rw (e, f)
    go (inr (inr e)) (inl f) = rw (e, f)
    go (inr (inr e)) (inr (inl f)) = rw (e, f)
    go (inr (inr e)) (inr (inr f)) = rw (e, f)

exchanged-twice : (k : ℕ) → exchanged (exchanged k) ≡ k
exchanged-twice k = go (eqb k 1) refl (eqb k 2) refl
  where
    go : (x : Bool) → eqb k 1 ≡ x → (y : Bool) → eqb k 2 ≡ y → exchanged (pick x 2 (pick y 1 k)) ≡ k
    go true e y f = sym (eqb-true k 1 e)
    go false e true f = sym (eqb-true k 2 f)
    go false e false f = rw (e, f)

compared-second : (s t : ℕ) → Sided s → Sided t → compared s (turned t) ≡ exchanged (compared s t)
compared-second s t x y = compared-turn s (turned t) ∙ compared-first t s y x ∙ ap exchanged (compared-turn t s)

-- a side, turned or not
abbrev turned_if : Bool → ℕ → ℕ
turned_if x s = pick x (turned s) s

compared-both : (x y : Bool) (s t : ℕ) → Sided s → Sided t → Sided (turned t) → compared (turned_if x s) (turned_if y t) ≡ pick (differ x y) (exchanged (compared s t)) (compared s t)
compared-both true true s t p q z = compared-first s (turned t) p z ∙ ap exchanged (compared-second s t p q) ∙ exchanged-twice (compared s t)
compared-both true false s t p q z = compared-first s t p q
compared-both false true s t p q z = compared-second s t p q
compared-both false false s t p q z = refl

-- ---- the lowest marked neighbour of an atom
sided-lowest : (bonds : List ℤ) (m a : ℕ) → Sided (lowest_of bonds m a).side
sided-lowest bonds m a = go (lowest-known bonds a m)
  where
    go : Known bonds a m (lowest_of bonds m a) → Sided (lowest_of bonds m a).side
    go (Known.none z u) = record { is = inl z }
    go (Known.some k) = subst Sided k.lies.placed (sided bonds a k.lies.bond)

sided-other : (s : ℕ) → Sided s → Sided (turned s)
unfolding turned
sided-other s x = go x.is
  where
    go : (s ≡ elided) ⊎ ((s ≡ up) ⊎ (s ≡ down)) → Sided (turned s)
    go (inl e) = record { is = inl (rw e) }
    go (inr (inl e)) = record { is = inr (inr (rw e)) }
    go (inr (inr e)) = record { is = inr (inl (rw e)) }

module _ {n m : ℕ} {r : List ℕ} {bonds U atoms : List ℤ} (valid : Valid atoms bonds n m) (w : Renumbers n m r bonds U) where
  -- it lies on the other side exactly if another one has become the lowest
  lowest-follows : (a : ℕ) → a < n → crowded bonds m a ≡ false → (lowest_of U m (numbered r a)).side ≡ turned_if (swaps r bonds m a) (lowest_of bonds m a).side
  unfolding turned
  lowest-follows a l h = go (lowest-known bonds a m) (lowest-known U (numbered r a) m)
    where
      old : ℕ
      old = (lowest_of bonds m a).neighbour

      old-side : ℕ
      old-side = (lowest_of bonds m a).side

      new : ℕ
      new = (lowest_of U m (numbered r a)).neighbour

      new-side : ℕ
      new-side = (lowest_of U m (numbered r a)).side

      none-turned : (x : Bool) → 0 ≡ turned_if x 0
      none-turned true = refl
      none-turned false = refl

      same : LowestMarked bonds m a old old-side → (o : Source valid w a new new-side) → o.atom ≡ old → new-side ≡ old-side
      same k o e = one-sided valid a old new-side old-side (subst (λ (x : ℕ). Lies bonds m a x new-side) e o.lies) k.lies

      -- the lowest one stays the lowest: no two change places
      stays : LowestMarked bonds m a old old-side → LowestMarked U m (numbered r a) new new-side → (o : Source valid w a new new-side) → o.atom ≡ old → Swaps r bonds m a → ⊥
      stays k k' o e z = third (eqb old z.low) refl
        where
          third : (x : Bool) → eqb old z.low ≡ x → ⊥
          third true f =
              let q : numbered r z.low ≡ new = ap (numbered r) (sym (eqb-true old z.low f) ∙ sym e) ∙ o.number in
              omega (arith, q, z.after, k'.lowest (numbered r z.high) z.high_side (lies-forth valid w z.high_lies))
          third false f =
              let g : old < z.low = omega (arith, eqb-false old z.low f, k.lowest z.low z.low_side z.low_lies) in
              no_third bonds m a h k.lies z.low_lies z.high_lies g z.before

      -- another one has become the lowest: it changes places with the old one
      moves : LowestMarked bonds m a old old-side → LowestMarked U m (numbered r a) new new-side → (o : Source valid w a new new-side) → ¬ (o.atom ≡ old) → Swaps r bonds m a
      moves k k' o n' = record {
        low = old;
        high = o.atom;
        low_side = old-side;
        high_side = new-side;
        low_lies = k.lies;
        high_lies = o.lies;
        before = omega (arith, n', k.lowest o.atom new-side o.lies);
        after = below (k'.lowest (numbered r old) old-side (lies-forth valid w k.lies));
      }
        where
          inside : old < n
          inside = (lies-below valid w k.lies).1

          below : new ≤ numbered r old → numbered r o.atom < numbered r old
          below q = let other : ¬ (numbered r o.atom ≡ numbered r old) = λ z. n' (w.injective o.atom old o.below inside z) in omega (arith, q, o.number, other)

      go : Known bonds a m (lowest_of bonds m a) → Known U (numbered r a) m (lowest_of U m (numbered r a)) → new-side ≡ turned_if (swaps r bonds m a) old-side
      go (Known.none z u) k = lowest-none U (numbered r a) (none_kept valid w l u) ∙ rw z (none-turned (swaps r bonds m a))
      go (Known.some k) (Known.none z u) = absurd (u (numbered r old) old-side (lies-forth valid w k.lies))
      go (Known.some k) (Known.some k') = cases (eqb o.atom old) refl (swaps r bonds m a) refl
        where
          o : Source valid w a new new-side
          o = lies-source valid w l k'.lies

          cases : (x : Bool) → eqb o.atom old ≡ x → (y : Bool) → swaps r bonds m a ≡ y → new-side ≡ turned_if y old-side
          cases true e true f = absurd (stays k k' o (eqb-true o.atom old e) (swaps-found r bonds m a f))
          cases true e false f = same k o (eqb-true o.atom old e)
          cases false e true f = opposite bonds m a h k.lies o.lies (λ q. eqb-false o.atom old e (sym q))
          cases false e false f = absurd (true≢false (sym (swaps-told r bonds m a (moves k k' o (eqb-false o.atom old e))) ∙ f))

  -- ---- the cell of a bond
  -- what the row has at a bond of the walk
  abbrev cell_in : List ℤ → Bond → ℕ
  cell_in t x = pick (eqb x.kind double) (compared (lowest_of t m x.lo).side (lowest_of t m x.hi).side) 0

  cell_in_lem : (t : List ℤ) (b : ℕ) → side_of t m b ≡ cell_in t (walk_bond t b)
  unfolding side_of
  cell_in_lem t b = refl

  -- which end comes first does not matter
  cell-renamed : (x : Bond) → cell_in U (renamed r x) ≡ cell_in U (bond (numbered r x.lo) (numbered r x.hi) x.kind)
  cell-renamed x = go (ltb (numbered r x.lo) (numbered r x.hi))
    where
      go : (z : Bool) → cell_in U (cond z (bond (numbered r x.lo) (numbered r x.hi) x.kind) (bond (numbered r x.hi) (numbered r x.lo) (turned x.kind))) ≡ cell_in U (bond (numbered r x.lo) (numbered r x.hi) x.kind)
      go true = refl
      go false = λ i. pick (turned-double x.kind i) (compared-turn (lowest_of U m (numbered r x.hi)).side (lowest_of U m (numbered r x.lo)).side i) 0

  cell-follows : none_crowded bonds m ≡ true → (b c : ℕ) → b < m → Follows r bonds U b c → side_of U m c ≡ cell_after r bonds m b (side_of bonds m b)
  unfolding none_crowded
  cell-follows h b c l f = cell_in_lem U c ∙ ap (cell_in U) f ∙ cell-renamed (walk_bond bonds b) ∙ go (eqb (kind bonds b) double) refl ∙ ap (cell_after r bonds m b) (sym (cell_in_lem bonds b))
    where
      e : ℕ
      e = end1 bonds b

      f' : ℕ
      f' = end2 bonds b

      turns : Bool
      turns = differ (swaps r bonds m e) (swaps r bonds m f')

      or-false : (x y : Bool) → (x || y) ≡ false → (x ≡ false) × (y ≡ false)
      or-false false y q = (refl, q)
      or-false true y q = absurd (true≢false q)

      free : eqb (kind bonds b) double ≡ true → (crowded bonds m e ≡ false) × (crowded bonds m f' ≡ false)
      free k = or-false (crowded bonds m e) (crowded bonds m f') (subst (λ (x : Bool). (x && crowded_ends bonds m b) ≡ false) k (not-true (crowded_bond bonds m b) (each_at (λ x. not (crowded_bond bonds m x)) m b h l)))

      stays : (x : Bool) → 0 ≡ pick {A = ℕ} x (exchanged 0) 0
      stays true = refl
      stays false = refl

      go : (x : Bool) → eqb (kind bonds b) double ≡ x
          → pick x (compared (lowest_of U m (numbered r e)).side (lowest_of U m (numbered r f')).side) 0
          ≡ pick turns (exchanged (pick x (compared (lowest_of bonds m e).side (lowest_of bonds m f').side) 0)) (pick x (compared (lowest_of bonds m e).side (lowest_of bonds m f').side) 0)
      go true k =
          let u = free k in
          let one = lowest-follows e (omega (arith, (bond-row valid b l).order, (bond-row valid b l).second)) u.0 in
          let two = lowest-follows f' (bond-row valid b l).second u.1 in
          (λ i. compared (one i) (two i))
          ∙ compared-both (swaps r bonds m e) (swaps r bonds m f') (lowest_of bonds m e).side (lowest_of bonds m f').side (sided-lowest bonds m e) (sided-lowest bonds m f') (sided-other (lowest_of bonds m f').side (sided-lowest bonds m f'))
      go false k = stays turns

-- THE STATEMENT: what a renumbering does to the sides and to their row, for all sound tables
pub sides-follow : (atoms bonds : List ℤ) (n m : ℕ) (r : List ℕ) (U : List ℤ) → sound atoms bonds n m ≡ true → Renumbers n m r bonds U → SidesFollow n m r bonds U
sides-follow atoms bonds n m r U h w =
    let v = sound-valid atoms bonds n m h in
    let u = (late-none atoms bonds n m (sound-late atoms bonds n m h)).uncrowded in
    record {
      there = there-bond v w;
      from = from-bond v w;
      only = only-bond v w;
      lies = lies-kept v w;
      no_other = λ a x s l k. (let o = lies-source v w l k in (o.atom, (o.below, o.number)));
      one_each = λ b c l f p q. cell-follows v w u b c l f ∙ rw (one-swaps r bonds m (end1 bonds b) p, one-swaps r bonds m (end2 bonds b) q);
      cells = cell-follows v w u;
    }
