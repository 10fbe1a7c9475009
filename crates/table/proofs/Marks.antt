-- Laws of marks: bonds without marks, and 20 and 21 in words. Assumes nothing.
use Prim.Native.Nat.{ℕ, ◌<◌}
use native.Mathlib.Omega.{arith}
use mathlib.Core.Path.{◌≡◌, refl, sym, ◌∙◌}
use mathlib.Core.Bool.{Bool, true, false, ◌&&◌, ◌||◌, not, true≢false}
use mathlib.Core.Logic.{◌⊎◌, inl, inr, ◌↔◌}
use mathlib.Core.List.{List}
use lib.IntN.{ℤ}
use lib.Dec.{eqb, ltb}
use borrow.Author.Tests.{eqb-true, eq-eqb, ltb-true, lt-ltb, not-true, not-false}
use Rattle.loops.specs.Loop.{pick}
use Rattle.loops.proofs.Loops.{and_left, and_right, each_at, each_all, each-fails}
use Rattle.loops.proofs.Counting.{many-none, many-some, many-two, two-of}
use Rattle.kinds.specs.Kind.{elided, double, up, down, is_mark, mark_of, turned}
use Rattle.table.specs.Cells.{end1, end2, kind, touches}
use Rattle.table.specs.Marks.{side, side_count, double_at, double_count, crowded, crowded_bond, none_crowded, stray, none_stray, unmarked, CrowdedEnd, StrayMark}

-- ---- a side is above, below or none
pub record Sided (s : ℕ) : Type 0 where
  pub is : (s ≡ elided) ⊎ ((s ≡ up) ⊎ (s ≡ down))

sided-mark : (k : ℕ) → Sided (mark_of k)
unfolding mark_of
sided-mark k = go (eqb k up) refl (eqb k down) refl
  where
    go : (x : Bool) → eqb k up ≡ x → (y : Bool) → eqb k down ≡ y → Sided (pick (x || y) k elided)
    go true e y f = record { is = inr (inl (eqb-true k up e)) }
    go false e true f = record { is = inr (inr (eqb-true k down f)) }
    go false e false f = record { is = inl refl }

sided-turned : (s : ℕ) → Sided s → Sided (turned s)
unfolding turned
sided-turned s h = go h.is
  where
    go : (s ≡ elided) ⊎ ((s ≡ up) ⊎ (s ≡ down)) → Sided (pick (eqb s up) down (pick (eqb s down) up s))
    go (inl e) = rw e (record { is = inl refl })
    go (inr (inl e)) = rw e (record { is = inr (inr refl) })
    go (inr (inr e)) = rw e (record { is = inr (inl refl) })

pub sided : (bonds : List ℤ) (a b : ℕ) → Sided (side bonds a b)
unfolding side
sided bonds a b = go (eqb (end1 bonds b) a) (eqb (end2 bonds b) a)
  where
    go : (x y : Bool) → Sided (pick x (mark_of (kind bonds b)) (pick y (turned (mark_of (kind bonds b))) elided))
    go true y = sided-mark (kind bonds b)
    go false true = sided-turned (mark_of (kind bonds b)) (sided-mark (kind bonds b))
    go false false = record { is = inl refl }

module _ (bonds : List ℤ) (a b : ℕ) where
  -- a bond without a mark places no neighbour
  pub side-none : is_mark (kind bonds b) ≡ false → side bonds a b ≡ elided
  unfolding side mark_of turned
  side-none e = rw e (go (eqb (end1 bonds b) a) (eqb (end2 bonds b) a))
    where
      go : (x y : Bool) → pick {A = ℕ} x elided (pick y elided elided) ≡ elided
      go true y = refl
      go false true = refl
      go false false = refl

-- ---- no bond has a mark
module _ (bonds : List ℤ) (m : ℕ) (h : unmarked bonds m ≡ true) where
  no-mark : (b : ℕ) → b < m → is_mark (kind bonds b) ≡ false
  unfolding unmarked
  no-mark b l = not-true (is_mark (kind bonds b)) (each_at (λ x. not (is_mark (kind bonds x))) m b h l)

  none-on : (a s : ℕ) → eqb elided s ≡ false → side_count bonds m a s ≡ 0
  unfolding side_count
  none-on a s e = many-none (λ b. eqb (side bonds a b) s) m (λ b l. rw (side-none bonds a b (no-mark b l)) e)

  pub unmarked-uncrowded : (a : ℕ) → crowded bonds m a ≡ false
  unmarked-uncrowded a = rw (none-on a up refl, none-on a down refl)

  pub unmarked-crowded : none_crowded bonds m ≡ true
  unfolding none_crowded
  unmarked-crowded = each_all (λ b. not (crowded_bond bonds m b)) m (λ b l. rw (unmarked-uncrowded (end1 bonds b), unmarked-uncrowded (end2 bonds b)) (go (eqb (kind bonds b) double)))
    where
      go : (x : Bool) → not (x && false) ≡ true
      go true = refl
      go false = refl

-- ---- in words
module _ (bonds : List ℤ) (m : ℕ) where
  -- two bonds on a side of an atom
  record Pair (a : ℕ) : Type 0 where
    pub first : ℕ
    pub second : ℕ
    pub apart : first < second
    pub used : second < m
    pub marked : 0 < side bonds a first
    pub same : side bonds a first ≡ side bonds a second

  pair-on : (a s : ℕ) → 0 < s → ltb 1 (side_count bonds m a s) ≡ true → Pair a
  unfolding side_count
  pair-on a s p h =
      let t = two-of (λ b. eqb (side bonds a b) s) m (ltb-true 1 (side_count bonds m a s) h) in
      let e = eqb-true (side bonds a t.first) s t.passes.0 in
      let f = eqb-true (side bonds a t.second) s t.passes.1 in
      record { first = t.first; second = t.second; apart = t.apart; used = omega (arith, t.below); marked = omega (arith, e, p); same = e ∙ sym f }

  pair_of : (a : ℕ) → crowded bonds m a ≡ true → Pair a
  pair_of a h = go (ltb 1 (side_count bonds m a up)) refl h
    where
      go : (x : Bool) → ltb 1 (side_count bonds m a up) ≡ x → (x || ltb 1 (side_count bonds m a down)) ≡ true → Pair a
      go true e g = pair-on a up (omega arith) e
      go false e g = pair-on a down (omega arith) g

  end_of : (b a : ℕ) → b < m → kind bonds b ≡ double → (end1 bonds b ≡ a) ⊎ (end2 bonds b ≡ a) → crowded bonds m a ≡ true → CrowdedEnd bonds m
  end_of b a l k e h =
      let p = pair_of a h in
      record { double_bond = b; first = p.first; second = p.second; atom = a; used = (l, p.used); is_double = k; is_end = e; apart = p.apart; marked = p.marked; same_side = p.same }

  crowded-end : (b : ℕ) → b < m → crowded_bond bonds m b ≡ true → CrowdedEnd bonds m
  crowded-end b l h =
      go (crowded bonds m (end1 bonds b)) refl (and_right (eqb (kind bonds b) double) (crowded bonds m (end1 bonds b) || crowded bonds m (end2 bonds b)) h)
    where
      k : kind bonds b ≡ double
      k = eqb-true (kind bonds b) double (and_left (eqb (kind bonds b) double) (crowded bonds m (end1 bonds b) || crowded bonds m (end2 bonds b)) h)

      go : (x : Bool) → crowded bonds m (end1 bonds b) ≡ x → (x || crowded bonds m (end2 bonds b)) ≡ true → CrowdedEnd bonds m
      go true e g = end_of b (end1 bonds b) l k (inl refl) e
      go false e g = end_of b (end2 bonds b) l k (inr refl) g

  pub crowded-found : none_crowded bonds m ≡ false → CrowdedEnd bonds m
  unfolding none_crowded
  crowded-found h =
      let f = each-fails (λ b. not (crowded_bond bonds m b)) 0 m h in
      crowded-end f.at (omega (arith, f.below)) (not-false (crowded_bond bonds m f.at) f.fails)

  -- two bonds on one side of an atom crowd it
  crowds : (a i j : ℕ) → i < j → j < m → 0 < side bonds a i → side bonds a i ≡ side bonds a j → crowded bonds m a ≡ true
  unfolding side_count
  crowds a i j l u p e = go (sided bonds a i).is
    where
      or-true : (x : Bool) → (x || true) ≡ true
      or-true true = refl
      or-true false = refl

      on : (s : ℕ) → side bonds a i ≡ s → ltb 1 (side_count bonds m a s) ≡ true
      on s q = lt-ltb 1 (side_count bonds m a s) (many-two (λ b. eqb (side bonds a b) s) m i j l u (eq-eqb (side bonds a i) s q) (eq-eqb (side bonds a j) s (sym e ∙ q)))

      go : (side bonds a i ≡ elided) ⊎ ((side bonds a i ≡ up) ⊎ (side bonds a i ≡ down)) → crowded bonds m a ≡ true
      go (inl q) = absurd (omega (arith, p, q))
      go (inr (inl q)) = rw (on up q)
      go (inr (inr q)) = rw (on down q) (or-true (ltb 1 (side_count bonds m a up)))

  pub crowded-told : CrowdedEnd bonds m → none_crowded bonds m ≡ false
  unfolding none_crowded
  crowded-told w = split (none_crowded bonds m) refl
    where
      b : ℕ
      b = w.double_bond

      full : crowded bonds m w.atom ≡ true
      full = crowds w.atom w.first w.second w.apart w.used.1 w.marked w.same_side

      ends : (end1 bonds b ≡ w.atom) ⊎ (end2 bonds b ≡ w.atom) → (crowded bonds m (end1 bonds b) || crowded bonds m (end2 bonds b)) ≡ true
      ends (inl e) = rw (e, full)
      ends (inr e) = rw (e, full) (or-true (crowded bonds m (end1 bonds b)))
        where
          or-true : (x : Bool) → (x || true) ≡ true
          or-true true = refl
          or-true false = refl

      is : crowded_bond bonds m b ≡ true
      is = rw (eq-eqb (kind bonds b) double w.is_double) (ends w.is_end)

      split : (x : Bool) → none_crowded bonds m ≡ x → x ≡ false
      split false e = refl
      split true e = absurd (true≢false (sym is ∙ not-true (crowded_bond bonds m b) (each_at (λ x. not (crowded_bond bonds m x)) m b e w.used.0)))

  -- 20 exactly if two marked neighbours of an end of a double bond lie on the same side
  pub crowded-iff : (none_crowded bonds m ≡ false) ↔ CrowdedEnd bonds m
  crowded-iff = (crowded-found, crowded-told)

  -- ---- 21
  no-double : (a : ℕ) → double_count bonds m a ≡ 0 → (b : ℕ) → b < m → kind bonds b ≡ double → touches bonds a b ≡ false
  unfolding double_count
  no-double a z b l k = split (touches bonds a b) refl
    where
      split : (x : Bool) → touches bonds a b ≡ x → x ≡ false
      split false e = refl
      split true e =
          let t : double_at bonds a b ≡ true = rw (e, eq-eqb (kind bonds b) double k) in
          absurd (omega (arith, z, many-some (double_at bonds a) m b l t))

  none-double : (a : ℕ) → ((b : ℕ) → b < m → kind bonds b ≡ double → touches bonds a b ≡ false) → double_count bonds m a ≡ 0
  unfolding double_count
  none-double a h = many-none (double_at bonds a) m (λ b l. go b l (eqb (kind bonds b) double) refl)
    where
      and-false : (x : Bool) → (x && false) ≡ false
      and-false true = refl
      and-false false = refl

      go : (b : ℕ) → b < m → (x : Bool) → eqb (kind bonds b) double ≡ x → (touches bonds a b && x) ≡ false
      go b l true e = rw (h b l (eqb-true (kind bonds b) double e))
      go b l false e = and-false (touches bonds a b)

  pub stray-found : none_stray bonds m ≡ false → StrayMark bonds m
  unfolding none_stray
  stray-found h =
      let f = each-fails (λ b. not (stray bonds m b)) 0 m h in
      let b = f.at in
      let s = not-false (stray bonds m b) f.fails in
      let p = is_mark (kind bonds b) in
      let q = eqb (double_count bonds m (end1 bonds b)) 0 in
      let r = eqb (double_count bonds m (end2 bonds b)) 0 in
      let one = eqb-true (double_count bonds m (end1 bonds b)) 0 (and_right p q (and_left (p && q) r s)) in
      let two = eqb-true (double_count bonds m (end2 bonds b)) 0 (and_right (p && q) r s) in
      record {
        bond = b;
        used = omega (arith, f.below);
        marked = and_left p q (and_left (p && q) r s);
        alone = λ c l k. (no-double (end1 bonds b) one c l k, no-double (end2 bonds b) two c l k);
      }

  pub stray-told : StrayMark bonds m → none_stray bonds m ≡ false
  unfolding none_stray
  stray-told w = split (none_stray bonds m) refl
    where
      b : ℕ
      b = w.bond

      is : stray bonds m b ≡ true
      is = rw (w.marked, none-double (end1 bonds b) (λ c l k. (w.alone c l k).0), none-double (end2 bonds b) (λ c l k. (w.alone c l k).1))

      split : (x : Bool) → none_stray bonds m ≡ x → x ≡ false
      split false e = refl
      split true e = absurd (true≢false (sym is ∙ not-true (stray bonds m b) (each_at (λ x. not (stray bonds m x)) m b e w.used)))

  -- 21 exactly if a mark touches no bond of kind 2
  pub stray-iff : (none_stray bonds m ≡ false) ↔ StrayMark bonds m
  stray-iff = (stray-found, stray-told)
