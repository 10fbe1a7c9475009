-- The bonds at an atom of one of two molecules side by side: their order by rank is the same in the join, so that the same marks are turned. Assumes nothing.
use Prim.Native.Nat.{ℕ, zero, suc, ◌+◌, ◌≤◌, ◌<◌}
use native.Mathlib.Omega.{arith}
use native.Mathlib.Nat.{zero-add, add-zero, suc-add}
use mathlib.Core.Path.{◌≡◌, refl, sym, ap, ◌∙◌}
use mathlib.Core.Bool.{Bool, true, false, true≢false}
use mathlib.Core.List.{List, [], ◌∷◌, ◌++◌, map}
use lib.IntN.{ℤ}
use lib.Dec.{eqb, ltb}
use borrow.Author.Tests.{lt-ltb, le-ltb}
use Rattle.loops.specs.Loop.{pick}
use Rattle.parity.specs.Parity.{flip_if, oddly, odd_pairs, over, odd}
use Rattle.table.specs.Cells.{hydrogens, touches}
use Rattle.table.specs.Orders.{bonds_from, bonds_at, hydrogen_rank, turns}
use Rattle.table.proofs.Orders.{ranks-same}
use Rattle.mixture_rows.specs.Beside.{BondsBeside}
use Rattle.mixture_rows.proofs.Parts.{next}
use Rattle.mixture_rows.proofs.Graph.{ltb-raised}
use Rattle.mixture_rows.proofs.Bonds.{touch-first, touch-low, touch-high, touch-second}

-- ---- ranks that move up
-- a rank, and that of the same neighbour with n atoms and δ bytes before: the preceding atom and the hydrogen keep theirs, a bridge stands δ later, a child has a number that is n more; the ranks of bridges are below top
pub data Moved (top n δ r s : ℕ) : Type 0 where
  low : r < 2 → s ≡ r → Moved top n δ r s
  bridge : 2 ≤ r → s ≡ δ + r → s < top → Moved top n δ r s
  child : top ≤ r → s ≡ n + r → Moved top n δ r s

module _ (top n δ : ℕ) (two : 2 ≤ top) where
  -- two of them are ordered as before
  over-moved : (r s p q : ℕ) → Moved top n δ r s → Moved top n δ p q → over s q ≡ over r p
  over-moved r s p q (Moved.low a e) (Moved.low b f) = λ i. ltb (f i) (e i)
  over-moved r s p q (Moved.low a e) (Moved.bridge b f g) = le-ltb q s (omega arith) ∙ sym (le-ltb p r (omega arith))
  over-moved r s p q (Moved.low a e) (Moved.child b f) = le-ltb q s (omega arith) ∙ sym (le-ltb p r (omega arith))
  over-moved r s p q (Moved.bridge a e h) (Moved.low b f) = lt-ltb q s (omega arith) ∙ sym (lt-ltb p r (omega arith))
  over-moved r s p q (Moved.bridge a e h) (Moved.bridge b f g) = (λ i. ltb (f i) (e i)) ∙ ltb-raised δ p r
  over-moved r s p q (Moved.bridge a e h) (Moved.child b f) = le-ltb q s (omega arith) ∙ sym (le-ltb p r (omega arith))
  over-moved r s p q (Moved.child a e) (Moved.low b f) = lt-ltb q s (omega arith) ∙ sym (lt-ltb p r (omega arith))
  over-moved r s p q (Moved.child a e) (Moved.bridge b f g) = lt-ltb q s (omega arith) ∙ sym (lt-ltb p r (omega arith))
  over-moved r s p q (Moved.child a e) (Moved.child b f) = (λ i. ltb (f i) (e i)) ∙ ltb-raised n p r

  -- lists of them
  abbrev AllMoved : List ℕ → List ℕ → Type 0
  AllMoved [] [] = Unit {0}
  AllMoved [] (s ∷ k) = ⊥
  AllMoved (r ∷ l) [] = ⊥
  AllMoved (r ∷ l) (s ∷ k) = Moved top n δ r s × AllMoved l k

  oddly-moved : (r s : ℕ) → Moved top n δ r s → (l k : List ℕ) → AllMoved l k → oddly (over s) k ≡ oddly (over r) l
  unfolding oddly
  oddly-moved r s w [] [] v = refl
  oddly-moved r s w [] (q ∷ k) v = absurd v
  oddly-moved r s w (p ∷ l) [] v = absurd v
  oddly-moved r s w (p ∷ l) (q ∷ k) v = λ i. flip_if (over-moved r s p q w v.0 i) (oddly-moved r s w l k v.1 i)

  odd-moved : (l k : List ℕ) → AllMoved l k → odd k ≡ odd l
  unfolding odd odd_pairs
  odd-moved [] [] v = refl
  odd-moved [] (s ∷ k) v = absurd v
  odd-moved (r ∷ l) [] v = absurd v
  odd-moved (r ∷ l) (s ∷ k) v = λ i. flip_if (oddly-moved r s v.0 l k v.1 i) (odd-moved l k v.1 i)

  -- with the hydrogen, where there is one
  hydrogen-moved : (x : Bool) (l k : List ℕ) → AllMoved l k → AllMoved (pick x (1 ∷ []) [] ++ l) (pick x (1 ∷ []) [] ++ k)
  hydrogen-moved true l k v = (Moved.low (omega arith) refl, v)
  hydrogen-moved false l k v = v

  -- the bonds at an atom, and the bonds moved up at the atom moved up
  module _ (old new : List ℤ) (a c : ℕ) (rank rank' : ℕ → ℕ) where
    from-moved : (b e k : ℕ) → ((j : ℕ) → j < k → touches new c (e + j) ≡ touches old a (b + j)) → ((j : ℕ) → j < k → Moved top n δ (rank (b + j)) (rank' (e + j)))
        → AllMoved (map rank (bonds_from old a b k)) (map rank' (bonds_from new c e k))
    unfolding bonds_from
    from-moved b e zero t m = tt
    from-moved b e (suc k) t m =
        go (touches old a b) (touches new c e) (ap (touches new c) (sym (add-zero e)) ∙ t 0 (omega arith) ∙ ap (touches old a) (add-zero b)) (rw (add-zero b, add-zero e) at (m 0 (omega arith)))
        (from-moved (suc b) (suc e) k (λ j l. ap (touches new c) (next e j) ∙ t (suc j) (omega arith) ∙ ap (touches old a) (sym (next b j))) (λ j l. rw (next b j, next e j) (m (suc j) (omega arith))))
      where
        go : (x y : Bool) → y ≡ x → Moved top n δ (rank b) (rank' e) → AllMoved (map rank (bonds_from old a (suc b) k)) (map rank' (bonds_from new c (suc e) k))
            → AllMoved (map rank (pick x (b ∷ bonds_from old a (suc b) k) (bonds_from old a (suc b) k))) (map rank' (pick y (e ∷ bonds_from new c (suc e) k) (bonds_from new c (suc e) k)))
        go true true q v rest = (v, rest)
        go true false q v rest = absurd (true≢false (sym q))
        go false true q v rest = absurd (true≢false q)
        go false false q v rest = rest

  turns-moved : (old new : List ℤ) (m m' a c : ℕ) (rank rank' : ℕ → ℕ) (t u : List ℤ) → hydrogens u c ≡ hydrogens t a → AllMoved (map rank (bonds_at old m a)) (map rank' (bonds_at new m' c)) → turns rank' u new m' c ≡ turns rank t old m a
  unfolding turns
  turns-moved old new m m' a c rank rank' t u e v =
      ap (λ (h : ℕ). odd (hydrogen_rank h ++ map rank' (bonds_at new m' c))) e
      ∙ odd-moved (hydrogen_rank (hydrogens t a) ++ map rank (bonds_at old m a)) (hydrogen_rank (hydrogens t a) ++ map rank' (bonds_at new m' c)) (hydrogen-moved (eqb (hydrogens t a) 1) (map rank (bonds_at old m a)) (map rank' (bonds_at new m' c)) v)

-- ---- the bonds at an atom of the join
module _ (bonds : List ℤ) (a : ℕ) where
  from-none : (b m : ℕ) → ((j : ℕ) → j < m → touches bonds a (b + j) ≡ false) → bonds_from bonds a b m ≡ []
  unfolding bonds_from
  from-none b zero h = refl
  from-none b (suc m) h =
      let e : touches bonds a b ≡ false = ap (touches bonds a) (sym (add-zero b)) ∙ h 0 (omega arith) in
      rw e (from-none (suc b) m (λ j l. ap (touches bonds a) (next b j) ∙ h (suc j) (omega arith)))

  -- the first m do not touch it
  from-skip : (b m k : ℕ) → ((j : ℕ) → j < m → touches bonds a (b + j) ≡ false) → bonds_from bonds a b (m + k) ≡ bonds_from bonds a (b + m) k
  unfolding bonds_from
  from-skip b zero k h = rw (zero-add k, add-zero b)
  from-skip b (suc m) k h =
      let e : touches bonds a b ≡ false = ap (touches bonds a) (sym (add-zero b)) ∙ h 0 (omega arith) in
      rw (suc-add m k, e, sym (next b m)) (from-skip (suc b) m k (λ j l. ap (touches bonds a) (next b j) ∙ h (suc j) (omega arith)))

  -- the last k do not touch it, and the first m as in another table
  from_first : (old : List ℤ) (b m k : ℕ) → ((j : ℕ) → j < m → touches bonds a (b + j) ≡ touches old a (b + j)) → ((j : ℕ) → j < k → touches bonds a (b + m + j) ≡ false) → bonds_from bonds a b (m + k) ≡ bonds_from old a b m
  unfolding bonds_from
  from_first old b zero k h n = rw (zero-add k) (from-none b k (λ j l. ap (λ (x : ℕ). touches bonds a (x + j)) (sym (add-zero b)) ∙ n j l))
  from_first old b (suc m) k h n =
      let e : touches bonds a b ≡ touches old a b = ap (touches bonds a) (sym (add-zero b)) ∙ h 0 (omega arith) ∙ ap (touches old a) (add-zero b) in
      rw (suc-add m k, e, from_first old (suc b) m k (λ j l. ap (touches bonds a) (next b j) ∙ h (suc j) (omega arith) ∙ ap (touches old a) (sym (next b j))) (λ j l. ap (λ (x : ℕ). touches bonds a (x + j)) (next b m) ∙ n j l))

module _ {n m k : ℕ} {bonds1 bonds2 bonds : List ℤ} (w : BondsBeside n m k bonds1 bonds2 bonds) where
  bonds-first : (a : ℕ) → a < n → bonds_at bonds (m + k) a ≡ bonds_at bonds1 m a
  unfolding bonds_at
  bonds-first a h =
      from_first bonds a bonds1 0 m k
      (λ j l. ap (touches bonds a) (zero-add j) ∙ touch-first w a j l ∙ ap (touches bonds1 a) (sym (zero-add j)))
      (λ j l. ap (λ (x : ℕ). touches bonds a (x + j)) (zero-add m) ∙ touch-low w a j h l)

  bonds-second : (a : ℕ) → bonds_at bonds (m + k) (n + a) ≡ bonds_from bonds (n + a) m k
  unfolding bonds_at
  bonds-second a = from-skip bonds (n + a) 0 m k (λ j l. ap (touches bonds (n + a)) (zero-add j) ∙ touch-high w a j l) ∙ ap (λ (x : ℕ). bonds_from bonds (n + a) x k) (zero-add m)

  -- ranks that are the same turn the same marks of the first
  pub turns-first : (rank rank' : ℕ → ℕ) (t u : List ℤ) (a : ℕ) → a < n → hydrogens u a ≡ hydrogens t a → ((b : ℕ) → b < m → rank' b ≡ rank b) → turns rank' u bonds (m + k) a ≡ turns rank t bonds1 m a
  unfolding turns
  turns-first rank rank' t u a h e f = rw (e, bonds-first a h, ranks-same bonds1 a rank' rank m (λ c l s. f c l))

  -- and ranks that move up those of the second
  pub turns-second : (top δ : ℕ) → 2 ≤ top → (rank rank' : ℕ → ℕ) (t u : List ℤ) (a : ℕ) → hydrogens u (n + a) ≡ hydrogens t a → ((b : ℕ) → b < k → Moved top n δ (rank b) (rank' (m + b))) → turns rank' u bonds (m + k) (n + a) ≡ turns rank t bonds2 k a
  unfolding bonds_at
  turns-second top δ two rank rank' t u a e f =
      turns-moved top n δ two bonds2 bonds k (m + k) a (n + a) rank rank' t u e
      (rw (bonds-second a)
      (from-moved top n δ two bonds2 bonds a (n + a) rank rank' 0 m k
      (λ j l. touch-second w a j l ∙ ap (touches bonds2 a) (sym (zero-add j)))
      (λ j l. rw (zero-add j) (f j l))))
