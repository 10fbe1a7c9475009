-- Keys are kept by every redrawing: an atom and its image have equal keys, and the sums over all atoms are equal. Assumes nothing.
use mathlib.Core.Path.{◌≡◌, refl, sym, ap, ◌∙◌, subst}
use mathlib.Core.Bool.{Bool, true, false, ◌&&◌, ◌||◌}
use mathlib.Core.List.{List}
use Prim.Native.Nat.{ℕ, zero, suc, ◌+◌, ◌<◌, ◌≤◌}
use native.Mathlib.Omega.{arith}
use native.Mathlib.Nat.{add-zero}
use lib.Dec.{eqb}
use lib.ListN.{length, drop, replicate, length-set, length-append, length-drop, length-replicate}
use borrow.Author.Tests.{eqb-true}
use Rattle.loops.specs.Loop.{pick, run, up_to}
use Rattle.loops.proofs.Loops.{length-up_to, up_to-at, filled_at}
use Rattle.table.specs.Cells.{number, end1, end2}
use Rattle.table.specs.Valid.{Valid}
use Rattle.table.proofs.Valid.{bond-row}
use Rattle.table_graph.specs.Built.{bump}
use Rattle.same_model.specs.Same.{max_same, Molecule, image, joins}
use Rattle.same_model.specs.Redrawing.{settled_sum, joined, Redrawing}
use Rattle.same_model.proofs.Cells.{alike}
use Rattle.same_model.proofs.Totals.{total, run_more, run-total, total-same, total-none, total-at, total-exchange, total-permuted}
use Rattle.same_model.proofs.Single.{joined-total}
use Rattle.same_keys.specs.Keys.{mixed, stirred, charge_number, first_key, at, filled_to, mixed_at, join_keys, spread, next_keys, rounds, refined, keys_of, key_sum}
use Rattle.same_keys.proofs.Low.{bump_at}
use Rattle.same_keys.proofs.Spreading.{join-length, next-length}

-- one bond: each of its ends adds what the other has
module _ (mx : List ℕ) (e f : ℕ → ℕ) (a : ℕ) where
  abbrev adds : ℕ → ℕ
  adds k = pick (eqb (e k) a) (at mx (f k)) 0 + pick (eqb (f k) a) (at mx (e k)) 0

  join-at : (k : ℕ) (keys : List ℕ) → a < length keys → at (join_keys mx (e k) (f k) keys) a ≡ at keys a + adds k
  unfolding join_keys
  join-at k keys l =
      let j : a < length (bump keys (e k) (at mx (f k))) = simp length-set l in
      omega (arith, bump_at keys (e k) (at mx (f k)) a l, bump_at (bump keys (e k) (at mx (f k))) (f k) (at mx (e k)) a j)

  run_at : (k j : ℕ) (keys : List ℕ) → a < length keys → at (run (spread e f mx) k j keys) a ≡ run (λ (i s : ℕ). s + adds i) k j (at keys a)
  unfolding run
  run_at k zero keys l = refl
  run_at k (suc j) keys l =
      run_at (suc k) j (join_keys mx (e k) (f k) keys) (rw (join-length mx (e k) (f k) keys) l) ∙ ap (run (λ (i s : ℕ). s + adds i) (suc k) j) (join-at k keys l)

-- a bond has one other end
pub other-end : (n a e f : ℕ) (g : ℕ → ℕ) → e < f → f < n → pick (eqb e a) (g f) 0 + pick (eqb f a) (g e) 0 ≡ total (λ b. pick ((eqb e a && eqb f b) || (eqb e b && eqb f a)) (g b) 0) n
other-end n a e f g l h = go (eqb e a) (eqb f a) refl refl
  where
    cut : (b : ℕ) (p q : Bool) → pick (p || (q && false)) (g b) 0 ≡ pick p (g b) 0
    cut b true q = refl
    cut b false true = refl
    cut b false false = refl

    keep : (b : ℕ) (q : Bool) → pick (q && true) (g b) 0 ≡ pick q (g b) 0
    keep b true = refl
    keep b false = refl

    go : (y z : Bool) → eqb e a ≡ y → eqb f a ≡ z → pick y (g f) 0 + pick z (g e) 0 ≡ total (λ b. pick ((y && eqb f b) || (eqb e b && z)) (g b) 0) n
    go true true p q = let u = eqb-true e a p in let w = eqb-true f a q in absurd (omega arith)
    go true false p q =
        add-zero (g f)
        ∙ sym (total-same (λ b. pick ((true && eqb f b) || (eqb e b && false)) (g b) 0) (λ b. pick (eqb f b) (g b) 0) n (λ b i. cut b (eqb f b) (eqb e b)) ∙ total-at f n g h)
    go false true p q =
        omega (arith, total-same (λ b. pick ((false && eqb f b) || (eqb e b && true)) (g b) 0) (λ b. pick (eqb e b) (g b) 0) n (λ b i. keep b (eqb e b)) ∙ total-at e n g (omega arith))
    go false false p q = sym (total-none (λ b. pick ((false && eqb f b) || (eqb e b && false)) (g b) 0) n (λ b i. cut b false (eqb e b)))

-- numbers spread over the bonds of a molecule: each atom adds those of the atoms that it is joined to
module _ (x : Molecule) (v : Valid x.atoms x.bonds x.n x.m) where
  adds_total : (mx : List ℕ) (a k : ℕ) → k < x.m → adds mx (end1 x.bonds) (end2 x.bonds) a k ≡ total (λ b. pick (joins x a b k) (at mx b) 0) x.n
  unfolding joins
  adds_total mx a k l = let r = bond-row v k l in other-end x.n a (end1 x.bonds k) (end2 x.bonds k) (at mx) r.order r.second

  pub spread_at : (mx keys : List ℕ) (a : ℕ) → a < length keys → at (run (spread (end1 x.bonds) (end2 x.bonds) mx) 0 x.m keys) a ≡ at keys a + total (λ b. pick (joined x a b) (at mx b) 0) x.n
  spread_at mx keys a l =
      run_at mx (end1 x.bonds) (end2 x.bonds) a 0 x.m keys l
      ∙ run_more (adds mx (end1 x.bonds) (end2 x.bonds) a) x.m (at keys a)
      ∙ ap (λ (s : ℕ). at keys a + s)
      (total-same (adds mx (end1 x.bonds) (end2 x.bonds) a) (λ k. total (λ b. pick (joins x a b k) (at mx b) 0) x.n) x.m (adds_total mx a)
      ∙ sym (total-exchange (λ b k. pick (joins x a b k) (at mx b) 0) x.n x.m)
      ∙ total-same (λ b. total (λ k. pick (joins x a b k) (at mx b) 0) x.m) (λ b. pick (joined x a b) (at mx b) 0) x.n (λ b i. joined-total x v a b (at mx b)))

  -- a round: they are the mixed keys
  abbrev pub next : List ℕ → List ℕ
  next keys = next_keys (end1 x.bonds) (end2 x.bonds) x.m x.n keys

  pub next-at : (keys : List ℕ) (a : ℕ) → a < length keys → at (next keys) a ≡ at keys a + total (λ b. pick (joined x a b) (mixed_at keys b) 0) x.n
  unfolding next_keys
  next-at keys a l =
      let mx = up_to (mixed_at keys) 0 x.n in
      spread_at mx keys a l
      ∙ ap (λ (s : ℕ). at keys a + s)
      (total-same (λ b. pick (joined x a b) (at mx b) 0) (λ b. pick (joined x a b) (mixed_at keys b) 0) x.n (λ b i. ap (λ (s : ℕ). pick (joined x a b) s 0) (up_to-at (mixed_at keys) x.n b 0 i)))

-- an atom and its image have equal keys
pub record Kept (n : ℕ) (t keys1 keys2 : List ℕ) : Type 0 where
  pub size1 : length keys1 ≡ max_same
  pub size2 : length keys2 ≡ max_same
  pub kept : (a : ℕ) → a < n → at keys1 a ≡ at keys2 (image t a)

module _ {x y : Molecule} (w : Redrawing x y) (v1 : Valid x.atoms x.bonds x.n x.m) (v2 : Valid y.atoms y.bonds y.n y.m) (few : x.n ≤ max_same) where
  abbrev pub t : List ℕ
  t = w.renumbering

  pub few2 : y.n ≤ max_same
  few2 = let e : x.n ≡ y.n = w.counts in omega arith

  pub below : (a : ℕ) → a < x.n → image t a < y.n
  below a l = let q = w.renumbers.below a l in let e : x.n ≡ y.n = w.counts in omega arith

  next-kept : (keys1 keys2 : List ℕ) → Kept x.n t keys1 keys2 → Kept x.n t (next x v1 keys1) (next y v2 keys2)
  next-kept keys1 keys2 k =
      record {
        size1 = next-length (end1 x.bonds) (end2 x.bonds) x.m x.n keys1 ∙ k.size1;
        size2 = next-length (end1 y.bonds) (end2 y.bonds) y.m y.n keys2 ∙ k.size2;
        kept = λ a l.
            next-at x v1 keys1 a (omega (arith, k.size1))
            ∙ (λ i. k.kept a l i + same a l i)
            ∙ sym (next-at y v2 keys2 (image t a) (let q = below a l in omega (arith, k.size2, few2)));
      }
    where
      same : (a : ℕ) → a < x.n → total (λ b. pick (joined x a b) (mixed_at keys1 b) 0) x.n ≡ total (λ b. pick (joined y (image t a) b) (mixed_at keys2 b) 0) y.n
      same a l =
          total-same (λ b. pick (joined x a b) (mixed_at keys1 b) 0) (λ b. pick (joined y (image t a) (image t b)) (mixed_at keys2 (image t b)) 0) x.n (λ b h. λ i. pick (w.bonds a b l h i) (mixed (k.kept b h i)) 0)
          ∙ total-permuted x.n (image t) w.renumbers.below w.renumbers.one (λ b. pick (joined y (image t a) b) (mixed_at keys2 b) 0)
          ∙ ap (total (λ b. pick (joined y (image t a) b) (mixed_at keys2 b) 0)) w.counts

  pub rounds-kept : (k j : ℕ) (keys1 keys2 : List ℕ) → Kept x.n t keys1 keys2
      → Kept x.n t (run (λ (i : ℕ) (s : List ℕ). next x v1 s) k j keys1) (run (λ (i : ℕ) (s : List ℕ). next y v2 s) k j keys2)
  unfolding run
  rounds-kept k zero keys1 keys2 h = h
  rounds-kept k (suc j) keys1 keys2 h = rounds-kept (suc k) j (next x v1 keys1) (next y v2 keys2) (next-kept keys1 keys2 h)

  -- the keys that atoms begin with
  first-kept : (a : ℕ) → a < x.n → first_key x.atoms a (settled_sum x a) ≡ first_key y.atoms (image t a) (settled_sum y (image t a))
  unfolding first_key
  first-kept a l =
      let c = alike x y a (image t a) (w.cells a l) in
      λ i.
      stirred
      (stirred (stirred (stirred (stirred (w.sums a l i) (number (c.element i))) (number (c.isotope i))) (number (c.hydrogens i))) (charge_number (c.charge i)))
      (number (c.extension i))

  -- every redrawing keeps the keys
  pub keys_kept : Kept x.n t (keys_of x) (keys_of y)
  unfolding keys_of refined
  keys_kept =
      subst (λ (k : ℕ). Kept x.n t (run (λ (i : ℕ) (s : List ℕ). next x v1 s) 0 (rounds x.n) (filled_to first1 x.n)) (run (λ (i : ℕ) (s : List ℕ). next y v2 s) 0 (rounds k) (filled_to first2 y.n))) w.counts
      (rounds-kept 0 (rounds x.n) (filled_to first1 x.n) (filled_to first2 y.n)
      (record {
        size1 = filled-length first1 x.n few;
        size2 = filled-length first2 y.n few2;
        kept = λ a l.
            filled_at first1 x.n a 0 (filled_to first1 x.n) (drop x.n (replicate max_same 0)) refl l
            ∙ first-kept a l
            ∙ sym (filled_at first2 y.n (image t a) 0 (filled_to first2 y.n) (drop y.n (replicate max_same 0)) refl (below a l));
      }))
    where
      first1 : ℕ → ℕ
      first1 a = first_key x.atoms a (settled_sum x a)

      first2 : ℕ → ℕ
      first2 a = first_key y.atoms a (settled_sum y a)

      filled-length : (f : ℕ → ℕ) (n : ℕ) → n ≤ max_same → length (filled_to f n) ≡ max_same
      filled-length f n l =
          length-append (up_to f 0 n) (drop n (replicate max_same 0)) ∙ omega (arith, length-up_to f 0 n, length-drop n (replicate {A = ℕ} max_same 0), length-replicate {A = ℕ} max_same 0)

  -- so do their sums
  pub sums_kept : key_sum (keys_of x) x.n ≡ key_sum (keys_of y) y.n
  unfolding key_sum
  sums_kept =
      run-total (mixed_at (keys_of x)) x.n
      ∙ total-same (mixed_at (keys_of x)) (λ a. mixed_at (keys_of y) (image t a)) x.n (λ a l. ap mixed (keys_kept.kept a l))
      ∙ total-permuted x.n (image t) w.renumbers.below w.renumbers.one (mixed_at (keys_of y))
      ∙ ap (total (mixed_at (keys_of y))) w.counts
      ∙ sym (run-total (mixed_at (keys_of y)) y.n)
