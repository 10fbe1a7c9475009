-- Keys for pairs of atoms: what the matrix holds, and that every redrawing keeps them. Assumes nothing.
use mathlib.Core.Path.{◌≡◌, refl, sym, ap, ◌∙◌}
use mathlib.Core.Bool.{Bool, true, false}
use mathlib.Core.List.{List}
use Prim.Native.Nat.{ℕ, zero, suc, ◌+◌, ◌*◌, ◌<◌, ◌≤◌, ◌%◌}
use native.Mathlib.Omega.{arith}
use native.Mathlib.Nat.{mod-lt, div-add-mod'}
use lib.Dec.{eqb, ltb}
use lib.ListN.{length, get_or, set, replicate, length-set, length-replicate, get_or-eq_default}
use lib.Seq.{get_or-set_same, get_or-set_other}
use borrow.Author.Tests.{eqb-true, eqb-false, eq-eqb, ltb-true, ltb-false}
use Rattle.loops.specs.Loop.{pick, run}
use Rattle.matching.proofs.Graph.{same_bool}
use Rattle.table.specs.Cells.{end1, end2}
use Rattle.table.specs.Valid.{Valid}
use Rattle.table_graph.specs.Built.{bump, Wired}
use Rattle.same_model.specs.Same.{max_same, Molecule, image}
use Rattle.same_model.specs.Redrawing.{settled_sum, Redrawing}
use Rattle.same_place.specs.Place.{entry}
use Rattle.same_keys.specs.Keys.{prime, first_key, at, filled_to, rounds, refined, keys_of, apart_by, pair_rounds, pair_limit, told_apart, pair_cell, set_cell, row_filled, pairs_filled, pairs_of, pair_key, Low, highest}
use Rattle.same_keys.proofs.Low.{bump_at, low-more, low-filled, zeros-low}
use Rattle.same_keys.proofs.Mixing.{first-key-low}
use Rattle.same_keys.proofs.Spreading.{refined-low, run_agree}
use Rattle.same_keys.proofs.Filling.{first-at, second_at, refined-agree}
use Rattle.same_keys.proofs.Kept.{Kept, below, rounds-kept, keys_kept}

-- the keys of a molecule stay low
pub keys-low : (x : Molecule) → Valid x.atoms x.bonds x.n x.m → x.n ≤ max_same → Low (keys_of x) (highest 33)
unfolding keys_of
keys-low x v few =
    low-more
    (refined-low (end1 x.bonds) (end2 x.bonds) x.m x.n (rounds x.n) 0 (filled_to (λ a. first_key x.atoms a (settled_sum x a)) x.n) v.bonds_few
    (low-more (low-filled (λ a. first_key x.atoms a (settled_sum x a)) x.n prime (λ a. omega (arith, first-key-low x.atoms a (settled_sum x a)))) (omega arith)))
    (let h = div-add-mod' x.n 2 in omega arith)

-- a number stored in a list
set-low : (p : List ℕ) (i v h : ℕ) → Low p h → v ≤ h → Low (set p i v) h
set-low p i v h w l = record { at = λ j. go j (eqb j i) (ltb i (length p)) refl refl }
  where
    go : (j : ℕ) (y z : Bool) → eqb j i ≡ y → ltb i (length p) ≡ z → get_or (set p i v) j 0 ≤ h
    go j true true e f = let q : j ≡ i = eqb-true j i e in rw q (omega (arith, get_or-set_same p i v 0 (ltb-true i (length p) f)))
    go j true false e f =
        let q = eqb-true j i e in
        let k = ltb-false i (length p) f in
        let n : length (set p i v) ≤ j = simp length-set (omega arith) in
        omega (arith, get_or-eq_default (set p i v) 0 {n = j} n)
    go j false z e f = omega (arith, get_or-set_other p i j v 0 (eqb-false j i e), w.at j)

-- a row, cell by cell
module _ (g : ℕ → ℕ) (a : ℕ) where
  row-length : (k j : ℕ) (p : List ℕ) → length (run (set_cell g a) k j p) ≡ length p
  unfolding run
  row-length k zero p = refl
  row-length k (suc j) p = row-length (suc k) j (set_cell g a k p) ∙ length-set p (max_same * a + k) (g k)

  row_out : (k j q : ℕ) (p : List ℕ) → ((i : ℕ) → k ≤ i → i < k + j → q ≡ max_same * a + i → ⊥) → get_or (run (set_cell g a) k j p) q 0 ≡ get_or p q 0
  unfolding run
  row_out k zero q p h = refl
  row_out k (suc j) q p h =
      row_out (suc k) j q (set_cell g a k p) (λ i l u. h i (omega arith) (omega arith)) ∙ get_or-set_other p (max_same * a + k) q (g k) 0 (h k (omega arith) (omega arith))

  row_in : (k j d : ℕ) (p : List ℕ) → max_same * a + (k + j) ≤ length p → k ≤ d → d < k + j → get_or (run (set_cell g a) k j p) (max_same * a + d) 0 ≡ g d
  unfolding run
  row_in k zero d p l u w = absurd (omega arith)
  row_in k (suc j) d p l u w = go (eqb k d) refl (λ i. row_in (suc k) j d (set_cell g a k p) (rw (length-set p (max_same * a + k) (g k)) (omega arith)) i (omega arith))
    where
      go : (z : Bool) → eqb k d ≡ z → (suc k ≤ d → get_or (run (set_cell g a) (suc k) j (set_cell g a k p)) (max_same * a + d) 0 ≡ g d) → get_or (run (set_cell g a) (suc k) j (set_cell g a k p)) (max_same * a + d) 0 ≡ g d
      go true e ih =
          let q : k ≡ d = eqb-true k d e in
          row_out (suc k) j (max_same * a + d) (set_cell g a k p) (λ i l u r. omega arith)
          ∙ ap (λ (c : ℕ). get_or (set p (max_same * a + c) (g c)) (max_same * a + d) 0) q
          ∙ get_or-set_same p (max_same * a + d) (g d) 0 (omega arith)
      go false e ih = let q = eqb-false k d e in ih (omega arith)

  row_low : (h : ℕ) → ((i : ℕ) → g i ≤ h) → (k j : ℕ) (p : List ℕ) → Low p h → Low (run (set_cell g a) k j p) h
  unfolding run
  row_low h l k zero p w = w
  row_low h l k (suc j) p w = row_low h l (suc k) j (set_cell g a k p) (set-low p (max_same * a + k) (g k) h w (l k))

-- the rows one after the other
module _ (n : ℕ) (few : n ≤ max_same) (G : ℕ → ℕ → ℕ) where
  abbrev fill_row : ℕ → List ℕ → List ℕ
  fill_row a s = row_filled n (G a) a s

  rows-length : (k j : ℕ) (p : List ℕ) → length (run fill_row k j p) ≡ length p
  unfolding run row_filled
  rows-length k zero p = refl
  rows-length k (suc j) p = rows-length (suc k) j (fill_row k p) ∙ row-length (G k) k 0 n p

  rows_out : (k j c d : ℕ) (p : List ℕ) → d < max_same → c < k → entry (run fill_row k j p) c d ≡ entry p c d
  unfolding run row_filled
  rows_out k zero c d p l u = refl
  rows_out k (suc j) c d p l u = rows_out (suc k) j c d (fill_row k p) l (omega arith) ∙ row_out (G k) k 0 n (max_same * c + d) p (λ i v w q. omega arith)

  rows_in : (k j c d : ℕ) (p : List ℕ) → length p ≡ max_same * max_same → k + j ≤ max_same → k ≤ c → c < k + j → d < n → entry (run fill_row k j p) c d ≡ G c d
  unfolding run row_filled
  rows_in k zero c d p s l u w h = absurd (omega arith)
  rows_in k (suc j) c d p s l u w h = go (eqb k c) refl (λ i. rows_in (suc k) j c d (fill_row k p) (row-length (G k) k 0 n p ∙ s) (omega arith) i (omega arith) h)
    where
      go : (z : Bool) → eqb k c ≡ z → (suc k ≤ c → entry (run fill_row (suc k) j (fill_row k p)) c d ≡ G c d) → entry (run fill_row (suc k) j (fill_row k p)) c d ≡ G c d
      go true e ih =
          let q : k ≡ c = eqb-true k c e in
          rows_out (suc k) j c d (fill_row k p) (omega arith) (omega arith)
          ∙ ap (λ (i : ℕ). get_or (run (set_cell (G i) i) 0 n p) (max_same * c + d) 0) q
          ∙ row_in (G c) c 0 n d p (omega arith) (omega arith) (omega arith)
      go false e ih = let q = eqb-false k c e in ih (omega arith)

  rows-low : (h : ℕ) → ((a i : ℕ) → G a i ≤ h) → (k j : ℕ) (p : List ℕ) → Low p h → Low (run fill_row k j p) h
  unfolding run row_filled
  rows-low h l k zero p w = w
  rows-low h l k (suc j) p w = rows-low h l (suc k) j (fill_row k p) (row_low (G k) k h (l k) 0 n p w)

cell-low : (keys : List ℕ) (b : ℕ) → pair_cell keys b ≤ 40000
cell-low keys b = omega (arith, mod-lt (at keys b) {m = pair_limit} (omega arith))

-- the matrix that is filled in
module _ (x : Molecule) (keys : List ℕ) where
  pub pairs-off : {on : Bool} → on ≡ false → {p : List ℕ} → p ≡ replicate (max_same * max_same) 0 → p ≡ pairs_of on x keys
  unfolding pairs_of
  pairs-off e q = q ∙ rw e

  pub pairs-on : {on : Bool} → on ≡ true → Valid x.atoms x.bonds x.n x.m → x.n ≤ max_same → {ea eb el : List ℕ} → Wired x.bonds x.m ea eb el → {p₀ p : List ℕ} → p₀ ≡ replicate (max_same * max_same) 0
      → p ≡ pairs_filled (at ea) (at eb) x.m x.n keys p₀ → p ≡ pairs_of on x keys
  unfolding pairs_of pairs_filled told_apart
  pairs-on e v few {ea} {eb} w {p₀} q r =
      r
      ∙ run_agree (λ (a : ℕ) (s : List ℕ). row_filled x.n (pair_cell (refined (at ea) (at eb) x.m x.n pair_rounds (bump keys a apart_by))) a s)
      (λ (a : ℕ) (s : List ℕ). row_filled x.n (pair_cell (refined (end1 x.bonds) (end2 x.bonds) x.m x.n pair_rounds (bump keys a apart_by))) a s) 0 x.n p₀
      (λ a s l. ap (λ (z : List ℕ). row_filled x.n (pair_cell z) a s) (refined-agree (at ea) (at eb) (end1 x.bonds) (end2 x.bonds) x.m x.n (first-at w) (second_at w) pair_rounds (bump keys a apart_by)))
      ∙ rw (e, q)

  pub pairs-at : (on : Bool) → x.n ≤ max_same → (a b : ℕ) → a < x.n → b < x.n → entry (pairs_of on x keys) a b ≡ 4 * pair_key on x keys a b
  unfolding pairs_of pairs_filled
  pairs-at true few a b la lb =
      rows_in x.n few (λ a. pair_cell (told_apart (end1 x.bonds) (end2 x.bonds) x.m x.n keys a)) 0 x.n a b (replicate (max_same * max_same) 0) (length-replicate {A = ℕ} (max_same * max_same) 0) (omega arith) (omega arith) (omega arith) lb
  pairs-at false few a b la lb = let l = (zeros-low (max_same * max_same) 0).at (max_same * a + b) in omega arith

  pub pairs-length : (on : Bool) → x.n ≤ max_same → length (pairs_of on x keys) ≡ max_same * max_same
  unfolding pairs_of pairs_filled
  pairs-length true few =
      rows-length x.n few (λ a. pair_cell (told_apart (end1 x.bonds) (end2 x.bonds) x.m x.n keys a)) 0 x.n (replicate (max_same * max_same) 0) ∙ length-replicate {A = ℕ} (max_same * max_same) 0
  pairs-length false few = length-replicate {A = ℕ} (max_same * max_same) 0

  pub pairs-low : (on : Bool) → x.n ≤ max_same → Low (pairs_of on x keys) 40000
  unfolding pairs_of pairs_filled
  pairs-low true few = rows-low x.n few (λ a. pair_cell (told_apart (end1 x.bonds) (end2 x.bonds) x.m x.n keys a)) 40000 (λ a. cell-low (told_apart (end1 x.bonds) (end2 x.bonds) x.m x.n keys a)) 0 x.n (replicate (max_same * max_same) 0) (zeros-low (max_same * max_same) 40000)
  pairs-low false few = zeros-low (max_same * max_same) 40000

-- every redrawing keeps the keys of pairs
module _ {x y : Molecule} (w : Redrawing x y) (v1 : Valid x.atoms x.bonds x.n x.m) (v2 : Valid y.atoms y.bonds y.n y.m) (few : x.n ≤ max_same) where
  abbrev u : List ℕ
  u = w.renumbering

  same-eqb : (a b : ℕ) → a < x.n → b < x.n → eqb a b ≡ eqb (image u a) (image u b)
  same-eqb a b la lb =
      same_bool (eqb a b) (eqb (image u a) (image u b))
      (λ h. eq-eqb (image u a) (image u b) (ap (image u) (eqb-true a b h)))
      (λ h. eq-eqb a b (w.renumbers.one a b la lb (eqb-true (image u a) (image u b) h)))

  apart-kept : (keys1 keys2 : List ℕ) → Kept x.n u keys1 keys2 → (a : ℕ) → a < x.n → Kept x.n u (bump keys1 a apart_by) (bump keys2 (image u a) apart_by)
  apart-kept keys1 keys2 k a l =
      record {
        size1 = length-set keys1 a (get_or keys1 a 0 + apart_by) ∙ k.size1;
        size2 = length-set keys2 (image u a) (get_or keys2 (image u a) 0 + apart_by) ∙ k.size2;
        kept = λ b h.
            bump_at keys1 a apart_by b (omega (arith, k.size1))
            ∙ (λ i. k.kept b h i + pick (same-eqb a b l h i) apart_by 0)
            ∙ sym (bump_at keys2 (image u a) apart_by (image u b) (let q = below w v1 v2 few b h in let e : x.n ≡ y.n = w.counts in omega (arith, k.size2)));
      }

  pub pairs-kept : (on : Bool) (a b : ℕ) → a < x.n → b < x.n → pair_key on x (keys_of x) a b ≡ pair_key on y (keys_of y) (image u a) (image u b)
  unfolding told_apart refined
  pairs-kept true a b la lb =
      ap (λ (s : ℕ). s % pair_limit)
      ((rounds-kept w v1 v2 few 0 pair_rounds (bump (keys_of x) a apart_by) (bump (keys_of y) (image u a) apart_by) (apart-kept (keys_of x) (keys_of y) (keys_kept w v1 v2 few) a la)).kept b lb)
  pairs-kept false a b la lb = refl
