-- What the walk over matrices finds is what P4 defines; the renumbering handed out. Assumes nothing.
use mathlib.Core.Path.{◌≡◌, refl, sym, ap, ◌∙◌, subst}
use mathlib.Core.Bool.{Bool, true, false, ◌&&◌}
use mathlib.Core.List.{List, [], ◌∷◌, ◌++◌, append-nil}
use Prim.Native.Nat.{ℕ, ◌+◌, ◌-◌, ◌*◌, ◌<◌, ◌≤◌}
use native.Mathlib.Omega.{arith}
use lib.IntN.{ℤ}
use lib.Dec.{eqb, ltb}
use lib.ListN.{length, get_or, take, drop, replicate, length-append, length-replicate, get_or-replicate, get_or-append}
use lib.Seq.{length-take-le, get_or-take, get_or-append-add, drop-length, ext_get_or}
use borrow.Author.Tests.{eq-eqb, eqb-false, lt-ltb, le-ltb, ltb-true, ltb-false}
use Rattle.loops.specs.Loop.{pick, up_to}
use Rattle.loops.proofs.Loops.{length-up_to, up_to-at}
use Rattle.matching.specs.Enumeration.{Row, fill}
use Rattle.matching.specs.Model.{some?, head_or}
use Rattle.matching.proofs.Graph.{never}
use Rattle.table.proofs.Valid.{Enough, enough-facts}
use Rattle.same_model.specs.Same.{max_same, Molecule, molecule, settled, image, fits, fitting, partners, partnered, same?, first_row, second_row, first_renumbering}
use Rattle.same_model.specs.Redrawing.{Renumbering, Placement, Same, Redrawing}
use Rattle.same_model.proofs.Sameness.{carried-facts, placements-all, fitting-head, partners-head, partnered-head, same-fact}
use Rattle.same_model.proofs.Redrawn.{same-redrawing, redrawn-by}
use Rattle.same_place.specs.Place.{entry, goods}
use Rattle.same_keys.specs.Keys.{keys_of, key_sum, pairs_of, pair_key}
use Rattle.same_keys.proofs.Low.{low_same}
use Rattle.same_keys.proofs.Kept.{keys_kept, sums_kept}
use Rattle.same_keys.proofs.Pairs.{keys-low, pairs-at, pairs-length, pairs-low, pairs-kept}
use Rattle.same_drawing.specs.Drawing.{match_cell}
use Rattle.same_drawing.proofs.Drawn.{orders-drawn, matches-filled}
use Rattle.same_drawing.proofs.Weights.{row-sums}
use Rattle.same_drawing.proofs.Fitting.{Finer, passing-agree, fitting-goods}
use Rattle.same_decide.specs.Decide.{Sketch, sketch, drawn_matrix, sum_of, ways, goes_with, seconds, seconds_for, has_second, firsts, Bounded, FirstFound}
use Rattle.same.specs.Ready.{Ready, Decided}

-- a list filled by index: the first n numbers of another, and zeros
module _ (found : List ℕ) (n len : ℕ) (room : n ≤ len) (size : n ≤ length found) where
  abbrev pub number_at : ℕ → ℕ
  number_at i = pick (ltb i n) (get_or found i 0) 0

  taken : length (take n found) ≡ n
  taken = length-take-le n found size

  at_fill : (i : ℕ) → i < len → number_at i ≡ get_or (fill len (take n found)) i 0
  at_fill i l = go (ltb i n) refl
    where
      go : (z : Bool) → ltb i n ≡ z → pick z (get_or found i 0) 0 ≡ get_or (take n found ++ replicate (len - length (take n found)) 0) i 0
      go true e =
          let k = ltb-true i n e in
          sym (get_or-append (take n found) (replicate (len - length (take n found)) 0) 0 i (omega (arith, taken)) ∙ get_or-take n found i 0 k)
      go false e =
          let k = ltb-false i n e in
          let j : length (take n found) + (i - n) ≡ i = omega (arith, taken) in
          sym (ap (get_d' (take n found ++ replicate (len - length (take n found)) 0)) (sym j) ∙ get_or-append-add (take n found) (replicate (len - length (take n found)) 0) (i - n) 0 ∙ get_or-replicate {A = ℕ} (len - length (take n found)) (i - n) 0 0 (omega (arith, taken)))
        where
          get_d' : List ℕ → ℕ → ℕ
          get_d' t i = get_or t i 0

  fill-length : length (fill len (take n found)) ≡ len
  fill-length = length-append (take n found) (replicate (len - length (take n found)) 0) ∙ rw (length-replicate) (omega (arith, taken))

  pub handed_out : up_to number_at 0 len ≡ fill len (take n found)
  handed_out =
      let s : length (up_to number_at 0 len) ≡ len = length-up_to number_at 0 len in
      ext_get_or 0 (up_to number_at 0 len) (fill len (take n found)) (s ∙ sym fill-length) (λ i l. up_to-at number_at len i 0 (omega arith) ∙ at_fill i (omega arith))

pub number_in : (found : List ℕ) (n i : ℕ) {r : ℕ} → i < n → r ≡ get_or found i 0 → r ≡ pick (ltb i n) (get_or found i 0) 0
number_in found n i l e = e ∙ sym (ap (λ (z : Bool). pick z (get_or found i 0) 0) (lt-ltb i n l))

pub number-out : (found : List ℕ) (n i : ℕ) → n ≤ i → 0 ≡ pick (ltb i n) (get_or found i 0) 0
number-out found n i l = sym (ap (λ (z : Bool). pick z (get_or found i 0) 0) (le-ltb i n l))

pub handed : (found : List ℕ) (n : ℕ) (ren₀ : List ℕ) → n ≤ length ren₀ → n ≤ length found → {ren : List ℕ} → ren ≡ up_to (λ i. pick (ltb i n) (get_or found i 0) 0) 0 (length ren₀) ++ drop (length ren₀) ren₀ → ren ≡ fill (length ren₀) (take n found)
handed found n ren₀ room size e = e ∙ rw (drop-length ren₀, append-nil (up_to (λ i. pick (ltb i n) (get_or found i 0) 0) 0 (length ren₀))) (handed_out found n (length ren₀) room size)

-- keys and pairs are low enough
pub bounded : (x : Molecule) (row : List ℕ) → Ready x row → (on : Bool) {base keys : List ℕ} → base ≡ pairs_of on x keys → keys ≡ keys_of x → Bounded x.n base keys
bounded x row w on {base} {keys} b k =
    record {
      low_base = low_same b (pairs-low x keys on w.few);
      low_keys = low_same k (keys-low x w.valid w.few);
      based = record { size = ap length b ∙ pairs-length x keys on w.few; key = pair_key on x keys; at = λ a d la ld. ap (λ (l : List ℕ). entry l a d) b ∙ pairs-at x keys on w.few a d la ld };
    }

-- a list that has no head
none-there : (l : List Row) → (some? l ≡ true → ⊥) → l ≡ []
none-there [] h = refl
none-there (t ∷ l) h = absurd (h refl)

module _ (atoms1 bonds1 : List ℤ) (m1 : ℕ) (atoms2 bonds2 : List ℤ) (m2 n : ℕ) (row1 row2 : List ℕ) (w1 : Ready (molecule atoms1 bonds1 n m1) row1) (w2 : Ready (molecule atoms2 bonds2 n m2) row2) where
  abbrev x : Molecule
  x = molecule atoms1 bonds1 n m1

  abbrev y : Molecule
  y = molecule atoms2 bonds2 n m2

  e1 : Enough atoms1 bonds1
  e1 = enough-facts atoms1 bonds1 w1.long

  e2 : Enough atoms2 bonds2
  e2 = enough-facts atoms2 bonds2 w2.long

  -- rows that settle to the same
  same_by : (r s : Row) → Placement x r → Placement y s → (t : List ℕ) → Renumbering n t → fits x y r s t ≡ true → Same x y
  same_by r s p1 p2 t w h = record { row1 = r; row2 = s; renumbering = t; counts = refl; placement1 = p1; placement2 = p2; renumbers = w; carried = h }

  -- one is a redrawing of the other, by the same renumbering
  redrawn : (r s : Row) (p1 : Placement x r) (p2 : Placement y s) (t : List ℕ) (w : Renumbering n t) (h : fits x y r s t ≡ true) → (d : Redrawing x y) × (d.renumbering ≡ t)
  unfolding same_by
  redrawn r s p1 p2 t w h = let f = same_by r s p1 p2 t w h in (same-redrawing f w1.valid e1 w2.valid e2, redrawn-by f w1.valid e1 w2.valid e2)

  -- unequal sums of keys: they are not the same
  pub unlike-sums : {k1 k2 : List ℕ} {s1 s2 : ℕ} → k1 ≡ keys_of x → k2 ≡ keys_of y → s1 ≡ key_sum k1 n → s2 ≡ key_sum k2 n → (s1 ≡ s2 → ⊥) → (ren : List ℕ) → Decided x y row1 row2 ren false row1 row2 ren
  unlike-sums {k1} {k2} q1 q2 u1 u2 h ren =
      record {
        long1 = refl;
        long2 = refl;
        long3 = refl;
        told = go (same? x y) refl;
        wrote1 = λ k. absurd (never false k refl);
        wrote2 = λ k. absurd (never false k refl);
        wrote3 = λ k. absurd (never false k refl);
      }
    where
      go : (z : Bool) → same? x y ≡ z → false ≡ z
      go true e =
          let w = same-redrawing (same-fact x y e) w1.valid e1 w2.valid e2 in
          absurd (h (u1 ∙ ap (λ (k : List ℕ). key_sum k n) q1 ∙ sums_kept w w1.valid w2.valid w1.few ∙ ap (λ (k : List ℕ). key_sum k n) (sym q2) ∙ sym u2))
      go false e = refl

  module _ {keys1 keys2 : List ℕ} (k1 : keys1 ≡ keys_of x) (k2 : keys2 ≡ keys_of y) (on : Bool) {base1 base2 : List ℕ} (b1 : base1 ≡ pairs_of on x keys1) (b2 : base2 ≡ pairs_of on y keys2) {ok : List ℕ} (rest : List ℕ)
      (filled : ok ≡ up_to (match_cell atoms1 keys1 atoms2 keys2) 0 (max_same * n) ++ rest) where
    abbrev drawn1 : Sketch
    drawn1 = sketch base1 keys1 bonds1 n m1

    abbrev drawn2 : Sketch
    drawn2 = sketch base2 keys2 bonds2 n m2

    module _ (r s : Row) (p1 : Placement x r) (p2 : Placement y s) where
      finer : (t : List ℕ) → Renumbering n t → fits x y r s t ≡ true → Finer n keys1 keys2 (pair_key on x keys1) (pair_key on y keys2) t
      finer t w h =
          let d = redrawn r s p1 p2 t w h in
          record {
            keys = λ a l. rw (k1, k2) (subst (λ (u : List ℕ). get_or (keys_of x) a 0 ≡ get_or (keys_of y) (image u a) 0) d.1 ((keys_kept d.0 w1.valid w2.valid w1.few).kept a l));
            pairs = λ a b la lb.
                rw (k1, k2) (subst (λ (u : List ℕ). pair_key on x (keys_of x) a b ≡ pair_key on y (keys_of y) (image u a) (image u b)) d.1 (pairs-kept d.0 w1.valid w2.valid w1.few on a b la lb));
          }

      -- the matrices lead to the same renumberings
      fitting-all : fitting x y r s ≡ goods (drawn_matrix drawn1 r) (drawn_matrix drawn2 s) ok n [] n
      unfolding drawn_matrix
      fitting-all =
          fitting-goods x y r s w1.valid e1 w2.valid e2 w1.few refl
          (orders-drawn x r w1.valid e1 w1.few (pair_key on x keys1) base1 (ap length b1 ∙ pairs-length x keys1 on w1.few) (λ a b la lb. ap (λ (l : List ℕ). entry l a b) b1 ∙ pairs-at x keys1 on w1.few a b la lb))
          (orders-drawn y s w2.valid e2 w2.few (pair_key on y keys2) base2 (ap length b2 ∙ pairs-length y keys2 on w2.few) (λ a b la lb. ap (λ (l : List ℕ). entry l a b) b2 ∙ pairs-at y keys2 on w2.few a b la lb))
          (matches-filled x y keys1 keys2 rest filled) finer

      -- rows of unequal sums lead to none
      unlike-rows : (sum_of drawn1 r ≡ sum_of drawn2 s → ⊥) → fitting x y r s ≡ []
      unlike-rows h =
          none-there (fitting x y r s)
          (λ q.
          let w = fitting-head x y r s q in
          let t = head_or [] (fitting x y r s) in
          h (row-sums x y r s w1.valid e1 w2.valid e2 refl keys1 keys2 t w.0 (carried-facts (settled x r) (settled y s) t w.1) (finer t w.0 w.1).keys))

      fitting-ways : fitting x y r s ≡ ways (drawn_matrix drawn1 r) (sum_of drawn1 r) ok drawn2 s
      unfolding ways
      fitting-ways = go (eqb (sum_of drawn1 r) (sum_of drawn2 s)) refl
        where
          go : (z : Bool) → eqb (sum_of drawn1 r) (sum_of drawn2 s) ≡ z → fitting x y r s ≡ pick z (goods (drawn_matrix drawn1 r) (drawn_matrix drawn2 s) ok n [] n) []
          go true e = fitting-all
          go false e = unlike-rows (eqb-false (sum_of drawn1 r) (sum_of drawn2 s) e)

    partners-seconds : (r : Row) → Placement x r → partners x y r ≡ seconds_for ok drawn1 atoms2 drawn2 r
    unfolding partners seconds
    partners-seconds r p = passing-agree (λ s. some? (fitting x y r s)) (goes_with (drawn_matrix drawn1 r) (sum_of drawn1 r) ok drawn2) (λ s q. ap some? (fitting-ways r s p q)) (placements-all y)

    partnered-firsts : partnered x y ≡ firsts ok atoms1 drawn1 atoms2 drawn2
    unfolding partnered firsts
    partnered-firsts = passing-agree (λ r. some? (partners x y r)) (has_second ok drawn1 atoms2 drawn2) (λ r p. ap some? (partners-seconds r p)) (placements-all x)

    first-is : head_or [] (firsts ok atoms1 drawn1 atoms2 drawn2) ≡ first_row x y
    unfolding first_row
    first-is = ap (head_or []) (sym partnered-firsts)

    module _ (some : some? (partnered x y) ≡ true) where
      place1 : Placement x (first_row x y) × (some? (partners x y (first_row x y)) ≡ true)
      unfolding first_row
      place1 = partnered-head x y some

      place2 : Placement y (second_row x y) × (some? (fitting x y (first_row x y) (second_row x y)) ≡ true)
      unfolding second_row
      place2 = partners-head x y (first_row x y) place1.1

      second_is : head_or [] (seconds_for ok drawn1 atoms2 drawn2 (head_or [] (firsts ok atoms1 drawn1 atoms2 drawn2))) ≡ second_row x y
      unfolding second_row
      second_is = ap (λ (r : Row). head_or [] (seconds_for ok drawn1 atoms2 drawn2 r)) first-is ∙ ap (head_or []) (sym (partners-seconds (first_row x y) place1.0))

      third-is : (let r = head_or [] (firsts ok atoms1 drawn1 atoms2 drawn2) in head_or [] (ways (drawn_matrix drawn1 r) (sum_of drawn1 r) ok drawn2 (head_or [] (seconds_for ok drawn1 atoms2 drawn2 r))) ≡ first_renumbering x y)
      unfolding first_renumbering
      third-is =
          ap (λ (s : Row). let r = head_or [] (firsts ok atoms1 drawn1 atoms2 drawn2) in head_or [] (ways (drawn_matrix drawn1 r) (sum_of drawn1 r) ok drawn2 s)) second_is
          ∙ ap (λ (r : Row). head_or [] (ways (drawn_matrix drawn1 r) (sum_of drawn1 r) ok drawn2 (second_row x y))) first-is
          ∙ ap (head_or []) (sym (fitting-ways (first_row x y) (second_row x y) place1.0 place2.0))

    pub decided : {found₀ : List ℕ} {r : Bool} {row1' row2' found ren ren' : List ℕ} → FirstFound ok atoms1 drawn1 atoms2 drawn2 row1 row2 found₀ r row1' row2' found → n ≤ length ren → n ≤ length found
        → ren' ≡ fill (length ren) (take n found) → Decided x y row1 row2 ren r row1' row2' ren'
    unfolding same?
    decided {r = r} {found = found} {ren = ren} f room size e =
        let some : r ≡ true → some? (partnered x y) ≡ true = λ h. ap some? partnered-firsts ∙ sym f.told ∙ h in
        record {
          long1 = f.long1;
          long2 = f.long2;
          long3 = ap length e ∙ fill-length found n (length ren) room size;
          told = f.told ∙ ap some? (sym partnered-firsts) ∙ sym (ap (λ (z : Bool). z && some? (partnered x y)) (eq-eqb n n refl));
          wrote1 = λ h. f.wrote1 h ∙ ap (fill (length row1)) first-is;
          wrote2 = λ h. f.wrote2 h ∙ ap (fill (length row2)) (second_is (some h));
          wrote3 = λ h. e ∙ ap (fill (length ren)) (f.placed h ∙ third-is (some h));
        }
