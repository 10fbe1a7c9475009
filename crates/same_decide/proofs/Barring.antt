-- Rows that lead nowhere: no row of the other molecule goes with them. Assumes nothing.
use mathlib.Core.Path.{◌≡◌, refl, ap, ◌∙◌, subst}
use mathlib.Core.Bool.{Bool, true, false, ◌&&◌}
use mathlib.Core.List.{List, [], ◌++◌}
use Prim.Native.Nat.{ℕ, ◌+◌, ◌*◌, ◌<◌, ◌≤◌}
use native.Mathlib.Omega.{arith}
use lib.IntN.{ℤ}
use lib.Dec.{eqb}
use lib.ListN.{length, get_or, take, get_or-append}
use Rattle.loops.specs.Loop.{pick, up_to}
use Rattle.loops.proofs.Loops.{and_left, and_right, length-up_to, up_to-at}
use Rattle.matching.specs.Enumeration.{Row, is_row}
use Rattle.matching.specs.Model.{some?, head_or}
use Rattle.matching.proofs.Graph.{never}
use Rattle.table.specs.Valid.{Valid, enough}
use Rattle.table.proofs.Valid.{enough-facts}
use Rattle.table_graph.specs.Graph.{matching_of}
use Rattle.same_model.specs.Same.{max_same, molecule}
use Rattle.same_model.proofs.Lists.{all-passing, all_head}
use Rattle.same_place.specs.Place.{entry, goods}
use Rattle.same_drawing.specs.Drawing.{cells}
use Rattle.same_open.specs.Open.{Way, Goes, Allowed}
use Rattle.same_open.proofs.Laws.{faces}
use Rattle.same_part.specs.Part.{part_matrix, closed_matrix, Opens}
use Rattle.same_part.proofs.Laws.{part-way, way-part}
use Rattle.same_ways.proofs.Ways.{good-way, some-way, way_back}
use Rattle.same_decide.specs.Decide.{Sketch, sketch, drawn_matrix, sum_of, ways, goes_with, matches, seconds, seconds_for, has_second, Based, turned_cell, Nowhere, Apart}
use Rattle.same_decide.proofs.Walk.{rows_all}

-- a matrix decided in part that leads nowhere
pub apart_by : {atoms bonds atoms2 bonds2 : List ℤ} {n m m2 : ℕ} {opened opened2 allowed ok q : List ℕ} (row row2 : Row) (r to2 : ℕ) → n ≤ max_same → Opens atoms bonds n m opened → Opens atoms2 bonds2 n m2 opened2
    → q ≡ part_matrix bonds2 opened2 row2 to2 m2 → Allowed q n allowed → Nowhere (part_matrix bonds opened row r m) allowed ok n → Apart atoms bonds m row r atoms2 bonds2 m2 row2 to2 ok n
apart_by {bonds = bonds} {bonds2 = bonds2} {n = n} {m = m} {m2 = m2} {opened = opened} {opened2 = opened2} {allowed = allowed} row row2 r to2 few o1 o2 e a nowhere =
    record {
      none = λ s s2 i p f i2 p2 f2 t w g.
          let u : Way (part_matrix bonds opened row r m) (closed_matrix bonds2 s2 m2) n t = part-way row s r o1 i p f few t w in
          let v : Way (part_matrix bonds opened row r m) (part_matrix bonds2 opened2 row2 to2 m2) n t = way-part row2 s2 to2 o2 i2 p2 f2 few t u in
          nowhere t v.below g (faces (subst (λ (z : List ℕ). Allowed z n allowed) e a) v);
    }

-- a cell of the matrix that was turned over
turned-at : (ok rest : List ℕ) (a d : ℕ) → a < max_same → d < max_same → {turned : List ℕ} → turned ≡ up_to (turned_cell ok) 0 cells ++ rest → entry turned d a ≡ entry ok a d
turned-at ok rest a d la ld e =
    let i : max_same * d + a < cells = omega arith in
    let l : length (up_to (turned_cell ok) 0 cells) ≡ cells = length-up_to (turned_cell ok) 0 cells in
    ap (λ (t : List ℕ). entry t d a) e
    ∙ get_or-append (up_to (turned_cell ok) 0 cells) rest 0 (max_same * d + a) (omega arith)
    ∙ up_to-at (turned_cell ok) cells (max_same * d + a) 0 i
    ∙ ap (λ (k : ℕ). get_or ok k 0) (omega arith)

-- the same seen from the other side
pub apart-turned : {atoms bonds atoms2 bonds2 : List ℤ} {n m m2 : ℕ} (ok rest : List ℕ) {turned row row2 : List ℕ} {to to2 : ℕ} → n ≤ max_same → turned ≡ up_to (turned_cell ok) 0 cells ++ rest
    → Apart atoms2 bonds2 m2 row2 to2 atoms bonds m row to turned n → Apart atoms bonds m row to atoms2 bonds2 m2 row2 to2 ok n
apart-turned ok rest {turned = turned} few e w =
    record {
      none = λ s s2 i p f i2 p2 f2 t v g.
          let b = way_back v ok turned g (λ a d la ld. turned-at ok rest a d (omega arith) (omega arith) e) in
          w.none s2 s i2 p2 f2 i p f b.0 b.1 b.2;
    }

-- a row goes with none where some renumbering would be a way
module _ {atoms1 bonds1 atoms2 bonds2 : List ℤ} {n m1 m2 : ℕ} {base1 base2 : List ℕ} (keys1 keys2 ok : List ℕ) (v1 : Valid atoms1 bonds1 n m1) (v2 : Valid atoms2 bonds2 n m2) (l1 : enough atoms1 bonds1 ≡ true) (l2 : enough atoms2 bonds2 ≡ true)
    (few : n ≤ max_same) (b1 : Based n base1) (b2 : Based n base2) where
  abbrev x : Sketch
  x = sketch base1 keys1 bonds1 n m1

  abbrev y : Sketch
  y = sketch base2 keys2 bonds2 n m2

  -- rows that go together have a way
  goes-way : (r s : Row) → goes_with (drawn_matrix x r) (sum_of x r) ok y s ≡ true → (t : List ℕ) × Way (closed_matrix bonds1 r m1) (closed_matrix bonds2 s m2) n t × Goes ok n t
  unfolding ways drawn_matrix
  goes-way r s h = go (eqb (sum_of x r) (sum_of y s)) h
    where
      go : (z : Bool) → some? (pick z (goods (drawn_matrix x r) (drawn_matrix y s) ok n [] n) []) ≡ true → (t : List ℕ) × Way (closed_matrix bonds1 r m1) (closed_matrix bonds2 s m2) n t × Goes ok n t
      go true k =
          let w = some-way (drawn_matrix x r) (drawn_matrix y s) ok n k in
          let g = good-way (molecule atoms1 bonds1 n m1) (molecule atoms2 bonds2 n m2) r s v1 (enough-facts atoms1 bonds1 l1) v2 (enough-facts atoms2 bonds2 l2) few refl base1 base2 ok b1.key b2.key b1.size b2.size b1.at b2.at w.2 w.1 in
          (w.0, g.0, g.1)
      go false k = absurd (never false k refl)

  -- a row of the second molecule that leads nowhere
  pub second-apart : (r : Row) → (is_row m1 r && matching_of atoms1 bonds1 n m1 r) ≡ true → {row : Row} {to : ℕ} → Apart atoms1 bonds1 m1 r m1 atoms2 bonds2 m2 row to ok n
      → (s : Row) → is_row m2 s ≡ true → matching_of atoms2 bonds2 n m2 s ≡ true → take to s ≡ take to row → goes_with (drawn_matrix x r) (sum_of x r) ok y s ≡ false
  second-apart r g w s i p f = go (goes_with (drawn_matrix x r) (sum_of x r) ok y s) refl
    where
      go : (z : Bool) → goes_with (drawn_matrix x r) (sum_of x r) ok y s ≡ z → z ≡ false
      go true h = let t = goes-way r s h in absurd (w.none r s (and_left (is_row m1 r) (matching_of atoms1 bonds1 n m1 r) g) (and_right (is_row m1 r) (matching_of atoms1 bonds1 n m1 r) g) refl i p f t.0 t.1 t.2)
      go false h = refl

  -- a row of the first molecule that leads nowhere
  pub first-apart : {row none : Row} {to : ℕ} → Apart atoms1 bonds1 m1 row to atoms2 bonds2 m2 none 0 ok n
      → (r : Row) → is_row m1 r ≡ true → matching_of atoms1 bonds1 n m1 r ≡ true → take to r ≡ take to row → has_second ok x atoms2 y r ≡ false
  unfolding seconds
  first-apart w r i p f = go (has_second ok x atoms2 y r) refl
    where
      go : (z : Bool) → has_second ok x atoms2 y r ≡ z → z ≡ false
      go true h =
          let a = all_head [] (all-passing (goes_with (drawn_matrix x r) (sum_of x r) ok y) (all-passing (matches atoms2 y) (rows_all m2))) h in
          let s = head_or [] (seconds_for ok x atoms2 y r) in
          let t = goes-way r s a.1 in
          absurd (w.none r s i p f a.0.0 a.0.1 refl t.0 t.1 t.2)
      go false h = refl
