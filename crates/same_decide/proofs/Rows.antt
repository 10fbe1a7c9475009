-- The two walks, and the search inside them. Assumes nothing.
use mathlib.Core.Path.{◌≡◌, refl, sym, ap, ◌∙◌, subst}
use mathlib.Core.Bool.{Bool, true, false, ◌&&◌}
use mathlib.Core.List.{List, [], ◌∷◌}
use Prim.Native.Nat.{ℕ, ◌≤◌}
use native.Mathlib.Omega.{arith}
use lib.Dec.{eqb}
use lib.ListN.{length, take}
use lib.IntN.{ℤ}
use lib.Seq.{length-take-le}
use borrow.Author.Tests.{eq-eqb, ne_eqb}
use Rattle.loops.specs.Loop.{run}
use Rattle.matching.specs.Enumeration.{Row, passing, matchings, before, fill, Reply, is_row}
use Rattle.matching.specs.Model.{some?, head_or}
use Rattle.matching.specs.declared.MatchingAnswer.{MatchingAnswer}
use Rattle.matching.specs.declared.MatchingAnswer.TheVariants.{Given, Absent, Refused, Ended}
use Rattle.matching.proofs.Graph.{never}
use Rattle.matching.proofs.Enumeration.{row-length}
use Rattle.loops.proofs.Loops.{and_left}
use Rattle.table_graph.specs.Graph.{matching_of}
use Rattle.table.specs.Valid.{Valid}
use Rattle.kekule_answers.specs.Answers.{Found, found_of, found_code}
use Rattle.kekule.specs.Kekule.{CallReply, out, call_reply_of}
use Rattle.same_place.specs.Place.{goods, Prefix, Solved}
use Rattle.same_drawing.specs.Drawing.{with_bond, Drawable}
use Rattle.same_drawing.proofs.Drawn.{drawable}
use Rattle.same_model.specs.Same.{max_same}
use Rattle.same_decide.specs.Decide.{Sketch, drawn_matrix, sum_of, ways, goes_with, matches, seconds, seconds_for, has_second, firsts, handed_out, HandsOut, Fewer, SecondFound, FirstFound}
use Rattle.same_decide.proofs.Walk.{Walking, walking-hit, walking-end}

-- the code of an answer says whether a matching was handed out
code-told : (a : MatchingAnswer) → eqb (found_code (found_of a)) 0 ≡ handed_out a
code-told Given = refl
code-told Absent = refl
code-told Refused = refl
code-told Ended = refl

pub hands_out : (g : Reply) (f : Found) {row : Row} {c : ℕ} {r : Bool} → out f row ≡ call_reply_of g → c ≡ found_code f → r ≡ eqb c 0 → HandsOut g r row
hands_out g f e q t =
    record {
      told = t ∙ ap (λ (k : ℕ). eqb k 0) (q ∙ ap (λ (o : CallReply). o.code) e) ∙ code-told g.answer;
      wrote = ap (λ (o : CallReply). o.row) e;
    }

-- valid tables can be drawn by the row, up to the last bond
pub ready : {atoms bonds : List ℤ} {n m : ℕ} (row : List ℕ) → Valid atoms bonds n m → n ≤ max_same → m ≤ length row → Drawable bonds m (take m row)
ready {atoms} {bonds} {n} {m} row v few fit =
    let l : length (take m row) ≡ m = length-take-le m row fit in
    drawable (record { atoms = atoms; bonds = bonds; n = n; m = m }) (take m row) v few (omega arith)

-- nothing is placed before the first atom
pub no-prefix : {n : ℕ} {base keys ren : List ℕ} → Fewer n base keys ren → Prefix n ren 0
no-prefix w = record { few = w.few; upto = omega arith; room = w.room; below = λ b l. absurd (omega arith) }

-- the search with a matrix that was drawn; none where the sums differ
module _ (o : List ℕ) (z : ℕ) (ok : List ℕ) (y : Sketch) (s : Row) {u : ℕ} (e : u ≡ sum_of y s) where
  pub as-ways : u ≡ z → {o2 ren : List ℕ} {r : Bool} {ren' : List ℕ} → o2 ≡ run (with_bond y.bonds s) 0 y.m y.base → Solved (goods o o2 ok y.n [] y.n) y.n 0 ren r ren' → Solved (ways o z ok y s) y.n 0 ren r ren'
  unfolding ways drawn_matrix
  as-ways h q w = rw (eq-eqb z (sum_of y s) (sym h ∙ e)) (rw q at w)

  pub no-ways : (u ≡ z → ⊥) → (ren : List ℕ) → Solved (ways o z ok y s) y.n 0 ren false ren
  unfolding ways
  no-ways h ren = rw (ne_eqb z (sum_of y s) (λ q. h (e ∙ sym q))) record { long = refl; kept = refl; told = refl; found = λ k. absurd (never false k refl) }

module _ (o : List ℕ) (z : ℕ) (ok : List ℕ) (atoms2 : List ℤ) (y : Sketch) (row₀ ren₀ : List ℕ) (fit : y.m ≤ length row₀) where
  abbrev p : Row → Bool
  p = matches atoms2 y

  abbrev T : Row → Bool
  T = goes_with o z ok y

  pub second-hit : {len : ℕ} → len ≡ length row₀ → {more : Bool} {row ren : List ℕ} → Walking p y.m T len more row → more ≡ true → length ren ≡ length ren₀
      → {r : Bool} {ren' : List ℕ} → Solved (ways o z ok y (take y.m row)) y.n 0 ren r ren' → r ≡ true → SecondFound o z ok atoms2 y row₀ ren₀ true row ren'
  unfolding seconds
  second-hit el {more} {row} {ren} v₀ h l {r} {ren'} s t =
      let v : Walking p y.m T (length row₀) more row = subst (λ (k : ℕ). Walking p y.m T k more row) el v₀ in
      let q : seconds o z ok atoms2 y ≡ take y.m row ∷ passing T (rest_of row) = walking-hit p y.m T (length row₀) fit v h (sym s.told ∙ t) in
      record {
        long = v.long;
        size = s.long ∙ l;
        told = sym (ap some? q);
        wrote = λ _. v.filled h ∙ ap (λ (fs : List Row). fill (length row₀) (head_or [] fs)) (sym q);
        placed = λ _. s.found t ∙ ap (λ (fs : List Row). head_or [] (ways o z ok y (head_or [] fs))) (sym q);
      }
    where
      rest_of : Row → List Row
      rest_of row = matchings (λ s. p s && before (take y.m row) s) y.m

  pub second_none : {len : ℕ} → len ≡ length row₀ → {more : Bool} {row ren : List ℕ} → Walking p y.m T len more row → more ≡ false → length ren ≡ length ren₀ → SecondFound o z ok atoms2 y row₀ ren₀ false row ren
  unfolding seconds
  second_none el {more} {row} {ren} v₀ h l =
      let v : Walking p y.m T (length row₀) more row = subst (λ (k : ℕ). Walking p y.m T k more row) el v₀ in
      let q : seconds o z ok atoms2 y ≡ [] = walking-end p y.m T (length row₀) fit v h in
      record { long = v.long; size = l; told = sym (ap some? q); wrote = λ k. absurd (never false k refl); placed = λ k. absurd (never false k refl) }

-- the ways with a matrix that was drawn, and a sum
pub drawn-ways : (x : Sketch) (r1 : Row) {o : List ℕ} (ok : List ℕ) {z : ℕ} (y : Sketch) (s : Row) {ren : List ℕ} {r : Bool} {ren' : List ℕ} → z ≡ sum_of x r1 → o ≡ run (with_bond x.bonds r1) 0 x.m x.base
    → Solved (ways o z ok y s) y.n 0 ren r ren' → Solved (ways (drawn_matrix x r1) (sum_of x r1) ok y s) y.n 0 ren r ren'
unfolding drawn_matrix
drawn-ways x r1 {o} ok {z} y s {ren} {r} {ren'} q e w =
    subst (λ (k : ℕ). Solved (ways (run (with_bond x.bonds r1) 0 x.m x.base) k ok y s) y.n 0 ren r ren') q (subst (λ (l : List ℕ). Solved (ways l z ok y s) y.n 0 ren r ren') e w)

-- a row of the tables can be drawn
pub ready-row : {atoms bonds : List ℤ} {n m : ℕ} (row : Row) → Valid atoms bonds n m → n ≤ max_same → (is_row m row && matching_of atoms bonds n m row) ≡ true → Drawable bonds m row
ready-row {atoms} {bonds} {n} {m} row v few h =
    let l : length row ≡ m = row-length m row (and_left (is_row m row) (matching_of atoms bonds n m row) h) in
    drawable (record { atoms = atoms; bonds = bonds; n = n; m = m }) row v few (omega arith)

module _ (ok : List ℕ) (atoms1 : List ℤ) (x : Sketch) (atoms2 : List ℤ) (y : Sketch) (row₀ row2₀ ren₀ : List ℕ) (fit : x.m ≤ length row₀) where
  abbrev p1 : Row → Bool
  p1 = matches atoms1 x

  abbrev T1 : Row → Bool
  T1 = has_second ok x atoms2 y

  pub first-hit : {len : ℕ} → len ≡ length row₀ → {more : Bool} {row row2 ren : List ℕ} → Walking p1 x.m T1 len more row → more ≡ true → length row2 ≡ length row2₀ → length ren ≡ length ren₀
      → {r : Bool} {row2' ren' : List ℕ} → SecondFound (drawn_matrix x (take x.m row)) (sum_of x (take x.m row)) ok atoms2 y row2 ren r row2' ren' → r ≡ true
      → FirstFound ok atoms1 x atoms2 y row₀ row2₀ ren₀ true row row2' ren'
  unfolding firsts
  first-hit el {more} {row} {row2} {ren} v₀ h l2 l {r} {row2'} {ren'} s t =
      let v : Walking p1 x.m T1 (length row₀) more row = subst (λ (k : ℕ). Walking p1 x.m T1 k more row) el v₀ in
      let q : firsts ok atoms1 x atoms2 y ≡ take x.m row ∷ passing T1 (rest_of row) = walking-hit p1 x.m T1 (length row₀) fit v h (sym s.told ∙ t) in
      record {
        long1 = v.long;
        long2 = s.long ∙ l2;
        size = s.size ∙ l;
        told = sym (ap some? q);
        wrote1 = λ _. v.filled h ∙ ap (λ (fs : List Row). fill (length row₀) (head_or [] fs)) (sym q);
        wrote2 = λ _. s.wrote t ∙ ap (λ (k : ℕ). fill k (head_or [] (seconds_for ok x atoms2 y (take x.m row)))) l2
            ∙ ap (λ (fs : List Row). fill (length row2₀) (head_or [] (seconds_for ok x atoms2 y (head_or [] fs)))) (sym q);
        placed = λ _. s.placed t
            ∙ ap (λ (fs : List Row). let r1 = head_or [] fs in head_or [] (ways (drawn_matrix x r1) (sum_of x r1) ok y (head_or [] (seconds_for ok x atoms2 y r1)))) (sym q);
      }
    where
      rest_of : Row → List Row
      rest_of row = matchings (λ s. p1 s && before (take x.m row) s) x.m

  pub first-none : {len : ℕ} → len ≡ length row₀ → {more : Bool} {row row2 ren : List ℕ} → Walking p1 x.m T1 len more row → more ≡ false → length row2 ≡ length row2₀ → length ren ≡ length ren₀ → FirstFound ok atoms1 x atoms2 y row₀ row2₀ ren₀ false row row2 ren
  unfolding firsts
  first-none el {more} {row} {row2} {ren} v₀ h l2 l =
      let v : Walking p1 x.m T1 (length row₀) more row = subst (λ (k : ℕ). Walking p1 x.m T1 k more row) el v₀ in
      let q : firsts ok atoms1 x atoms2 y ≡ [] = walking-end p1 x.m T1 (length row₀) fit v h in
      record { long1 = v.long; long2 = l2; size = l; told = sym (ap some? q); wrote1 = λ k. absurd (never false k refl); wrote2 = λ k. absurd (never false k refl); placed = λ k. absurd (never false k refl) }
