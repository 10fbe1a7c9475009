-- The search for the end of a line in an input. Assumes nothing.
use Prim.Native.Nat.{ℕ, suc, ◌+◌, ◌-◌, ◌≤◌, ◌<◌}
use mathlib.Core.Path.{◌≡◌, refl, sym, ap, ◌∙◌}
use mathlib.Core.List.{List, [], ◌∷◌, ◌++◌}
use native.Mathlib.Numerals.{add-one}
use native.Mathlib.Omega.{arith}
use lib.ListN.{length, take, drop, get_or, length-drop, drop_of_length-le}
use lib.Seq.{drop-cons, take-suc, get_or-drop, length-take-le}
use lib.Dec.{eqb}
use borrow.Author.Tests.{eq-eqb, ne_eqb}
use Rattle.loops.specs.Loop.{pick}
use Rattle.report_lines.specs.Lines.{lines_after}
use Rattle.report_lines.specs.Cut.{Ends}

-- no byte 10 from a place up to i: the lines are those after the bytes between
pub record Seeks (s : List ℕ) (from i : ℕ) : Type 0 where
  pub line : lines_after [] (drop from s) ≡ lines_after (take (i - from) (drop from s)) (drop i s)
  pub forth : from ≤ i
  pub within : i ≤ length s

pub seeks-start : (s : List ℕ) (from : ℕ) → from < length s → Seeks s from from
seeks-start s from h =
    let z : 0 ≡ from - from = omega arith in
    record { line = ap (λ k. lines_after (take k (drop from s)) (drop from s)) z; forth = omega arith; within = omega arith }

bytes-step : (s : List ℕ) (from i : ℕ) → from ≤ i → i < length s → take (i + 1 - from) (drop from s) ≡ take (i - from) (drop from s) ++ (get_or s i 0 ∷ [])
bytes-step s from i h g =
    let n : i + 1 - from ≡ suc (i - from) = omega (arith, h) in
    let k : from + (i - from) ≡ i = omega (arith, h) in
    ap (λ j. take j (drop from s)) n
    ∙ take-suc (drop from s) (i - from) 0 (omega (arith, length-drop from s, h, g))
    ∙ ap (λ b. take (i - from) (drop from s) ++ (b ∷ [])) (get_or-drop from s (i - from) 0 ∙ ap (λ j. get_or s j 0) k)

at_byte : (p s : List ℕ) (i : ℕ) → i < length s → lines_after p (drop i s) ≡ pick (eqb (get_or s i 0) 10) (p ∷ lines_after [] (drop (i + 1) s)) (lines_after (p ++ (get_or s i 0 ∷ [])) (drop (i + 1) s))
unfolding lines_after
at_byte p s i h = rw (drop-cons s i 0 h, add-one i)

pub seeks-byte : {s : List ℕ} {from i : ℕ} → Seeks s from i → i < length s → (get_or s i 0 ≡ 10 → ⊥) → Seeks s from (i + 1)
seeks-byte {s} {from} {i} w h e =
    let p : List ℕ = take (i - from) (drop from s) in
    record {
      line =
          w.line
          ∙ at_byte p s i h
          ∙ ap (λ t. pick t (p ∷ lines_after [] (drop (i + 1) s)) (lines_after (p ++ (get_or s i 0 ∷ [])) (drop (i + 1) s))) (ne_eqb (get_or s i 0) 10 e)
          ∙ ap (λ q. lines_after q (drop (i + 1) s)) (sym (bytes-step s from i w.forth h));
      forth = omega (arith, w.forth);
      within = omega (arith, h);
    }

-- the line ends at a byte 10
pub seeks-end : {s : List ℕ} {from i : ℕ} → Seeks s from i → i < length s → get_or s i 0 ≡ 10 → Ends s from i
seeks-end {s} {from} {i} w h e =
    let p : List ℕ = take (i - from) (drop from s) in
    record {
      line = w.line ∙ at_byte p s i h ∙ ap (λ t. pick t (p ∷ lines_after [] (drop (i + 1) s)) (lines_after (p ++ (get_or s i 0 ∷ [])) (drop (i + 1) s))) (eq-eqb (get_or s i 0) 10 e);
      forth = w.forth;
      within = w.within;
    }

last_line : (p : List ℕ) → 0 < length p → lines_after p [] ≡ p ∷ lines_after [] []
unfolding lines_after
last_line [] h = absurd (omega arith)
last_line (b ∷ p) h = refl

-- the line ends with the input
pub seeks-over : {s : List ℕ} {from i : ℕ} → Seeks s from i → from < length s → length s ≤ i → Ends s from i
seeks-over {s} {from} {i} w h g =
    let p : List ℕ = take (i - from) (drop from s) in
    let l : length p ≡ i - from = length-take-le (i - from) (drop from s) (omega (arith, length-drop from s, w.within)) in
    let m : length s ≤ i + 1 = omega (arith, g) in
    record {
      line = w.line ∙ ap (lines_after p) (drop_of_length-le s g) ∙ last_line p (omega (arith, l, h, g)) ∙ ap (λ d. p ∷ lines_after [] d) (sym (drop_of_length-le s m));
      forth = w.forth;
      within = w.within;
    }
