-- How the cut goes on at a byte, and over blocks. Assumes nothing.
use Prim.Native.Nat.{ℕ, zero, suc, ◌+◌, ◌≤◌, ◌<◌}
use mathlib.Core.Path.{◌≡◌, refl, sym, ap, subst, ◌∙◌}
use mathlib.Core.List.{List, [], ◌∷◌, ◌++◌}
use mathlib.Core.Bool.{Bool, true, false}
use mathlib.Core.Logic.{◌⊎◌, inl, inr, ⊎_elim}
use native.Mathlib.Numerals.{add-one}
use native.Mathlib.Omega.{arith}
use lib.ListN.{length, take, drop, get_or, set, drop_of_length-le, length-append}
use lib.Seq.{drop-cons, take-suc-set, length-take-le, take_all, take-append-le}
use lib.Dec.{eqb}
use borrow.Author.Tests.{eq-eqb, ne_eqb, lt-ltb, le-ltb}
use Rattle.loops.specs.Loop.{pick}
use Rattle.report_lines.specs.Lines.{unfinished, lines_after}
use Rattle.report_lines.specs.Cut.{max_line, clipped, Cut, no_lines, line_then, push, cut_of, cut_then, gathered, cut_after, Reached, Fills}
use Rattle.report_lines.specs.declared.input.Line.{Line}
use Rattle.report_lines.specs.declared.input.Filled.{Filled}

at_suc : (s : List ℕ) (i : ℕ) → i < length s → drop i s ≡ get_or s i 0 ∷ drop (i + 1) s
at_suc s i h = drop-cons s i 0 h ∙ ap (λ k. get_or s i 0 ∷ drop k s) (sym (add-one i))

-- the two ways of a byte
ended : (p : List ℕ) (b : ℕ) (s : List ℕ) → eqb b 10 ≡ true → cut_of p (b ∷ s) ≡ line_then p (cut_of [] s)
unfolding cut_of
ended p b s e = ap (λ t. pick t (line_then p (cut_of [] s)) (cut_of (push p b) s)) e

pushed : (p : List ℕ) (b : ℕ) (s : List ℕ) → eqb b 10 ≡ false → cut_of p (b ∷ s) ≡ cut_of (push p b) s
unfolding cut_of
pushed p b s e = ap (λ t. pick t (line_then p (cut_of [] s)) (cut_of (push p b) s)) e

pub at-end : (p s : List ℕ) (i : ℕ) → i < length s → get_or s i 0 ≡ 10 → cut_of p (drop i s) ≡ line_then p (cut_of [] (drop (i + 1) s))
at-end p s i h e = ap (cut_of p) (at_suc s i h) ∙ ended p (get_or s i 0) (drop (i + 1) s) (eq-eqb _ _ e)

at_byte : (p s : List ℕ) (i : ℕ) → i < length s → (get_or s i 0 ≡ 10 → ⊥) → cut_of p (drop i s) ≡ cut_of (push p (get_or s i 0)) (drop (i + 1) s)
at_byte p s i h e = ap (cut_of p) (at_suc s i h) ∙ pushed p (get_or s i 0) (drop (i + 1) s) (ne_eqb _ _ e)

push-room : (p : List ℕ) (b : ℕ) → length p < max_line → push p b ≡ p ++ (b ∷ [])
unfolding push
push-room p b h = ap (λ t. pick t (p ++ (b ∷ [])) p) (lt-ltb _ _ h)

push-full : (p : List ℕ) (b : ℕ) → max_line ≤ length p → push p b ≡ p
unfolding push
push-full p b h = ap (λ t. pick t (p ++ (b ∷ [])) p) (le-ltb _ _ h)

-- the buffer takes the byte
pub at_store : (x s : List ℕ) (n i : ℕ) → length x ≡ max_line → n < max_line → i < length s → (get_or s i 0 ≡ 10 → ⊥) → cut_of (take n x) (drop i s) ≡ cut_of (take (n + 1) (set x n (get_or s i 0))) (drop (i + 1) s)
at_store x s n i l h g e =
    at_byte (take n x) s i g e
    ∙ ap (λ p. cut_of p (drop (i + 1) s)) (push-room (take n x) (get_or s i 0) (omega (arith, length-take-le n x (omega arith))) ∙ sym (take-suc-set x n (get_or s i 0) (omega arith)) ∙ ap (λ k. take k (set x n (get_or s i 0))) (sym (add-one n)))

-- the buffer is full
pub at-full : (x s : List ℕ) (n i : ℕ) → length x ≡ max_line → n ≤ max_line → max_line ≤ n → i < length s → (get_or s i 0 ≡ 10 → ⊥) → cut_of (take n x) (drop i s) ≡ cut_of (take n x) (drop (i + 1) s)
at-full x s n i l h f g e =
    at_byte (take n x) s i g e
    ∙ ap (λ p. cut_of p (drop (i + 1) s)) (push-full (take n x) (get_or s i 0) (omega (arith, length-take-le n x (omega arith))))

pub at-close : (p s : List ℕ) (i : ℕ) → length s ≤ i → cut_of p (drop i s) ≡ no_lines p
unfolding cut_of
at-close p s i h = ap (cut_of p) (drop_of_length-le s h)

unfoldable Joins : List ℕ → List ℕ → List ℕ → Type 0
Joins p a b = cut_of p (a ++ b) ≡ cut_then (cut_of p a) (cut_of (cut_of p a).rest b)

joins-cons : (p : List ℕ) (x : ℕ) (a b : List ℕ) (t : Bool) → eqb x 10 ≡ t → Joins [] a b → Joins (push p x) a b → Joins p (x ∷ a) b
unfolding Joins
joins-cons p x a b true e f g = ended p x (a ++ b) e ∙ ap (line_then p) f ∙ sym (ap (λ c. cut_then c (cut_of c.rest b)) (ended p x a e))
joins-cons p x a b false e f g = pushed p x (a ++ b) e ∙ g ∙ sym (ap (λ c. cut_then c (cut_of c.rest b)) (pushed p x a e))

-- THE LAW: the lines of two blocks are those of the first, and then those of the second after what the first left
cut-joins : (p a b : List ℕ) → Joins p a b
unfolding Joins cut_of
cut-joins p [] b = refl
cut-joins p (x ∷ a) b = joins-cons p x a b (eqb x 10) refl (cut-joins [] a b) (cut-joins (push p x) a b)

pub cut-append : (p a b : List ℕ) → cut_of p (a ++ b) ≡ cut_then (cut_of p a) (cut_of (cut_of p a).rest b)
unfolding Joins
cut-append p a b = cut-joins p a b

lt-or-le : (a b : ℕ) → (a < b) ⊎ (b ≤ a)
lt-or-le a zero = inr (omega arith)
lt-or-le zero (suc b) = inl (omega arith)
lt-or-le (suc a) (suc b) = ⊎_elim (λ h. inl (omega (arith, h))) (λ h. inr (omega (arith, h))) (lt-or-le a b)

-- what is gathered of a line is its first bytes
push-take : (p : List ℕ) (b : ℕ) → (length p < max_line) ⊎ (max_line ≤ length p) → push (take max_line p) b ≡ take max_line (p ++ (b ∷ []))
push-take p b (inl h) =
    let n : length (p ++ (b ∷ [])) ≤ max_line = simp length-append (omega (arith, h)) in
    ap (λ q. push q b) (take_all max_line p (omega (arith, h))) ∙ push-room p b h ∙ sym (take_all max_line (p ++ (b ∷ [])) n)
push-take p b (inr h) =
    push-full (take max_line p) b (omega (arith, length-take-le max_line p h)) ∙ sym (take-append-le max_line p (b ∷ []) h)

-- the lines of a cut, the unfinished one with them
abbrev pub all_of : Cut → List (List ℕ)
all_of c = c.lines ++ unfinished c.rest

clipped-unfinished : (p : List ℕ) → clipped (unfinished p) ≡ unfinished (take max_line p)
unfolding clipped
clipped-unfinished [] = refl
clipped-unfinished (b ∷ p) = refl

module _ (p : List ℕ) (x : ℕ) (s : List ℕ) where
  clipped-cons : (t : Bool) → eqb x 10 ≡ t → clipped (lines_after [] s) ≡ all_of (cut_of [] s) → clipped (lines_after (p ++ (x ∷ [])) s) ≡ all_of (cut_of (take max_line (p ++ (x ∷ []))) s) → clipped (lines_after p (x ∷ s)) ≡ all_of (cut_of (take max_line p) (x ∷ s))
  unfolding lines_after clipped
  clipped-cons true e f g =
      ap (λ t. clipped (pick t (p ∷ lines_after [] s) (lines_after (p ++ (x ∷ [])) s))) e
      ∙ ap (λ y. take max_line p ∷ y) f
      ∙ sym (ap all_of (ended (take max_line p) x s e))
  clipped-cons false e f g =
      ap (λ t. clipped (pick t (p ∷ lines_after [] s) (lines_after (p ++ (x ∷ [])) s))) e
      ∙ g
      ∙ sym (ap all_of (pushed (take max_line p) x s e ∙ ap (λ q. cut_of q s) (push-take p x (lt-or-le (length p) max_line))))

-- THE LAW: the lines that are gathered are those of the input, each clipped
pub cut-clipped : (p s : List ℕ) → clipped (lines_after p s) ≡ all_of (cut_of (take max_line p) s)
unfolding lines_after cut_of
cut-clipped p [] = clipped-unfinished p
cut-clipped p (x ∷ s) = clipped-cons p x s (eqb x 10) refl (cut-clipped [] s) (cut-clipped (p ++ (x ∷ [])) s)

-- a line ended, or the block did
module _ (l : Line) (s : List ℕ) (from : ℕ) (r : Filled) (w : Fills l s from r) where
  pub line-ended : r.done ≡ true → cut_of (gathered l) (drop from s) ≡ line_then (gathered r.line) (cut_of [] (drop r.at s))
  line-ended e = w.is ∙ ap (λ t. cut_after t (gathered r.line) (drop r.at s)) e

  pub line-reached : r.done ≡ true → (from < r.at) × (r.at ≤ length s)
  line-reached e = subst (λ t. Reached t (length s) from r.at) e w.reached

  pub block-reached : r.done ≡ false → length s ≤ r.at
  block-reached e = (subst (λ t. Reached t (length s) from r.at) e w.reached).0

  pub block-ended : r.done ≡ false → cut_of (gathered l) (drop from s) ≡ cut_of (gathered r.line) (drop r.at s)
  block-ended e =
      w.is
      ∙ ap (λ t. cut_after t (gathered r.line) (drop r.at s)) e
      ∙ sym (at-close (gathered r.line) s r.at (block-reached e))
