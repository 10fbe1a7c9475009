-- The list of matchings by place: each place holds a row that passes, each row that passes has a place, and the places are in order. Assumes nothing.
use mathlib.Core.Path.{◌≡◌, sym, ap, ◌∙◌}
use mathlib.Core.Bool.{Bool, true, false, ◌&&◌}
use mathlib.Core.List.{List, [], ◌∷◌}
use Prim.Native.Nat.{ℕ, zero, suc, ◌<◌}
use native.Mathlib.Omega.{arith}
use lib.ListN.{length, get_or}
use Rattle.loops.specs.Loop.{pick}
use Rattle.loops.proofs.Loops.{and_left, and_right}
use Rattle.matching.specs.Enumeration.{Row, matchings, eq_row, cursor_at, is_row, before}
use Rattle.matching.proofs.Enumeration.{after, found, cursor-found, first-matching, before_self}
use Rattle.matching.proofs.Graph.{and_intro, never}

-- the row at a place of a list of rows
abbrev pub row_at : List Row → ℕ → Row
row_at es i = get_or es i []

-- the matchings after the first, which are those of a test that asks more
module _ (m : ℕ) where
  pub passes_at : (es : List Row) (p : Row → Bool) → matchings p m ≡ es → (i : ℕ) → i < length es → (is_row m (row_at es i) && p (row_at es i)) ≡ true
  passes_at [] p h i l = absurd (omega arith)
  passes_at (e ∷ es) p h zero l = (first-matching p m e es h).0
  passes_at (e ∷ es) p h (suc i) l =
      let r = row_at es i in
      let k = passes_at es (after p e) (sym (first-matching p m e es h).1) i (omega arith) in
      and_intro (is_row m r) (p r) (and_left (is_row m r) (after p e r) k) (and_left (p r) (before e r) (and_right (is_row m r) (after p e r) k))

  pub ordered_at : (es : List Row) (p : Row → Bool) → matchings p m ≡ es → (i j : ℕ) → i < j → j < length es → before (row_at es i) (row_at es j) ≡ true
  ordered_at [] p h i j l k = absurd (omega arith)
  ordered_at (e ∷ es) p h i zero l k = absurd (omega arith)
  ordered_at (e ∷ es) p h zero (suc j) l k =
      let r = row_at es j in
      let q = passes_at es (after p e) (sym (first-matching p m e es h).1) j (omega arith) in
      and_right (p r) (before e r) (and_right (is_row m r) (after p e r) q)
  ordered_at (e ∷ es) p h (suc i) (suc j) l k = ordered_at es (after p e) (sym (first-matching p m e es h).1) i j (omega arith) (omega arith)

-- the cursor stands at a place
cursor-place : (r f : Row) (es fs : List Row) → cursor_at r es ≡ f ∷ fs → (i : ℕ) × (i < length es) × (row_at es i ≡ f)
unfolding cursor_at
cursor-place r f [] fs h = absurd (let z : ◌≡◌ {A = ℕ} 0 1 = cc in omega arith)
cursor-place r f (e ∷ es) fs h = go (eq_row r e) h (cursor-place r f es fs)
  where
    go : (z : Bool) → pick z (e ∷ es) (cursor_at r es) ≡ f ∷ fs → (cursor_at r es ≡ f ∷ fs → (i : ℕ) × (i < length es) × (row_at es i ≡ f)) → (i : ℕ) × (i < suc (length es)) × (row_at (e ∷ es) i ≡ f)
    go true h k = (0, omega arith, cc)
    go false h k = let w = k h in (suc w.0, omega (arith, w.1), w.2)

pub place_of : (p : Row → Bool) (m : ℕ) (r : Row) → (is_row m r && p r) ≡ true → (i : ℕ) × (i < length (matchings p m)) × (row_at (matchings p m) i ≡ r)
place_of p m r h = cursor-place r r (matchings p m) (matchings (after p r) m) (cursor-found p m r ∙ ap (λ (b : Bool). found b (r ∷ matchings (after p r) m)) h)

-- rows in order differ
pub before-differs : (r s : Row) → before r s ≡ true → r ≡ s → ⊥
before-differs r s h e = never (before r r) (ap (before r) e ∙ h) (before_self r)
