-- Laws of the layout: its rules as facts, and that bytes beyond the used ones are not looked at. Assumes nothing.
use Prim.Native.Nat.{ℕ, zero, suc, ◌+◌, ◌≤◌, ◌<◌}
use native.Mathlib.Omega.{arith}
use native.Mathlib.Nat.{eq-or-lt_of_le, add-zero}
use mathlib.Core.Path.{◌≡◌, refl, ap, ◌∙◌}
use mathlib.Core.Bool.{Bool, true, false}
use mathlib.Core.Logic.{⊎_elim}
use mathlib.Core.List.{List, [], ◌∷◌, ◌++◌}
use lib.ListN.{length, get_or, take, drop, length-take, length-drop}
use lib.Seq.{ext_get_or, get_or-take, get_or-drop}
use lib.Dec.{leb, eqb}
use borrow.Author.Tests.{eqb-true, leb-true, eq-eqb, le-leb}
use Rattle.loops.specs.Loop.{up_to}
use Rattle.loops.proofs.Loops.{and_left, and_right, each_at, each_all, each_same}
use Rattle.register.specs.Layout.{size, max_entries, first_body, max_body, two, count, entry_at, start_of, length_of, tag_of, end_before, valid_entry, valid, used, listed, part, entry_of, entries_of, listed_of}

-- the rules as facts
pub record ValidEntry (r : List ℕ) (j : ℕ) : Type 0 where
  pub start : start_of r j ≡ end_before r j
  pub short : length_of r j ≤ max_body
  pub inside : start_of r j + length_of r j ≤ size

pub record Valid (r : List ℕ) : Type 0 where
  pub first : get_or r 0 0 ≡ 1
  pub few : count r ≤ max_entries
  pub entries : (j : ℕ) → j < count r → ValidEntry r j

entry-valid-is : (r : List ℕ) (j : ℕ) → valid_entry r j ≡ true → ValidEntry r j
unfolding valid_entry
entry-valid-is r j h =
    let b = and_right (eqb (start_of r j) (end_before r j)) _ h in
    record { start = eqb-true _ _ (and_left _ _ h); short = leb-true _ _ (and_left _ _ b); inside = leb-true _ _ (and_right (leb (length_of r j) max_body) _ b) }

entry-valid-back : (r : List ℕ) (j : ℕ) → ValidEntry r j → valid_entry r j ≡ true
unfolding valid_entry
entry-valid-back r j g = simp (eq-eqb _ _ g.start, le-leb _ _ g.short, le-leb _ _ g.inside)

pub valid-is : (r : List ℕ) → valid r ≡ true → Valid r
unfolding valid
valid-is r h =
    let b = and_right (eqb (get_or r 0 0) 1) _ h in
    record { first = eqb-true _ _ (and_left _ _ h); few = leb-true _ _ (and_left _ _ b); entries = λ j l. entry-valid-is r j (each_at (valid_entry r) (count r) j (and_right (leb (count r) max_entries) _ b) l) }

pub valid-back : (r : List ℕ) → Valid r → valid r ≡ true
unfolding valid
valid-back r w = simp (eq-eqb _ _ w.first, le-leb _ _ w.few, each_all (valid_entry r) (count r) (λ j l. entry-valid-back r j (w.entries j l)))

-- the ends grow
module _ (r : List ℕ) (w : Valid r) where
  pub ends-grow : (j n : ℕ) → j ≤ n → n ≤ count r → end_before r j ≤ end_before r n
  unfolding end_before
  ends-grow zero zero h l = omega arith
  ends-grow (suc j) zero h l = absurd (omega arith)
  ends-grow j (suc n) h l =
      ⊎_elim (λ e. omega (arith, ap (end_before r) e)) (λ e. omega (arith, ends-grow j n (omega arith) (omega arith), (w.entries n (omega arith)).start))
      (eq-or-lt_of_le h)

  pub used-from : first_body ≤ used r
  unfolding end_before
  used-from = ends-grow 0 (count r) (omega arith) (omega arith)

  end-within : (n : ℕ) → n ≤ count r → end_before r n ≤ size
  unfolding end_before
  end-within zero l = omega arith
  end-within (suc n) l = (w.entries n (omega arith)).inside

  pub used-within : used r ≤ size
  used-within = end-within (count r) (omega arith)

  -- a body lies between byte 386 and the end
  pub body-from : (j : ℕ) → j < count r → first_body ≤ start_of r j
  unfolding end_before
  body-from j l = omega (arith, (w.entries j l).start, ends-grow 0 j (omega arith) (omega arith))

  pub body-to : (n : ℕ) → n ≤ count r → (j : ℕ) → j < n → start_of r j + length_of r j ≤ end_before r n
  unfolding end_before
  body-to n l j h = ends-grow (suc j) n (omega arith) l

-- lists made alike
up_to-same-from : {A : Type 0} (f g : ℕ → A) (k m : ℕ) → ((j : ℕ) → j < k + m → f j ≡ g j) → up_to f k m ≡ up_to g k m
unfolding up_to
up_to-same-from f g k zero h = refl
up_to-same-from f g k (suc m) h =
    let e : f k ≡ g k = h k (omega arith) in
    rw (e, up_to-same-from f g (suc k) m (λ j l. h j (omega arith)))

pub up_to-same : {A : Type 0} (f g : ℕ → A) (m : ℕ) → ((j : ℕ) → j < m → f j ≡ g j) → up_to f 0 m ≡ up_to g 0 m
up_to-same f g m h = up_to-same-from f g 0 m (λ j l. h j (omega arith))

up_to-more-from : {A : Type 0} (f : ℕ → A) (k m : ℕ) → up_to f k (suc m) ≡ up_to f k m ++ (f (k + m) ∷ [])
unfolding up_to
up_to-more-from f k zero = simp add-zero
up_to-more-from f k (suc m) = let e : k + suc m ≡ suc k + m = omega arith in rw e (ap (λ l. f k ∷ l) (up_to-more-from f (suc k) m))

pub up_to-more : {A : Type 0} (f : ℕ → A) (m : ℕ) → up_to f 0 (suc m) ≡ up_to f 0 m ++ (f m ∷ [])
up_to-more f m = let e : 0 + m ≡ m = omega arith in rw e at (up_to-more-from f 0 m)

take-up_to-from : {A : Type 0} (f : ℕ → A) (k p m : ℕ) → p ≤ m → take p (up_to f k m) ≡ up_to f k p
unfolding up_to
take-up_to-from f k zero m h = refl
take-up_to-from f k (suc p) zero h = absurd (omega arith)
take-up_to-from f k (suc p) (suc m) h = ap (λ l. f k ∷ l) (take-up_to-from f (suc k) p m (omega arith))

pub take-up_to : {A : Type 0} (f : ℕ → A) (p m : ℕ) → p ≤ m → take p (up_to f 0 m) ≡ up_to f 0 p
take-up_to f p m h = take-up_to-from f 0 p m h

-- a part whose bytes are the same
pub part_same : (q r : List ℕ) (s n : ℕ) → s + n ≤ length q → s + n ≤ length r → ((i : ℕ) → s ≤ i → i < s + n → get_or q i 0 ≡ get_or r i 0) → part q s n ≡ part r s n
part_same q r s n a b h =
    ext_get_or 0 (part q s n) (part r s n) (simp (length-take, length-drop) (omega arith))
    (λ i l. let c : i < n = omega (arith, simp length-take at l) in rw (get_or-take n (drop s q) i 0 c, get_or-take n (drop s r) i 0 c, get_or-drop s q i 0, get_or-drop s r i 0) (h (s + i) (omega arith) (omega arith)))

-- q is r as far as n entries and their bodies go
pub record Same (n : ℕ) (r q : List ℕ) : Type 0 where
  pub full : size ≤ length r
  pub long : size ≤ length q
  pub first : get_or q 0 0 ≡ get_or r 0 0
  pub table : (i : ℕ) → 2 ≤ i → i < entry_at n → get_or q i 0 ≡ get_or r i 0
  pub bodies : (i : ℕ) → first_body ≤ i → i < end_before r n → get_or q i 0 ≡ get_or r i 0

module _ (n : ℕ) (r q : List ℕ) (a : Same n r q) where
  two-same : (i : ℕ) → 2 ≤ i → i + 1 < entry_at n → two q i ≡ two r i
  unfolding two
  two-same i l h = rw (a.table i l (omega arith), a.table (i + 1) (omega arith) h)

  start-same : (j : ℕ) → j < n → start_of q j ≡ start_of r j
  start-same j h = two-same (entry_at j) (omega arith) (omega arith)

  length-same : (j : ℕ) → j < n → length_of q j ≡ length_of r j
  length-same j h = two-same (entry_at j + 2) (omega arith) (omega arith)

  tag_same : (j : ℕ) → j < n → tag_of q j ≡ tag_of r j
  tag_same j h = two-same (entry_at j + 4) (omega arith) (omega arith)

  pub end_same : (j : ℕ) → j ≤ n → end_before q j ≡ end_before r j
  unfolding end_before
  end_same zero h = refl
  end_same (suc j) h = rw (start-same j (omega arith), length-same j (omega arith))

  entry-valid-same : (j : ℕ) → j < n → valid_entry q j ≡ valid_entry r j
  unfolding valid_entry
  entry-valid-same j h = rw (start-same j h, length-same j h, end_same j (omega arith))

  pub entry-valid-too : (j : ℕ) → j < n → ValidEntry r j → ValidEntry q j
  entry-valid-too j h g = entry-valid-is q j (entry-valid-same j h ∙ entry-valid-back r j g)

  pub entry-same : Valid r → n ≤ count r → (j : ℕ) → j < n → entry_of q j ≡ entry_of r j
  entry-same w l j h =
      rw (tag_same j h, start-same j h, length-same j h)
      (ap (λ b. record { tag = tag_of r j; body = b }) (part_same q r (start_of r j) (length_of r j) (omega (arith, (w.entries j (omega arith)).inside, a.long)) (omega (arith, (w.entries j (omega arith)).inside, a.full)) (λ i f u. a.bodies i (omega (arith, body-from r w j (omega arith))) (omega (arith, body-to r w n l j h)))))

module _ (r q : List ℕ) (c : count q ≡ count r) (a : Same (count r) r q) where
  pub valid_same : valid q ≡ valid r
  unfolding valid
  valid_same = rw (a.first, c, each_same (valid_entry q) (valid_entry r) (count r) (entry-valid-same (count r) r q a))

  pub used-same : used q ≡ used r
  used-same = ap (end_before q) c ∙ end_same (count r) r q a (count r) (omega arith)

  entries-same : Valid r → entries_of q ≡ entries_of r
  unfolding entries_of
  entries-same w = rw c (up_to-same (entry_of q) (entry_of r) (count r) (entry-same (count r) r q a w (omega arith)))

  listed-same-by : (b : Bool) → valid r ≡ b → listed_of q ≡ listed_of r
  unfolding listed_of
  listed-same-by true e = rw (valid_same, e) (ap listed (entries-same (valid-is r e)))
  listed-same-by false e = rw (valid_same, e)

  -- THE LAW: bytes beyond the used entries and bodies are not looked at
  pub listed_same : listed_of q ≡ listed_of r
  listed_same = listed-same-by (valid r) refl

-- a valid register's list
pub listed-valid : (r : List ℕ) → valid r ≡ true → listed_of r ≡ listed (entries_of r)
unfolding listed_of
listed-valid r e = rw e
