-- Laws of the spellings. Assumes nothing.
use Prim.Native.Nat.{ℕ, zero, suc, ◌+◌, ◌/◌, ◌%◌, ◌<◌, ◌≤◌}
use native.Mathlib.Omega.{arith}
use mathlib.Core.Path.{◌≡◌, refl, sym, ap, ◌∙◌}
use mathlib.Core.Bool.{Bool, true, false, ◌&&◌, not}
use mathlib.Core.List.{List, [], ◌∷◌, ◌++◌}
use lib.ListN.{get_or}
use lib.IntN.{ℤ, pos, negsuc, nat_abs, ◌-ℤ◌}
use lib.Signed.{lt_z, le_z, non_neg}
use mir.Val.{SFits}
use mir.Syntax.{w32}
use lib.Dec.{T, eqb, leb}
use borrow.Author.Tests.{ne_eqb, lt-ltb, le-ltb, not-true, ltb-true, leb-true, eqb-true, eqb-false, le-leb, lt-leb}
use Rattle.kinds.specs.Kind.{bond_symbol}
use Rattle.loops.specs.Loop.{pick}
use Rattle.loops.proofs.Loops.{and_left, and_right}
use Rattle.element.specs.Symbols.{symbols}
use Rattle.element.specs.Lookup.{bytes_of, selected_bytes, spelling}
use Rattle.element.specs.declared.Spelling.{Spelling}
use Rattle.table.specs.Limits.{ISOTOPE, CHARGE, EXTENSION}
use Rattle.table.specs.Cells.{number, in_range, atom_cell, element, selected, hydrogens}
use Rattle.writing.specs.Spell.{digit_byte, decimal, kind_bytes, bridge_bytes, isotope_bytes, symbol_bytes, mark_bytes, size_bytes, hydrogen_bytes, charge_bytes, extension_bytes, bracket_bytes, neutral, without_brackets, spelled_atom}
use Rattle.writing_atoms.specs.Fields.{letters}

-- the digits of a number
pub digits1 : (x : ℕ) → x < 10 → decimal x ≡ digit_byte x ∷ []
unfolding decimal
digits1 x h = simp (lt-ltb x 10 h)

pub digits2 : (x : ℕ) → 10 ≤ x → x < 100 → decimal x ≡ digit_byte (x / 10) ∷ digit_byte (x % 10) ∷ []
unfolding decimal
digits2 x h g = simp (le-ltb x 10 h, lt-ltb x 100 g)

pub digits3 : (x : ℕ) → 100 ≤ x → x < 1000 → decimal x ≡ digit_byte (x / 100) ∷ digit_byte (x / 10 % 10) ∷ digit_byte (x % 10) ∷ []
unfolding decimal
digits3 x h g =
    let i : 10 ≤ x = omega arith in
    simp (le-ltb x 10 i, le-ltb x 100 h, lt-ltb x 1000 g)

pub digits4 : (x : ℕ) → 1000 ≤ x → decimal x ≡ digit_byte (x / 1000) ∷ digit_byte (x / 100 % 10) ∷ digit_byte (x / 10 % 10) ∷ digit_byte (x % 10) ∷ []
unfolding decimal
digits4 x h =
    let i : 10 ≤ x = omega arith in
    let j : 100 ≤ x = omega arith in
    simp (le-ltb x 10 i, le-ltb x 100 j, le-ltb x 1000 h)

-- the symbol of a kind
pub no_symbol : (k b : ℕ) → b ≡ bond_symbol k → b ≡ 0 → kind_bytes k ≡ []
unfolding kind_bytes
no_symbol k b e z = rw (sym e ∙ z)

pub one_symbol : (k b : ℕ) → b ≡ bond_symbol k → (b ≡ 0 → ⊥) → kind_bytes k ≡ b ∷ []
unfolding kind_bytes
one_symbol k b e n = rw (← e, ne_eqb b 0 n)

-- the numbers of bridges
pub low-bridge : (r : ℕ) → r < 9 → bridge_bytes r ≡ digit_byte (r + 1) ∷ []
unfolding bridge_bytes
low-bridge r h = simp (lt-ltb r 9 h)

pub high-bridge : (r : ℕ) → 9 ≤ r → bridge_bytes r ≡ 37 ∷ decimal (r + 1)
unfolding bridge_bytes
high-bridge r h = simp (le-ltb r 9 h)

-- a sign with its size
pub size0 : (s n : ℕ) → n ≡ 0 → size_bytes s n ≡ []
unfolding size_bytes
size0 s n e = simp e

pub size1 : (s n : ℕ) → n ≡ 1 → size_bytes s n ≡ s ∷ []
unfolding size_bytes
size1 s n e = simp e

pub size2 : (s n : ℕ) → (n ≡ 0 → ⊥) → (n ≡ 1 → ⊥) → size_bytes s n ≡ s ∷ digit_byte n ∷ []
unfolding size_bytes
size2 s n e f = simp (ne_eqb n 0 e, ne_eqb n 1 f)

pub hydrogens-size : (h : ℕ) → hydrogen_bytes h ≡ size_bytes 72 h
unfolding hydrogen_bytes size_bytes
hydrogens-size h = refl

-- the mark
pub mark0 : (k : ℕ) → k ≡ 0 → mark_bytes k ≡ []
unfolding mark_bytes
mark0 k e = simp e

pub mark1 : (k : ℕ) → k ≡ 1 → mark_bytes k ≡ 64 ∷ []
unfolding mark_bytes
mark1 k e = simp e

pub mark2 : (k : ℕ) → (k ≡ 0 → ⊥) → (k ≡ 1 → ⊥) → mark_bytes k ≡ 64 ∷ 64 ∷ []
unfolding mark_bytes
mark2 k e f = simp (ne_eqb k 0 e, ne_eqb k 1 f)

-- the letters of symbols
pub letters0 : (s : Spelling) → s.first ≡ 0 → letters s ≡ []
unfolding letters
letters0 s e = simp e

pub letters1 : (s : Spelling) → (s.first ≡ 0 → ⊥) → s.second ≡ 0 → letters s ≡ s.first ∷ []
unfolding letters
letters1 s e f = simp (ne_eqb s.first 0 e, f)

pub letters2 : (s : Spelling) → (s.first ≡ 0 → ⊥) → (s.second ≡ 0 → ⊥) → letters s ≡ s.first ∷ s.second ∷ []
unfolding letters
letters2 s e f = simp (ne_eqb s.first 0 e, ne_eqb s.second 0 f)

-- at most two letters, none of them 0
abbrev brief : List ℕ → Bool
brief [] = true
brief (a ∷ []) = not (eqb a 0)
brief (a ∷ b ∷ []) = not (eqb a 0) && not (eqb b 0)
brief (a ∷ b ∷ c ∷ l) = false

abbrev all_brief : List (List ℕ) → Bool
all_brief [] = true
all_brief (s ∷ l) = brief s && all_brief l

brief-at : (l : List (List ℕ)) (k : ℕ) → all_brief l ≡ true → brief (get_or l k []) ≡ true
brief-at [] k h = refl
brief-at (s ∷ l) zero h = and_left (brief s) (all_brief l) h
brief-at (s ∷ l) (suc k) h = brief-at l k (and_right (brief s) (all_brief l) h)

brief-letters : (l : List ℕ) → brief l ≡ true → letters (spelling l) ≡ l
unfolding letters
brief-letters [] h = refl
brief-letters (a ∷ []) h = simp (not-true (eqb a 0) h)
brief-letters (a ∷ b ∷ []) h = simp (not-true (eqb a 0) (and_left (not (eqb a 0)) (not (eqb b 0)) h), not-true (eqb b 0) (and_right (not (eqb a 0)) (not (eqb b 0)) h))
brief-letters (a ∷ b ∷ c ∷ l) h = absurd (let z : ◌≡◌ {A = ℕ} 0 1 = cc in omega arith)

symbol-brief : (e : ℕ) → brief (bytes_of e) ≡ true
unfolding bytes_of symbols
symbol-brief zero = refl
symbol-brief (suc e) = brief-at symbols e refl

pub symbol-letters : (e : ℕ) → letters (spelling (bytes_of e)) ≡ bytes_of e
symbol-letters e = brief-letters (bytes_of e) (symbol-brief e)

choose : (t : Bool) (a b : List ℕ) → brief a ≡ true → brief b ≡ true → brief (pick t a b) ≡ true
choose true a b h g = h
choose false a b h g = g

selected-brief : (e : ℕ) → brief (selected_bytes e) ≡ true
unfolding selected_bytes
selected-brief e =
    choose (eqb e 6) _ _ refl (choose (eqb e 7) _ _ refl (choose (eqb e 8) _ _ refl (choose (eqb e 15) _ _ refl (choose (eqb e 16) _ _ refl refl))))

pub selected-letters : (e : ℕ) → letters (spelling (selected_bytes e)) ≡ selected_bytes e
selected-letters e = brief-letters (selected_bytes e) (selected-brief e)

-- a charge below 0, and the others
pub record Below (z : ℤ) : Type 0 where
  pub fits : SFits w32 (pos 0 -ℤ z)
  pub natural : T (non_neg (pos 0 -ℤ z))
  pub small : nat_abs (pos 0 -ℤ z) < 10
  pub bytes : charge_bytes z ≡ size_bytes 45 (nat_abs (pos 0 -ℤ z))

pub below : (z : ℤ) → in_range z (negsuc 8) (pos 9) ≡ true → lt_z z (pos 0) ≡ true → Below z
unfolding in_range
below (pos n) h e = let g = ltb-true n 0 e in absurd (omega arith)
below (negsuc n) h e =
    let g = leb-true n 8 (and_left (leb n 8) true h) in
    let d : 0 + suc n ≡ suc n = omega arith in
    record { fits = record { sfits = simp d (omega arith) }; natural = tt; small = simp d (omega arith); bytes = simp d }

pub above : (z : ℤ) → in_range z (negsuc 8) (pos 9) ≡ true → lt_z z (pos 0) ≡ false → T (non_neg z) × ((nat_abs z < 10) × (charge_bytes z ≡ size_bytes 43 (nat_abs z)))
unfolding in_range
above (pos n) h e = let g = leb-true n 9 (and_right (le_z (negsuc 8) (pos n)) (leb n 9) h) in (tt, (omega arith, refl))
above (negsuc n) h e = let w : true ≡ false = e in absurd (let z : ◌≡◌ {A = ℕ} 0 1 = cc in omega arith)

-- fields that are 0 are absent
pub isotope0 : (i : ℕ) → i ≡ 0 → isotope_bytes i ≡ []
isotope0 i e = simp e

pub isotope1 : (i : ℕ) → (i ≡ 0 → ⊥) → isotope_bytes i ≡ decimal i
isotope1 i e = simp (ne_eqb i 0 e)

pub extension0 : (x : ℕ) → x ≡ 0 → extension_bytes x ≡ []
extension0 x e = simp e

pub extension1 : (x : ℕ) → (x ≡ 0 → ⊥) → extension_bytes x ≡ 58 ∷ decimal x
extension1 x e = simp (ne_eqb x 0 e)

-- the symbol, from its letters
pub chosen : (e s : ℕ) (w : Spelling) → s ≡ 1 → w ≡ spelling (selected_bytes e) → symbol_bytes e s ≡ letters w
chosen e s w h g = simp h (sym (ap letters g ∙ selected-letters e))

pub plain : (e s : ℕ) (w : Spelling) → (s ≡ 1 → ⊥) → w ≡ spelling (bytes_of e) → symbol_bytes e s ≡ letters w
plain e s w h g = simp (ne_eqb s 1 h) (sym (ap letters g ∙ symbol-letters e))

-- a bracket, from its fields
pub bracket-is : (t : List ℤ) (a k i e s h x : ℕ) (z : ℤ) → i ≡ number (atom_cell t a ISOTOPE) → e ≡ element t a → s ≡ selected t a → h ≡ hydrogens t a → z ≡ atom_cell t a CHARGE → x ≡ number (atom_cell t a EXTENSION)
    → bracket_bytes t a k ≡ 91 ∷ (isotope_bytes i ++ (symbol_bytes e s ++ (mark_bytes k ++ (hydrogen_bytes h ++ (charge_bytes z ++ (extension_bytes x ++ 93 ∷ []))))))
unfolding bracket_bytes
bracket-is t a k i e s h x z p q r u v w = sym (rw (p, q, r, u, v, w))

-- a charge of 0 lies between 0 and 0
pub neutral-is : (z : ℤ) → in_range z (pos 0) (pos 0) ≡ neutral z
unfolding in_range
neutral-is (negsuc n) = refl
neutral-is (pos n) = go (eqb n 0) refl
  where
    go : (t : Bool) → eqb n 0 ≡ t → (leb 0 n && leb n 0) ≡ t
    go true e = let z = eqb-true n 0 e in rw (le-leb 0 n (omega arith), le-leb n 0 (omega arith))
    go false e = let z = eqb-false n 0 e in rw (le-leb 0 n (omega arith), lt-leb n 0 (omega arith))

pub bare-atom : (t : List ℤ) (a k sum e s : ℕ) → without_brackets t a k sum ≡ true → e ≡ element t a → s ≡ selected t a → spelled_atom t a k sum ≡ symbol_bytes e s
unfolding spelled_atom
bare-atom t a k sum e s h p q = simp (h, p, q)

pub bracket-atom : (t : List ℤ) (a k sum : ℕ) → without_brackets t a k sum ≡ false → spelled_atom t a k sum ≡ bracket_bytes t a k
unfolding spelled_atom
bracket-atom t a k sum h = simp h
