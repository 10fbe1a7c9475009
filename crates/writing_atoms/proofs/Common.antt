-- Laws of the atoms that stand as one letter: carbon, nitrogen and oxygen. Assumes nothing.
use Prim.Native.Nat.{ℕ, zero, suc, ◌+◌, ◌-◌, ◌*◌, ◌≤◌}
use native.Mathlib.Omega.{arith}
use mathlib.Core.Path.{◌≡◌, refl, sym, ◌∙◌, subst}
use mathlib.Core.Bool.{Bool, true, false, not, ◌&&◌}
use mathlib.Core.List.{List, [], ◌∷◌}
use lib.IntN.{ℤ, pos, negsuc}
use lib.Dec.{eqb, leb}
use borrow.Author.Tests.{eq-eqb, eqb-true, eqb-false, le-leb, leb-true, not-false}
use Rattle.loops.specs.Loop.{pick}
use Rattle.loops.proofs.Loops.{and_left, and_right}
use Rattle.element.specs.Symbols.{among, symbols}
use Rattle.element.specs.Lookup.{bare, bytes_of, selected_bytes}
use Rattle.valence.specs.Valence.{targets, first_target, implied}
use Rattle.valence.proofs.Count.{first_room, count_of, count-is}
use Rattle.table.specs.Limits.{ELEMENT, SELECTED, ISOTOPE, CHARGE, EXTENSION}
use Rattle.table.specs.Cells.{number, in_range, atom_cell, element, selected, hydrogens}
use Rattle.table.proofs.Valid.{range-high}
use Rattle.writing.specs.Spell.{symbol_bytes, neutral, without_brackets, spelled_atom}
use Rattle.writing_atoms.specs.Fields.{Plain, Common, capital}
use Rattle.writing_atoms.proofs.Laws.{neutral-is, bare-atom}

-- a number between two bounds
range-low : (z : ℤ) (l b : ℕ) → in_range z (pos l) (pos b) ≡ true → (l ≤ number z) × (number z ≤ b)
unfolding in_range number
range-low (pos n) l b h = (leb-true l n (and_left (leb l n) (leb n b) h), leb-true n b (and_right (leb l n) (leb n b) h))
range-low (negsuc n) l b h = absurd (let z : ◌≡◌ {A = ℕ} 0 1 = cc in omega arith)

-- what holds of 6, 7 and 8
three : (P : ℕ → Type 0) → P 6 → P 7 → P 8 → (e : ℕ) → 6 ≤ e → e ≤ 8 → P e
three P x y z e l m = go (eqb e 6) refl (eqb e 7) refl
  where
    go : (t : Bool) → eqb e 6 ≡ t → (u : Bool) → eqb e 7 ≡ u → P e
    go true p u q = subst P (sym (eqb-true e 6 p)) x
    go false p true q = subst P (sym (eqb-true e 7 q)) y
    go false p false q =
        let h = eqb-false e 6 p in
        let k = eqb-false e 7 q in
        let r : 8 ≡ e = omega arith in
        subst P r z

-- the first target is 10 less the atomic number
first-is : (e : ℕ) → 6 ≤ e → e ≤ 8 → first_target e + e ≡ 10
unfolding first_target targets
first-is = three (λ e. first_target e + e ≡ 10) refl refl refl

room-first : (t : ℕ) (ts : List ℕ) (sum : ℕ) → sum ≤ t → first_room (t ∷ ts) sum + sum ≡ t
unfolding first_room
room-first t ts sum h = rw (le-leb sum t h) (omega arith)

room-is : (sum e : ℕ) → 6 ≤ e → e ≤ 8 → e + sum ≤ 10 → first_room (targets e) sum + sum + e ≡ 10
unfolding targets
room-is sum =
    three (λ e. e + sum ≤ 10 → first_room (targets e) sum + sum + e ≡ 10)
    (λ h. omega (arith, room-first 4 [] sum (omega arith)))
    (λ h. omega (arith, room-first 3 (5 ∷ []) sum (omega arith)))
    (λ h. omega (arith, room-first 2 [] sum (omega arith)))

implied-is : (e s sum h : ℕ) → 6 ≤ e → e ≤ 8 → s ≤ 1 → e + s + sum + h ≡ 10 → implied e s sum ≡ h
unfolding count_of
implied-is e s sum h l m c t = count-is e s sum ∙ go (eqb s 1) refl
  where
    go : (u : Bool) → eqb s 1 ≡ u → pick u (first_target e - (sum + 1)) (first_room (targets e) sum) ≡ h
    go true p = omega (arith, eqb-true s 1 p, first-is e l m)
    go false p =
        let q = eqb-false s 1 p in
        omega (arith, room-is sum e l m (omega arith))

-- the letter
pub capital-low : (e : ℕ) → capital e ≤ 79
unfolding capital
capital-low e = go (eqb e 6) (eqb e 7)
  where
    go : (t u : Bool) → pick t 67 (pick u 78 79) ≤ 79
    go true u = omega arith
    go false true = omega arith
    go false false = omega arith

letter-is : (e s : ℕ) → 6 ≤ e → e ≤ 8 → s ≤ 1 → symbol_bytes e s ≡ (capital e + 32 * s) ∷ []
unfolding capital bytes_of symbols selected_bytes
letter-is e zero l m c = three (λ e. symbol_bytes e 0 ≡ (capital e + 32 * 0) ∷ []) refl refl refl e l m
letter-is e (suc zero) l m c = three (λ e. symbol_bytes e 1 ≡ (capital e + 32 * 1) ∷ []) refl refl refl e l m
letter-is e (suc (suc s)) l m c = absurd (omega arith)

pub letter-by : (e s b : ℕ) → 6 ≤ e → e ≤ 8 → s ≤ 1 → b ≡ capital e → symbol_bytes e s ≡ (b + 32 * s) ∷ []
letter-by e s b l m c p = rw p (letter-is e s l m c)

bare-is : (e : ℕ) → 6 ≤ e → e ≤ 8 → bare e ≡ true
unfolding bare among
bare-is = three (λ e. bare e ≡ true) refl refl refl

-- what the tests of an atom say
pub plain_of : {t : List ℤ} {a k : ℕ} (c i x : Bool) → c ≡ in_range (atom_cell t a CHARGE) (pos 0) (pos 0) → i ≡ in_range (atom_cell t a ISOTOPE) (pos 0) (pos 0) → x ≡ in_range (atom_cell t a EXTENSION) (pos 0) (pos 0) → k ≡ 0
    → ((c && i) && x) ≡ true → Plain t a k
plain_of c i x p q r m h =
    let u = and_left (c && i) x h in
    record { charge = sym p ∙ and_left c i u; isotope = sym q ∙ and_right c i u; extension = sym r ∙ and_right (c && i) x h; mark = m }

-- a test that was passed
pub passed : {t u : Bool} → t ≡ u → not t ≡ false → u ≡ true
passed {t} p q = sym p ∙ not-false t q

pub below-nine : (z : ℤ) (e : ℕ) → in_range z (pos 6) (pos 8) ≡ true → e ≡ number z → e ≤ 8
below-nine z e p q = omega (arith, (range-low z 6 8 p).1)

pub below_two : (z : ℤ) (s : ℕ) → in_range z (pos 0) (pos 1) ≡ true → s ≡ number z → s ≤ 1
below_two z s p q = omega (arith, range-high z 1 p)

pub common-of : {t : List ℤ} {a sum e s h : ℕ} → in_range (atom_cell t a ELEMENT) (pos 6) (pos 8) ≡ true → in_range (atom_cell t a SELECTED) (pos 0) (pos 1) ≡ true → e ≡ element t a → s ≡ selected t a → h ≡ hydrogens t a
    → sum ≤ 10 - e - s → 10 - e - s - sum ≡ h → Common t a sum
common-of {t} {a} p q i j k l m =
    let u = range-low (atom_cell t a ELEMENT) 6 8 p in
    let v = range-high (atom_cell t a SELECTED) 1 q in
    record { least = u.0; most = u.1; chosen = v; target = omega arith }

-- THE STATEMENT: such an atom is spelled by its letter
without : {t : List ℤ} {a k sum : ℕ} → Plain t a k → Common t a sum → without_brackets t a k sum ≡ true
unfolding without_brackets
without {t} {a} {k} {sum} p q =
    let i : number (atom_cell t a ISOTOPE) ≡ 0 = omega (arith, range-high (atom_cell t a ISOTOPE) 0 p.isotope) in
    let x : number (atom_cell t a EXTENSION) ≡ 0 = omega (arith, range-high (atom_cell t a EXTENSION) 0 p.extension) in
    let c : neutral (atom_cell t a CHARGE) ≡ true = sym (neutral-is (atom_cell t a CHARGE)) ∙ p.charge in
    let b : bare (element t a) ≡ true = bare-is (element t a) q.least q.most in
    let h : implied (element t a) (selected t a) sum ≡ hydrogens t a = implied-is (element t a) (selected t a) sum (hydrogens t a) q.least q.most q.chosen q.target in
    simp (i, c, x, p.mark, b, h, eq-eqb (hydrogens t a) (hydrogens t a) refl)

pub letter-atom : {t : List ℤ} {a k sum e s b : ℕ} → Plain t a k → Common t a sum → e ≡ element t a → s ≡ selected t a → symbol_bytes e s ≡ b ∷ [] → spelled_atom t a k sum ≡ b ∷ []
letter-atom {t} {a} {k} {sum} {e} {s} p q i j h = bare-atom t a k sum e s (without p q) i j ∙ h
