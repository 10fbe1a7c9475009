-- The fields of a bracket stay in range byte by byte, and make a valid row; so do the letters outside brackets. Assumes nothing.
use Prim.Native.Nat.{ℕ, zero, suc, ◌+◌, ◌-◌, ◌*◌, ◌≤◌, ◌<◌}
use native.Mathlib.Omega.{arith}
use mathlib.Core.Path.{◌≡◌, refl}
use mathlib.Core.Bool.{Bool, true, false, ◌||◌}
use mathlib.Core.List.{List, [], ◌∷◌}
use lib.ListN.{length}
use lib.IntN.{pos, negsuc}
use lib.Dec.{eqb}
use borrow.Author.Tests.{le-leb}
use Rattle.loops.specs.Loop.{pick}
use Rattle.element.specs.Symbols.{among, same_bytes, symbols}
use Rattle.element.specs.Lookup.{index_from, number_of, selected_of}
use Rattle.reading_grammar.specs.Grammar.{nonzero, digits, several}
use Rattle.reading_grammar.proofs.Ends.{each}
use Rattle.table.specs.Cells.{number, in_range}
use Rattle.table.specs.Valid.{max_mark, selectable, atom_row_ok}
use Rattle.reading_state.specs.declared.Fields.{Fields}
use Rattle.reading.specs.Memory.{blank, row_of, bare_row}
use Rattle.reading.specs.Bracket.{digit, isotoped, elemented, symbolled, marked, hydrogened, charged, signed, extended}
use Rattle.reading.proofs.Cases.{by-test}
use Rattle.reading.proofs.Sane.{InRange, isotope_most, extension_most}
use Rattle.table.proofs.Valid.{range-of}
use Rattle.reading.proofs.Rows.{row_ok}

-- ---- digits
pub any-digit : (b : ℕ) → among b digits ≡ true → digit b ≤ 9
unfolding digits
any-digit = each (λ b. digit b ≤ 9) digits (omega arith, (omega arith, (omega arith, (omega arith, (omega arith, (omega arith, (omega arith, (omega arith, (omega arith, (omega arith, tt))))))))))

pub nonzero-digit : (b : ℕ) → among b nonzero ≡ true → (1 ≤ digit b) × (digit b ≤ 9)
unfolding nonzero
nonzero-digit = each (λ b. (1 ≤ digit b) × (digit b ≤ 9)) nonzero ((omega arith, omega arith), ((omega arith, omega arith), ((omega arith, omega arith), ((omega arith, omega arith), ((omega arith, omega arith), ((omega arith, omega arith), ((omega arith, omega arith), ((omega arith, omega arith), ((omega arith, omega arith), tt)))))))))

pub several-digit : (b : ℕ) → among b several ≡ true → (2 ≤ digit b) × (digit b ≤ 9)
unfolding several
several-digit = each (λ b. (2 ≤ digit b) × (digit b ≤ 9)) several ((omega arith, omega arith), ((omega arith, omega arith), ((omega arith, omega arith), ((omega arith, omega arith), ((omega arith, omega arith), ((omega arith, omega arith), ((omega arith, omega arith), ((omega arith, omega arith), tt))))))))

-- ---- elements
index_below : (k : ℕ) (s : List ℕ) (l : List (List ℕ)) → 1 ≤ k → index_from k s l < k + length l
unfolding index_from
index_below k s [] h = omega arith
index_below k s (t ∷ l) h =
    let rest : index_from (suc k) s l < suc k + length l = index_below (suc k) s l (omega arith) in
    by-test (λ n. n < k + suc (length l)) (same_bytes s t) k (index_from (suc k) s l) (λ e. omega arith) (λ e. omega arith)

pub number_small : (s : List ℕ) → number_of s ≤ 118
unfolding number_of symbols
number_small s = omega (arith, index_below 1 s symbols (omega arith))

pub selected-fine : (b : ℕ) → eqb (selected_of b) 0 ≡ false → (selectable (selected_of b) ≡ true) × (selected_of b ≤ 118)
unfolding selected_of
selected-fine b = split (eqb b 99) (eqb b 110) (eqb b 111) (eqb b 112) (eqb b 115)
  where
    split : (u v w x y : Bool) → let e : ℕ = pick u 6 (pick v 7 (pick w 8 (pick x 15 (pick y 16 0)))) in eqb e 0 ≡ false → (selectable e ≡ true) × (e ≤ 118)
    split true v w x y h = (refl, omega arith)
    split false true w x y h = (refl, omega arith)
    split false false true x y h = (refl, omega arith)
    split false false false true y h = (refl, omega arith)
    split false false false false true h = (refl, omega arith)
    split false false false false false h = absurd (let z : ◌≡◌ {A = ℕ} 0 1 = cc in omega arith)

-- ---- the fields
pub blank-range : (a e : ℕ) → InRange a e blank
unfolding in_range
blank-range a e = record { element = omega arith; selected = omega arith; selectable = refl; isotope = omega arith; hydrogens = omega arith; charge = refl; extension = omega arith; mark = omega arith }

pub wider : {a e : ℕ} {f : Fields} → InRange a e f → (c g : ℕ) → a ≤ c → e ≤ g → InRange c g f
wider r c g ac eg = record { element = r.element; selected = r.selected; selectable = r.selectable; isotope = omega arith; hydrogens = r.hydrogens; charge = r.charge; extension = omega arith; mark = r.mark }

module _ {a e : ℕ} {f : Fields} (r : InRange a e f) where
  pub isotoped-range : (b c : ℕ) → 10 * f.isotope + digit b ≤ c → InRange c e (isotoped b f)
  isotoped-range b c h = record { element = r.element; selected = r.selected; selectable = r.selectable; isotope = h; hydrogens = r.hydrogens; charge = r.charge; extension = r.extension; mark = r.mark }

  pub elemented-range : (n s : ℕ) → n ≤ 118 → s ≤ 1 → (eqb s 0 || selectable n) ≡ true → InRange a e (elemented n s f)
  elemented-range n s hn hs h = record { element = hn; selected = hs; selectable = h; isotope = r.isotope; hydrogens = r.hydrogens; charge = r.charge; extension = r.extension; mark = r.mark }

  pub symbolled-range : (b : ℕ) → InRange a e (symbolled b f)
  unfolding symbolled
  symbolled-range b =
      by-test (InRange a e) _ _ _
      (λ q. elemented-range (number_of (b ∷ [])) 0 (number_small (b ∷ [])) (omega arith) refl)
      (λ q. let z = selected-fine b q in elemented-range (selected_of b) 1 z.1 (omega arith) z.0)

  pub marked-range : (k : ℕ) → k ≤ max_mark → InRange a e (marked k f)
  marked-range k h = record { element = r.element; selected = r.selected; selectable = r.selectable; isotope = r.isotope; hydrogens = r.hydrogens; charge = r.charge; extension = r.extension; mark = h }

  pub hydrogened-range : (h : ℕ) → h ≤ 9 → InRange a e (hydrogened h f)
  hydrogened-range h l = record { element = r.element; selected = r.selected; selectable = r.selectable; isotope = r.isotope; hydrogens = l; charge = r.charge; extension = r.extension; mark = r.mark }

  pub charged-range : (t : Bool) (n : ℕ) → 1 ≤ n → n ≤ 9 → InRange a e (charged (signed t n) f)
  unfolding in_range
  charged-range t n l h = record { element = r.element; selected = r.selected; selectable = r.selectable; isotope = r.isotope; hydrogens = r.hydrogens; charge = sized t; extension = r.extension; mark = r.mark }
    where
      sized : (t : Bool) → in_range (signed t n) (negsuc 8) (pos 9) ≡ true
      sized true = le-leb n 9 h
      sized false = rw (le-leb (n - 1) 8 (omega arith))

  pub extended-range : (b g : ℕ) → 10 * f.extension + digit b ≤ g → InRange a g (extended b f)
  extended-range b g h = record { element = r.element; selected = r.selected; selectable = r.selectable; isotope = r.isotope; hydrogens = r.hydrogens; charge = r.charge; extension = h; mark = r.mark }

-- one digit more
pub isotope-digit : (k : ℕ) {e : ℕ} {f : Fields} → suc k ≤ 2 → InRange (isotope_most (suc k)) e f → (b : ℕ) → digit b ≤ 9 → InRange (isotope_most k) e (isotoped b f)
isotope-digit zero h r b d = isotoped-range r b 999 (omega arith)
isotope-digit (suc zero) h r b d = isotoped-range r b 99 (omega arith)
isotope-digit (suc (suc k)) h r b d = absurd (omega arith)

pub extension-digit : (k : ℕ) {a : ℕ} {f : Fields} → suc k ≤ 3 → InRange a (extension_most (suc k)) f → (b : ℕ) → digit b ≤ 9 → InRange a (extension_most k) (extended b f)
extension-digit zero h r b d = extended-range r b 9999 (omega arith)
extension-digit (suc zero) h r b d = extended-range r b 999 (omega arith)
extension-digit (suc (suc zero)) h r b d = extended-range r b 99 (omega arith)
extension-digit (suc (suc (suc k))) h r b d = absurd (omega arith)

pub isotope-most : (k : ℕ) → isotope_most k ≤ 999
isotope-most zero = omega arith
isotope-most (suc zero) = omega arith
isotope-most (suc (suc k)) = omega arith

pub extension-most : (k : ℕ) → extension_most k ≤ 9999
extension-most zero = omega arith
extension-most (suc zero) = omega arith
extension-most (suc (suc zero)) = omega arith
extension-most (suc (suc (suc k))) = omega arith

-- ---- the rows
pub row-of-fields : {f : Fields} → InRange 999 9999 f → row_ok (row_of f) ≡ true
unfolding atom_row_ok number
row-of-fields {f} r =
    rw (range-of f.element 118 r.element, range-of f.isotope 999 r.isotope, range-of f.hydrogens 9 r.hydrogens, r.charge, range-of f.extension 9999 r.extension, range-of f.mark max_mark r.mark, range-of f.selected 1 r.selected, r.selectable)

pub bare-row : (e : ℕ) → e ≤ 118 → row_ok (bare_row e 0) ≡ true
unfolding atom_row_ok number in_range
bare-row e h = rw (le-leb 0 e (omega arith), le-leb e 118 h)

pub selected-row : (e : ℕ) → e ≤ 118 → selectable e ≡ true → row_ok (bare_row e 1) ≡ true
unfolding atom_row_ok number in_range
selected-row e h s = rw (le-leb 0 e (omega arith), le-leb e 118 h, s)
