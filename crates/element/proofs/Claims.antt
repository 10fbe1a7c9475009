-- Spelling and looking up are inverse: tables computed over the elements 0 to 118. Assumes nothing.
use mathlib.Core.Path.{◌≡◌, refl, sym, ap, ◌∙◌}
use mathlib.Core.Bool.{Bool, true}
use Prim.Native.Nat.{ℕ, ◌≤◌}
use native.Mathlib.Omega.{arith}
use lib.Dec.{eqb}
use lib.ListN.{length}
use borrow.Author.Tests.{eqb-true}
use Rattle.loops.specs.Loop.{pick, each}
use Rattle.loops.proofs.Loops.{each_at}
use Rattle.element.specs.Symbols.{among, same_bytes, listed, starts, letters, symbols}
use Rattle.element.specs.Lookup.{number_of, index_from, selected_of, symbol_of, letter_of, bytes_of, selected_bytes, spelling}
use Rattle.element.specs.declared.Symbol.{Symbol}
use Rattle.element.specs.declared.Letter.{Letter}
use Rattle.element.proofs.Laws.{selectable}

-- a test that is computed holds at each element
holds : (p : ℕ → Bool) → each p 0 119 ≡ true → (e : ℕ) → e ≤ 118 → p e ≡ true
holds p t e h = each_at p 119 e t (omega arith)

equals : (f g : ℕ → ℕ) → each (λ e. eqb (f e) (g e)) 0 119 ≡ true → (e : ℕ) → e ≤ 118 → f e ≡ g e
equals f g t e h = eqb-true (f e) (g e) (holds (λ k. eqb (f k) (g k)) t e h)

-- the case of an answer and the number that it holds
abbrev case : Symbol → ℕ
case (Symbol.Long n) = 0
case (Symbol.Brief n) = 1
case (Symbol.Selected n) = 2
case Symbol.Half = 3
case Symbol.Nothing = 4

abbrev number : Symbol → ℕ
number (Symbol.Long n) = n
number (Symbol.Brief n) = n
number (Symbol.Selected n) = n
number Symbol.Half = 0
number Symbol.Nothing = 0

abbrev made : ℕ → ℕ → Symbol
made k n =
    pick (eqb k 0) (Symbol.Long n)
    (pick (eqb k 1) (Symbol.Brief n)
    (pick (eqb k 2) (Symbol.Selected n) (pick (eqb k 3) Symbol.Half Symbol.Nothing)))

made-is : (s : Symbol) → made (case s) (number s) ≡ s
made-is (Symbol.Long n) = refl
made-is (Symbol.Brief n) = refl
made-is (Symbol.Selected n) = refl
made-is Symbol.Half = refl
made-is Symbol.Nothing = refl

-- what each element's spelling is to be found as: `*` and one letter Brief, two letters Long
abbrev pub named : ℕ → Symbol
named e = pick (eqb (length (bytes_of e)) 2) (Symbol.Long e) (Symbol.Brief e)

-- what is found at an element's spelling
abbrev pub found_at : ℕ → Symbol
found_at e = symbol_of (spelling (bytes_of e)).first (spelling (bytes_of e)).second

-- looking up what was spelled gives the element again
pub spelled-found : (e : ℕ) → e ≤ 118 → found_at e ≡ named e
unfolding each symbol_of selected_of number_of index_from bytes_of listed starts same_bytes symbols
spelled-found e h =
    sym (made-is (found_at e))
    ∙ ap (λ k. made k (number (found_at e))) (equals (λ k. case (found_at k)) (λ k. case (named k)) refl e h)
    ∙ ap (made (case (named e))) (equals (λ k. number (found_at k)) (λ k. number (named k)) refl e h)
    ∙ made-is (named e)

-- the symbols are all different
pub symbols_differ : (e f : ℕ) → e ≤ 118 → f ≤ 118 → bytes_of e ≡ bytes_of f → e ≡ f
unfolding each number_of index_from bytes_of same_bytes symbols
symbols_differ e f h g s =
    sym (equals (λ k. number_of (bytes_of k)) (λ k. k) refl e h) ∙ ap number_of s ∙ equals (λ k. number_of (bytes_of k)) (λ k. k) refl f g

-- a selected letter belongs to its element; the other elements have none
pub selected-found : (e : ℕ) → e ≤ 118 → selected_of (spelling (selected_bytes e)).first ≡ pick (selectable e) e 0
unfolding each selected_of selected_bytes among
selected-found = equals (λ k. selected_of (spelling (selected_bytes k)).first) (λ k. pick (selectable k) k 0) refl

-- outside brackets `Sc` is sulfur and what follows it; in brackets it is scandium
pub sulfur-not-scandium : (letter_of 83 ≡ Letter.Plain 16) × (symbol_of 83 99 ≡ Symbol.Long 21)
unfolding letter_of symbol_of selected_of number_of index_from among letters listed same_bytes symbols
sulfur-not-scandium = (refl, refl)
