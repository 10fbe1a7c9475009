-- The symbol of a bracket: what the machine does at its bytes is what looking it up says. Assumes nothing.
use Prim.Native.Nat.{ℕ, ◌+◌, ◌≤◌, ◌<◌}
use native.Mathlib.Omega.{arith}
use mathlib.Core.Path.{◌≡◌, refl, sym, ap, ◌∙◌}
use mathlib.Core.Bool.{Bool, true, false}
use Rattle.std.specs.Prelude.{Ok, Err}
use mathlib.Core.List.{List, [], ◌∷◌}
use lib.ListN.{length}
use lib.IntN.{pos}
use lib.Dec.{eqb, ltb}
use borrow.Author.Tests.{eqb-true, ltb-true}
use Rattle.loops.specs.Loop.{pick}
use Rattle.element.specs.Symbols.{among, listed, starts, symbols, marks, same_bytes}
use Rattle.element.specs.Lookup.{symbol_of, selected_of, number_of, index_from}
use Rattle.element.specs.declared.Symbol.{Symbol}
use Rattle.element.specs.declared.Symbol.TheVariants.{Long, Brief, Selected, Half, Nothing}
use Rattle.reading_grammar.specs.Grammar.{digits}
use Rattle.reading_grammar.specs.declared.Mode.TheVariants.{Isotope as isotope, Symbol1 as symbol1, Symbolled as symbolled}
use Rattle.reading_grammar.specs.declared.Move.TheVariants.{Stop as stop, To as to}
use Rattle.reading_grammar.specs.Machine.{next, resting, symbol_or}
use Rattle.reading_grammar.specs.Fold.{Verdict, bad}
use Rattle.reading_grammar.proofs.Ends.{each, all, all_listed}
use Rattle.reading_grammar.proofs.Complete.{on-element}
use Rattle.reading.specs.Memory.{Memory, drafted}
use Rattle.reading.specs.Bracket as bytes
use Rattle.reading.specs.Act.{mode_act}
use Rattle.reading_fields.specs.Field.{Peeked, fields, rest_in, Symbolled}
use Rattle.reading_fields.proofs.Rest.{rest-stop, rest-to, alike}
use Rattle.reading_fields.proofs.Bytes.{digit-no-symbol, some_in}

-- the second byte of a symbol is not 0
abbrev second : List ℕ → Bool
second [] = true
second (a ∷ []) = true
second (a ∷ b ∷ s) = ltb 0 b

pub pair-in : {s : List ℕ} {p : ℕ} (a : ℕ) {b : ℕ} → Peeked s p b → listed (a ∷ b ∷ []) symbols ≡ true → p < length s
unfolding all symbols
pair-in a {b} k h = k.within (ltb-true 0 b (all_listed second symbols (a ∷ b ∷ []) refl h))

-- a byte that begins a symbol is no digit
symbol-no-digit : (a : ℕ) → symbol_or a stop ≡ to (symbol1 a) → among a digits ≡ false
symbol-no-digit a e = split (among a digits) refl
  where
    split : (t : Bool) → among a digits ≡ t → t ≡ false
    split true h = let f : stop ≡ to (symbol1 a) = sym (digit-no-symbol a h stop) ∙ e in absurd (let z : ◌≡◌ {A = ℕ} 0 1 = cc in omega arith)
    split false h = refl

abbrev pub selected_letters : List ℕ
selected_letters = 99 ∷ 110 ∷ 111 ∷ 112 ∷ 115 ∷ []

pub selected-letter : (a : ℕ) → eqb (selected_of a) 0 ≡ false → among a selected_letters ≡ true
unfolding selected_of among
selected-letter a h = split (eqb a 99) (eqb a 110) (eqb a 111) (eqb a 112) (eqb a 115) h
  where
    split : (t u v w x : Bool) → eqb (pick t 6 (pick u 7 (pick v 8 (pick w 15 (pick x 16 0))))) 0 ≡ false → pick t true (pick u true (pick v true (pick w true (pick x true false)))) ≡ true
    split true u v w x h = refl
    split false true v w x h = refl
    split false false true w x h = refl
    split false false false true x h = refl
    split false false false false true h = refl
    split false false false false false h = sym h

mark-goes : (a : ℕ) → among a selected_letters ≡ true → (symbol_or a stop ≡ to symbolled) × (among a digits ≡ false)
unfolding symbol_or symbols starts marks among digits
mark-goes = each (λ a. (symbol_or a stop ≡ to symbolled) × (among a digits ≡ false)) selected_letters ((refl, refl), ((refl, refl), ((refl, refl), ((refl, refl), ((refl, refl), tt)))))

no-mark : (a : ℕ) → eqb a 42 ≡ false → eqb (selected_of a) 0 ≡ true → among a marks ≡ false
unfolding marks among selected_of
no-mark a h k = split (among a marks) refl
  where
    split : (t : Bool) → among a marks ≡ t → t ≡ false
    split true e = each (λ x. eqb x 42 ≡ false → eqb (selected_of x) 0 ≡ true → true ≡ false) marks
        ((λ u v. u), ((λ u v. sym v), ((λ u v. sym v), ((λ u v. sym v), ((λ u v. sym v), ((λ u v. sym v), tt)))))) a e h k
    split false e = refl

begins : (a : ℕ) → starts a symbols ≡ true → symbol_or a stop ≡ to (symbol1 a)
unfolding symbol_or
begins a q = rw q

ends : (a : ℕ) → starts a symbols ≡ false → among a marks ≡ false → symbol_or a stop ≡ stop
unfolding symbol_or
ends a q r = rw (q, r)

module _ (s : List ℕ) (at : ℕ) {a b : ℕ} (ka : Peeked s at a) (kb : Peeked s (at + 1) b) (l : at < length s) where
  abbrev after_symbol : Memory → ℕ → Symbol → Verdict Memory
  after_symbol μ i (Long e) = rest_in s μ (at + 2) symbolled (fields i e 0 0 0 (pos 0) 0)
  after_symbol μ i (Brief e) = rest_in s μ (at + 1) symbolled (fields i e 0 0 0 (pos 0) 0)
  after_symbol μ i (Selected e) = rest_in s μ (at + 1) symbolled (fields i e 1 0 0 (pos 0) 0)
  after_symbol μ i Half = bad 3 (at + 1)
  after_symbol μ i Nothing = bad 3 at

  module _ (μ : Memory) (i : ℕ) where
    abbrev m : Memory
    m = drafted (fields i 0 0 0 0 (pos 0) 0) μ

    -- the first byte of an element's symbol
    first : symbol_or a stop ≡ to (symbol1 a) → eqb (selected_of a) 0 ≡ true → rest_in s μ at (isotope 0) (fields i 0 0 0 0 (pos 0) 0) ≡ rest_in s μ (at + 1) (symbol1 a) (fields i (number_of (a ∷ [])) 0 0 0 (pos 0) 0)
    unfolding next mode_act bytes.symbolled
    first e z = rest-to s at (isotope 0) m ka l e (rw (symbol-no-digit a e, z)) refl

    star : a ≡ 42 → rest_in s μ at (isotope 0) (fields i 0 0 0 0 (pos 0) 0) ≡ rest_in s μ (at + 1) symbolled (fields i 0 0 0 0 (pos 0) 0)
    unfolding next mode_act bytes.symbolled symbol_or symbols starts marks among digits selected_of number_of index_from same_bytes
    star e = rest-to s at (isotope 0) m ka l (rw e) (rw e) refl

    pub symbol-rest : rest_in s μ at (isotope 0) (fields i 0 0 0 0 (pos 0) 0) ≡ after_symbol μ i (symbol_of a b)
    unfolding symbol_of next mode_act bytes.symbolled resting
    symbol-rest = split (eqb a 42) (eqb (selected_of a) 0) (listed (a ∷ b ∷ []) symbols) (listed (a ∷ []) symbols) (starts a symbols) refl refl refl refl refl
      where
        two : at + 1 + 1 ≡ at + 2
        two = omega arith

        split : (t u v w x : Bool) → eqb a 42 ≡ t → eqb (selected_of a) 0 ≡ u → listed (a ∷ b ∷ []) symbols ≡ v → listed (a ∷ []) symbols ≡ w → starts a symbols ≡ x
            → rest_in s μ at (isotope 0) (fields i 0 0 0 0 (pos 0) 0)
            ≡ after_symbol μ i (pick t (Brief 0) (pick u (pick v (Long (number_of (a ∷ b ∷ []))) (pick w (Brief (number_of (a ∷ []))) (pick x Half Nothing))) (Selected (selected_of a))))
        split true u v w x e f g h j = star (eqb-true a 42 e)
        split false false v w x e f g h j =
            let z = mark-goes a (selected-letter a f) in
            rest-to s at (isotope 0) m ka l z.0 (rw (z.1, f)) refl
        split false true true w x e f g h j =
            first (on-element a (b ∷ []) g stop) f ∙ rest-to s (at + 1) (symbol1 a) (drafted (fields i (number_of (a ∷ [])) 0 0 0 (pos 0) 0) μ) kb (pair-in a kb g) {m' = symbolled} (rw g) {ν = drafted (fields i (number_of (a ∷ b ∷ [])) 0 0 0 (pos 0) 0) μ} (rw g) refl ∙ rw two
        split false true false true x e f g h j =
            first (on-element a [] h stop) f ∙ alike s (at + 1) (symbol1 a) symbolled (drafted (fields i (number_of (a ∷ [])) 0 0 0 (pos 0) 0) μ) kb (rw (g, h)) (rw g) refl
        split false true false false true e f g h j =
            first (begins a j) f ∙ rest-stop s (at + 1) (symbol1 a) (drafted (fields i (number_of (a ∷ [])) 0 0 0 (pos 0) 0) μ) kb (omega arith) (rw (g, h)) refl
        split false true false false false e f g h j = rest-stop s at (isotope 0) m ka (omega arith) (ends a j (no-mark a e f)) refl

-- ---- the ways through the symbol of a bracket
pub long-in : {s : List ℕ} {p : ℕ} (a : ℕ) {b e : ℕ} → Peeked s p b → symbol_of a b ≡ Long e → p < length s
unfolding symbol_of
long-in {s} {p} a {b} {e} k h = split (eqb a 42) (eqb (selected_of a) 0) (listed (a ∷ b ∷ []) symbols) (listed (a ∷ []) symbols) (starts a symbols) refl h
  where
    split : (t u v w x : Bool) → listed (a ∷ b ∷ []) symbols ≡ v → pick t (Brief 0) (pick u (pick v (Long (number_of (a ∷ b ∷ []))) (pick w (Brief (number_of (a ∷ []))) (pick x Half Nothing))) (Selected (selected_of a))) ≡ Long e → p < length s
    split t u true w x g h = pair-in a k g
    split true u false w x g h = absurd (let z : ◌≡◌ {A = ℕ} 0 1 = cc in omega arith)
    split false false false w x g h = absurd (let z : ◌≡◌ {A = ℕ} 0 1 = cc in omega arith)
    split false true false true x g h = absurd (let z : ◌≡◌ {A = ℕ} 0 1 = cc in omega arith)
    split false true false false true g h = absurd (let z : ◌≡◌ {A = ℕ} 0 1 = cc in omega arith)
    split false true false false false g h = absurd (let z : ◌≡◌ {A = ℕ} 0 1 = cc in omega arith)

pub symbol-zero : (s : List ℕ) (at : ℕ) {a : ℕ} → at ≤ length s → Peeked s at a → a ≡ 0 → Symbolled s at (Err (record { at = at }))
unfolding next resting symbol_or symbols starts marks among
symbol-zero s at l k e = record {
  within = l;
  later = omega arith;
  is = λ μ i. rest-stop s at (isotope 0) (drafted (fields i 0 0 0 0 (pos 0) 0) μ) k l (ap (next (isotope 0)) e) refl;
}

module _ (s : List ℕ) (at : ℕ) {a b : ℕ} (ka : Peeked s at a) (kb : Peeked s (at + 1) b) (n : a ≡ 0 → ⊥) where
  inside : at < length s
  inside = some_in ka n

  module _ {r : Symbol} (e : symbol_of a b ≡ r) where
    said : (μ : Memory) (i : ℕ) → rest_in s μ at (isotope 0) (fields i 0 0 0 0 (pos 0) 0) ≡ after_symbol s at ka kb inside μ i r
    said μ i = symbol-rest s at ka kb inside μ i ∙ ap (after_symbol s at ka kb inside μ i) e

  pub symbol-long : {e : ℕ} → symbol_of a b ≡ Long e → Symbolled s at (Ok (record { value = record { element = e; selected = false }; at = at + 2 }))
  symbol-long h = record { within = omega (arith, long-in a kb h); later = omega arith; is = said h }

  pub symbol-brief : {e : ℕ} → symbol_of a b ≡ Brief e → Symbolled s at (Ok (record { value = record { element = e; selected = false }; at = at + 1 }))
  symbol-brief h = record { within = omega (arith, inside); later = omega arith; is = said h }

  pub symbol-selected : {e : ℕ} → symbol_of a b ≡ Selected e → Symbolled s at (Ok (record { value = record { element = e; selected = true }; at = at + 1 }))
  symbol-selected h = record { within = omega (arith, inside); later = omega arith; is = said h }

  pub symbol-half : symbol_of a b ≡ Half → Symbolled s at (Err (record { at = at + 1 }))
  symbol-half h = record { within = omega (arith, inside); later = omega arith; is = said h }

  pub symbol-nothing : symbol_of a b ≡ Nothing → Symbolled s at (Err (record { at = at }))
  symbol-nothing h = record { within = omega (arith, inside); later = omega arith; is = said h }
