-- What the lookups of the element crate say of the machine's moves: one law for each answer. Assumes nothing.
use Prim.Native.Nat.{ℕ, zero, suc, ◌-◌}
use native.Mathlib.Omega.{arith}
use mathlib.Core.Path.{◌≡◌, refl, sym, ◌∙◌, subst}
use mathlib.Core.Bool.{Bool, true, false, ◌||◌}
use mathlib.Core.Logic.{⊎_elim}
use mathlib.Core.List.{List, [], ◌∷◌}
use lib.Dec.{eqb}
use borrow.Author.Tests.{ne_eqb}
use Rattle.loops.specs.Loop.{pick}
use Rattle.element.specs.Symbols.{among, listed, starts, marks, symbols}
use Rattle.element.specs.Lookup.{symbol_of, letter_of}
use Rattle.element.specs.declared.Symbol.{Symbol}
use Rattle.element.specs.declared.Letter.{Letter}
use Rattle.element.proofs.Laws.{Begins, letter-begins, Tells, symbol-tells, listed-starts}
use Rattle.reading_grammar.specs.declared.Last.TheVariants.{Plain as plain}
use Rattle.reading_grammar.specs.declared.Mode.TheVariants.{Seq as seq, LetterA as letterA, LetterT as letterT, Bracket as bracket, Isotope as isotope, Symbol1 as symbol1, Symbolled as symbolled, Extension as extension}
use Rattle.reading_grammar.specs.declared.Move.{Move}
use Rattle.reading_grammar.specs.declared.Move.TheVariants.{Stop as stop, To as to}
use Rattle.reading_grammar.specs.Grammar.{digits}
use Rattle.reading_grammar.specs.Machine.{last_of, atom_or, symbol_or, closing, marking, next}
use Rattle.reading_grammar.proofs.Ends.{each, never}

-- ---- an atom's first byte
module _ (b : ℕ) (k : Move) where
  told : {l : Letter} → letter_of b ≡ l → Begins b l
  told e = subst (λ l. Begins b l) e (letter-begins b)

  pub plain-first : {n : ℕ} → letter_of b ≡ Letter.Plain n → to (seq (last_of b)) ≡ atom_or b k
  unfolding atom_or
  plain-first e = simp (told e).letter

  no_second : among b marks ≡ true → last_of b ≡ plain
  unfolding marks
  no_second = each (λ x. last_of x ≡ plain) marks (refl, (refl, (refl, (refl, (refl, (refl, tt)))))) b

  pub selected-first : {n : ℕ} → letter_of b ≡ Letter.Selected n → to (seq plain) ≡ atom_or b k
  unfolding atom_or
  selected-first e = simp ((told e).letter, no_second (told e).mark)

  pub half-first : letter_of b ≡ Letter.Half → pick (eqb b 65) (to letterA) (to letterT) ≡ atom_or b k
  unfolding atom_or
  half-first e = simp (told e).letter (split (eqb b 65) (eqb b 84) (told e).half)
    where
      split : (t u : Bool) → (t || u) ≡ true → pick t (to letterA) (to letterT) ≡ pick t (to letterA) (pick u (to letterT) (pick (eqb b 91) (to bracket) k))
      split true u h = refl
      split false true h = refl
      split false false h = never h

  -- neither `A` nor `T`
  others : (t u : Bool) → (t || u) ≡ false → (x : Move) → pick t (to letterA) (pick u (to letterT) x) ≡ x
  others true u h x = never (sym h)
  others false true h x = never (sym h)
  others false false h x = refl

  pub bracket-first : letter_of b ≡ Letter.Bracket → to bracket ≡ atom_or b k
  unfolding atom_or
  bracket-first e = simp ((told e).letter, (told e).bracket) (sym (others (eqb b 65) (eqb b 84) (told e).half _))

  pub nothing-first : letter_of b ≡ Letter.Nothing → k ≡ atom_or b k
  unfolding atom_or
  nothing-first e = simp ((told e).letter, (told e).bracket) (sym (others (eqb b 65) (eqb b 84) (told e).half _))

-- ---- a symbol's first byte
module _ (b : ℕ) (k : Move) where
  tells : {y : Symbol} → symbol_of b 0 ≡ y → Tells b 0 y
  tells e = subst (λ y. Tells b 0 y) e (symbol-tells b 0)

  begun : starts b symbols ≡ true → to (symbol1 b) ≡ symbol_or b k
  unfolding symbol_or
  begun h = simp h

  pub long-first : {n : ℕ} → symbol_of b 0 ≡ Symbol.Long n → to (symbol1 b) ≡ symbol_or b k
  long-first e = begun (tells e).begins

  pub half-symbol : symbol_of b 0 ≡ Symbol.Half → to (symbol1 b) ≡ symbol_or b k
  half-symbol e = begun (tells e).begins

  star : b ≡ 42 → pick (eqb b 42) (to symbolled) (to (symbol1 b)) ≡ symbol_or b k
  unfolding symbol_or starts symbols marks among
  star e = rw e

  no-star : starts b symbols ≡ true → eqb b 42 ≡ false
  unfolding starts symbols
  no-star h = ne_eqb b 42 (λ e. never (simp e at h))

  pub brief-first : {n : ℕ} → symbol_of b 0 ≡ Symbol.Brief n → pick (eqb b 42) (to symbolled) (to (symbol1 b)) ≡ symbol_or b k
  brief-first e = ⊎_elim (λ h. star h.0) (λ h. simp (no-star h.begins) (begun h.begins)) (tells e)

  pub selected-symbol : {n : ℕ} → symbol_of b 0 ≡ Symbol.Selected n → to symbolled ≡ symbol_or b k
  unfolding symbol_or
  selected-symbol e = simp ((tells e).begins, (tells e).mark)

  pub no_symbol : symbol_of b 0 ≡ Symbol.Nothing → k ≡ symbol_or b k
  unfolding symbol_or
  no_symbol e = simp ((tells e).begins, (tells e).no-mark)

-- ---- after a symbol's first byte
module _ (a b : ℕ) where
  tells₂ : {y : Symbol} → symbol_of a b ≡ y → Tells a b y
  tells₂ e = subst (λ y. Tells a b y) e (symbol-tells a b)

  unlisted : (s : List ℕ) → starts a symbols ≡ false → listed (a ∷ s) symbols ≡ false
  unlisted s h = split (listed (a ∷ s) symbols) refl
    where
      split : (t : Bool) → listed (a ∷ s) symbols ≡ t → t ≡ false
      split true e = sym (listed-starts a s symbols e) ∙ h
      split false e = refl

  dead_end : starts a symbols ≡ false → stop ≡ next (symbol1 a) b
  unfolding next
  dead_end h = simp (unlisted (b ∷ []) h, unlisted [] h)

  pub long-second : {n : ℕ} → symbol_of a b ≡ Symbol.Long n → to symbolled ≡ next (symbol1 a) b
  unfolding next
  long-second e = simp (tells₂ e).pair

  pub star-second : a ≡ 42 → stop ≡ next (symbol1 a) b
  unfolding starts symbols
  star-second e = dead_end (rw e)

  pub brief-second : {n : ℕ} → symbol_of a b ≡ Symbol.Brief n → (a ≡ 42 → ⊥) → marking b ≡ next (symbol1 a) b
  unfolding next
  brief-second e h = ⊎_elim (λ t. absurd (h t.0)) (λ t. simp (t.no-pair, t.single)) (tells₂ e)

  pub selected-second : {n : ℕ} → symbol_of a b ≡ Symbol.Selected n → stop ≡ next (symbol1 a) b
  selected-second e = dead_end (tells₂ e).begins

  pub half-second : symbol_of a b ≡ Symbol.Half → stop ≡ next (symbol1 a) b
  unfolding next
  half-second e = simp ((tells₂ e).no-pair, (tells₂ e).no-single)

  pub nothing-second : symbol_of a b ≡ Symbol.Nothing → stop ≡ next (symbol1 a) b
  nothing-second e = dead_end (tells₂ e).begins

-- ---- a digit more
pub isotope-more : (k b : ℕ) → (k ≡ 0 → ⊥) → symbol_or b (pick (among b digits) (to (isotope (k - 1))) stop) ≡ next (isotope k) b
unfolding next
isotope-more zero b h = absurd (h refl)
isotope-more (suc k) b h = let d : suc k - 1 ≡ k = omega arith in simp d

pub extension-more : (k b : ℕ) → (k ≡ 0 → ⊥) → pick (among b digits) (to (extension (k - 1))) (closing b) ≡ next (extension k) b
unfolding next
extension-more zero b h = absurd (h refl)
extension-more (suc k) b h = let d : suc k - 1 ≡ k = omega arith in simp d
