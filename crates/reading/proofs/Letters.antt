-- What the lookup of an atom's first byte and the grammar's machine say together. Assumes nothing.
use Prim.Native.Nat.{ℕ, ◌≤◌}
use native.Mathlib.Omega.{arith}
use mathlib.Core.Path.{◌≡◌, refl, sym, ap, ◌∙◌}
use mathlib.Core.Bool.{Bool, true, false, ◌||◌}
use mathlib.Core.Logic.{◌⊎◌, inl, inr}
use mathlib.Core.List.{List}
use lib.Dec.{eqb}
use borrow.Author.Tests.{eqb-true}
use Rattle.loops.specs.Loop.{pick}
use Rattle.element.specs.declared.Letter.{Letter}
use Rattle.element.specs.declared.Letter.TheVariants.{Plain, Selected, Half, Bracket, Nothing}
use Rattle.element.specs.Symbols.{among, same_bytes, letters, marks, symbols, starts}
use Rattle.element.specs.Lookup.{index_from, number_of, selected_of, letter_of}
use Rattle.reading_grammar.specs.Grammar.{nonzero, digits}
use Rattle.reading_grammar.specs.declared.Last.{Last}
use Rattle.reading_grammar.specs.declared.Mode.TheVariants.{Seq as seq, LetterA as letterA, LetterT as letterT, Bracket as bracket}
use Rattle.reading_grammar.specs.declared.Move.{Move}
use Rattle.reading_grammar.specs.declared.Move.TheVariants.{Stop as stop, To as to}
use Rattle.reading_grammar.specs.Machine.{atom_or, symbol_or, closing}
use Rattle.reading_grammar.proofs.Ends.{each, never}
use Rattle.table.specs.Valid.{selectable}

-- a byte that begins an atom, and where the machine goes with it
pub data Begins : Letter → Move → Type 0 where
  plain : {e : ℕ} {x : Last} → e ≤ 118 → Begins (Plain e) (to (seq x))
  selected : {e : ℕ} {x : Last} → e ≤ 118 → selectable e ≡ true → Begins (Selected e) (to (seq x))
  letter-a : Begins Half (to letterA)
  letter-t : Begins Half (to letterT)
  opening : Begins Bracket (to bracket)

-- a byte that stands in a list, or differs from each of its bytes
other-than : (l : List ℕ) (b : ℕ) → among b l ≡ false → (x : ℕ) → among x l ≡ true → eqb b x ≡ false
other-than l b h x e = split (eqb b x) refl
  where
    split : (t : Bool) → eqb b x ≡ t → t ≡ false
    split true q = never (sym h ∙ ap (λ c. among c l) (eqb-true b x q) ∙ e)
    split false q = refl

on-letter : (b : ℕ) → among b letters ≡ true → (k : Move) → Begins (letter_of b) (atom_or b k)
unfolding letters letter_of selected_of atom_or among number_of index_from symbols same_bytes
on-letter =
    each (λ b. (k : Move) → Begins (letter_of b) (atom_or b k)) letters (
      (λ k. Begins.plain (omega arith)),
      (
        (λ k. Begins.plain (omega arith)),
        (
          (λ k. Begins.plain (omega arith)),
          (
            (λ k. Begins.plain (omega arith)),
            (
              (λ k. Begins.plain (omega arith)),
              (
                (λ k. Begins.plain (omega arith)),
                (
                  (λ k. Begins.plain (omega arith)),
                  (
                    (λ k. Begins.plain (omega arith)),
                    (
                      (λ k. Begins.plain (omega arith)),
                      (
                        (λ k. Begins.selected (omega arith) refl),
                        (
                          (λ k. Begins.selected (omega arith) refl),
                          (
                            (λ k. Begins.selected (omega arith) refl),
                            (
                              (λ k. Begins.selected (omega arith) refl),
                              (
                                (λ k. Begins.selected (omega arith) refl),
                                tt,
                              ),
                            ),
                          ),
                        ),
                      ),
                    ),
                  ),
                ),
              ),
            ),
          ),
        ),
      ),
    )

-- a byte outside the list is neither `*` nor a selected letter
record Unlisted (b : ℕ) : Type 0 where
  pub star : eqb b 42 ≡ false
  pub c : eqb b 99 ≡ false
  pub n : eqb b 110 ≡ false
  pub o : eqb b 111 ≡ false
  pub p : eqb b 112 ≡ false
  pub s : eqb b 115 ≡ false

unlisted : (b : ℕ) → among b letters ≡ false → Unlisted b
unfolding among letters
unlisted b h =
    let o : (x : ℕ) → among x letters ≡ true → eqb b x ≡ false = other-than letters b h in
    record { star = o 42 refl; c = o 99 refl; n = o 110 refl; o = o 111 refl; p = o 112 refl; s = o 115 refl }

off-letter : (b : ℕ) → among b letters ≡ false → (k : Move) → Begins (letter_of b) (atom_or b k) ⊎ ((letter_of b ≡ Nothing) × (atom_or b k ≡ k))
unfolding letter_of selected_of atom_or
off-letter b h k = let u = unlisted b h in rw (u.star, u.c, u.n, u.o, u.p, u.s, h) (split (eqb b 65) (eqb b 84) (eqb b 91))
  where
    split : (u v w : Bool)
        → Begins (pick (u || v) Half (pick w Bracket Nothing)) (pick u (to letterA) (pick v (to letterT) (pick w (to bracket) k)))
        ⊎ ((pick (u || v) Half (pick w Bracket Nothing) ≡ Nothing) × (pick u (to letterA) (pick v (to letterT) (pick w (to bracket) k)) ≡ k))
    split true v w = inl Begins.letter-a
    split false true w = inl Begins.letter-t
    split false false true = inl Begins.opening
    split false false false = inr (refl, refl)

pub begins : (b : ℕ) (k : Move) → Begins (letter_of b) (atom_or b k) ⊎ ((letter_of b ≡ Nothing) × (atom_or b k ≡ k))
begins b k = split (among b letters) refl
  where
    split : (t : Bool) → among b letters ≡ t → Begins (letter_of b) (atom_or b k) ⊎ ((letter_of b ≡ Nothing) × (atom_or b k ≡ k))
    split true e = inl (on-letter b e k)
    split false e = off-letter b e k

-- a digit begins no symbol and closes no bracket
pub digit-no-symbol : (b : ℕ) → among b digits ≡ true → (k : Move) → symbol_or b k ≡ k
unfolding digits symbol_or symbols starts marks among
digit-no-symbol = each (λ b. (k : Move) → symbol_or b k ≡ k) digits ((λ k. refl), ((λ k. refl), ((λ k. refl), ((λ k. refl), ((λ k. refl), ((λ k. refl), ((λ k. refl), ((λ k. refl), ((λ k. refl), ((λ k. refl), tt))))))))))

pub digit-closes-not : (b : ℕ) → among b digits ≡ true → closing b ≡ stop
unfolding digits closing
digit-closes-not = each (λ b. closing b ≡ stop) digits (refl, (refl, (refl, (refl, (refl, (refl, (refl, (refl, (refl, (refl, tt))))))))))

pub nonzero-is-digit : (b : ℕ) → among b nonzero ≡ true → among b digits ≡ true
unfolding nonzero digits among
nonzero-is-digit = each (λ b. among b digits ≡ true) nonzero (refl, (refl, (refl, (refl, (refl, (refl, (refl, (refl, (refl, tt)))))))))
