-- What callers may conclude from an answer of `lookup` or `atom_start`. Assumes nothing.
use mathlib.Core.Path.{◌≡◌, refl, sym, ap, ◌∙◌}
use mathlib.Core.Bool.{Bool, true, false, ◌||◌}
use mathlib.Core.List.{List, [], ◌∷◌}
use mathlib.Core.Logic.{◌⊎◌, inl, inr}
use Prim.Native.Nat.{ℕ, ◌≤◌}
use native.Mathlib.Omega.{arith}
use lib.Dec.{eqb}
use borrow.Author.Tests.{eqb-true, ne_eqb}
use Rattle.loops.specs.Loop.{pick}
use Rattle.element.specs.Symbols.{among, same_bytes, listed, starts, letters, marks, symbols}
use Rattle.element.specs.Lookup.{number_of, index_from, selected_of, symbol_of, letter_of, bare}
use Rattle.element.specs.declared.Symbol.{Symbol}
use Rattle.element.specs.declared.Letter.{Letter}
use Rattle.element.proofs.Symbols.{number-within, both}

-- the elements that can be selected: C N O P S
abbrev pub selectable : ℕ → Bool
selectable e = among e (6 ∷ 7 ∷ 8 ∷ 15 ∷ 16 ∷ [])

-- what is true of each byte of a list
abbrev pub all_bytes : (ℕ → Bool) → List ℕ → Bool
all_bytes p [] = true
all_bytes p (x ∷ l) = pick (p x) (all_bytes p l) false

among-step : (p : ℕ → Bool) (b x : ℕ) (t m : Bool) → eqb b x ≡ t → p x ≡ true → pick t true m ≡ true → (m ≡ true → p b ≡ true) → p b ≡ true
among-step p b x true m e h a f = ap p (eqb-true b x e) ∙ h
among-step p b x false m e h a f = f a

pub among-all : (p : ℕ → Bool) (b : ℕ) (l : List ℕ) → all_bytes p l ≡ true → among b l ≡ true → p b ≡ true
unfolding among
among-all p b [] t e = cc
among-all p b (x ∷ l) t e =
    let h : (p x ≡ true) × (all_bytes p l ≡ true) = both (p x) (all_bytes p l) t in
    among-step p b x (eqb b x) (among b l) refl h.0 e (among-all p b l h.1)

-- a selected letter and its element
pub record SelectedIs (a n : ℕ) : Type 0 where
  pub mark : among a marks ≡ true
  pub letter : among a letters ≡ true
  pub begins : starts a symbols ≡ false
  pub able : selectable n ≡ true

selected-cases : (a : ℕ) (t u v w x : Bool) → eqb a 99 ≡ t → eqb a 110 ≡ u → eqb a 111 ≡ v → eqb a 112 ≡ w → eqb a 115 ≡ x → eqb (pick t 6 (pick u 7 (pick v 8 (pick w 15 (pick x 16 0))))) 0 ≡ false → SelectedIs a (pick t 6 (pick u 7 (pick v 8 (pick w 15 (pick x 16 0)))))
unfolding among marks letters starts symbols
selected-cases a true u v w x e f g h i n = let k : a ≡ 99 = eqb-true a 99 e in record { mark = simp k; letter = simp k; begins = simp k; able = refl }
selected-cases a false true v w x e f g h i n = let k : a ≡ 110 = eqb-true a 110 f in record { mark = simp k; letter = simp k; begins = simp k; able = refl }
selected-cases a false false true w x e f g h i n = let k : a ≡ 111 = eqb-true a 111 g in record { mark = simp k; letter = simp k; begins = simp k; able = refl }
selected-cases a false false false true x e f g h i n = let k : a ≡ 112 = eqb-true a 112 h in record { mark = simp k; letter = simp k; begins = simp k; able = refl }
selected-cases a false false false false true e f g h i n = let k : a ≡ 115 = eqb-true a 115 i in record { mark = simp k; letter = simp k; begins = simp k; able = refl }
selected-cases a false false false false false e f g h i n = let z : ◌≡◌ {A = ℕ} 0 1 = cc in absurd (omega arith)

pub selected-is : (a : ℕ) → eqb (selected_of a) 0 ≡ false → SelectedIs a (selected_of a)
unfolding selected_of
selected-is a e = selected-cases a (eqb a 99) (eqb a 110) (eqb a 111) (eqb a 112) (eqb a 115) refl refl refl refl refl e

-- a byte that is neither `*` nor selected is no mark
unmarked-cases : (t u v w x : Bool) → eqb (pick t 6 (pick u 7 (pick v 8 (pick w 15 (pick x 16 0))))) 0 ≡ true → pick t true (pick u true (pick v true (pick w true (pick x true false)))) ≡ false
unmarked-cases true u v w x e = sym e
unmarked-cases false true v w x e = sym e
unmarked-cases false false true w x e = sym e
unmarked-cases false false false true x e = sym e
unmarked-cases false false false false true e = sym e
unmarked-cases false false false false false e = refl

unmarked : (a : ℕ) → eqb a 42 ≡ false → eqb (selected_of a) 0 ≡ true → among a marks ≡ false
unfolding among marks selected_of
unmarked a e s = rw e (unmarked-cases (eqb a 99) (eqb a 110) (eqb a 111) (eqb a 112) (eqb a 115) s)

starts-step : (t m u v : Bool) → pick (pick t m false) true u ≡ true → (u ≡ true → v ≡ true) → pick t true v ≡ true
starts-step true m u v e f = refl
starts-step false m u v e f = f e

-- a symbol begins with its first letter
pub listed-starts : (a : ℕ) (s : List ℕ) (l : List (List ℕ)) → listed (a ∷ s) l ≡ true → starts a l ≡ true
unfolding listed starts same_bytes
listed-starts a s [] e = e
listed-starts a s ([] ∷ l) e = listed-starts a s l e
listed-starts a s ((b ∷ t) ∷ l) e = starts-step (eqb a b) (same_bytes s t) (listed (a ∷ s) l) (starts a l) e (listed-starts a s l)

pub record LongIs (a b n : ℕ) : Type 0 where
  pub pair : listed (a ∷ b ∷ []) symbols ≡ true
  pub begins : starts a symbols ≡ true
  pub within : n ≤ 118

pub record BriefIs (a b n : ℕ) : Type 0 where
  pub no-pair : listed (a ∷ b ∷ []) symbols ≡ false
  pub single : listed (a ∷ []) symbols ≡ true
  pub begins : starts a symbols ≡ true
  pub within : n ≤ 118

pub record HalfIs (a b : ℕ) : Type 0 where
  pub no-pair : listed (a ∷ b ∷ []) symbols ≡ false
  pub no-single : listed (a ∷ []) symbols ≡ false
  pub begins : starts a symbols ≡ true

pub record NothingIs (a : ℕ) : Type 0 where
  pub no-mark : among a marks ≡ false
  pub begins : starts a symbols ≡ false

abbrev pub Tells : ℕ → ℕ → Symbol → Type 0
Tells a b (Symbol.Long n) = LongIs a b n
Tells a b (Symbol.Brief n) = ((a ≡ 42) × (n ≡ 0)) ⊎ BriefIs a b n
Tells a b (Symbol.Selected n) = SelectedIs a n
Tells a b Symbol.Half = HalfIs a b
Tells a b Symbol.Nothing = NothingIs a

module _ (a b : ℕ) where
  tells-cases : (t u v w x : Bool) → eqb a 42 ≡ t → eqb (selected_of a) 0 ≡ u → listed (a ∷ b ∷ []) symbols ≡ v → listed (a ∷ []) symbols ≡ w → starts a symbols ≡ x → Tells a b (pick t (Symbol.Brief 0) (pick u (pick v (Symbol.Long (number_of (a ∷ b ∷ []))) (pick w (Symbol.Brief (number_of (a ∷ []))) (pick x Symbol.Half Symbol.Nothing))) (Symbol.Selected (selected_of a))))
  tells-cases true u v w x e f g h i = inl (eqb-true a 42 e, refl)
  tells-cases false false v w x e f g h i = selected-is a f
  tells-cases false true true w x e f g h i = record { pair = g; begins = listed-starts a (b ∷ []) symbols g; within = number-within (a ∷ b ∷ []) }
  tells-cases false true false true x e f g h i = inr (record { no-pair = g; single = h; begins = listed-starts a [] symbols h; within = number-within (a ∷ []) })
  tells-cases false true false false true e f g h i = record { no-pair = g; no-single = h; begins = i }
  tells-cases false true false false false e f g h i = record { no-mark = unmarked a e f; begins = i }

  pub symbol-tells : Tells a b (symbol_of a b)
  unfolding symbol_of
  symbol-tells =
      tells-cases (eqb a 42) (eqb (selected_of a) 0) (listed (a ∷ b ∷ []) symbols) (listed (a ∷ []) symbols) (starts a symbols) refl refl refl refl refl

pub record PlainIs (b n : ℕ) : Type 0 where
  pub letter : among b letters ≡ true
  pub able : bare n ≡ true
  pub within : n ≤ 118

pub record NoLetter (b : ℕ) (t u : Bool) : Type 0 where
  pub letter : among b letters ≡ false
  pub half : (eqb b 65 || eqb b 84) ≡ t
  pub bracket : eqb b 91 ≡ u

abbrev pub Begins : ℕ → Letter → Type 0
Begins b (Letter.Plain n) = PlainIs b n
Begins b (Letter.Selected n) = SelectedIs b n
Begins b Letter.Half = NoLetter b true false
Begins b Letter.Bracket = NoLetter b false true
Begins b Letter.Nothing = NoLetter b false false

-- the letters that are not selected belong to elements outside brackets
plain_bare : ℕ → Bool
plain_bare b = pick (eqb (selected_of b) 0) (pick (eqb b 42) true (bare (number_of (b ∷ [])))) true

plain-bare : all_bytes plain_bare letters ≡ true
unfolding plain_bare letters selected_of bare among number_of index_from same_bytes symbols
plain-bare = refl

module _ (b : ℕ) where
  half-bracket : (eqb b 65 || eqb b 84) ≡ true → eqb b 91 ≡ false
  half-bracket e =
      ne_eqb b 91
      (λ k. let z : ◌≡◌ {A = Bool} false true = simp k at e in let y : ◌≡◌ {A = ℕ} 0 1 = cc in omega arith)

  begins_cases : (t u v w x : Bool) → eqb b 42 ≡ t → eqb (selected_of b) 0 ≡ u → among b letters ≡ v → (eqb b 65 || eqb b 84) ≡ w → eqb b 91 ≡ x → Begins b (pick t (Letter.Plain 0) (pick u (pick v (Letter.Plain (number_of (b ∷ []))) (pick w Letter.Half (pick x Letter.Bracket Letter.Nothing))) (Letter.Selected (selected_of b))))
  unfolding plain_bare among letters bare
  begins_cases true u v w x e f g h i = record { letter = rw (eqb-true b 42 e); able = refl; within = omega arith }
  begins_cases false false v w x e f g h i = selected-is b f
  begins_cases false true true w x e f g h i = record { letter = g; able = simp (f, e) at (among-all plain_bare b letters plain-bare g); within = number-within (b ∷ []) }
  begins_cases false true false true x e f g h i = record { letter = g; half = h; bracket = half-bracket h }
  begins_cases false true false false true e f g h i = record { letter = g; half = h; bracket = i }
  begins_cases false true false false false e f g h i = record { letter = g; half = h; bracket = i }

  pub letter-begins : Begins b (letter_of b)
  unfolding letter_of
  letter-begins =
      begins_cases (eqb b 42) (eqb (selected_of b) 0) (among b letters) (eqb b 65 || eqb b 84) (eqb b 91) refl refl refl refl refl
