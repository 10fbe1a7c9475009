-- auxiliary: what the field readers promise: after the field, the reading of the bracket goes on with the field in its draft, or is refused
use Rattle.std.specs.Prelude.{ℕ, ◌+◌, ◌*◌, ◌≤◌, ◌<◌, ◌≡◌, List, length, get_or, ℤ, pos, Result, Ok, Err}
use Rattle.loops.specs.Loop.{pick}
use Rattle.element.specs.Symbols.{among}
use Rattle.reading_grammar.specs.Grammar.{digits}
use Rattle.reading_grammar.specs.declared.Last.TheVariants.{Plain as plain}
use Rattle.reading_grammar.specs.declared.Mode.{Mode}
use Rattle.reading_grammar.specs.declared.Mode.TheVariants.{Seq as seq, Bracket as bracket, Isotope as isotope, Symbolled as symbolled, At2 as at2, Hydrogens as hydrogens, Charged as charged, Extension as extension}
use Rattle.reading_grammar.specs.Fold.{Verdict, bad}
use Rattle.reading_state.specs.declared.Fields.{Fields}
use Rattle.reading.specs.Memory.{Memory, blank, row_of, drafted, described}
use Rattle.reading.specs.Bracket.{digit}
use Rattle.reading_fields.specs.Rest.{rest}
use Rattle.reading_fields.specs.declared.byte.Read.{Read}
use Rattle.reading_fields.specs.declared.bracket.Name.{Name}
use Rattle.reading_fields.specs.declared.bracket.Broken.{Broken}

-- r is the byte of s at an offset, 0 past the end; a byte that is not 0 lies within
pub record Peeked (s : List ℕ) (at r : ℕ) : Type 0 where
  pub is : r ≡ get_or s at 0
  pub within : 0 < r → at < length s

-- a number with the digit at its end, where a digit stands
abbrev pub more_of : List ℕ → Read ℕ → Read ℕ
more_of s n =
    pick (among (get_or s n.at 0) digits) (record { value = 10 * n.value + digit (get_or s n.at 0); at = n.at + 1 }) n

pub record Grown (s : List ℕ) (n r : Read ℕ) : Type 0 where
  pub is : r ≡ more_of s n
  pub within : r.at ≤ length s
  pub later : n.at ≤ r.at
  pub small : r.value < 10 * n.value + 10

-- where a part ends, or is broken off
abbrev pub end_of : {T : Type 0} → Result (Read T) Broken → ℕ
end_of (Ok r) = r.at
end_of (Err e) = e.at

-- the fields, in the order of the bracket
abbrev pub fields : ℕ → ℕ → ℕ → ℕ → ℕ → ℤ → ℕ → Fields
fields i e y k h c x = record { element = e; selected = y; isotope = i; hydrogens = h; charge = c; extension = x; mark = k }

-- what is left to read from an offset in a mode, with these fields
abbrev pub rest_in : List ℕ → Memory → ℕ → Mode → Fields → Verdict Memory
rest_in s μ p m f = rest s p m (drafted f μ)

-- a reading goes on after a part, or is refused
abbrev pub after : {T : Type 0} → Result (Read T) Broken → (T → ℕ → Verdict Memory) → Verdict Memory
after (Ok r) k = k r.value r.at
after (Err e) k = bad 3 e.at

-- 1 for a selected letter
abbrev pub flag_of : Name → ℕ
flag_of n = pick n.selected 1 0

-- each field: it ends within the text and not before its offset, and the reading goes on after it
pub record Isotoped (s : List ℕ) (at : ℕ) (r : Result (Read ℕ) Broken) : Type 0 where
  pub within : end_of r ≤ length s
  pub later : at ≤ end_of r
  pub is : (μ : Memory) → rest_in s μ at bracket blank ≡ after r (λ v p. rest_in s μ p (isotope 0) (fields v 0 0 0 0 (pos 0) 0))

pub record Symbolled (s : List ℕ) (at : ℕ) (r : Result (Read Name) Broken) : Type 0 where
  pub within : end_of r ≤ length s
  pub later : at ≤ end_of r
  pub is : (μ : Memory) (i : ℕ) → rest_in s μ at (isotope 0) (fields i 0 0 0 0 (pos 0) 0) ≡ after r (λ n p. rest_in s μ p symbolled (fields i n.element (flag_of n) 0 0 (pos 0) 0))

-- after a mark, which is never refused, no `@` may come
pub record Marked (s : List ℕ) (at : ℕ) (r : Read ℕ) : Type 0 where
  pub within : r.at ≤ length s
  pub later : at ≤ r.at
  pub is : (μ : Memory) (i e y : ℕ) → rest_in s μ at symbolled (fields i e y 0 0 (pos 0) 0) ≡ rest_in s μ r.at at2 (fields i e y r.value 0 (pos 0) 0)

pub record Hydrogened (s : List ℕ) (at : ℕ) (r : Result (Read ℕ) Broken) : Type 0 where
  pub within : end_of r ≤ length s
  pub later : at ≤ end_of r
  pub is : (μ : Memory) (i e y k : ℕ) → rest_in s μ at at2 (fields i e y k 0 (pos 0) 0) ≡ after r (λ v p. rest_in s μ p hydrogens (fields i e y k v (pos 0) 0))

pub record Charged (s : List ℕ) (at : ℕ) (r : Result (Read ℤ) Broken) : Type 0 where
  pub within : end_of r ≤ length s
  pub later : at ≤ end_of r
  pub is : (μ : Memory) (i e y k h : ℕ) → rest_in s μ at hydrogens (fields i e y k h (pos 0) 0) ≡ after r (λ v p. rest_in s μ p charged (fields i e y k h v 0))

pub record Extended (s : List ℕ) (at : ℕ) (r : Result (Read ℕ) Broken) : Type 0 where
  pub within : end_of r ≤ length s
  pub later : at ≤ end_of r
  pub is : (μ : Memory) (i e y k h : ℕ) (c : ℤ) → rest_in s μ at charged (fields i e y k h c 0) ≡ after r (λ v p. rest_in s μ p (extension 0) (fields i e y k h c v))

pub record Bracketed (s : List ℕ) (at : ℕ) (r : Result (Read Fields) Broken) : Type 0 where
  pub within : end_of r ≤ length s
  pub later : at ≤ end_of r
  pub is : (μ : Memory) → rest_in s μ at bracket blank ≡ after r (λ f p. rest s p (seq plain) (described (row_of f) (drafted f μ)))
