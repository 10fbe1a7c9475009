-- A bracket, field after field. Assumes nothing.
use Prim.Native.Nat.{ℕ, ◌+◌, ◌≤◌}
use native.Mathlib.Omega.{arith}
use mathlib.Core.Path.{◌≡◌, refl, ◌∙◌}
use mathlib.Core.Bool.{Bool, true, false}
use mir.Val.{bool_byte}
use Rattle.loops.specs.Loop.{pick}
use Rattle.std.specs.Prelude.{Ok, Err}
use mathlib.Core.List.{List}
use lib.ListN.{length}
use lib.IntN.{ℤ, pos}
use Rattle.reading_grammar.specs.declared.Mode.{Mode}
use Rattle.reading_grammar.specs.declared.Mode.TheVariants.{Bracket as bracket, Isotope as isotope, Symbolled as symbolled, At2 as at2, Hydrogens as hydrogens, Charged as charged, Extension as extension}
use Rattle.reading_state.specs.declared.Fields.{Fields}
use Rattle.reading.specs.Memory.{Memory, blank}
use Rattle.reading_fields.specs.Field.{Peeked, fields, rest_in, flag_of, Isotoped, Symbolled, Marked, Hydrogened, Charged, Extended, Bracketed}
use Rattle.reading_fields.specs.declared.byte.Read.{Read}
use Rattle.reading_fields.specs.declared.bracket.Name.{Name}
use Rattle.reading_fields.proofs.Bytes.{byte-in}
use Rattle.reading_fields.proofs.Fields.{bracket-closes, bracket-open}

-- the bracket that begins at an offset was read up to p: what is left is in a mode, with these fields
pub record Reached (s : List ℕ) (at p : ℕ) (m : Mode) (f : Fields) : Type 0 where
  pub within : p ≤ length s
  pub later : at ≤ p
  pub is : (μ : Memory) → rest_in s μ at bracket blank ≡ rest_in s μ p m f

module _ {s : List ℕ} {at : ℕ} where
  pub after-isotope : {o : Read ℕ} → Isotoped s at (Ok o) → Reached s at o.at (isotope 0) (fields o.value 0 0 0 0 (pos 0) 0)
  after-isotope w = record { within = w.within; later = w.later; is = w.is }

  module _ {p i : ℕ} (g : Reached s at p (isotope 0) (fields i 0 0 0 0 (pos 0) 0)) where
    pub after_symbol : {o : Read Name} → Symbolled s p (Ok o) → Reached s at o.at symbolled (fields i o.value.element (flag_of o.value) 0 0 (pos 0) 0)
    after_symbol w = record { within = w.within; later = omega (arith, g.later, w.later); is = λ μ. g.is μ ∙ w.is μ i }

  pub after-mark : {p i e y : ℕ} {r : Read ℕ} → Reached s at p symbolled (fields i e y 0 0 (pos 0) 0) → Marked s p r → Reached s at r.at at2 (fields i e y r.value 0 (pos 0) 0)
  after-mark {i = i} {e} {y} g w = record { within = w.within; later = omega (arith, g.later, w.later); is = λ μ. g.is μ ∙ w.is μ i e y }

  module _ {p i e y k : ℕ} (g : Reached s at p at2 (fields i e y k 0 (pos 0) 0)) where
    pub after-hydrogens : {o : Read ℕ} → Hydrogened s p (Ok o) → Reached s at o.at hydrogens (fields i e y k o.value (pos 0) 0)
    after-hydrogens w = record { within = w.within; later = omega (arith, g.later, w.later); is = λ μ. g.is μ ∙ w.is μ i e y k }

  module _ {p i e y k h : ℕ} (g : Reached s at p hydrogens (fields i e y k h (pos 0) 0)) where
    pub after-charge : {o : Read ℤ} → Charged s p (Ok o) → Reached s at o.at charged (fields i e y k h o.value 0)
    after-charge w = record { within = w.within; later = omega (arith, g.later, w.later); is = λ μ. g.is μ ∙ w.is μ i e y k h }

  module _ {p i e y k h : ℕ} {c : ℤ} (g : Reached s at p charged (fields i e y k h c 0)) where
    pub after-extension : {o : Read ℕ} → Extended s p (Ok o) → Reached s at o.at (extension 0) (fields i e y k h c o.value)
    after-extension w = record { within = w.within; later = omega (arith, g.later, w.later); is = λ μ. g.is μ ∙ w.is μ i e y k h c }

  -- the fields as they are stored
  pub as_stored : (n : Name) {p i e k h x : ℕ} {c d : ℤ} → Reached s at p (extension 0) (fields i e (flag_of n) k h c x) → d ≡ c → Reached s at p (extension 0) (fields i e (bool_byte n.selected) k h d x)
  as_stored n g q = rw (q, flag-byte n.selected) g
    where
      flag-byte : (b : Bool) → bool_byte b ≡ pick b 1 0
      flag-byte true = refl
      flag-byte false = refl

  module _ {p : ℕ} {f : Fields} (g : Reached s at p (extension 0) f) where
    pub closes : {b : ℕ} → Peeked s p b → b ≡ 93 → Bracketed s at (Ok (record { value = f; at = p + 1 }))
    closes k e = record { within = omega (arith, byte-in k e); later = omega (arith, g.later); is = λ μ. g.is μ ∙ bracket-closes s μ p f k e }

    pub stays_open : {b : ℕ} → Peeked s p b → (b ≡ 93 → ⊥) → Bracketed s at (Err (record { at = p }))
    stays_open k n = record { within = g.within; later = g.later; is = λ μ. g.is μ ∙ bracket-open s μ p f g.within k n }
