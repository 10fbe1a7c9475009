-- The fields and the lines of the report: an empty field, and how long a line can be. Assumes nothing.
use Prim.Native.Nat.{ℕ, ◌+◌, ◌≤◌}
use mathlib.Core.Path.{◌≡◌, refl, sym, ◌∙◌}
use mathlib.Core.List.{List, [], ◌∷◌, ◌++◌}
use native.Mathlib.Omega.{arith}
use lib.ListN.{length, length-append, length-map}
use Rattle.report_lines.specs.Format.{word, row_text, bit_byte, accepted_line, refused_line, totals_line}
use Rattle.report_lines.proofs.Decimal.{dec-within}

pub no_word : (l : List ℕ) → length l ≡ 0 → word l ≡ 32 ∷ 45 ∷ []
no_word [] h = refl
no_word (b ∷ l) h = absurd (omega arith)

pub a_word : (l : List ℕ) → (length l ≡ 0 → ⊥) → word l ≡ (32 ∷ []) ++ l
a_word [] h = absurd (h refl)
a_word (b ∷ l) h = refl

pub no_row : (l : List ℕ) → length l ≡ 0 → word (row_text l) ≡ 32 ∷ 45 ∷ []
no_row l h = no_word (row_text l) (length-map l bit_byte ∙ h)

pub a-row : (l : List ℕ) → (length l ≡ 0 → ⊥) → word (row_text l) ≡ (32 ∷ []) ++ row_text l
a-row l h = a_word (row_text l) (λ e. h (sym (length-map l bit_byte) ∙ e))

word-within : (l : List ℕ) → length (word l) ≤ 2 + length l
word-within [] = omega arith
word-within (b ∷ l) = omega arith

-- room that is enough for a line
pub accepted-within : (k atoms bonds overfull : ℕ) (row text : List ℕ) → length (accepted_line k atoms bonds overfull row text) ≤ 91 + (length row + length text)
unfolding accepted_line
accepted-within k atoms bonds overfull row text =
    simp length-append
    (omega (arith, dec-within k, dec-within atoms, dec-within bonds, dec-within overfull, word-within (row_text row), word-within text, length-map row bit_byte))

pub refused-within : (k code place : ℕ) → length (refused_line k code place) ≤ 64
unfolding refused_line
refused-within k code place = simp length-append (omega (arith, dec-within k, dec-within code, dec-within place))

pub totals-within : (accepted refused : ℕ) → length (totals_line accepted refused) ≤ 60
unfolding totals_line
totals-within accepted refused = simp length-append (omega (arith, dec-within accepted, dec-within refused))
