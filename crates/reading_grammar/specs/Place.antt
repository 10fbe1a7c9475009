-- 01, When a call says no, 3: "place is the first byte at which no accepted text can continue, taking the grammar alone, or the length if the text ends too soon"
use Rattle.std.specs.Prelude.{◌≡◌, List, ◌++◌, ℕ, suc, ◌≤◌, ◌<◌, length, take}
use Rattle.reading_grammar.specs.Grammar.{Text}

-- some text begins with these bytes
abbrev pub Viable : List ℕ → Type 0
Viable s = (t : List ℕ) × Text (s ++ t)

-- p is the first byte at which no text can continue, or the length if the bytes end too soon
pub record Place (s : List ℕ) (p : ℕ) : Type 0 where
  pub fits : p ≤ length s
  pub before : (i : ℕ) → i ≤ p → Viable (take i s)
  pub here : p < length s → ¬ Viable (take (suc p) s)
  pub ending : p ≡ length s → ¬ Text s
