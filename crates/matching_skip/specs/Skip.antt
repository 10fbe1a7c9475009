-- auxiliary: the matchings that come after a row and differ from it in its first bonds, and how the first of them is handed out
use Rattle.std.specs.Prelude.{ℕ, ◌≡◌, Bool, ◌&&◌, List, take}
use Rattle.matching.specs.Enumeration.{Row, matchings, before, or_zeroed}
use Rattle.matching.specs.Model.{some?}
use Rattle.matching.specs.declared.MatchingAnswer.TheVariants.{Ended}

-- they differ from the row before `to`
abbrev pub later_than : (Row → Bool) → ℕ → ℕ → Row → List Row
later_than p m to row = matchings (λ s. p s && before (take to row) s) m

-- the first of them is handed out; a zeroed row where there is none
pub record Skipped (fs : List Row) (len : ℕ) (r : Bool) (row : Row) : Type 0 where
  pub told : r ≡ some? fs
  pub wrote : row ≡ (or_zeroed len Ended fs).row
