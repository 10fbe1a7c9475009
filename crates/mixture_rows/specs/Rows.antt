-- 02, P13: "its placements are exactly each row of the first followed by each row of the second, in 01's order"
use Rattle.std.specs.Prelude.{List, [], ◌∷◌, ◌++◌, map}
use Rattle.matching.specs.Enumeration.{Row}

-- the row r followed by each of the rows
abbrev pub behind : Row → List Row → List Row
behind r rows = map (λ s. r ++ s) rows

-- for each row of the first, all rows of the second: in 01's order a row of the first decides before any of the second
unfoldable pub followed : List Row → List Row → List Row
followed [] second = []
followed (r ∷ first) second = behind r second ++ followed first second
