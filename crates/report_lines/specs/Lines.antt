-- Lines of the input (01, the program): "lines, ended by byte 10"; any other byte, 13 among them, is a byte of its line
use Rattle.std.specs.Prelude.{ℕ, List, [], ◌∷◌, ◌++◌, eqb}
use Rattle.loops.specs.Loop.{pick}

-- "an unfinished last line counts if it has a byte"
abbrev pub unfinished : List ℕ → List (List ℕ)
unfinished [] = []
unfinished (b ∷ p) = (b ∷ p) ∷ []

-- the lines of s after the bytes p of a line
unfoldable pub lines_after : List ℕ → List ℕ → List (List ℕ)
lines_after p [] = unfinished p
lines_after p (b ∷ s) =
    let ended : List (List ℕ) = p ∷ lines_after [] s in
    let longer : List (List ℕ) = lines_after (p ++ (b ∷ [])) s in
    pick (eqb b 10) ended longer
