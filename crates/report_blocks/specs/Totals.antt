-- Totals of the report (01, the program), said of the lines alone
use Rattle.std.specs.Prelude.{ℕ, suc, List, [], ◌∷◌, ◌++◌}
use Rattle.loops.specs.Loop.{pick}
use Rattle.report_entry.specs.Entry.{line_of, accepted_of}

-- how many of the lines are accepted, and refused
unfoldable pub accepted_in : List (List ℕ) → ℕ
accepted_in [] = 0
accepted_in (l ∷ ls) = pick (accepted_of l) (suc (accepted_in ls)) (accepted_in ls)

unfoldable pub refused_in : List (List ℕ) → ℕ
refused_in [] = 0
refused_in (l ∷ ls) = pick (accepted_of l) (refused_in ls) (suc (refused_in ls))

-- the reports of the lines, numbered from k on
unfoldable pub numbered : ℕ → List (List ℕ) → List ℕ
numbered k [] = []
numbered k (l ∷ ls) = line_of k l ++ numbered (suc k) ls
