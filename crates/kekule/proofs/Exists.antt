-- The first call gives a matching exactly if there is one, and its row. Assumes nothing.
use Prim.Native.Nat.{ℕ}
use mathlib.Core.Path.{◌≡◌, refl, ap, ◌∙◌}
use mathlib.Core.Bool.{Bool}
use mathlib.Core.List.{List, [], ◌∷◌}
use lib.ListN.{length}
use lib.IntN.{ℤ}
use Rattle.matching.specs.Enumeration.{Row, Reply, matchings, or_zeroed, row_call}
use Rattle.matching.specs.Model.{some?, reply}
use Rattle.matching.specs.declared.MatchingAnswer.{MatchingAnswer}
use Rattle.matching.specs.declared.MatchingAnswer.TheVariants.{Absent}
use Rattle.matching.specs.declared.Call.TheVariants.{First}
use Rattle.table_graph.specs.Graph.{matching_of, matchable}
use Rattle.kekule_answers.specs.Answers.{found_of, is_given}
use Rattle.kekule.specs.First.{FirstIn}

given-some : (len : ℕ) (es : List Row) → is_given (found_of (or_zeroed len Absent es).answer) ≡ some? es
given-some len [] = refl
given-some len (e ∷ es) = refl

pub first-in : {atoms bonds : List ℤ} {n m : ℕ} (row : List ℕ) {a : MatchingAnswer} {row' : List ℕ} {r : Bool} → r ≡ is_given (found_of a) → reply a row' ≡ row_call (matching_of atoms bonds n m) m First row → FirstIn atoms bonds n m row r row'
unfolding row_call matchable
first-in {atoms} {bonds} {n} {m} row d e =
    record {
      told = d ∙ ap (λ (g : Reply). is_given (found_of g.answer)) e ∙ given-some (length row) (matchings (matching_of atoms bonds n m) m);
      first = ap (λ (g : Reply). g.row) e;
    }
