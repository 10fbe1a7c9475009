-- auxiliary: what reading leaves in a row that is lent to it: of a molecule, the first matching
use Rattle.std.specs.Prelude.{◌≡◌, List, ℕ, ℤ, Result, Ok, Err}
use Rattle.kekule.specs.First.{first_in}
use Rattle.reader.specs.declared.answer.Counts.{Counts}
use Rattle.reader.specs.declared.answer.TextRefusal.{TextRefusal}

abbrev pub ChosenBy : Result Counts TextRefusal → List ℤ → List ℤ → List ℕ → List ℕ → Type 0
ChosenBy (Ok c) a b row row' = row' ≡ first_in a b c.atoms c.bonds row
ChosenBy (Err e) a b row row' = Unit {0}

pub record Chosen (r : Result Counts TextRefusal) (a b : List ℤ) (row row' : List ℕ) : Type 0 where
  pub is : ChosenBy r a b row row'
