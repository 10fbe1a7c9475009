use mathlib.Core.Logic.{⊎_elim}
use Rattle.reading_deeds.proofs.Laws.{atom-begins, no-atom}
use Rattle.reading_deeds.proofs.or_atom.Goals as goal

pub returns-in-Nothing : goal.returns-in-Nothing
returns-in-Nothing c = λ a w. no-atom _ c.atom_start-l.ensures c.in-Nothing.is a w

pub returns-in-Plain : goal.returns-in-Plain
returns-in-Plain c = let q = c.atom_start-l.ensures in
    λ a w. ⊎_elim (λ p. atom-begins _ q p.1 tt a) (⊎_elim (λ p. atom-begins _ q p.1 tt a) (⊎_elim (λ e. atom-begins _ q e tt a) (λ e. atom-begins _ q e tt a))) c.in-Plain.is
