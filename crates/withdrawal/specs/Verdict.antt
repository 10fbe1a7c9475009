-- auxiliary: what the judgement of one entry promises
use Rattle.std.specs.Prelude.{◌≡◌, true, false, ◌⊎◌, List, ℕ}
use Rattle.same_model.specs.Same.{Molecule}
use Rattle.same_model.specs.Redrawing.{Redrawing}
use Rattle.folding.specs.Folding.{folded}
use Rattle.drawing_key.specs.Key.{key_of}
use Rattle.withdrawal.specs.declared.verdict.Verdict.{Verdict}
use Rattle.withdrawal.specs.Withdrawal.{accepted, drawn}

-- of two folded molecules
abbrev pub Tells : Molecule → Molecule → Verdict → Type 0
Tells x y Verdict.Listed = Redrawing x y
Tells x y Verdict.Other = Redrawing x y → ⊥
Tells x y Verdict.Unsure = key_of x ≡ key_of y

-- of a text and a folded molecule
abbrev pub Says : List ℕ → Molecule → Verdict → Type 0
Says b y Verdict.Listed = (accepted b ≡ true) × Redrawing (folded (drawn b)) y
Says b y Verdict.Other = (accepted b ≡ true) × (Redrawing (folded (drawn b)) y → ⊥)
Says b y Verdict.Unsure = (accepted b ≡ false) ⊎ (key_of (folded (drawn b)) ≡ key_of y)

-- the same, but of an entry that was not asked as well
abbrev pub Holds : List ℕ → Molecule → Verdict → Type 0
Holds b y Verdict.Listed = (accepted b ≡ true) × Redrawing (folded (drawn b)) y
Holds b y Verdict.Other = (accepted b ≡ true) × (Redrawing (folded (drawn b)) y → ⊥)
Holds b y Verdict.Unsure = Unit {0}
