-- auxiliary: what a walk over the entries of a register promises
use Rattle.std.specs.Prelude.{ℕ, ◌≤◌, ◌<◌, ◌≡◌, List, Option, None, Some}
use Rattle.register.specs.Layout.{count, body_of}
use Rattle.same_model.specs.Same.{Molecule}
use Rattle.withdrawal.specs.declared.verdict.Verdict.{Verdict}
use Rattle.withdrawal.specs.declared.walk.Withdrawn.{Withdrawn}
use Rattle.withdrawal.specs.Withdrawal.{is_listed, is_unsure, Place, nowhere, at, first_of, judged_by}
use Rattle.withdrawal.specs.Answer.{said_of}
use Rattle.withdrawal.specs.Verdict.{Says, Holds}

-- the place of the first entry that could not be decided, if there is one
abbrev pub place_of : Option ℕ → Place
place_of None = nowhere
place_of (Some u) = at u

-- the answer where no entry is listed
abbrev pub left_of : Option ℕ → Withdrawn
left_of None = Withdrawn.Clear
left_of (Some u) = Withdrawn.Undecided u

-- p entries were judged, and none of them is listed
pub record Seen (r : List ℕ) (y : Molecule) (u : Option ℕ) (p : ℕ) : Type 0 where
  pub verdict : ℕ → Verdict
  pub within : p ≤ count r
  pub says : (q : ℕ) → q < p → Holds (body_of r q) y (verdict q)
  pub none_listed : first_of (λ q. is_listed (verdict q)) p ≡ nowhere
  pub first_unsure : first_of (λ q. is_unsure (verdict q)) p ≡ place_of u
  pub reason : (q : ℕ) → u ≡ Some q → (q < p) × Says (body_of r q) y Verdict.Unsure

-- all were judged, as far as the answer asks
pub record Walked (r : List ℕ) (y : Molecule) (out : Withdrawn) : Type 0 where
  pub verdict : ℕ → Verdict
  pub says : (q : ℕ) → q < count r → Holds (body_of r q) y (verdict q)
  pub is : said_of out ≡ judged_by verdict r
  pub undecided : (said_of out).answer ≡ 2 → ((said_of out).entry < count r) × Says (body_of r (said_of out).entry) y Verdict.Unsure
