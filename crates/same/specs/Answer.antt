-- 02, P4: the answers of the call as numbers
use Rattle.std.specs.Prelude.{ℕ, List}
use Rattle.refusal.specs.Code.{code_of}
use Rattle.same_model.specs.Same.{SameReply, same_reply}
use Rattle.same.specs.declared.Sameness.{Sameness}
use Rattle.same.specs.declared.Sameness.TheVariants.{Same, Different, ManyAtoms, Refused}

-- 0 for "yes"; 254 for "no" (02 gives it none); 19 for over 64 atoms; else the refusal's
abbrev pub sameness_code : Sameness → ℕ
sameness_code Same = 0
sameness_code Different = 254
sameness_code ManyAtoms = 19
sameness_code (Refused r) = code_of r

-- an answer with both rows and the renumbering as they are then
abbrev pub same_out : Sameness → List ℕ → List ℕ → List ℕ → SameReply
same_out a r s t = same_reply (sameness_code a) r s t
