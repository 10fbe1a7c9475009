-- A refusal's code is one of 1 to 23, and tells the refusal. Assumes nothing.
use Prim.Native.Nat.{ℕ, ◌<◌, ◌≤◌}
use native.Mathlib.Omega.{arith}
use mathlib.Core.Path.{◌≡◌, refl, sym, ap, ◌∙◌}
use mathlib.Core.List.{[], ◌∷◌}
use lib.ListN.{get_or}
use Rattle.refusal.specs.Code.{code_of}
use Rattle.refusal.specs.declared.Refusal.{Refusal}
use Rattle.refusal.specs.declared.Refusal.TheVariants.{Short, LongText, Grammar, ManyAtoms, ManyBonds, DeepBranch, SelfBridge, RepeatedBond, SymbolClash, OpenBridge, Unmatchable, NotMatching, Invalid, ManyBridges, DeepWriting, LongWriting, CrowdedEnd, StrayMark, LooseAtom, UnfitMark}

-- the refusal with a code, from 1 on
abbrev refusal_of : ℕ → Refusal
refusal_of c = get_or (Short ∷ Short ∷ LongText ∷ Grammar ∷ ManyAtoms ∷ ManyBonds ∷ DeepBranch ∷ SelfBridge ∷ RepeatedBond ∷ SymbolClash ∷ OpenBridge ∷ Unmatchable ∷ NotMatching ∷ Invalid ∷ ManyBridges ∷ DeepWriting ∷ LongWriting ∷ Short ∷ Short ∷ Short ∷ CrowdedEnd ∷ StrayMark ∷ LooseAtom ∷ UnfitMark ∷ []) c Short

back : (r : Refusal) → refusal_of (code_of r) ≡ r
back Short = refl
back LongText = refl
back Grammar = refl
back ManyAtoms = refl
back ManyBonds = refl
back DeepBranch = refl
back SelfBridge = refl
back RepeatedBond = refl
back SymbolClash = refl
back OpenBridge = refl
back Unmatchable = refl
back NotMatching = refl
back Invalid = refl
back ManyBridges = refl
back DeepWriting = refl
back LongWriting = refl
back CrowdedEnd = refl
back StrayMark = refl
back LooseAtom = refl
back UnfitMark = refl

pub one_code : (r s : Refusal) → code_of r ≡ code_of s → r ≡ s
one_code r s e = sym (back r) ∙ ap refusal_of e ∙ back s

pub record Code (c : ℕ) : Type 0 where
  pub positive : 0 < c
  pub small : c ≤ 23

pub code-range : (r : Refusal) → Code (code_of r)
code-range Short = record { positive = omega arith; small = omega arith }
code-range LongText = record { positive = omega arith; small = omega arith }
code-range Grammar = record { positive = omega arith; small = omega arith }
code-range ManyAtoms = record { positive = omega arith; small = omega arith }
code-range ManyBonds = record { positive = omega arith; small = omega arith }
code-range DeepBranch = record { positive = omega arith; small = omega arith }
code-range SelfBridge = record { positive = omega arith; small = omega arith }
code-range RepeatedBond = record { positive = omega arith; small = omega arith }
code-range SymbolClash = record { positive = omega arith; small = omega arith }
code-range OpenBridge = record { positive = omega arith; small = omega arith }
code-range Unmatchable = record { positive = omega arith; small = omega arith }
code-range NotMatching = record { positive = omega arith; small = omega arith }
code-range Invalid = record { positive = omega arith; small = omega arith }
code-range ManyBridges = record { positive = omega arith; small = omega arith }
code-range DeepWriting = record { positive = omega arith; small = omega arith }
code-range LongWriting = record { positive = omega arith; small = omega arith }
code-range CrowdedEnd = record { positive = omega arith; small = omega arith }
code-range StrayMark = record { positive = omega arith; small = omega arith }
code-range LooseAtom = record { positive = omega arith; small = omega arith }
code-range UnfitMark = record { positive = omega arith; small = omega arith }
