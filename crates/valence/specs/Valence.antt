-- 01, Hydrogens and kept atoms, with 02's P1 and P10: the rules as functions of numbers
use Rattle.std.specs.Prelude.{Bool, ◌&&◌, List, [], ◌∷◌, ℕ, ◌+◌, ◌-◌, eqb, leb, take, get_or, ℤ, pos, nat_abs, ◌+ℤ◌, ◌-ℤ◌}
use Rattle.std.specs.Int.Signed.{le_z}
use Rattle.loops.specs.Loop.{pick}
use Rattle.valence.specs.declared.Targets.{Targets}
use Rattle.valence.specs.declared.Reached.{Reached}
use Rattle.valence.specs.declared.Reached.TheVariants.{Target, NoTarget, AboveAll}
use Rattle.valence.specs.declared.Hydrogens.{Hydrogens}

-- target valences (000, table 1): B 3; C 4; N 3, 5; O 2; F 1; P 3, 5; S 2, 4, 6; Cl, Br, I, At, Ts 1
unfoldable pub targets : ℕ → List ℕ
targets e =
    pick (eqb e 5) (3 ∷ [])
    (pick (eqb e 6) (4 ∷ [])
    (pick (eqb e 7) (3 ∷ 5 ∷ [])
    (pick (eqb e 8) (2 ∷ [])
    (pick (eqb e 9) (1 ∷ [])
    (pick (eqb e 15) (3 ∷ 5 ∷ [])
    (pick (eqb e 16) (2 ∷ 4 ∷ 6 ∷ [])
    (pick (eqb e 17) (1 ∷ [])
    (pick (eqb e 35) (1 ∷ [])
    (pick (eqb e 53) (1 ∷ [])
    (pick (eqb e 85) (1 ∷ [])
    (pick (eqb e 117) (1 ∷ []) [])))))))))))

-- the same as a row of three, with 0 for each that is not there
abbrev pub target_row : ℕ → Targets
target_row e = record { 0 = get_or (targets e) 0 0; 1 = get_or (targets e) 1 0; 2 = get_or (targets e) 2 0 }

abbrev pub head_or0 : List ℕ → ℕ
head_or0 [] = 0
head_or0 (t ∷ ts) = t

-- 0 where an element has no target
unfoldable pub first_target : ℕ → ℕ
first_target e = head_or0 (targets e)

-- ---- hydrogens of an atom outside brackets (000, algorithm 1), and the target they reach (02, P10)

-- "a selected atom has its first target only"
abbrev pub targets_for : ℕ → ℕ → List ℕ
targets_for e selected = pick (eqb selected 1) (take 1 (targets e)) (targets e)

-- "The target reached is the first that is not below the bond sum", "or that the bond sum was above every target"
unfoldable pub first_fitting : List ℕ → ℕ → Reached
first_fitting [] sum = AboveAll
first_fitting (t ∷ ts) sum = pick (leb sum t) (Target t) (first_fitting ts sum)

-- "`*` has no target and is never over-full"
unfoldable pub reached_in : List ℕ → ℕ → Reached
reached_in [] sum = NoTarget
reached_in (t ∷ ts) sum = first_fitting (t ∷ ts) sum

-- what each case says: the target reached, 0 where none is; 1 where the atom is over-full
pub record Values : Type 0 where
  pub target : ℕ
  pub overfull : ℕ

abbrev pub values_of : Reached → Values
values_of (Target t) = record { target = t; overfull = 0 }
values_of NoTarget = record { target = 0; overfull = 0 }
values_of AboveAll = record { target = 0; overfull = 1 }

-- the target less the bond sum; a selected atom "starts its sum at 1", which is not added for the target reached; "below zero is 0"
unfoldable pub hydrogens_of : ℕ → ℕ → ℕ → Hydrogens
hydrogens_of e selected sum =
    let r = reached_in (targets_for e selected) sum in
    record { count = (values_of r).target - (sum + pick (eqb selected 1) 1 0); reached = r }

-- the count alone
abbrev pub implied : ℕ → ℕ → ℕ → ℕ
implied e selected sum = (hydrogens_of e selected sum).count

-- 1 for an over-full atom
abbrev pub overfull : ℕ → ℕ → ℕ → ℕ
overfull e selected sum = (values_of (hydrogens_of e selected sum).reached).overfull

-- 02, P1: "for carbon, the target less the size of the charge; for n, o, p and s, the target plus the signed charge". "A target below zero is an answer"
unfoldable pub shifted_target : ℕ → ℤ → ℤ
shifted_target e charge = pick (eqb e 6) (pos (first_target e) -ℤ pos (nat_abs charge)) (pos (first_target e) +ℤ charge)

-- 01's "kept": a selected atom whose bond sum + hydrogens + 1 is at most its shifted first target
unfoldable pub delocalized : ℕ → ℕ → ℤ → ℕ → ℕ → Bool
delocalized e selected charge sum hydrogens = eqb selected 1 && le_z (pos (sum + hydrogens + 1)) (shifted_target e charge)
