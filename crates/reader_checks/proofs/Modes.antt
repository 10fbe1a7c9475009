-- The numbers above those of the modes. Assumes nothing.
use Prim.Native.Nat.{ℕ, zero, suc, ◌≤◌}
use native.Mathlib.Omega.{arith}
use mathlib.Core.Path.{◌≡◌, refl}
use mathlib.Core.List.{[], ◌∷◌}
use lib.ListN.{get_or-eq_default}
use Rattle.reading_grammar.specs.declared.Last.TheVariants.{Plain as plain, AfterC as afterC, AfterB as afterB}
use Rattle.reading_grammar.specs.declared.Mode.{Mode}
use Rattle.reading_grammar.specs.declared.Mode.TheVariants.{Seq as seq, Bond as bond, AtomNext as atomNext, Inside as inside, Percent as percent, Percent1 as percent1, LetterA as letterA, LetterT as letterT, Bracket as bracket, Isotope as isotope, Symbol1 as symbol1, Symbolled as symbolled, At1 as at1, At2 as at2, Hydrogen as hydrogen, Hydrogens as hydrogens, Sign as sign, Charged as charged, Colon as colon, Extension as extension}
use Rattle.reading_pieces.specs.State.{isotope_mode, extension_mode, mode_of, mode_letter}

-- a number that is none of the first k
abbrev Misses : ℕ → ℕ → Type 0
Misses zero m = Unit {0}
Misses (suc k) m = Misses k m × (m ≡ k → ⊥)

above : (k m : ℕ) → Misses k m → k ≤ m
above zero m h = omega arith
above (suc k) m h = let l = above k m h.0 in let n = h.1 in omega arith

-- the last mode stands for every higher number
pub mode-above : (m a i e : ℕ) → Misses 19 m → mode_of m a i e ≡ extension_mode e
unfolding mode_of
mode-above m a i e h =
    get_or-eq_default
    (atomNext ∷ seq plain ∷ seq afterC ∷ seq afterB ∷ bond ∷ inside ∷ percent ∷ percent1 ∷ letterA ∷ letterT
    ∷ isotope_mode i ∷ symbol1 a ∷ symbolled ∷ at1 ∷ at2 ∷ hydrogen ∷ hydrogens ∷ sign ∷ charged ∷ [])
    (extension_mode e) (above 19 m h)

-- a mode that is no half-read symbol has no letter
pub letter-none : (m : Mode) → ((a : ℕ) → m ≡ symbol1 a → ⊥) → mode_letter m ≡ 0
unfolding mode_letter
letter-none (seq x) h = refl
letter-none bond h = refl
letter-none atomNext h = refl
letter-none inside h = refl
letter-none percent h = refl
letter-none percent1 h = refl
letter-none letterA h = refl
letter-none letterT h = refl
letter-none bracket h = refl
letter-none (isotope k) h = refl
letter-none (symbol1 a) h = absurd (h a refl)
letter-none symbolled h = refl
letter-none at1 h = refl
letter-none at2 h = refl
letter-none hydrogen h = refl
letter-none hydrogens h = refl
letter-none sign h = refl
letter-none charged h = refl
letter-none colon h = refl
letter-none (extension k) h = refl
