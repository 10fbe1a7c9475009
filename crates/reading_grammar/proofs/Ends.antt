-- What may still come in a bracket, from each of its fields on; and small laws that both directions use.
use mathlib.Core.Path.{◌≡◌, refl, sym, ap, subst, ◌∙◌}
use mathlib.Core.Bool.{Bool, true, false}
use mathlib.Core.List.{List, [], ◌∷◌, ◌++◌}
use Prim.Native.Nat.{ℕ}
use native.Mathlib.Omega.{arith}
use lib.Dec.{eqb}
use borrow.Author.Tests.{eqb-true}
use Rattle.reading_grammar.specs.Grammar.{pick, among, listed, same_bytes, Isotope, Symbol, Tetrahedral, Hydrogens, Charge, Extension}
use Rattle.reading_grammar.specs.Machine.{MachineState, dead, run, step}

pub data EndExtension : List ℕ → Type 0 where
  ends : {e : List ℕ} → Extension e → EndExtension (e ++ 93 ∷ [])

pub data EndCharge : List ℕ → Type 0 where
  ends : {c t : List ℕ} → Charge c → EndExtension t → EndCharge (c ++ t)

pub data EndHydrogens : List ℕ → Type 0 where
  ends : {h t : List ℕ} → Hydrogens h → EndCharge t → EndHydrogens (h ++ t)

pub data EndMark : List ℕ → Type 0 where
  ends : {k t : List ℕ} → Tetrahedral k → EndHydrogens t → EndMark (k ++ t)

pub data EndSymbol : List ℕ → Type 0 where
  ends : {y t : List ℕ} → Symbol y → EndMark t → EndSymbol (y ++ t)

pub data EndIsotope : List ℕ → Type 0 where
  ends : {i t : List ℕ} → Isotope i → EndSymbol t → EndIsotope (i ++ t)

pub never : {P : Type 0} → false ≡ true → P
never h = let z : ◌≡◌ {A = ℕ} 0 1 = cc in absurd (omega arith)

-- what holds at each byte of a list holds at a byte that stands in it
abbrev pub All : (ℕ → Type 0) → List ℕ → Type 0
All P [] = Unit {0}
All P (x ∷ l) = P x × All P l

pub each : (P : ℕ → Type 0) (l : List ℕ) → All P l → (b : ℕ) → among b l ≡ true → P b
unfolding among
each P [] h b e = never e
each P (x ∷ l) h b e = split (eqb b x) refl e (each P l h.1 b)
  where
    split : (t : Bool) → eqb b x ≡ t → pick t true (among b l) ≡ true → (among b l ≡ true → P b) → P b
    split true q r k = subst P (sym (eqb-true b x q)) h.0
    split false q r k = k r

pub run-append : (s t : List ℕ) (σ : MachineState) → run σ (s ++ t) ≡ run (run σ s) t
unfolding run
run-append [] t σ = refl
run-append (b ∷ s) t σ = run-append s t (step σ b)

pub run-dead : (s : List ℕ) → run dead s ≡ dead
unfolding run step
run-dead [] = refl
run-dead (b ∷ s) = run-dead s

-- what a test computes of each word of a list holds of a word that stands in it
unfoldable pub all : (List ℕ → Bool) → List (List ℕ) → Bool
all p [] = true
all p (t ∷ l) = pick (p t) (all p l) false

same_bytes_lem : (s t : List ℕ) → same_bytes s t ≡ true → s ≡ t
unfolding same_bytes
same_bytes_lem [] [] h = refl
same_bytes_lem [] (y ∷ t) h = never h
same_bytes_lem (x ∷ s) [] h = never h
same_bytes_lem (x ∷ s) (y ∷ t) h = split (eqb x y) refl h (same_bytes_lem s t)
  where
    split : (b : Bool) → eqb x y ≡ b → pick b (same_bytes s t) false ≡ true → (same_bytes s t ≡ true → s ≡ t) → x ∷ s ≡ y ∷ t
    split true q r k = let e : x ≡ y = eqb-true x y q in let f : s ≡ t = k r in cc
    split false q r k = never r

pub all_listed : (p : List ℕ → Bool) (l : List (List ℕ)) (s : List ℕ) → all p l ≡ true → listed s l ≡ true → p s ≡ true
unfolding all listed
all_listed p [] s a h = never h
all_listed p (t ∷ l) s a h = split (p t) (same_bytes s t) refl refl a h (all_listed p l s)
  where
    split : (u v : Bool) → p t ≡ u → same_bytes s t ≡ v → pick u (all p l) false ≡ true → pick v true (listed s l) ≡ true
        → (all p l ≡ true → listed s l ≡ true → p s ≡ true) → p s ≡ true
    split true true e f a h k = ap p (same_bytes_lem s t f) ∙ e
    split true false e f a h k = k a h
    split false v e f a h k = never a
