-- Laws of the fold over the bytes of a text. Assumes nothing.
use mathlib.Core.Path.{◌≡◌, refl, ap, ◌∙◌}
use mathlib.Core.Bool.{true}
use mathlib.Core.List.{List, [], ◌∷◌, ◌++◌}
use Prim.Native.Nat.{ℕ, suc, ◌+◌}
use native.Mathlib.Omega.{arith}
use native.Mathlib.Nat.{add-zero}
use lib.ListN.{length}
use Rattle.reading_grammar.specs.declared.MachineState.{MachineState}
use Rattle.reading_grammar.specs.Machine.{step, alive}
use Rattle.reading_grammar.specs.Fold.{keeps, Reading, going, feed, read}
use Rattle.reading.specs.Memory.{Memory}
use Rattle.reading.specs.Act.{act}

pub read-append : (a b : List ℕ) (i : ℕ) (r : Reading Memory) → read act i r (a ++ b) ≡ read act (i + length a) (read act i r a) b
unfolding read
read-append [] b i r = rw add-zero
read-append (x ∷ a) b i r = let e : i + suc (length a) ≡ suc i + length a = omega arith in rw e (read-append a b (suc i) (feed act i r x))

-- a reading goes on over the bytes s from a state and a memory to others
pub record Takes (i : ℕ) (σ : MachineState) (μ : Memory) (s : List ℕ) (τ : MachineState) (ν : Memory) : Type 0 where
  pub is : read act i (going σ μ) s ≡ going τ ν

pub stays : {i : ℕ} {σ : MachineState} {μ : Memory} → Takes i σ μ [] σ μ
unfolding read
stays = record { is = refl }

pub joins : {i : ℕ} {σ τ υ : MachineState} {μ ν ξ : Memory} (s t : List ℕ) → Takes i σ μ s τ ν → Takes (i + length s) τ ν t υ ξ → Takes i σ μ (s ++ t) υ ξ
joins {i} {σ} {τ} {υ} {μ} {ν} {ξ} s t p q = record { is = read-append s t i (going σ μ) ∙ ap (λ (r : Reading Memory). read act (i + length s) r t) p.is ∙ q.is }

-- one byte that the grammar takes and that is not refused
pub byte : {i : ℕ} {σ τ υ : MachineState} {μ ν ξ : Memory} (b : ℕ) (s : List ℕ) → step σ b ≡ τ → alive τ ≡ true → act σ b i μ ≡ keeps ν → Takes (suc i) τ ν s υ ξ → Takes i σ μ (b ∷ s) υ ξ
unfolding read feed
byte b s e l a t = record { is = rw (e, l, a) t.is }
