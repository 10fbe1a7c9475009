-- What each call does with a state and tables that were handed back. Assumes nothing.
use Prim.Native.Nat.{ℕ, ◌+◌, ◌≤◌}
use native.Mathlib.Omega.{arith}
use mathlib.Core.Path.{◌≡◌, refl, ap, ◌∙◌}
use mathlib.Core.Bool.{true, false}
use mathlib.Core.List.{List}
use lib.ListN.{length, replicate, length-replicate}
use lib.IntN.{ℤ, pos}
use borrow.Author.Tests.{ne_eqb}
use Rattle.loops.specs.Loop.{each}
use Rattle.ids.specs.Limits.{max_text}
use Rattle.table.specs.Valid.{enough, valid, distinct}
use Rattle.reading_grammar.specs.declared.MachineState.{MachineState}
use Rattle.reading_grammar.specs.declared.MachineState.TheVariants.{Dead as dead, Start as start, At as at}
use Rattle.reading_grammar.specs.Fold.{going}
use Rattle.reading_state.specs.State.{started}
use Rattle.reading.specs.Memory.{Memory}
use Rattle.reading.specs.Read.{zeros, beginning, finished}
use Rattle.reading.proofs.Sane.{Sane}
use Rattle.reading_pieces.specs.declared.Paused.{Paused}
use Rattle.reading_pieces.specs.Bounded.{read_on}
use Rattle.reading_pieces.specs.State.{mode_number, mode_letter, paused_at, blank_state, ended_code, has_ended}
use Rattle.reading_pieces.specs.Broken.{broken_of}
use Rattle.reading_pieces.specs.Calls.{unchanged, refused_in, start_of, fed_to, fed_of, rest_cleared, end_of}
use Rattle.reading_pieces.proofs.Shown.{Shown}
use Rattle.reading_pieces.proofs.Unbroken.{memory-again, machine-again, unbroken}

-- ---- before anything else: 1, 25, 24
module _ (p : Paused) (atoms bonds : List ℤ) where
  -- "1 comes before it"
  pub short-feed : (s : List ℕ) → enough atoms bonds ≡ false → fed_of p s atoms bonds ≡ unchanged 1 p atoms bonds
  unfolding fed_of
  short-feed s e = rw e

  pub short-end : enough atoms bonds ≡ false → end_of p atoms bonds ≡ unchanged 1 p atoms bonds
  unfolding end_of
  short-end e = rw e

  -- 25 "changes nothing"
  pub broken-feed : (s : List ℕ) → enough atoms bonds ≡ true → broken_of p atoms bonds ≡ true → fed_of p s atoms bonds ≡ unchanged 25 p atoms bonds
  unfolding fed_of
  broken-feed s e b = rw (e, b)

  pub broken-end : enough atoms bonds ≡ true → broken_of p atoms bonds ≡ true → end_of p atoms bonds ≡ unchanged 25 p atoms bonds
  unfolding end_of
  broken-end e b = rw (e, b)

  -- "a piece, empty or not, or a second end after that is refused as 24 and changes nothing"
  pub ended-feed : (s : List ℕ) → enough atoms bonds ≡ true → broken_of p atoms bonds ≡ false → has_ended p ≡ true → fed_of p s atoms bonds ≡ unchanged 24 p atoms bonds
  unfolding fed_of
  ended-feed s e b h = rw (e, b, h)

  pub ended-end : enough atoms bonds ≡ true → broken_of p atoms bonds ≡ false → has_ended p ≡ true → end_of p atoms bonds ≡ unchanged 24 p atoms bonds
  unfolding end_of
  ended-end e b h = rw (e, b, h)

-- ---- a reading that goes on
paused-told : (i : ℕ) (σ : MachineState) (μ : Memory) → (paused_at i σ μ).told ≡ 0
paused-told i dead μ = refl
paused-told i start μ = refl
paused-told i (at m d) μ = refl

paused-read : (i : ℕ) (σ : MachineState) (μ : Memory) → (paused_at i σ μ).read ≡ i
paused-read i dead μ = refl
paused-read i start μ = refl
paused-read i (at m d) μ = refl

module _ {x y : ℕ} (i : ℕ) (σ : MachineState) (μ : Memory) (w : Sane x y σ i μ) (h : Shown σ μ) (l : i ≤ max_text) (room : enough μ.atoms μ.bonds ≡ true) where
  pub going-feed : (s : List ℕ) → fed_of (paused_at i σ μ) s μ.atoms μ.bonds ≡ fed_to (i + length s) μ.atoms μ.bonds (read_on i (going σ μ) s)
  unfolding fed_of
  going-feed s = rw (room, unbroken σ μ w h l, paused-told i σ μ, paused-read i σ μ, machine-again i σ μ w h, memory-again i σ μ w h l)

  pub going_end : end_of (paused_at i σ μ) μ.atoms μ.bonds ≡ record { result = rest_cleared (finished i μ.atoms μ.bonds (going σ μ)); state = blank_state ended_code 0 }
  unfolding end_of
  going_end = rw (room, unbroken σ μ w h l, paused-told i σ μ, paused-read i σ μ, machine-again i σ μ w h, memory-again i σ μ w h l)

-- ---- a state that holds nothing but what was told
valid-none : (atoms bonds : List ℤ) → valid atoms bonds 0 0 ≡ true
unfolding valid distinct each
valid-none atoms bonds = refl

pub told-unbroken : (c q : ℕ) (atoms bonds : List ℤ) → (c ≡ 0 → ⊥) → broken_of (blank_state c q) atoms bonds ≡ false
unfolding broken_of blank_state
told-unbroken c q atoms bonds n = rw (valid-none atoms bonds, ne_eqb c 0 n)

zeros-zeros : (t : List ℤ) → zeros (zeros t) ≡ zeros t
zeros-zeros t = ap (λ (n : ℕ). replicate n (pos 0)) (length-replicate (length t) (pos 0))

pub enough-same : (a b a' b' : List ℤ) → length a' ≡ length a → length b' ≡ length b → enough a' b' ≡ enough a b
unfolding enough
enough-same a b a' b' e f = rw (e, f)

module _ (c q : ℕ) (atoms bonds : List ℤ) (room : enough atoms bonds ≡ true) (low : 2 ≤ c) (high : c ≤ 9) where
  still : enough (zeros atoms) (zeros bonds) ≡ true
  still = enough-same atoms bonds (zeros atoms) (zeros bonds) (length-replicate (length atoms) (pos 0)) (length-replicate (length bonds) (pos 0)) ∙ room

  pub halted-feed : (s : List ℕ) → fed_of (blank_state c q) s (zeros atoms) (zeros bonds) ≡ refused_in c q (blank_state c q) atoms bonds
  unfolding fed_of blank_state
  halted-feed s = rw (still, told-unbroken c q (zeros atoms) (zeros bonds) (λ e. omega arith), ne_eqb c 24 (λ e. omega arith), ne_eqb c 0 (λ e. omega arith), zeros-zeros atoms, zeros-zeros bonds)

  pub halted-end : end_of (blank_state c q) (zeros atoms) (zeros bonds) ≡ refused_in c q (blank_state ended_code 0) atoms bonds
  unfolding end_of blank_state
  halted-end = rw (still, told-unbroken c q (zeros atoms) (zeros bonds) (λ e. omega arith), ne_eqb c 24 (λ e. omega arith), ne_eqb c 0 (λ e. omega arith), zeros-zeros atoms, zeros-zeros bonds)

-- ---- start
pub start-fresh : (atoms bonds : List ℤ) → enough atoms bonds ≡ true → start_of atoms bonds ≡ fed_to 0 atoms bonds (going start (beginning (zeros atoms) (zeros bonds)))
unfolding start_of blank_state started mode_number mode_letter
start-fresh atoms bonds e = rw e

pub start-short : (atoms bonds : List ℤ) → enough atoms bonds ≡ false → start_of atoms bonds ≡ unchanged 1 (blank_state 0 0) atoms bonds
unfolding start_of
start-short atoms bonds e = rw e
