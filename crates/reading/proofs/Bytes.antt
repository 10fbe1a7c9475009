-- A text's bytes one after the other: what a reading was before a byte, what it is after it, and that a refusal ends it. Assumes nothing.
use Prim.Native.Nat.{ℕ, zero, suc, ◌+◌, ◌<◌}
use native.Mathlib.Omega.{arith}
use mathlib.Core.Path.{◌≡◌, refl, sym, ap, ◌∙◌}
use mathlib.Core.Bool.{Bool, true, false}
use mathlib.Core.List.{List, [], ◌∷◌}
use lib.ListN.{length, get_or, take, drop, take-append-drop}
use lib.Seq.{take-suc, length-take-le}
use lib.IntN.{ℤ}
use Rattle.loops.specs.Loop.{pick}
use Rattle.element.specs.Symbols.{among}
use Rattle.reading_grammar.specs.Grammar.{nonzero}
use Rattle.reading_grammar.specs.declared.Mode.TheVariants.{Percent as percent, Percent1 as percent1}
use Rattle.reading_grammar.specs.declared.MachineState.{MachineState}
use Rattle.reading_grammar.specs.declared.MachineState.TheVariants.{Start as start, At as at}
use Rattle.reading_grammar.specs.Machine.{alive, step}
use Rattle.reading_grammar.specs.Fold.{Act, keeps, refuses, Reading, going, halted, after, feed, read}
use Rattle.reading_grammar.proofs.Fold.{read-append, read-halted}
use Rattle.reading.specs.Memory.{Memory, counting}
use Rattle.reading.specs.Bracket.{digit}
use Rattle.reading.specs.Act.{act}
use Rattle.reading.specs.Read.{zeros, beginning}
use Rattle.reading.specs.Conditions.{bytes_read, BridgeMayStand, Before}
use Rattle.reading.proofs.Percent.{into-percent, into-percent1, at-percent, first-digit}

module _ (s : List ℕ) (atoms bonds : List ℤ) where
  -- one byte more
  fed : (k : ℕ) → k < length s → bytes_read (take (suc k) s) atoms bonds ≡ feed act k (bytes_read (take k s) atoms bonds) (get_or s k 0)
  unfolding read
  fed k l =
      let n : 0 + length (take k s) ≡ k = omega (arith, length-take-le k s (omega arith)) in
      rw (take-suc s k 0 l) (read-append act (take k s) (get_or s k 0 ∷ []) 0 (going start (beginning (zeros atoms) (zeros bonds))) ∙ rw n)

  -- a byte that the grammar and the action let pass
  pub record Passed (k : ℕ) (σ : MachineState) (μ : Memory) (τ : MachineState) (ν : Memory) : Type 0 where
    pub lives : alive (step σ (get_or s k 0)) ≡ true
    pub moves : step σ (get_or s k 0) ≡ τ
    pub keeps : act σ (get_or s k 0) k μ ≡ keeps ν

  module _ {k : ℕ} {σ : MachineState} {μ : Memory} (b : Before s atoms bonds k σ μ) where
    after-byte : bytes_read (take (suc k) s) atoms bonds ≡ feed act k (going σ μ) (get_or s k 0)
    after-byte = fed k b.within ∙ ap (λ (r : Reading Memory). feed act k r (get_or s k 0)) b.reached

    pub goes_on : {τ : MachineState} {ν : Memory} → Passed k σ μ τ ν → bytes_read (take (suc k) s) atoms bonds ≡ going τ ν
    unfolding feed
    goes_on {τ} {ν} w = after-byte ∙ rw (w.lives, w.keeps) (ap (λ (x : MachineState). going x ν) w.moves)

    pub ends : (c p : ℕ) → alive (step σ (get_or s k 0)) ≡ true → act σ (get_or s k 0) k μ ≡ refuses c p → bytes_read s atoms bonds ≡ halted c p
    unfolding feed
    ends c p v x =
        let h : bytes_read (take (suc k) s) atoms bonds ≡ halted c p = after-byte ∙ rw (v, x) in
        ap (λ (t : List ℕ). bytes_read t atoms bonds) (sym (take-append-drop (suc k) s))
        ∙ read-append act (take (suc k) s) (drop (suc k) s) 0 (going start (beginning (zeros atoms) (zeros bonds)))
        ∙ ap (λ (r : Reading Memory). read act (0 + length (take (suc k) s)) r (drop (suc k) s)) h
        ∙ read-halted act (drop (suc k) s) (0 + length (take (suc k) s)) c p

  -- what a reading was before its last byte
  pub record Came (k : ℕ) (τ : MachineState) (ν : Memory) : Type 0 where
    pub state : MachineState
    pub memory : Memory
    pub before : Before s atoms bonds k state memory
    pub passed : Passed k state memory τ ν

  pub came : (k : ℕ) {τ : MachineState} {ν : Memory} → k < length s → bytes_read (take (suc k) s) atoms bonds ≡ going τ ν → Came k τ ν
  unfolding feed
  came k {τ} {ν} l e = split (bytes_read (take k s) atoms bonds) refl (sym (fed k l) ∙ e)
    where
      pass : (σ : MachineState) (μ : Memory) → bytes_read (take k s) atoms bonds ≡ going σ μ → (t : Bool) → alive (step σ (get_or s k 0)) ≡ t → (a : Act Memory) → act σ (get_or s k 0) k μ ≡ a
          → pick t (after (step σ (get_or s k 0)) a) (halted 3 k) ≡ going τ ν → Came k τ ν
      pass σ μ h true v (keeps ξ) x q =
          let m : step σ (get_or s k 0) ≡ τ = cc in
          let n : act σ (get_or s k 0) k μ ≡ keeps ν = cc in
          record { state = σ; memory = μ; before = record { within = l; reached = h }; passed = record { lives = v; moves = m; keeps = n } }
      pass σ μ h true v (refuses c p) x q = absurd (let z : ◌≡◌ {A = ℕ} 0 1 = cc in omega arith)
      pass σ μ h false v a x q = absurd (let z : ◌≡◌ {A = ℕ} 0 1 = cc in omega arith)

      split : (r : Reading Memory) → bytes_read (take k s) atoms bonds ≡ r → feed act k r (get_or s k 0) ≡ going τ ν → Came k τ ν
      split (going σ μ) h q = pass σ μ h (alive (step σ (get_or s k 0))) refl (act σ (get_or s k 0) k μ) refl q
      split (halted c p) h q = absurd (let z : ◌≡◌ {A = ℕ} 0 1 = cc in omega arith)

  -- before the second digit after a `%`, which stands two bytes before it
  pub record Tens (k : ℕ) (ν : Memory) : Type 0 where
    pub sign : ℕ
    pub two-before : k ≡ sign + 2
    pub state : MachineState
    pub memory : Memory
    pub before : Before s atoms bonds sign state memory
    pub place : BridgeMayStand state
    pub percent : get_or s sign 0 ≡ 37
    pub first : among (get_or s (sign + 1) 0) nonzero ≡ true
    pub counted : counting (digit (get_or s (sign + 1) 0)) memory ≡ ν

  kept : (μ ν : Memory) → keeps μ ≡ keeps ν → μ ≡ ν
  kept μ ν q = cc

  -- `%` changes nothing, and its first digit only the tens
  sign_kept : {p : ℕ} {σ τ : MachineState} {μ ν : Memory} → BridgeMayStand σ → get_or s p 0 ≡ 37 → Passed p σ μ τ ν → μ ≡ ν
  sign_kept {p} {σ} {τ} {μ} {ν} w e h = kept μ ν (sym (at-percent w p μ) ∙ ap (λ (b : ℕ). act σ b p μ) (sym e) ∙ h.keeps)

  tens-kept : {k d : ℕ} {σ τ : MachineState} {μ ν : Memory} → σ ≡ at percent d → Passed k σ μ τ ν → counting (digit (get_or s k 0)) μ ≡ ν
  tens-kept {k} {d} {σ} {τ} {μ} {ν} e h = kept (counting (digit (get_or s k 0)) μ) ν (sym (first-digit d (get_or s k 0) k μ) ∙ ap (λ (x : MachineState). act x (get_or s k 0) k μ) (sym e) ∙ h.keeps)

  tens-of : {p d : ℕ} {ν : Memory} {σ : MachineState} {μ : Memory} → σ ≡ at percent d → among (get_or s (suc p) 0) nonzero ≡ true → counting (digit (get_or s (suc p) 0)) μ ≡ ν → Came p σ μ → Tens (suc (suc p)) ν
  tens-of {p} {d} {ν} {σ} {μ} e f q v =
      let g = into-percent v.state (get_or s p 0) d (v.passed.moves ∙ e) in
      let one : p + 1 ≡ suc p = omega arith in
      record {
        sign = p;
        two-before = omega arith;
        state = v.state;
        memory = v.memory;
        before = v.before;
        place = g.0;
        percent = g.1;
        first = rw one f;
        counted = rw one (ap (counting (digit (get_or s (suc p) 0))) (sign_kept g.0 g.1 v.passed) ∙ q);
      }

  pub tens : (k : ℕ) {d : ℕ} {ν : Memory} → k < length s → bytes_read (take k s) atoms bonds ≡ going (at percent1 d) ν → Tens k ν
  unfolding read
  tens zero l e = absurd (let z : ◌≡◌ {A = ℕ} 0 1 = cc in omega arith)
  tens (suc zero) {d} l e =
      let w = came zero (omega arith) e in
      let r = w.before.reached in
      let q = (into-percent1 w.state (get_or s 0 0) d w.passed.moves).0.1 in
      absurd (let z : ◌≡◌ {A = ℕ} 0 1 = cc in omega arith)
  tens (suc (suc p)) {d} {ν} l e =
      let w = came (suc p) (omega arith) e in
      let h = into-percent1 w.state (get_or s (suc p) 0) d w.passed.moves in
      tens-of h.0.1 h.1 (tens-kept h.0.1 w.passed) (came p (omega arith) w.before.reached)
