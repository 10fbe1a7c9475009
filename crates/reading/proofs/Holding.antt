-- Where a byte is refused, the condition of 01 for its code holds at its offset. Assumes nothing.
use Prim.Native.Nat.{ℕ, ◌+◌, ◌-◌, ◌*◌}
use native.Mathlib.Omega.{arith}
use mathlib.Core.Path.{◌≡◌, refl, sym, ap, subst, ◌∙◌}
use mathlib.Core.Bool.{Bool, true, false}
use mathlib.Core.List.{List}
use lib.ListN.{get_or}
use lib.IntN.{ℤ}
use Rattle.loops.specs.Loop.{pick}
use Rattle.element.specs.Symbols.{among}
use Rattle.reading_grammar.specs.Grammar.{digits}
use Rattle.reading_grammar.specs.declared.Last.TheVariants.{Plain as plain}
use Rattle.reading_grammar.specs.declared.Mode.TheVariants.{Seq as seq, Percent1 as percent1}
use Rattle.reading_grammar.specs.declared.Move.TheVariants.{Stop as stop, To as to}
use Rattle.reading_grammar.specs.declared.MachineState.{MachineState}
use Rattle.reading_grammar.specs.declared.MachineState.TheVariants.{At as at}
use Rattle.reading_grammar.specs.Machine.{alive, turn, step, next}
use Rattle.reading_grammar.proofs.Ends.{never}
use Rattle.reading.specs.Memory.{Memory, kind_of}
use Rattle.reading.specs.Bracket.{digit}
use Rattle.reading.specs.Conditions.{Open, opener_of, Before, AtomBegins, Numbered, BridgeCloses, Holds}
use Rattle.reading.proofs.Refusals.{Completes, Closes, Starts, Why}
use Rattle.reading.proofs.Bytes.{Tens, tens}
use Rattle.reading.proofs.Words.{to-be-bonded, differ, have-bond}

module _ (s : List ℕ) (atoms bonds : List ℤ) where
  -- the bridge that a byte closes, as it stood before its digit or `%`
  record Bridge (μ : Memory) (r p : ℕ) : Type 0 where
    pub memory : Memory
    pub closes : BridgeCloses s atoms bonds p r memory
    pub steering : memory.st ≡ μ.st
    pub table : memory.bonds ≡ μ.bonds
    pub awaited : memory.pending ≡ μ.pending

  second-digit : (b d : ℕ) → alive (step (at percent1 d) b) ≡ true → among b digits ≡ true
  unfolding step next
  second-digit b d = split (among b digits)
    where
      split : (t : Bool) → alive (turn (pick t (to (seq plain)) stop) d) ≡ true → t ≡ true
      split true v = refl
      split false v = never v

  by-tens : {k d : ℕ} {μ : Memory} → Before s atoms bonds k (at percent1 d) μ → alive (step (at percent1 d) (get_or s k 0)) ≡ true → Tens s atoms bonds k μ → Open μ.st.opener (10 * μ.tens + digit (get_or s k 0))
      → Bridge μ (10 * μ.tens + digit (get_or s k 0)) (k - 2)
  by-tens {k} {d} {μ} b v w o =
      let q = w.sign in
      let e : k ≡ q + 2 = w.two-before in
      let place : q ≡ k - 2 = omega arith in
      let steering : w.memory.st ≡ μ.st = ap (λ (ν : Memory). ν.st) w.counted in
      let number : 10 * digit (get_or s (q + 1) 0) + digit (get_or s (q + 2) 0) ≡ 10 * μ.tens + digit (get_or s k 0) =
      ap (λ (t : ℕ). 10 * t + digit (get_or s (q + 2) 0)) (ap (λ (ν : Memory). ν.tens) w.counted) ∙ ap (λ (j : ℕ). 10 * μ.tens + digit (get_or s j 0)) (sym e) in
      record {
        memory = w.memory;
        closes = record {
          state = w.state;
          before = subst (λ (p : ℕ). Before s atoms bonds p w.state w.memory) place w.before;
          place = w.place;
          complete = subst (Numbered s atoms bonds (k - 2)) number (subst (λ (p : ℕ). Numbered s atoms bonds p (10 * digit (get_or s (q + 1) 0) + digit (get_or s (q + 2) 0))) place
              (Numbered.by_percent w.percent w.first (rw e at (second-digit (get_or s k 0) d v)) (omega (arith, b.within))));
          opened = rw steering o;
        };
        steering = steering;
        table = ap (λ (ν : Memory). ν.bonds) w.counted;
        awaited = ap (λ (ν : Memory). ν.pending) w.counted;
      }

  bridge-at : {k : ℕ} {σ : MachineState} {μ : Memory} {r p : ℕ} → Before s atoms bonds k σ μ → alive (step σ (get_or s k 0)) ≡ true → Closes σ (get_or s k 0) k μ r p → Bridge μ r p
  bridge-at b v c = go b v c.complete c.opened
    where
      go : {k : ℕ} {σ : MachineState} {μ : Memory} {r p : ℕ} → Before s atoms bonds k σ μ → alive (step σ (get_or s k 0)) ≡ true → Completes σ (get_or s k 0) k μ r p → Open μ.st.opener r → Bridge μ r p
      go {σ = σ} {μ = μ} b v (Completes.by_digit w e) o =
          record { memory = μ; closes = record { state = σ; before = b; place = w; complete = Numbered.by_digit e; opened = o }; steering = refl; table = refl; awaited = refl }
      go {k = k} b v Completes.by_percent o = by-tens b v (tens s atoms bonds k b.within b.reached) o

  atom-at : {k : ℕ} {σ : MachineState} {μ : Memory} → Before s atoms bonds k σ μ → alive (step σ (get_or s k 0)) ≡ true → Starts σ (get_or s k 0) → AtomBegins s atoms bonds k μ
  atom-at {σ = σ} b v n = record { state = σ; before = b; place = n.place; first_byte = n.first_byte v }

  -- what is refused at a byte holds at its offset
  pub refused-holds : {k : ℕ} {σ : MachineState} {μ : Memory} {c p : ℕ} → Before s atoms bonds k σ μ → alive (step σ (get_or s k 0)) ≡ true → Why σ (get_or s k 0) k μ c p → Holds s atoms bonds c p
  refused-holds b v (Why.many-atoms n a) = Holds.atom_over (atom-at b v n) a
  refused-holds {μ = μ} b v (Why.many-bonds n h a) = Holds.child_over (atom-at b v n) (to-be-bonded μ h) a
  refused-holds b v (Why.many_bridges c a) = let w = bridge-at b v c in Holds.bridge_over w.closes (rw w.steering a)
  refused-holds {k} {σ} {μ} b v (Why.many-branches {x} {d} q e a) =
      Holds.branch_65 (record { last = x; depth = d; before = subst (λ (τ : MachineState). Before s atoms bonds k τ μ) q b; byte = e }) a
  refused-holds b v (Why.to_itself c h) = let w = bridge-at b v c in Holds.to_itself w.closes (rw w.steering h)
  refused-holds {μ = μ} b v (Why.joined_twice {r} c h) =
      let w = bridge-at b v c in
      Holds.joined_twice w.closes (rw (w.steering, w.table) (have-bond μ.bonds μ.st.bonds (opener_of μ r) μ.st.hub.0 h))
  refused-holds {μ = μ} b v (Why.symbols_differ {r} c h) =
      let w = bridge-at b v c in
      Holds.symbols_differ w.closes (rw (w.steering, w.awaited) (differ (get_or μ.st.symbol r 0) (kind_of μ.pending) h))
