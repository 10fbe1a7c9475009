-- What holds of a reading that goes on from the start: it is sane and safe, and its numbers stand for it. Assumes nothing.
use Prim.Native.Nat.{ℕ, zero, suc, ◌+◌, ◌<◌}
use native.Mathlib.Omega.{arith}
use native.Mathlib.Nat.{add-zero}
use mathlib.Core.Path.{◌≡◌, refl, sym}
use mathlib.Core.Bool.{Bool, true, false}
use mathlib.Core.List.{List, [], ◌∷◌}
use lib.ListN.{length}
use lib.IntN.{ℤ}
use lib.Dec.{ltb}
use borrow.Author.Tests.{ltb-true}
use Rattle.loops.proofs.Loops.{repeated-at}
use Rattle.loops.specs.Loop.{pick}
use Rattle.ids.specs.Limits.{max_text, bridges}
use Rattle.table.specs.Valid.{enough}
use Rattle.reading_grammar.specs.declared.Last.TheVariants.{Plain as plain, AfterC as afterC, AfterB as afterB}
use Rattle.reading_grammar.specs.declared.Mode.{Mode}
use Rattle.reading_grammar.specs.declared.Mode.TheVariants.{Seq as seq, Bond as bond, AtomNext as atomNext, Inside as inside, Percent as percent, Percent1 as percent1, LetterA as letterA, LetterT as letterT, Bracket as bracket, Isotope as isotope, Symbol1 as symbol1, Symbolled as symbolled, At1 as at1, At2 as at2, Hydrogen as hydrogen, Hydrogens as hydrogens, Sign as sign, Charged as charged, Colon as colon, Extension as extension}
use Rattle.reading_grammar.specs.declared.MachineState.{MachineState}
use Rattle.reading_grammar.specs.declared.MachineState.TheVariants.{Dead as dead, Start as start, At as at}
use Rattle.reading_grammar.specs.declared.Move.{Move}
use Rattle.reading_grammar.specs.declared.Move.TheVariants.{Stop as stop, To as to, Up as up, Down as down}
use Rattle.reading_grammar.specs.Machine.{next, step, turn, alive, atom_or}
use Rattle.reading_grammar.specs.Fold.{keeps, refuses, Reading, going, halted, after, feed}
use Rattle.reading_state.specs.State.{started}
use Rattle.reading_state.specs.declared.Fields.{Fields}
use Rattle.reading.specs.Memory.{Memory}
use Rattle.reading.specs.Act.{Acts, act}
use Rattle.reading.specs.Read.{zeros, beginning}
use Rattle.reading.proofs.Sane.{Sane, SaneAct}
use Rattle.reading.proofs.Step.{sane-step, sane-beginning}
use Rattle.reading_pieces.specs.Bounded.{bounded, read_on}
use Rattle.reading_pieces.specs.State.{mode_of, mode_number, mode_letter, extension_in}
use Rattle.reading_pieces.specs.Safe.{Bounded, Half, Safe}
use Rattle.reading_pieces.proofs.Safe.{SafeAct, byte-safe, start-safe}

-- ---- the numbers of a mode stand for it
module _ (t : ℕ) (f : Fields) where
  pub spelt : (m : Mode) → Half m t f → mode_of (mode_number m) (mode_letter m) f.isotope f.extension ≡ m
  unfolding mode_of mode_number mode_letter
  spelt (seq plain) h = refl
  spelt (seq afterC) h = refl
  spelt (seq afterB) h = refl
  spelt bond h = refl
  spelt atomNext h = refl
  spelt inside h = refl
  spelt percent h = refl
  spelt percent1 h = refl
  spelt letterA h = refl
  spelt letterT h = refl
  spelt bracket h = rw h.0
  spelt (isotope k) h = h.0
  spelt (symbol1 a) h = refl
  spelt symbolled h = refl
  spelt at1 h = refl
  spelt at2 h = refl
  spelt hydrogen h = refl
  spelt hydrogens h = refl
  spelt sign h = refl
  spelt charged h = refl
  spelt colon h = rw h
  spelt (extension k) h = h.0

  -- the extension counts in its own modes, and outside brackets
  pub extension-kept : (m : Mode) → Half m t f → extension_in (mode_number m) f.extension ≡ f.extension
  unfolding mode_number
  extension-kept (seq plain) h = refl
  extension-kept (seq afterC) h = refl
  extension-kept (seq afterB) h = refl
  extension-kept bond h = refl
  extension-kept atomNext h = refl
  extension-kept inside h = refl
  extension-kept percent h = refl
  extension-kept percent1 h = refl
  extension-kept letterA h = refl
  extension-kept letterT h = refl
  extension-kept bracket h = sym h.1
  extension-kept (isotope k) h = sym h.2
  extension-kept (symbol1 a) h = sym h
  extension-kept symbolled h = sym h
  extension-kept at1 h = sym h
  extension-kept at2 h = sym h
  extension-kept hydrogen h = sym h
  extension-kept hydrogens h = sym h
  extension-kept sign h = sym h
  extension-kept charged h = sym h
  extension-kept colon h = refl
  extension-kept (extension k) h = refl

-- ---- a reading that goes on

-- before the first atom the hub's cell is 0
abbrev pub Shown : MachineState → Memory → Type 0
Shown dead μ = Unit {0}
Shown start μ = (μ.st.hub.0 ≡ 0) × Bounded μ.st
Shown (at m d) μ = Safe m d μ

abbrev ShownAct : MachineState → Acts → Type 0
ShownAct τ (keeps μ) = Shown τ μ
ShownAct τ (refuses c p) = Unit {0}

-- its memory is sane, and its state is told by its numbers
abbrev pub Kept : ℕ → ℕ → ℕ → Reading Memory → Type 0
Kept p q i (going σ μ) = Sane p q σ i μ × Shown σ μ
Kept p q i (halted c k) = Unit {0}

-- the machine is never again at the start
onward : (σ : MachineState) (b : ℕ) (a : Acts) → SafeAct (step σ b) a → ShownAct (step σ b) a
unfolding step
onward σ b a = go (step σ b) refl a
  where
    turned : (o : Move) (d : ℕ) → turn o d ≡ start → ⊥
    turned stop d e = let z : ◌≡◌ {A = ℕ} 0 1 = cc in omega arith
    turned (to m) d e = let z : ◌≡◌ {A = ℕ} 0 1 = cc in omega arith
    turned up d e = let z : ◌≡◌ {A = ℕ} 0 1 = cc in omega arith
    turned down zero e = let z : ◌≡◌ {A = ℕ} 0 1 = cc in omega arith
    turned down (suc d) e = let z : ◌≡◌ {A = ℕ} 0 1 = cc in omega arith

    never-start : (σ : MachineState) → step σ b ≡ start → ⊥
    never-start dead e = let z : ◌≡◌ {A = ℕ} 0 1 = cc in omega arith
    never-start start e = turned (atom_or b stop) 0 e
    never-start (at m d) e = turned (next m b) d e

    go : (τ : MachineState) → step σ b ≡ τ → (a : Acts) → SafeAct τ a → ShownAct τ a
    go τ e (refuses c p) h = tt
    go dead e (keeps μ) h = tt
    go start e (keeps μ) h = absurd (never-start σ e)
    go (at m d) e (keeps μ) h = h

module _ (p q : ℕ) where
  step-shown : (i : ℕ) (σ : MachineState) (μ : Memory) → i < max_text → Sane p q σ i μ → Shown σ μ → (b : ℕ) → alive (step σ b) ≡ true → ShownAct (step σ b) (act σ b i μ)
  step-shown i dead μ l w h b v = absurd w.stands
  step-shown i start μ l w h b v = onward start b (act start b i μ) (start-safe l (record { bounded = h.1; depth = w.stands.depth; half = tt }) b v)
  step-shown i (at m d) μ l w h b v = onward (at m d) b (act (at m d) b i μ) (byte-safe l m h b v)

  after_kept : (i : ℕ) (τ : MachineState) (a : Acts) → SaneAct p q τ i a → ShownAct τ a → Kept p q i (after τ a)
  after_kept i τ (keeps μ) w h = (w, h)
  after_kept i τ (refuses c k) w h = tt

  kept_byte : (i : ℕ) (r : Reading Memory) → Kept p q i r → (b : ℕ) → Kept p q (suc i) (bounded i r b)
  unfolding bounded feed
  kept_byte i (halted c k) w b = tt
  kept_byte i (going σ μ) w b = split (ltb i max_text) (alive (step σ b)) refl refl
    where
      split : (t u : Bool) → ltb i max_text ≡ t → alive (step σ b) ≡ u → Kept p q (suc i) (pick t (pick u (after (step σ b) (act σ b i μ)) (halted 3 i)) (halted 2 max_text))
      split true true l e = after_kept (suc i) (step σ b) (act σ b i μ) (sane-step σ w.0 b e) (step-shown i σ μ (ltb-true i max_text l) w.0 w.1 b e)
      split true false l e = tt
      split false u l e = tt

  pub kept_piece : (s : List ℕ) (i : ℕ) (r : Reading Memory) → Kept p q i r → Kept p q (i + length s) (read_on i r s)
  unfolding read_on
  kept_piece [] i r w = rw (add-zero i) w
  kept_piece (b ∷ s) i r w =
      let e : i + suc (length s) ≡ suc i + length s = omega arith in
      rw e (kept_piece s (suc i) (bounded i r b) (kept_byte i r w b))

started-bounded : Bounded started
unfolding started
started-bounded =
    record {
      atoms = omega arith;
      bonds = omega arith;
      depth = omega arith;
      hub = omega arith;
      stack = λ k l. absurd (omega arith);
      opener = λ r. omega (arith, repeated-at {A = ℕ} bridges r 0);
      offset = λ r. omega (arith, repeated-at {A = ℕ} bridges r 0);
    }

pub kept-beginning : (atoms bonds : List ℤ) → enough atoms bonds ≡ true → Kept (length atoms) (length bonds) 0 (going start (beginning (zeros atoms) (zeros bonds)))
unfolding started
kept-beginning atoms bonds e = (sane-beginning atoms bonds e, (refl, started-bounded))
