-- The memory stays sane at every byte, in every state of the machine, and over every text. Assumes nothing.
use Prim.Native.Nat.{ℕ, suc, ◌+◌, ◌*◌, ◌≤◌}
use native.Mathlib.Omega.{arith}
use native.Mathlib.Nat.{add-zero}
use mathlib.Core.Path.{◌≡◌, refl, subst}
use mathlib.Core.Bool.{Bool, true, false}
use mathlib.Core.List.{List, [], ◌∷◌}
use lib.ListN.{length, length-replicate}
use lib.IntN.{ℤ, pos}
use lib.Dec.{eqb, leb}
use borrow.Author.Tests.{leb-true}
use Rattle.loops.specs.Loop.{pick}
use Rattle.loops.proofs.Loops.{and_left, and_right, repeated-at}
use Rattle.reading_grammar.specs.declared.Last.TheVariants.{Plain as plain}
use Rattle.reading_grammar.specs.declared.Mode.{Mode}
use Rattle.reading_grammar.specs.declared.Mode.TheVariants.{Seq as seq, Bond as bond, AtomNext as atomNext, Inside as inside, Percent as percent, Percent1 as percent1, LetterA as letterA, LetterT as letterT, Bracket as bracket, Isotope as isotope, Symbol1 as symbol1, Symbolled as symbolled, At1 as at1, At2 as at2, Hydrogen as hydrogen, Hydrogens as hydrogens, Sign as sign, Charged as charged, Colon as colon, Extension as extension}
use Rattle.reading_grammar.specs.declared.MachineState.{MachineState}
use Rattle.reading_grammar.specs.declared.MachineState.TheVariants.{Dead as dead, Start as start, At as at}
use Rattle.reading_grammar.specs.Machine.{alive, turn, step, next}
use Rattle.reading_grammar.specs.Fold.{keeps, refuses, Reading, going, halted, after, feed, read}
use Rattle.table.specs.Limits.{max_atoms, max_bonds, atom_cells, bond_cells}
use Rattle.table.specs.Valid.{enough}
use Rattle.reading_state.specs.State.{started}
use Rattle.reading.specs.Memory.{Memory, bare_row, described}
use Rattle.reading.specs.Act.{Acts, mode_act, act}
use Rattle.reading.specs.Read.{zeros, beginning}
use Rattle.reading.proofs.Sane.{Sane, SaneReading, SaneAct}
use Rattle.reading.proofs.Steering.{started-steering}
use Rattle.reading.proofs.Draft.{bare-row}
use Rattle.reading.proofs.Atoms.{Held, ready, ready-start, held_of, sane-of, held-later, held-described, atom-act}
use Rattle.reading.proofs.Dispatch.{Outside, in_sequence, in-bond, in_branch, in-percent, in-percent1, only-atom, second-letter}
use Rattle.reading.proofs.InBracket.{Follows, extend-act, charge-act, hydrate-act, first-mark, second-mark, bracket-step, isotope-step, symbol-step, hydrogen-step, sign-step, colon-step, extension-step}
use Rattle.reading.proofs.Joints.{bridge-act, branch-act, unbranch-act, joint-held, counting-held}

-- ---- by mode
abbrev Next : ℕ → ℕ → ℕ → MachineState → Acts → Type 0
Next p q i τ a = SaneAct p q τ (suc i) a

module _ {p q i : ℕ} {μ : Memory} where
  -- each step outside brackets
  outside : {d : ℕ} → Held p q d i μ → (b : ℕ) → Outside (Next p q i) d i μ b
  outside {d} h b =
      record {
        atom = λ o w. atom-act b w (ready h);
        bridge = bridge-act h;
        symbol = sane-of bond (joint-held h b) tt;
        joint = sane-of atomNext (joint-held h b) tt;
        branch = branch-act h;
        unbranch = unbranch-act h;
        sign = sane-of percent (held-later h) tt;
        tens = λ t l u. sane-of percent1 (counting-held h t) (l, u);
      }

  second : {d : ℕ} → Held p q d i μ → (e : ℕ) → e ≤ 118 → Sane p q (at (seq plain) d) (suc i) (described (bare_row e 0) μ)
  second h e l = sane-of (seq plain) (held-later (held-described (bare_row e 0) (bare-row e l) h)) tt

  mode-step : (m : Mode) {d : ℕ} → Sane p q (at m d) i μ → (b : ℕ) → Follows p q i (turn (next m b) d) (mode_act m b i μ)
  unfolding next mode_act
  mode-step (seq x) {d} w b v = in_sequence (Next p q i) d i μ b (outside (held_of w) b) x (λ z. second (held_of w)) v
  mode-step bond {d} w b v = in-bond (Next p q i) d i μ b (outside (held_of w) b) v
  mode-step atomNext {d} w b v = only-atom (Next p q i) d i μ b (outside (held_of w) b).atom v
  mode-step inside {d} w b v = in_branch (Next p q i) d i μ b (outside (held_of w) b) v
  mode-step percent {d} w b v = in-percent (Next p q i) d i μ b (outside (held_of w) b) v
  mode-step percent1 {d} w b v = in-percent1 (Next p q i) d i μ b (outside (held_of w) b) w.stands.half.1 v
  mode-step letterA {d} w b v = second-letter (Next p q i) d i μ b 85 (eqb b 116) (λ e. second (held_of w) 85 (omega arith)) v
  mode-step letterT {d} w b v = second-letter (Next p q i) d i μ b 117 (eqb b 115) (λ e. second (held_of w) 117 (omega arith)) v
  mode-step bracket w b v = bracket-step (held_of w) w.stands.half b v
  mode-step (isotope k) w b v = isotope-step (held_of w) k w.stands.half.0 w.stands.half.1 b v
  mode-step (symbol1 a) w b v = symbol-step (held_of w) a w.stands.half b v
  mode-step symbolled w b v = first-mark (held_of w) w.stands.half b v
  mode-step at1 w b v = second-mark (held_of w) w.stands.half b v
  mode-step at2 w b v = hydrate-act (held_of w) w.stands.half b v
  mode-step hydrogen w b v = hydrogen-step (held_of w) w.stands.half b v
  mode-step hydrogens w b v = charge-act (held_of w) w.stands.half b v
  mode-step sign w b v = sign-step (held_of w) w.stands.half b v
  mode-step charged w b v = extend-act (held_of w) w.stands.half b v
  mode-step colon w b v = colon-step (held_of w) w.stands.half b v
  mode-step (extension k) w b v = extension-step (held_of w) k w.stands.half.0 w.stands.half.1 b v

  -- a byte
  pub sane-step : (σ : MachineState) → Sane p q σ i μ → (b : ℕ) → Follows p q i (step σ b) (act σ b i μ)
  unfolding step act
  sane-step dead w b v = absurd w.stands
  sane-step start w b v = only-atom (Next p q i) 0 i μ b (λ o x. atom-act b x (ready-start w)) v
  sane-step (at m d) w b v = mode-step m w b v

-- ---- over a text
module _ (p q : ℕ) where
  sane-after : (i : ℕ) (τ : MachineState) (a : Acts) → SaneAct p q τ i a → SaneReading p q i (after τ a)
  sane-after i τ (keeps μ) w = w
  sane-after i τ (refuses c k) w = tt

  pub sane-feed : (i : ℕ) (r : Reading Memory) → SaneReading p q i r → (b : ℕ) → SaneReading p q (suc i) (feed act i r b)
  unfolding feed
  sane-feed i (going σ μ) w b = split (alive (step σ b)) refl
    where
      split : (t : Bool) → alive (step σ b) ≡ t → SaneReading p q (suc i) (pick t (after (step σ b) (act σ b i μ)) (halted 3 i))
      split true e = sane-after (suc i) (step σ b) (act σ b i μ) (sane-step σ w b e)
      split false e = tt
  sane-feed i (halted c k) w b = tt

  -- reading on from a sane memory stays sane
  pub sane-read : (s : List ℕ) (i : ℕ) (r : Reading Memory) → SaneReading p q i r → SaneReading p q (i + length s) (read act i r s)
  unfolding read
  sane-read [] i r w = rw (add-zero i) w
  sane-read (b ∷ s) i r w =
      let e : i + suc (length s) ≡ suc i + length s = omega arith in
      rw e (sane-read s (suc i) (feed act i r b) (sane-feed i r w b))

-- the same, where the reading goes on
pub sane-going : {p q i : ℕ} {σ τ : MachineState} {μ ν : Memory} (s : List ℕ) → Sane p q σ i μ → read act i (going σ μ) s ≡ going τ ν → Sane p q τ (i + length s) ν
sane-going {p} {q} {i} {σ} {τ} {μ} {ν} s w e = subst (SaneReading p q (i + length s)) e (sane-read p q s i (going σ μ) w)

-- ---- from the beginning
pub sane-beginning : (atoms bonds : List ℤ) → enough atoms bonds ≡ true → Sane (length atoms) (length bonds) start 0 (beginning (zeros atoms) (zeros bonds))
unfolding enough started
sane-beginning atoms bonds e =
    record {
      tables = record {
        atoms_few = omega arith;
        bonds_few = omega arith;
        atom-length = length-replicate (length atoms) (pos 0);
        bond-length = length-replicate (length bonds) (pos 0);
        atom-room = leb-true (atom_cells * max_atoms) (length atoms) (and_left (leb (atom_cells * max_atoms) (length atoms)) (leb (bond_cells * max_bonds) (length bonds)) e);
        bond-room = leb-true (bond_cells * max_bonds) (length bonds) (and_right (leb (atom_cells * max_atoms) (length atoms)) (leb (bond_cells * max_bonds) (length bonds)) e);
        atom_rows = λ a l. absurd (omega arith);
        bond_rows = λ b l. absurd (omega arith);
        apart = λ i j l k. absurd (omega arith);
        atoms-clear = λ k l. repeated-at (length atoms) k (pos 0);
        bonds-clear = λ k l. repeated-at (length bonds) k (pos 0);
      };
      steering = started-steering;
      kind = omega arith;
      stands = record { atoms = refl; bonds = refl; depth = refl };
    }

pub sane-text : (s : List ℕ) (atoms bonds : List ℤ) → enough atoms bonds ≡ true
    → SaneReading (length atoms) (length bonds) (length s) (read act 0 (going start (beginning (zeros atoms) (zeros bonds))) s)
sane-text s atoms bonds e =
    let z : 0 + length s ≡ length s = omega arith in
    rw z at (sane-read (length atoms) (length bonds) s 0 (going start (beginning (zeros atoms) (zeros bonds))) (sane-beginning atoms bonds e))
