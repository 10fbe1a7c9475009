-- The bytes of a piece in turn: what is left of the piece leads to the same reading. Assumes nothing.
use Prim.Native.Nat.{ℕ, suc, ◌+◌, ◌-◌, ◌≤◌, ◌<◌}
use native.Mathlib.Omega.{arith}
use native.Mathlib.Numerals.{add-one}
use mathlib.Core.Path.{◌≡◌, refl, sym, ap, ◌∙◌, subst}
use mathlib.Core.Bool.{Bool}
use mathlib.Core.List.{List, ◌∷◌}
use lib.ListN.{length, get_or, drop, drop_of_length-le}
use lib.Seq.{drop-cons}
use borrow.Author.Tests.{lt-ltb, le-ltb}
use Rattle.loops.specs.Loop.{pick}
use Rattle.refusal.specs.declared.Refusal.{Refusal}
use Rattle.refusal.specs.declared.Refusal.TheVariants.{LongText}
use Rattle.refusal.specs.Code.{code_of}
use Rattle.ids.specs.Limits.{max_text}
use Rattle.reading_grammar.specs.declared.MachineState.{MachineState}
use Rattle.reading_grammar.specs.Fold.{Reading, going, halted, feed}
use Rattle.reading.specs.Memory.{Memory}
use Rattle.reading.specs.Act.{act}
use Rattle.reading_pieces.specs.Bounded.{bounded, read_on}
use Rattle.reading_pieces.proofs.Bounded.{read_on-halted}
use Rattle.reader_bytes.specs.declared.Head.{Head}
use Rattle.std.proofs.Common.{Result, Ok, Err}
use Rattle.reader.specs.declared.answer.TextRefusal.{TextRefusal}
use Rattle.reader_bytes.specs.Step.{Lent, memory_in, machine_in, reading_in, Ready, Takes, RefusesAt, Steps}
use Rattle.reader_pieces.specs.Run.{Reads}

-- a byte within the limit, and the first past it
module _ (j : ℕ) (σ : MachineState) (μ : Memory) (b : ℕ) (t : List ℕ) where
  byte-within : j < max_text → read_on j (going σ μ) (b ∷ t) ≡ read_on (suc j) (feed act j (going σ μ) b) t
  unfolding read_on bounded
  byte-within u = ap (λ (x : Bool). read_on (suc j) (pick x (feed act j (going σ μ) b) (halted 2 max_text)) t) (lt-ltb j max_text u)

  byte_past : max_text ≤ j → read_on j (going σ μ) (b ∷ t) ≡ halted 2 max_text
  unfolding read_on bounded
  byte_past u = ap (λ (x : Bool). read_on (suc j) (pick x (feed act j (going σ μ) b) (halted 2 max_text)) t) (le-ltb j max_text u) ∙ read_on-halted t (suc j) 2 max_text

-- i bytes of the piece s were read, from being read before it
pub record Running (s : List ℕ) (from : ℕ) (h₀ : Head) (l₀ : Lent) (i : ℕ) (h : Head) (l : Lent) : Type 0 where
  pub within : i ≤ length s
  pub short : from + i ≤ max_text
  pub ready : Ready h l
  pub long-atoms : length l.atoms ≡ length l₀.atoms
  pub long-bonds : length l.bonds ≡ length l₀.bonds
  pub same : read_on from (reading_in h₀ l₀) s ≡ read_on (from + i) (reading_in h l) (drop i s)

pub running-start : {s : List ℕ} {from : ℕ} {h : Head} {l : Lent} → from ≤ max_text → Ready h l → Running s from h l 0 h l
running-start {s} {from} {h} {l} u w =
    record { within = omega arith; short = omega arith; ready = w; long-atoms = refl; long-bonds = refl; same = let q : from + 0 ≡ from = omega arith in rw q }

module _ {s : List ℕ} {from : ℕ} {h₀ : Head} {l₀ : Lent} {i : ℕ} {h : Head} {l : Lent} (w : Running s from h₀ l₀ i h l) where
  -- no byte is left
  pub running-end : length s ≤ i → Reads from s (reading_in h₀ l₀) l (Ok h)
  unfolding read_on
  running-end u = record { is = w.same ∙ rw (drop_of_length-le s u); ready = w.ready; short = omega (arith, w.short, w.within) }

  module _ (u : i < length s) where
    here : read_on (from + i) (reading_in h l) (drop i s) ≡ read_on (from + i) (reading_in h l) (get_or s i 0 ∷ drop (suc i) s)
    here = ap (read_on (from + i) (reading_in h l)) (drop-cons s i 0 u)

    -- the first byte too many
    pub running-long : max_text - from ≤ i → Reads from s (reading_in h₀ l₀) l (Err (record { refusal = LongText; at = max_text }))
    running-long v = record { is = w.same ∙ here ∙ byte_past (from + i) (machine_in h) (memory_in h l) (get_or s i 0) (drop (suc i) s) (omega (arith, v)); early = omega arith }

    module _ (v : i < max_text - from) where
      next : read_on from (reading_in h₀ l₀) s ≡ read_on (from + (i + 1)) (feed act (from + i) (reading_in h l) (get_or s i 0)) (drop (i + 1) s)
      next =
          let q : suc (from + i) ≡ from + (i + 1) = omega arith in
          w.same ∙ here ∙ byte-within (from + i) (machine_in h) (memory_in h l) (get_or s i 0) (drop (suc i) s) (omega (arith, v))
          ∙ ap (λ (j : ℕ). read_on j (feed act (from + i) (reading_in h l) (get_or s i 0)) (drop (suc i) s)) q
          ∙ ap (λ (j : ℕ). read_on (from + (i + 1)) (feed act (from + i) (reading_in h l) (get_or s i 0)) (drop j s)) (sym (add-one i))

      pub running-step : (l' : Lent) {g : Head} → Steps (from + i) (get_or s i 0) (reading_in h l) l' (Ok g)
          → length l'.atoms ≡ length l.atoms → length l'.bonds ≡ length l.bonds → Running s from h₀ l₀ (i + 1) g l'
      running-step l' {g} x a b =
          record {
            within = omega arith;
            short = omega (arith, v);
            ready = x.ready;
            long-atoms = a ∙ w.long-atoms;
            long-bonds = b ∙ w.long-bonds;
            same = next ∙ ap (λ (z : Reading Memory). read_on (from + (i + 1)) z (drop (i + 1) s)) x.is;
          }

      pub running-refused : (l' : Lent) (e : TextRefusal) → Steps (from + i) (get_or s i 0) (reading_in h l) l' (Err e) → Reads from s (reading_in h₀ l₀) l' (Err e)
      running-refused l' e x =
          record {
            is = next ∙ ap (λ (z : Reading Memory). read_on (from + (i + 1)) z (drop (i + 1) s)) x.is ∙ read_on-halted (drop (i + 1) s) (from + (i + 1)) (code_of e.refusal) e.at;
            early = omega (arith, x.early, v);
          }
