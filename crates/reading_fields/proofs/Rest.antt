-- Laws of the work that remains: one for each thing that a byte can do. Assumes nothing.
use Prim.Native.Nat.{ℕ, suc, ◌+◌, ◌≤◌, ◌<◌}
use native.Mathlib.Omega.{arith}
use native.Mathlib.Numerals.{add-one}
use native.Mathlib.Decide.{dec_lt}
use mathlib.Core.Path.{◌≡◌, refl, sym, ap, ◌∙◌}
use mathlib.Core.Bool.{false}
use mathlib.Core.List.{List, [], ◌∷◌}
use lib.ListN.{length, drop, drop_of_length-le}
use lib.Seq.{drop-cons}
use Rattle.loops.specs.Loop.{pick}
use Rattle.reading_grammar.specs.declared.Mode.{Mode}
use Rattle.reading_grammar.specs.declared.Mode.TheVariants.{Inside as inside, Seq as seq}
use Rattle.reading_grammar.specs.declared.Last.TheVariants.{Plain as plain}
use Rattle.reading_grammar.specs.declared.MachineState.{MachineState}
use Rattle.reading_grammar.specs.declared.Move.TheVariants.{Stop as stop, To as to, Up as up, Down as down}
use Rattle.reading_grammar.specs.Machine.{next, turn, step, resting, alive, accepting}
use Rattle.reading_grammar.specs.Fold.{keeps, refuses, Reading, halted, after, feed, read, good, bad, finish}
use Rattle.reading.specs.Memory.{Memory}
use Rattle.reading.specs.Act.{Acts, act, mode_act}
use Rattle.reading_fields.specs.Rest.{rest}
use Rattle.reading_fields.specs.Field.{Peeked}

read-halted : (s : List ℕ) (i c p : ℕ) → read act i (halted c p) s ≡ halted c p
unfolding read feed
read-halted [] i c p = refl
read-halted (b ∷ s) i c p = read-halted s (suc i) c p

-- what a byte leaves: the state after it, if that is alive, and what the action says
abbrev fed : MachineState → Acts → ℕ → Reading Memory
fed σ a p = pick (alive σ) (after σ a) (halted 3 p)

module _ (s : List ℕ) (p : ℕ) (m : Mode) (μ : Memory) where
  -- the reading from p on is the reading from p + 1 on, after the byte at p
  rest-fed : {b : ℕ} → Peeked s p b → p < length s
      → rest s p m μ ≡ finish (length s) (read act (suc p) (fed (turn (next m b) μ.st.depth) (mode_act m b p μ) p) (drop (suc p) s))
  unfolding rest read feed act step
  rest-fed k h = rw (drop-cons s p 0 h, k.is)

  pub rest_end : length s ≤ p → rest s p m μ ≡ pick (resting m μ.st.depth) (good μ) (bad 3 (length s))
  unfolding rest read accepting
  rest_end h = rw (drop_of_length-le s h)

  pub rest-dead : {b : ℕ} → Peeked s p b → p < length s → next m b ≡ stop → rest s p m μ ≡ bad 3 p
  rest-dead k h e = rest-fed k h ∙ rw e (ap (finish (length s)) (read-halted (drop (suc p) s) (suc p) 3 p))

  -- no text goes on so, or the text ends too soon
  pub rest-stop : {b : ℕ} → Peeked s p b → p ≤ length s → next m b ≡ stop → resting m μ.st.depth ≡ false → rest s p m μ ≡ bad 3 p
  rest-stop k h e r = split (dec_lt p (length s))
    where
      split : Dec (p < length s) → rest s p m μ ≡ bad 3 p
      split (yes l) = rest-dead k l e
      split (no l) = let q : length s ≡ p = omega arith in rest_end (omega arith) ∙ rw (r, q)

  module _ {b : ℕ} (k : Peeked s p b) (h : p < length s) {m' : Mode} (e : next m b ≡ to m') where
    pub rest-to : {ν : Memory} → mode_act m b p μ ≡ keeps ν → ν.st.depth ≡ μ.st.depth → rest s p m μ ≡ rest s (p + 1) m' ν
    unfolding rest
    rest-to a d = rest-fed k h ∙ rw (e, a, add-one p, d)

    pub rest-refused : {c q : ℕ} → mode_act m b p μ ≡ refuses c q → rest s p m μ ≡ bad c q
    rest-refused {c} {q} a = rest-fed k h ∙ rw (e, a) (ap (finish (length s)) (read-halted (drop (suc p) s) (suc p) c q))

  module _ {b : ℕ} (k : Peeked s p b) (h : p < length s) (e : next m b ≡ up) where
    pub rest_up : {ν : Memory} → mode_act m b p μ ≡ keeps ν → ν.st.depth ≡ suc μ.st.depth → rest s p m μ ≡ rest s (p + 1) inside ν
    unfolding rest
    rest_up a d = rest-fed k h ∙ rw (e, a, add-one p, d)

    pub rest-up-refused : {c q : ℕ} → mode_act m b p μ ≡ refuses c q → rest s p m μ ≡ bad c q
    rest-up-refused {c} {q} a = rest-fed k h ∙ rw (e, a) (ap (finish (length s)) (read-halted (drop (suc p) s) (suc p) c q))

  module _ {b : ℕ} (k : Peeked s p b) (h : p < length s) (e : next m b ≡ down) where
    pub rest-down : {ν : Memory} → mode_act m b p μ ≡ keeps ν → μ.st.depth ≡ suc ν.st.depth → rest s p m μ ≡ rest s (p + 1) (seq plain) ν
    unfolding rest
    rest-down a d = rest-fed k h ∙ rw (e, a, add-one p, d)

    pub rest-down-stop : μ.st.depth ≡ 0 → rest s p m μ ≡ bad 3 p
    rest-down-stop d = rest-fed k h ∙ rw (e, d) (ap (finish (length s)) (read-halted (drop (suc p) s) (suc p) 3 p))

-- two modes in which a byte of the text does the same
pub alike-in : (s : List ℕ) (p : ℕ) (m n : Mode) (μ : Memory) {b : ℕ} → Peeked s p b → p < length s → next m b ≡ next n b → mode_act m b p μ ≡ mode_act n b p μ → rest s p m μ ≡ rest s p n μ
alike-in s p m n μ k l e a = rest-fed s p m μ k l ∙ rw (e, a) (sym (rest-fed s p n μ k l))

-- the same where the text may end, and the one rests as the other does
pub alike : (s : List ℕ) (p : ℕ) (m n : Mode) (μ : Memory) {b : ℕ} → Peeked s p b → next m b ≡ next n b → mode_act m b p μ ≡ mode_act n b p μ
    → resting m μ.st.depth ≡ resting n μ.st.depth → rest s p m μ ≡ rest s p n μ
alike s p m n μ k e a r = split (dec_lt p (length s))
  where
    split : Dec (p < length s) → rest s p m μ ≡ rest s p n μ
    split (yes l) = alike-in s p m n μ k l e a
    split (no l) = rest_end s p m μ (omega arith) ∙ rw r (sym (rest_end s p n μ (omega arith)))

-- two modes that no text goes on from by the byte
pub alike-dead : (s : List ℕ) (p : ℕ) (m n : Mode) (μ : Memory) {b : ℕ} → Peeked s p b → next m b ≡ stop → next n b ≡ stop
    → resting m μ.st.depth ≡ resting n μ.st.depth → rest s p m μ ≡ rest s p n μ
alike-dead s p m n μ k e f r = split (dec_lt p (length s))
  where
    split : Dec (p < length s) → rest s p m μ ≡ rest s p n μ
    split (yes l) = rest-dead s p m μ k l e ∙ sym (rest-dead s p n μ k l f)
    split (no l) = rest_end s p m μ (omega arith) ∙ rw r (sym (rest_end s p n μ (omega arith)))
