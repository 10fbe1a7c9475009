-- Reading on in pieces: the pieces of a text are its bytes, within the limit it is reading, and past it 2. Assumes nothing.
use Prim.Native.Nat.{ℕ, suc, ◌+◌, ◌≤◌, ◌<◌}
use native.Mathlib.Omega.{arith}
use native.Mathlib.Nat.{add-zero}
use native.Mathlib.Decide.{dec_lt}
use mathlib.Core.Path.{◌≡◌, refl, sym, ap, ◌∙◌}
use mathlib.Core.Bool.{Bool, true, false}
use mathlib.Core.List.{List, [], ◌∷◌, ◌++◌}
use lib.ListN.{length, take, drop, take-append-drop, length-drop, length-take}
use lib.Dec.{ltb}
use borrow.Author.Tests.{lt-ltb, le-ltb}
use Rattle.loops.specs.Loop.{pick}
use Rattle.ids.specs.Limits.{max_text}
use Rattle.reading_grammar.specs.declared.MachineState.{MachineState}
use Rattle.reading_grammar.specs.Machine.{step, alive}
use Rattle.reading_grammar.specs.Fold.{keeps, refuses, Reading, going, halted, after, feed, read}
use Rattle.reading.specs.Memory.{Memory}
use Rattle.reading.specs.Act.{Acts, act}
use Rattle.reading.proofs.Refusals.{act-code}
use Rattle.reading_pieces.specs.Bounded.{bounded, read_on}

-- a refusal stays, whatever comes
pub read_on-halted : (s : List ℕ) (i c p : ℕ) → read_on i (halted c p) s ≡ halted c p
unfolding read_on bounded
read_on-halted [] i c p = refl
read_on-halted (b ∷ s) i c p = read_on-halted s (suc i) c p

-- two pieces are one
pub read_on-append : (s t : List ℕ) (i : ℕ) (r : Reading Memory) → read_on i r (s ++ t) ≡ read_on (i + length s) (read_on i r s) t
unfolding read_on
read_on-append [] t i r = rw (add-zero i)
read_on-append (b ∷ s) t i r =
    let e : i + suc (length s) ≡ suc i + length s = omega arith in
    rw e (read_on-append s t (suc i) (bounded i r b))

-- within the limit a byte is what it is to reading
bounded-within : (i : ℕ) (r : Reading Memory) (b : ℕ) → i < max_text → bounded i r b ≡ feed act i r b
unfolding bounded feed
bounded-within i (going σ μ) b h = rw (lt-ltb i max_text h)
bounded-within i (halted c p) b h = refl

pub read_on-within : (s : List ℕ) (i : ℕ) (r : Reading Memory) → i + length s ≤ max_text → read_on i r s ≡ read act i r s
unfolding read_on read
read_on-within [] i r h = refl
read_on-within (b ∷ s) i r h = rw (bounded-within i r b (omega arith)) (read_on-within s (suc i) (feed act i r b) (omega arith))

-- the reading of a text over the limit, its first bytes being read
abbrev pub past_limit : Reading Memory → Reading Memory
past_limit (going σ μ) = halted 2 max_text
past_limit (halted c p) = halted c p

-- the first byte too many
beyond : (r : Reading Memory) (s : List ℕ) → 0 < length s → read_on max_text r s ≡ past_limit r
unfolding read_on bounded
beyond r [] h = absurd (omega arith)
beyond (going σ μ) (b ∷ s) h = read_on-halted s (suc max_text) 2 max_text
beyond (halted c p) (b ∷ s) h = read_on-halted s (suc max_text) c p

pub read_on-beyond : (s : List ℕ) (r : Reading Memory) → max_text < length s → read_on 0 r s ≡ past_limit (read act 0 r (take max_text s))
read_on-beyond s r h =
    let n : length (take max_text s) ≡ max_text = simp length-take (omega arith) in
    let e : 0 + length (take max_text s) ≡ max_text = omega arith in
    ap (λ (t : List ℕ). read_on 0 r t) (sym (take-append-drop max_text s))
    ∙ read_on-append (take max_text s) (drop max_text s) 0 r
    ∙ ap (λ (j : ℕ). read_on j (read_on 0 r (take max_text s)) (drop max_text s)) e
    ∙ beyond (read_on 0 r (take max_text s)) (drop max_text s) (simp length-drop (omega arith))
    ∙ ap past_limit (read_on-within (take max_text s) 0 r (omega arith))

-- a reading that goes on is within the limit
pub going-within : (s : List ℕ) (i : ℕ) (r : Reading Memory) {τ : MachineState} {ν : Memory} → i ≤ max_text → read_on i r s ≡ going τ ν → i + length s ≤ max_text
unfolding read_on bounded
going-within [] i r h e = omega arith
going-within (b ∷ s) i (going σ μ) {τ} {ν} h e = split (dec_lt i max_text) (λ l. going-within s (suc i) (bounded i (going σ μ) b) l e)
  where
    split : Dec (i < max_text) → (suc i ≤ max_text → suc i + length s ≤ max_text) → i + suc (length s) ≤ max_text
    split (yes l) f = omega (arith, f (omega arith))
    split (no l) f =
        let u : read_on (suc i) (bounded i (going σ μ) b) s ≡ halted 2 max_text = rw (le-ltb i max_text (omega arith)) (read_on-halted s (suc i) 2 max_text) in
        let g : halted 2 max_text ≡ going τ ν = sym u ∙ e in
        absurd (let z : ◌≡◌ {A = ℕ} 0 1 = cc in omega arith)
going-within (b ∷ s) i (halted c p) {τ} {ν} h e =
    let g : halted c p ≡ going τ ν = sym (read_on-halted s (suc i) c p) ∙ e in
    absurd (let z : ◌≡◌ {A = ℕ} 0 1 = cc in omega arith)

-- ---- what a reading that halts says: 2 to 9
abbrev pub Coded : Reading Memory → Type 0
Coded (going σ μ) = Unit {0}
Coded (halted c p) = (2 ≤ c) × (c ≤ 9)

after-coded : (τ : MachineState) (σ : MachineState) (b i : ℕ) (μ : Memory) (a : Acts) → act σ b i μ ≡ a → Coded (after τ a)
after-coded τ σ b i μ (keeps ν) e = tt
after-coded τ σ b i μ (refuses c p) e = let w = act-code σ b i μ c p e in (omega arith, omega arith)

bounded-coded : (i : ℕ) (r : Reading Memory) (b : ℕ) → Coded r → Coded (bounded i r b)
unfolding bounded feed
bounded-coded i (halted c p) b h = h
bounded-coded i (going σ μ) b h = split (ltb i max_text) (alive (step σ b))
  where
    split : (t u : Bool) → Coded (pick t (pick u (after (step σ b) (act σ b i μ)) (halted 3 i)) (halted 2 max_text))
    split true true = after-coded (step σ b) σ b i μ (act σ b i μ) refl
    split true false = (omega arith, omega arith)
    split false u = (omega arith, omega arith)

pub read_on-coded : (s : List ℕ) (i : ℕ) (r : Reading Memory) → Coded r → Coded (read_on i r s)
unfolding read_on
read_on-coded [] i r h = h
read_on-coded (b ∷ s) i r h = read_on-coded s (suc i) (bounded i r b) (bounded-coded i r b h)
