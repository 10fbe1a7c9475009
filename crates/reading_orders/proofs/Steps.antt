-- Every byte keeps it so: the digits of bridges stand at different places, and a bond without keys leads to a later atom than all before it. Assumes nothing.
use Prim.Native.Nat.{ℕ, zero, suc, ◌+◌, ◌*◌, ◌-◌, ◌≤◌, ◌<◌}
use native.Mathlib.Omega.{arith}
use native.Mathlib.Nat.{add-zero}
use mathlib.Core.Path.{◌≡◌, refl}
use mathlib.Core.Bool.{Bool, true, false, ◌&&◌}
use mathlib.Core.List.{List, [], ◌∷◌}
use lib.ListN.{length, get_or}
use lib.Dec.{eqb, leb}
use borrow.Author.Tests.{eqb-false}
use Rattle.loops.specs.Loop.{pick}
use Rattle.element.specs.declared.Letter.{Letter}
use Rattle.element.specs.declared.Letter.TheVariants.{Plain, Selected, Half, Bracket, Nothing}
use Rattle.element.specs.Symbols.{among, listed, symbols}
use Rattle.element.specs.Lookup.{letter_of}
use Rattle.reading_grammar.specs.Grammar.{nonzero, digits, several, bond_symbols, signs}
use Rattle.reading_grammar.specs.declared.Last.{Last}
use Rattle.reading_grammar.specs.declared.Last.TheVariants.{Plain as plain, AfterC as afterC, AfterB as afterB}
use Rattle.reading_grammar.specs.declared.Mode.{Mode}
use Rattle.reading_grammar.specs.declared.Mode.TheVariants.{Seq as seq, Bond as bond, AtomNext as atomNext, Inside as inside, Percent as percent, Percent1 as percent1, LetterA as letterA, LetterT as letterT, Bracket as bracket, Isotope as isotope, Symbol1 as symbol1, Symbolled as symbolled, At1 as at1, At2 as at2, Hydrogen as hydrogen, Hydrogens as hydrogens, Sign as sign, Charged as charged, Colon as colon, Extension as extension}
use Rattle.reading_grammar.specs.declared.Move.TheVariants.{Stop as stop, To as to}
use Rattle.reading_grammar.specs.declared.MachineState.{MachineState}
use Rattle.reading_grammar.specs.declared.MachineState.TheVariants.{Dead as dead, Start as start, At as at}
use Rattle.reading_grammar.specs.Machine.{alive, turn, step, next}
use Rattle.reading_grammar.specs.Fold.{keeps, refuses, Reading, going, halted, after, feed, read}
use Rattle.reading_grammar.proofs.Ends.{never}
use Rattle.table.specs.Limits.{max_atoms, max_bonds}
use Rattle.table.specs.Cells.{number}
use Rattle.table.specs.Rows.{with_bond}
use Rattle.ids.specs.Limits.{max_depth, bridges}
use Rattle.reading_state.specs.State.{opened, closed, keys_after, bridged, joined}
use Rattle.reading.specs.Memory.{Memory, kind_of, new_bond, bonded, begun, moved, close_refusal}
use Rattle.reading.specs.Bracket.{digit}
use Rattle.reading.specs.Act.{Acts, first_byte_of, atom_act, or_atom, bridge_bond, or_refuse, bridge_act, branch_act, letter_act, close_act, charge_act, hydrogen_act, mark_act, mode_act, act}
use Rattle.reading.proofs.Cases.{by-test}
use Rattle.reading.proofs.Sane.{Sane, SaneReading}
use Rattle.reading.proofs.Draft.{any-digit, nonzero-digit}
use Rattle.reading.proofs.Atoms.{Ready, Held, ready, ready-start, held_of, bond-room}
use Rattle.reading.proofs.Joints.{allowed}
use Rattle.reading.proofs.Percent.{into-percent, into-percent1, at-percent, first-digit}
use Rattle.reading.proofs.Step.{sane-feed}
use Rattle.reading_orders.proofs.Digits.{Digits, Chains, digits-later, digits-opened, digits-closed, chain_more, chain-closed}

-- of a memory, the digits being before f
abbrev pub Good : ℕ → Memory → Type 0
Good f μ = Digits f μ.st × Chains μ.st.keys μ.bonds μ.st.bonds

abbrev GoodAct : ℕ → Acts → Type 0
GoodAct f (keeps ν) = Good f ν
GoodAct f (refuses c p) = Unit {0}

good-later : (f g : ℕ) (μ : Memory) → f ≤ g → Good f μ → Good g μ
good-later f g μ h w = (digits-later w.0 g h, w.1)

act-later : (f g : ℕ) (a : Acts) → f ≤ g → GoodAct f a → GoodAct g a
act-later f g (keeps ν) h w = good-later f g ν h w
act-later f g (refuses c p) h w = tt

-- ---- an atom begins
module _ {p q d i : ℕ} {μ : Memory} (h : Ready p q d i μ) (f : ℕ) (w : Good f μ) where
  begun-good : (x : ℕ) → (bonded μ ≡ true → μ.st.bonds < max_bonds) → Good f (begun x μ)
  unfolding begun number
  begun-good x few = (
    record {
      behind = w.0.behind;
      opened = w.0.opened;
      once = w.0.once;
      waiting = w.0.waiting;
      others = w.0.others;
      unwritten = λ k. by-test (λ (m : ℕ). 2 * m ≤ k → get_or μ.st.keys k 0 ≡ 0) (bonded μ) (μ.st.bonds + 1) μ.st.bonds (λ e l. w.0.unwritten k (omega arith)) (λ e l. w.0.unwritten k l);
    },
    split (bonded μ) refl,
  )
    where
      split : (t : Bool) → bonded μ ≡ t → Chains μ.st.keys (pick t (with_bond μ.bonds μ.st.bonds (new_bond μ.st.hub.0 μ.st.atoms (kind_of μ.pending))) μ.bonds) (pick t (μ.st.bonds + 1) μ.st.bonds)
      split true e =
          chain_more μ.st.keys μ.bonds μ.st.bonds w.1 (new_bond μ.st.hub.0 μ.st.atoms (kind_of μ.pending)) μ.st.atoms
          (omega (arith, few e, h.tables.bond-length, h.tables.bond-room)) refl (λ b l. (h.tables.bond_rows b l).second)
      split false e = w.1

  first_good : (l : Letter) → (bonded μ ≡ true → μ.st.bonds < max_bonds) → Good f (first_byte_of l μ)
  first_good (Plain e) few = begun-good 1 few
  first_good (Selected e) few = begun-good 1 few
  first_good Half few = begun-good 1 few
  first_good Bracket few = begun-good 0 few
  first_good Nothing few = w

  atom-good : (b : ℕ) → GoodAct f (atom_act b i μ)
  unfolding atom_act
  atom-good b =
      by-test (GoodAct f) (leb max_atoms μ.st.atoms) (refuses 4 i) (pick (bonded μ && leb max_bonds μ.st.bonds) (refuses 5 i) (keeps (first_byte_of (letter_of b) μ))) (λ e. tt) (λ e.
      by-test (GoodAct f) (bonded μ && leb max_bonds μ.st.bonds) (refuses 5 i) (keeps (first_byte_of (letter_of b) μ)) (λ g. tt) (λ g. first_good (letter_of b) (bond-room μ g)))

or-good : (f : ℕ) (l : Letter) (a k : Acts) → GoodAct f a → GoodAct f k → GoodAct f (or_atom l a k)
or-good f (Plain e) a k w v = w
or-good f (Selected e) a k w v = w
or-good f Half a k w v = w
or-good f Bracket a k w v = w
or-good f Nothing a k w v = v

-- ---- after the first atom
module _ {p q d i : ℕ} {μ : Memory} (h : Held p q d i μ) (f : ℕ) (w : Good f μ) where
  -- a bridge, with its digit or `%` behind the others
  bridge-good : (r o : ℕ) → r < bridges → f ≤ o → GoodAct (suc o) (bridge_act r o μ)
  unfolding bridge_act joined
  bridge-good r o hr l = split (eqb (get_or μ.st.opener r 0) 0) refl
    where
      c : ℕ
      c = close_refusal μ.bonds μ.st.bonds (get_or μ.st.opener r 0 - 1) μ.st.hub.0 (get_or μ.st.symbol r 0) (kind_of μ.pending)

      closes : (x : ℕ) → c ≡ x → 0 < get_or μ.st.opener r 0 → GoodAct (suc o) (or_refuse x o (moved (bridged μ.st r 0 0 0 (μ.st.bonds + 1) (keys_after μ.st r o)) (bridge_bond r μ)))
      closes zero z op =
          let few = (allowed μ.bonds μ.st.bonds (get_or μ.st.opener r 0 - 1) μ.st.hub.0 (get_or μ.st.symbol r 0) (kind_of μ.pending) z).few in
          (digits-closed w.0 h.steering r o hr l few op, chain-closed μ.st μ.bonds r o _ (omega (arith, h.steering.keys_length)) w.1)
      closes (suc x) z op = tt

      split : (t : Bool) → eqb (get_or μ.st.opener r 0) 0 ≡ t
          → GoodAct (suc o)
          (pick t (keeps (moved (pick t (bridged μ.st r (μ.st.hub.0 + 1) (kind_of μ.pending) o μ.st.bonds μ.st.keys) (bridged μ.st r 0 0 0 (μ.st.bonds + 1) (keys_after μ.st r o))) μ))
          (or_refuse c o (moved (pick t (bridged μ.st r (μ.st.hub.0 + 1) (kind_of μ.pending) o μ.st.bonds μ.st.keys) (bridged μ.st r 0 0 0 (μ.st.bonds + 1) (keys_after μ.st r o))) (bridge_bond r μ))))
      split true e = (digits-opened w.0 h.steering r o hr l (μ.st.hub.0 + 1) (kind_of μ.pending), w.1)
      split false e = closes c refl (let n = eqb-false (get_or μ.st.opener r 0) 0 e in omega (arith, n))

  branch-good : (j : ℕ) → GoodAct f (branch_act j μ)
  unfolding branch_act opened
  branch-good j = by-test (GoodAct f) (leb max_depth μ.st.depth) _ _ (λ e. tt) (λ e. (record { behind = w.0.behind; opened = w.0.opened; once = w.0.once; waiting = w.0.waiting; others = w.0.others; unwritten = w.0.unwritten }, w.1))

  unbranch-good : Good f (moved (closed μ.st) μ)
  unfolding closed
  unbranch-good = (record { behind = w.0.behind; opened = w.0.opened; once = w.0.once; waiting = w.0.waiting; others = w.0.others; unwritten = w.0.unwritten }, w.1)

  letter-good : (x : Last) → GoodAct f (letter_act x μ)
  letter-good plain = w
  letter-good afterC = w
  letter-good afterB = w

  -- in a bracket
  close-good : (b : ℕ) → GoodAct f (close_act b μ)
  close-good b = by-test (Good f) (eqb b 93) _ _ (λ e. w) (λ e. w)

  charge-good : (b : ℕ) → GoodAct f (charge_act b μ)
  charge-good b = by-test (GoodAct f) (among b signs) _ _ (λ e. w) (λ e. close-good b)

  hydrogen-good : (b : ℕ) → GoodAct f (hydrogen_act b μ)
  hydrogen-good b = by-test (GoodAct f) (eqb b 72) _ _ (λ e. w) (λ e. charge-good b)

  mark-good : (j b : ℕ) → GoodAct f (mark_act j b μ)
  mark-good j b = by-test (GoodAct f) (eqb b 64) _ _ (λ e. w) (λ e. hydrogen-good b)

-- ---- every byte

-- after i bytes, in a state: the digits are before i, after `%` before it, which is one byte less, and after its first digit two
pub record Reach (i : ℕ) (σ : MachineState) (μ : Memory) : Type 0 where
  pub every : Good i μ
  pub sign : (d : ℕ) → σ ≡ at percent d → Good (i - 1) μ
  pub tens : (d : ℕ) → σ ≡ at percent1 d → Good (i - 2) μ

module _ {p q i : ℕ} {μ : Memory} where
  mode-good : (m : Mode) {d : ℕ} → Sane p q (at m d) i μ → Reach i (at m d) μ → (b : ℕ) → alive (turn (next m b) d) ≡ true → GoodAct (suc i) (mode_act m b i μ)
  unfolding next mode_act
  mode-good (seq x) v w b l =
      let h = held_of v in
      let g = good-later i (suc i) μ (omega arith) w.every in
      or-good (suc i) (letter_of b) _ _ (atom-good (ready h) (suc i) g b)
      (by-test (GoodAct (suc i)) (among b nonzero) _ _ (λ e. bridge-good h i w.every (digit b) i (omega (arith, (nonzero-digit b e).1)) (omega arith)) (λ e.
      by-test (GoodAct (suc i)) (eqb b 37) _ _ (λ e. g) (λ e.
      by-test (GoodAct (suc i)) (among b bond_symbols) _ _ (λ e. g) (λ e.
      by-test (GoodAct (suc i)) (eqb b 46) _ _ (λ e. g) (λ e.
      by-test (GoodAct (suc i)) (eqb b 40) _ _ (λ e. branch-good h (suc i) g i) (λ e.
      by-test (GoodAct (suc i)) (eqb b 41) _ _ (λ e. unbranch-good h (suc i) g) (λ e. letter-good h (suc i) g x)))))))
  mode-good bond v w b l =
      let h = held_of v in
      let g = good-later i (suc i) μ (omega arith) w.every in
      or-good (suc i) (letter_of b) _ _ (atom-good (ready h) (suc i) g b)
      (by-test (GoodAct (suc i)) (among b nonzero) _ _ (λ e. bridge-good h i w.every (digit b) i (omega (arith, (nonzero-digit b e).1)) (omega arith)) (λ e. g))
  mode-good atomNext v w b l = atom-good (ready (held_of v)) (suc i) (good-later i (suc i) μ (omega arith) w.every) b
  mode-good inside v w b l =
      let g = good-later i (suc i) μ (omega arith) w.every in
      or-good (suc i) (letter_of b) _ _ (atom-good (ready (held_of v)) (suc i) g b) g
  mode-good percent v w b l = good-later i (suc i) μ (omega arith) w.every
  mode-good percent1 {d} v w b l = split (among b digits) refl l
    where
      split : (t : Bool) → among b digits ≡ t → alive (turn (pick t (to (seq plain)) stop) d) ≡ true → GoodAct (suc i) (bridge_act (10 * μ.tens + digit b) (i - 2) μ)
      split true e a =
          act-later (suc (i - 2)) (suc i) (bridge_act (10 * μ.tens + digit b) (i - 2) μ) (omega arith)
          (bridge-good (held_of v) (i - 2) (w.tens d refl) (10 * μ.tens + digit b) (i - 2) (omega (arith, any-digit b e, v.stands.half.1)) (omega arith))
      split false e a = never a
  mode-good letterA v w b l = good-later i (suc i) μ (omega arith) w.every
  mode-good letterT v w b l = good-later i (suc i) μ (omega arith) w.every
  mode-good bracket v w b l = good-later i (suc i) μ (omega arith) w.every
  mode-good (isotope k) v w b l = good-later i (suc i) μ (omega arith) w.every
  mode-good (symbol1 a) v w b l =
      let g = good-later i (suc i) μ (omega arith) w.every in
      by-test (GoodAct (suc i)) (listed (a ∷ b ∷ []) symbols) _ _ (λ e. g) (λ e. mark-good (held_of v) (suc i) g 1 b)
  mode-good symbolled v w b l = mark-good (held_of v) (suc i) (good-later i (suc i) μ (omega arith) w.every) 1 b
  mode-good at1 v w b l = mark-good (held_of v) (suc i) (good-later i (suc i) μ (omega arith) w.every) 2 b
  mode-good at2 v w b l = hydrogen-good (held_of v) (suc i) (good-later i (suc i) μ (omega arith) w.every) b
  mode-good hydrogen v w b l =
      let g = good-later i (suc i) μ (omega arith) w.every in
      by-test (GoodAct (suc i)) (among b several) _ _ (λ e. g) (λ e. charge-good (held_of v) (suc i) g b)
  mode-good hydrogens v w b l = charge-good (held_of v) (suc i) (good-later i (suc i) μ (omega arith) w.every) b
  mode-good sign v w b l =
      let g = good-later i (suc i) μ (omega arith) w.every in
      by-test (GoodAct (suc i)) (among b several) _ _ (λ e. g) (λ e. close-good (held_of v) (suc i) g b)
  mode-good charged v w b l = close-good (held_of v) (suc i) (good-later i (suc i) μ (omega arith) w.every) b
  mode-good colon v w b l = good-later i (suc i) μ (omega arith) w.every
  mode-good (extension k) v w b l =
      let g = good-later i (suc i) μ (omega arith) w.every in
      by-test (GoodAct (suc i)) (among b digits) _ _ (λ e. g) (λ e. close-good (held_of v) (suc i) g b)

  step-good : (σ : MachineState) → Sane p q σ i μ → Reach i σ μ → (b : ℕ) → alive (step σ b) ≡ true → GoodAct (suc i) (act σ b i μ)
  unfolding step act
  step-good dead v w b l = absurd v.stands
  step-good start v w b l = atom-good (ready-start v) (suc i) (good-later i (suc i) μ (omega arith) w.every) b
  step-good (at m d) v w b l = mode-good m v w b l

module _ {i : ℕ} {μ : Memory} where
  sign-good : (σ : MachineState) → Reach i σ μ → (b e : ℕ) → step σ b ≡ at percent e → GoodAct (suc i - 1) (act σ b i μ)
  sign-good σ w b e q =
      let x = into-percent σ b e q in
      let z : suc i - 1 ≡ i = omega arith in
      rw (z, x.1, at-percent x.0 i μ) w.every

  tens-good : (σ : MachineState) → Reach i σ μ → (b e : ℕ) → step σ b ≡ at percent1 e → GoodAct (suc i - 2) (act σ b i μ)
  tens-good σ w b e q =
      let x = into-percent1 σ b e q in
      let z : suc i - 2 ≡ i - 1 = omega arith in
      rw (z, x.0.1, first-digit x.0.0 b i μ) (w.sign x.0.0 x.0.1)

-- ---- over a text
abbrev pub ReachReading : ℕ → Reading Memory → Type 0
ReachReading i (going τ ν) = Reach i τ ν
ReachReading i (halted c k) = Unit {0}

reach-after : (i : ℕ) (τ : MachineState) (a : Acts) → GoodAct i a → ((d : ℕ) → τ ≡ at percent d → GoodAct (i - 1) a) → ((d : ℕ) → τ ≡ at percent1 d → GoodAct (i - 2) a) → ReachReading i (after τ a)
reach-after i τ (keeps ν) e s t = record { every = e; sign = s; tens = t }
reach-after i τ (refuses c k) e s t = tt

module _ (p q : ℕ) where
  reach-feed : (i : ℕ) (r : Reading Memory) → SaneReading p q i r → ReachReading i r → (b : ℕ) → ReachReading (suc i) (feed act i r b)
  unfolding feed
  reach-feed i (going σ μ) v w b = split (alive (step σ b)) refl
    where
      split : (t : Bool) → alive (step σ b) ≡ t → ReachReading (suc i) (pick t (after (step σ b) (act σ b i μ)) (halted 3 i))
      split true e = reach-after (suc i) (step σ b) (act σ b i μ) (step-good σ v w b e) (λ d. sign-good σ w b d) (λ d. tens-good σ w b d)
      split false e = tt
  reach-feed i (halted c k) v w b = tt

  pub reach-read : (s : List ℕ) (i : ℕ) (r : Reading Memory) → SaneReading p q i r → ReachReading i r → ReachReading (i + length s) (read act i r s)
  unfolding read
  reach-read [] i r v w = rw (add-zero i) w
  reach-read (b ∷ s) i r v w =
      let e : i + suc (length s) ≡ suc i + length s = omega arith in
      rw e (reach-read s (suc i) (feed act i r b) (sane-feed p q i r v b) (reach-feed i r v w b))
