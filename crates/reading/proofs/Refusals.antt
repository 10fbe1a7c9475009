-- Why a byte is refused with 4 to 9: at each the check of 01 that failed. Assumes nothing.
use Prim.Native.Nat.{ℕ, ◌+◌, ◌-◌, ◌*◌, ◌≤◌, ◌<◌}
use native.Mathlib.Omega.{arith}
use mathlib.Core.Path.{◌≡◌, refl, subst}
use mathlib.Core.Bool.{true}
use mathlib.Core.Logic.{⊎_elim, ◌≢◌}
use mathlib.Core.List.{[], ◌∷◌}
use lib.ListN.{get_or}
use lib.Dec.{eqb, leb}
use borrow.Author.Tests.{eqb-true, eqb-false, leb-true}
use Rattle.loops.proofs.Loops.{and_left, and_right}
use Rattle.element.specs.declared.Letter.{Letter}
use Rattle.element.specs.declared.Letter.TheVariants.{Plain, Selected, Half, Bracket, Nothing}
use Rattle.element.specs.Symbols.{among, listed, symbols}
use Rattle.element.specs.Lookup.{letter_of}
use Rattle.reading_grammar.specs.Grammar.{nonzero, digits, several, bond_symbols, signs}
use Rattle.reading_grammar.specs.declared.Last.{Last}
use Rattle.reading_grammar.specs.declared.Last.TheVariants.{Plain as plain, AfterC as afterC, AfterB as afterB}
use Rattle.reading_grammar.specs.declared.Mode.{Mode}
use Rattle.reading_grammar.specs.declared.Mode.TheVariants.{Seq as seq, Bond as bond, AtomNext as atomNext, Inside as inside, Percent as percent, Percent1 as percent1, LetterA as letterA, LetterT as letterT, Bracket as bracket, Isotope as isotope, Symbol1 as symbol1, Symbolled as symbolled, At1 as at1, At2 as at2, Hydrogen as hydrogen, Hydrogens as hydrogens, Sign as sign, Charged as charged, Colon as colon, Extension as extension}
use Rattle.reading_grammar.specs.declared.Move.{Move}
use Rattle.reading_grammar.specs.declared.Move.TheVariants.{Stop as stop}
use Rattle.reading_grammar.specs.declared.MachineState.{MachineState}
use Rattle.reading_grammar.specs.declared.MachineState.TheVariants.{Dead as dead, Start as start, At as at}
use Rattle.reading_grammar.specs.Machine.{alive, turn, step, next, atom_or}
use Rattle.reading_grammar.specs.Fold.{keeps, refuses}
use Rattle.reading_grammar.proofs.Ends.{never}
use Rattle.table.specs.Limits.{max_atoms, max_bonds}
use Rattle.ids.specs.Limits.{max_depth}
use Rattle.reading_state.specs.State.{joined}
use Rattle.kinds.specs.Kind.{clash}
use Rattle.reading.specs.Memory.{Memory, kind_of, bonded, moved, joined_already, close_refusal}
use Rattle.reading.specs.Bracket.{digit}
use Rattle.reading.specs.Act.{Acts, bridge_bond, charge_act, hydrogen_act, mark_act, joint_act, or_atom, atom_act, or_refuse, bridge_act, branch_act, letter_act, mode_act, act}
use Rattle.reading.specs.Conditions.{AtomMayBegin, BridgeMayStand, Open, opener_of}
use Rattle.reading.proofs.Cases.{by-test}
use Rattle.reading.proofs.Letters.{Begins, begins}

-- the byte b completes the bridge number r, whose digit or `%` stands at p
pub data Completes : MachineState → ℕ → ℕ → Memory → ℕ → ℕ → Type 0 where
  by_digit : {σ : MachineState} {b i : ℕ} {μ : Memory} → BridgeMayStand σ → among b nonzero ≡ true → Completes σ b i μ (digit b) i
  by_percent : {b d i : ℕ} {μ : Memory} → Completes (at percent1 d) b i μ (10 * μ.tens + digit b) (i - 2)

-- the bridge number r is open, and the byte closes it
pub record Closes (σ : MachineState) (b i : ℕ) (μ : Memory) (r p : ℕ) : Type 0 where
  pub complete : Completes σ b i μ r p
  pub opened : Open μ.st.opener r

-- the byte b begins an atom, if the grammar goes on
pub record Starts (σ : MachineState) (b : ℕ) : Type 0 where
  pub place : AtomMayBegin σ
  pub first_byte : alive (step σ b) ≡ true → letter_of b ≢ Nothing

-- the byte b at the place i, in the state σ, is refused with a code and an offset
pub data Why (σ : MachineState) (b i : ℕ) (μ : Memory) : ℕ → ℕ → Type 0 where
  many-atoms : Starts σ b → max_atoms ≤ μ.st.atoms → Why σ b i μ 4 i
  many-bonds : Starts σ b → bonded μ ≡ true → max_bonds ≤ μ.st.bonds → Why σ b i μ 5 i
  many_bridges : {r p : ℕ} → Closes σ b i μ r p → max_bonds ≤ μ.st.bonds → Why σ b i μ 5 p
  many-branches : {x : Last} {d : ℕ} → σ ≡ at (seq x) d → b ≡ 40 → max_depth ≤ μ.st.depth → Why σ b i μ 6 i
  to_itself : {r p : ℕ} → Closes σ b i μ r p → opener_of μ r ≡ μ.st.hub.0 → Why σ b i μ 7 p
  joined_twice : {r p : ℕ} → Closes σ b i μ r p → joined_already μ.bonds μ.st.bonds (opener_of μ r) μ.st.hub.0 ≡ true → Why σ b i μ 8 p
  symbols_differ : {r p : ℕ} → Closes σ b i μ r p → clash (get_or μ.st.symbol r 0) (kind_of μ.pending) ≡ true → Why σ b i μ 9 p

-- what a byte does, if it is a refusal, has a reason
abbrev Explained : MachineState → ℕ → ℕ → Memory → Acts → Type 0
Explained σ b i μ (keeps ν) = Unit {0}
Explained σ b i μ (refuses c p) = Why σ b i μ c p

positive : (n : ℕ) → n ≢ 0 → 0 < n
positive n h = omega arith

module _ (σ : MachineState) (b i : ℕ) (μ : Memory) where
  atom-why : Starts σ b → Explained σ b i μ (atom_act b i μ)
  unfolding atom_act
  atom-why n =
      by-test (Explained σ b i μ) _ _ _ (λ e. Why.many-atoms n (leb-true max_atoms μ.st.atoms e)) (λ e.
      by-test (Explained σ b i μ) _ _ _
      (λ f. Why.many-bonds n (and_left (bonded μ) (leb max_bonds μ.st.bonds) f) (leb-true max_bonds μ.st.bonds (and_right (bonded μ) (leb max_bonds μ.st.bonds) f)))
      (λ f. tt))

  bridge-why : (r p : ℕ) → Completes σ b i μ r p → Explained σ b i μ (bridge_act r p μ)
  unfolding bridge_act close_refusal
  bridge-why r p k =
      by-test (Explained σ b i μ) _ _ _ (λ e. tt) (λ e.
      let closes : Closes σ b i μ r p = record { complete = k; opened = positive (get_or μ.st.opener r 0) (eqb-false (get_or μ.st.opener r 0) 0 e) } in
      by-test refusal _ _ _ (λ e1. Why.many_bridges closes (leb-true max_bonds μ.st.bonds e1)) (λ e1.
      by-test refusal _ _ _ (λ e2. Why.to_itself closes (eqb-true (opener_of μ r) μ.st.hub.0 e2)) (λ e2.
      by-test refusal _ _ _ (λ e3. Why.joined_twice closes e3) (λ e3.
      by-test refusal _ _ _ (λ e4. Why.symbols_differ closes e4) (λ e4. tt)))))
    where
      refusal : ℕ → Type 0
      refusal c = Explained σ b i μ (or_refuse c p (moved (joined μ.st r (kind_of μ.pending) p) (bridge_bond r μ)))

  branch-why : {x : Last} {d : ℕ} → σ ≡ at (seq x) d → b ≡ 40 → Explained σ b i μ (branch_act i μ)
  unfolding branch_act
  branch-why q e = by-test (Explained σ b i μ) _ _ _ (λ f. Why.many-branches q e (leb-true max_depth μ.st.depth f)) (λ f. tt)

  or-why : (l : Letter) (a k : Acts) → ((l ≡ Nothing → ⊥) → Explained σ b i μ a) → Explained σ b i μ k → Explained σ b i μ (or_atom l a k)
  or-why (Plain e) a k f g = f (λ q. let z : ◌≡◌ {A = ℕ} 0 1 = cc in omega arith)
  or-why (Selected e) a k f g = f (λ q. let z : ◌≡◌ {A = ℕ} 0 1 = cc in omega arith)
  or-why Half a k f g = f (λ q. let z : ◌≡◌ {A = ℕ} 0 1 = cc in omega arith)
  or-why Bracket a k f g = f (λ q. let z : ◌≡◌ {A = ℕ} 0 1 = cc in omega arith)
  or-why Nothing a k f g = g

  first-why : AtomMayBegin σ → (k : Acts) → Explained σ b i μ k → Explained σ b i μ (or_atom (letter_of b) (atom_act b i μ) k)
  first-why w k g = or-why (letter_of b) (atom_act b i μ) k (λ n. atom-why (record { place = w; first_byte = λ v. n })) g

  goes-why : (x : Last) → Explained σ b i μ (letter_act x μ)
  goes-why plain = tt
  goes-why afterC = tt
  goes-why afterB = tt

-- where only an atom may stand and the grammar goes on, one begins
pub no-letter : {l : Letter} {o : Move} → Begins l o → l ≡ Nothing → ⊥
no-letter (Begins.plain s) e = let z : ◌≡◌ {A = ℕ} 0 1 = cc in omega arith
no-letter (Begins.selected s t) e = let z : ◌≡◌ {A = ℕ} 0 1 = cc in omega arith
no-letter Begins.letter-a e = let z : ◌≡◌ {A = ℕ} 0 1 = cc in omega arith
no-letter Begins.letter-t e = let z : ◌≡◌ {A = ℕ} 0 1 = cc in omega arith
no-letter Begins.opening e = let z : ◌≡◌ {A = ℕ} 0 1 = cc in omega arith

atom-only : (b d : ℕ) → alive (turn (atom_or b stop) d) ≡ true → letter_of b ≡ Nothing → ⊥
atom-only b d v e = ⊎_elim (λ w. no-letter w e) (λ f. never (rw f.1 at v)) (begins b stop)

-- ---- by mode
module _ (d b i : ℕ) (μ : Memory) where
  charge-why : (m : Mode) → Explained (at m d) b i μ (charge_act b μ)
  charge-why m = by-test (Explained (at m d) b i μ) (among b signs) _ _ (λ e. tt) (λ e. tt)

  hydrate-why : (m : Mode) → Explained (at m d) b i μ (hydrogen_act b μ)
  hydrate-why m = by-test (Explained (at m d) b i μ) (eqb b 72) _ _ (λ e. tt) (λ e. charge-why m)

  mark-why : (k : ℕ) (m : Mode) → Explained (at m d) b i μ (mark_act k b μ)
  mark-why k m = by-test (Explained (at m d) b i μ) (eqb b 64) _ _ (λ e. tt) (λ e. hydrate-why m)

  digit-why : (σ : MachineState) → BridgeMayStand σ → among b nonzero ≡ true → Explained σ b i μ (bridge_act (digit b) i μ)
  digit-why σ w e = bridge-why σ b i μ (digit b) i (Completes.by_digit w e)

  mode-why : (m : Mode) → Explained (at m d) b i μ (mode_act m b i μ)
  unfolding mode_act step next
  mode-why (seq x) =
      first-why (at (seq x) d) b i μ AtomMayBegin.in_sequence _
      (by-test (Explained (at (seq x) d) b i μ) (among b nonzero) (bridge_act (digit b) i μ) _ (digit-why (at (seq x) d) BridgeMayStand.in_sequence) (λ e1.
      by-test (Explained (at (seq x) d) b i μ) (eqb b 37) _ _ (λ e. tt) (λ e2.
      by-test (Explained (at (seq x) d) b i μ) (among b bond_symbols) (joint_act b μ) _ (λ e. tt) (λ e3.
      by-test (Explained (at (seq x) d) b i μ) (eqb b 46) (joint_act b μ) _ (λ e. tt) (λ e4.
      by-test (Explained (at (seq x) d) b i μ) (eqb b 40) (branch_act i μ) _ (λ e. branch-why (at (seq x) d) b i μ refl (eqb-true b 40 e)) (λ e5.
      by-test (Explained (at (seq x) d) b i μ) (eqb b 41) _ (letter_act x μ) (λ e. tt) (λ e6. goes-why (at (seq x) d) b i μ x)))))))
  mode-why bond = first-why (at bond d) b i μ AtomMayBegin.after_symbol _ (by-test (Explained (at bond d) b i μ) (among b nonzero) (bridge_act (digit b) i μ) _ (digit-why (at bond d) BridgeMayStand.after_symbol) (λ e. tt))
  mode-why atomNext = atom-why (at atomNext d) b i μ (record { place = AtomMayBegin.after_dot; first_byte = atom-only b d })
  mode-why inside = first-why (at inside d) b i μ AtomMayBegin.in_branch (joint_act b μ) tt
  mode-why percent = tt
  mode-why percent1 = bridge-why (at percent1 d) b i μ (10 * μ.tens + digit b) (i - 2) Completes.by_percent
  mode-why letterA = tt
  mode-why letterT = tt
  mode-why bracket = tt
  mode-why (isotope n) = tt
  mode-why (symbol1 a) = by-test (Explained (at (symbol1 a) d) b i μ) (listed (a ∷ b ∷ []) symbols) _ _ (λ e. tt) (λ e. mark-why 1 (symbol1 a))
  mode-why symbolled = mark-why 1 symbolled
  mode-why at1 = mark-why 2 at1
  mode-why at2 = hydrate-why at2
  mode-why hydrogen = by-test (Explained (at hydrogen d) b i μ) (among b several) _ _ (λ e. tt) (λ e. charge-why hydrogen)
  mode-why hydrogens = charge-why hydrogens
  mode-why sign = by-test (Explained (at sign d) b i μ) (among b several) _ _ (λ e. tt) (λ e. tt)
  mode-why charged = tt
  mode-why colon = tt
  mode-why (extension n) = by-test (Explained (at (extension n) d) b i μ) (among b digits) _ _ (λ e. tt) (λ e. tt)

explained : (σ : MachineState) (b i : ℕ) (μ : Memory) → Explained σ b i μ (act σ b i μ)
unfolding act step
explained dead b i μ = tt
explained start b i μ = atom-why start b i μ (record { place = AtomMayBegin.at_start; first_byte = atom-only b 0 })
explained (at m d) b i μ = mode-why d b i μ m

-- every refusal of a byte has its reason
pub why : (σ : MachineState) (b i : ℕ) (μ : Memory) (c p : ℕ) → act σ b i μ ≡ refuses c p → Why σ b i μ c p
why σ b i μ c p e = subst (Explained σ b i μ) e (explained σ b i μ)

-- the codes are 4 to 9, and the offset is not after the byte
pub record Code (i c p : ℕ) : Type 0 where
  pub low : 4 ≤ c
  pub high : c ≤ 9
  pub early : p ≤ i

completed : {σ : MachineState} {b i : ℕ} {μ : Memory} {r p : ℕ} → Completes σ b i μ r p → p ≤ i
completed (Completes.by_digit w e) = omega arith
completed Completes.by_percent = omega arith

pub code_of : {σ : MachineState} {b i : ℕ} {μ : Memory} {c p : ℕ} → Why σ b i μ c p → Code i c p
code_of (Why.many-atoms n a) = record { low = omega arith; high = omega arith; early = omega arith }
code_of (Why.many-bonds n k a) = record { low = omega arith; high = omega arith; early = omega arith }
code_of (Why.many_bridges k a) = record { low = omega arith; high = omega arith; early = completed k.complete }
code_of (Why.many-branches q e a) = record { low = omega arith; high = omega arith; early = omega arith }
code_of (Why.to_itself k e) = record { low = omega arith; high = omega arith; early = completed k.complete }
code_of (Why.joined_twice k j) = record { low = omega arith; high = omega arith; early = completed k.complete }
code_of (Why.symbols_differ k e) = record { low = omega arith; high = omega arith; early = completed k.complete }

pub act-code : (σ : MachineState) (b i : ℕ) (μ : Memory) (c p : ℕ) → act σ b i μ ≡ refuses c p → Code i c p
act-code σ b i μ c p e = code_of (why σ b i μ c p e)

-- what the laws of the fold ask
pub never-3 : (σ : MachineState) (b i : ℕ) (μ : Memory) (p : ℕ) → act σ b i μ ≡ refuses 3 p → ⊥
never-3 σ b i μ p e = let k = act-code σ b i μ 3 p e in omega arith

pub in-time : (σ : MachineState) (b i : ℕ) (μ : Memory) (c p : ℕ) → act σ b i μ ≡ refuses c p → p ≤ i
in-time σ b i μ c p e = (act-code σ b i μ c p e).early
