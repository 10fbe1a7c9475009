-- The state that a reading hands back stands for that reading, and is not refused as 25 with the tables as they were left. Assumes nothing.
use Prim.Native.Nat.{ℕ, zero, suc, ◌≤◌, ◌<◌}
use native.Mathlib.Omega.{arith}
use mathlib.Core.Path.{◌≡◌, refl}
use mathlib.Core.Bool.{Bool, true, false, ◌&&◌}
use mathlib.Core.List.{List}
use lib.ListN.{get_or, set}
use lib.Seq.{set-get_or}
use lib.IntN.{ℤ}
use lib.Dec.{eqb, leb, ltb}
use borrow.Author.Tests.{ne_eqb, le-leb, lt-leb, lt-ltb, le-ltb}
use Rattle.loops.specs.Loop.{each, run}
use Rattle.kinds.specs.Kind.{max_kind}
use Rattle.ids.specs.Limits.{max_text, max_depth, bridges}
use Rattle.reading_grammar.specs.declared.Last.TheVariants.{Plain as plain, AfterC as afterC, AfterB as afterB}
use Rattle.reading_grammar.specs.declared.Mode.{Mode}
use Rattle.reading_grammar.specs.declared.Mode.TheVariants.{Seq as seq, Bond as bond, AtomNext as atomNext, Inside as inside, Percent as percent, Percent1 as percent1, LetterA as letterA, LetterT as letterT, Bracket as bracket, Isotope as isotope, Symbol1 as symbol1, Symbolled as symbolled, At1 as at1, At2 as at2, Hydrogen as hydrogen, Hydrogens as hydrogens, Sign as sign, Charged as charged, Colon as colon, Extension as extension}
use Rattle.reading_grammar.specs.declared.MachineState.{MachineState}
use Rattle.reading_grammar.specs.declared.MachineState.TheVariants.{Dead as dead, Start as start, At as at}
use Rattle.table.specs.Valid.{valid, max_mark}
use Rattle.reading_state.specs.State.{Steering, key_count}
use Rattle.reading.specs.Memory.{Memory, Pending, nothing, dotted, symbol, kind_of}
use Rattle.reading.proofs.Draft.{isotope-most, extension-most}
use Rattle.reading.proofs.Sane.{InRange, HalfRead, Sane, Steers}
use Rattle.reading.proofs.Valid.{each_all, sane-between, valid-true}
use Rattle.reading_pieces.specs.declared.Paused.{Paused}
use Rattle.reading_pieces.specs.State.{mode_number, machine_of, memory_of, extension_in, cap, capped, pending_of, pending_number, paused_in, paused_at, goes_on}
use Rattle.reading_pieces.specs.Broken.{hub_astray, branch_astray, bridge_astray, deep, field_above, half_read_above, broken_of}
use Rattle.reading_pieces.specs.Safe.{Bounded}
use Rattle.reading_pieces.proofs.Shown.{Shown, spelt, extension-kept}

-- ---- the state stands for the reading

pending-again : (k : Pending) → kind_of k ≤ max_kind → pending_of (pending_number k) ≡ k
pending-again nothing h = refl
pending-again dotted h = refl
pending-again (symbol k) h = rw (le-leb k max_kind h)

-- offsets within the limit are as they are
cap-same : (n k : ℕ) (l : List ℕ) → ((r : ℕ) → get_or l r 0 ≤ max_text) → run (λ i t. set t i (cap (get_or t i 0))) k n l ≡ l
unfolding run
cap-same zero k l h = refl
cap-same (suc n) k l h =
    let e : set l k (cap (get_or l k 0)) ≡ l = rw (le-leb (get_or l k 0) max_text (h k)) (set-get_or l k 0) in
    rw e (cap-same n (suc k) l h)

pub capped_same : (n : ℕ) (l : List ℕ) → ((r : ℕ) → get_or l r 0 ≤ max_text) → capped n l ≡ l
unfolding capped
capped_same n l h = cap-same n 0 l h

-- the memory with another joint, other offsets and keys, and another extension
abbrev with-parts : Memory → Pending → List ℕ → List ℕ → ℕ → Memory
with-parts μ k o y e =
    record {
      st = record { hub = μ.st.hub; atoms = μ.st.atoms; bonds = μ.st.bonds; depth = μ.st.depth; stack = μ.st.stack; opener = μ.st.opener; symbol = μ.st.symbol; offset = o; outside = μ.st.outside; keys = y };
      atoms = μ.atoms;
      bonds = μ.bonds;
      pending = k;
      tens = μ.tens;
      draft = record { element = μ.draft.element; selected = μ.draft.selected; isotope = μ.draft.isotope; hydrogens = μ.draft.hydrogens; charge = μ.draft.charge; extension = e; mark = μ.draft.mark };
    }

parts_same : (μ : Memory) {k : Pending} {o y : List ℕ} {e : ℕ} → k ≡ μ.pending → o ≡ μ.st.offset → y ≡ μ.st.keys → e ≡ μ.draft.extension → with-parts μ k o y e ≡ μ
parts_same μ hk ho hy he = rw (hk, ho, hy, he)

module _ {p q : ℕ} (i : ℕ) (σ : MachineState) (μ : Memory) (w : Sane p q σ i μ) (l : i ≤ max_text) where
  keys-capped : capped key_count μ.st.keys ≡ μ.st.keys
  keys-capped = capped_same key_count μ.st.keys (λ k. omega (arith, w.steering.keys k))

  memory-in : (m : Mode) → Bounded μ.st → extension_in (mode_number m) μ.draft.extension ≡ μ.draft.extension → memory_of (paused_in i m μ) μ.atoms μ.bonds ≡ μ
  memory-in m h e = parts_same μ (pending-again μ.pending w.kind) (capped_same bridges μ.st.offset h.offset) keys-capped e

pub memory-again : {p q : ℕ} (i : ℕ) (σ : MachineState) (μ : Memory) → Sane p q σ i μ → Shown σ μ → i ≤ max_text → memory_of (paused_at i σ μ) μ.atoms μ.bonds ≡ μ
unfolding mode_number
memory-again i dead μ w h l = absurd w.stands
memory-again i start μ w h l = memory-in i start μ w l atomNext h.1 refl
memory-again i (at m d) μ w h l = memory-in i (at m d) μ w l m h.bounded (extension-kept μ.tens μ.draft m h.half)

pub machine-again : {p q : ℕ} (i : ℕ) (σ : MachineState) (μ : Memory) → Sane p q σ i μ → Shown σ μ → machine_of (paused_at i σ μ) ≡ σ
machine-again i dead μ w h = absurd w.stands
machine-again i start μ w h = rw w.stands.atoms
machine-again i (at m d) μ w h = rw (ne_eqb μ.st.atoms 0 (λ e. omega (arith, w.stands.hub)), spelt μ.tens μ.draft m h.half, w.stands.depth)

-- ---- it is not broken

each_below : (p : ℕ → Bool) (m : ℕ) → ((j : ℕ) → j < m → p j ≡ true) → each p 0 m ≡ true
each_below p m h = each_all p m 0 (λ j l u. h j (omega arith))

module _ {i : ℕ} {s : Steering} (w : Steers i s) (p : Paused) where
  branch-fine : p.hubs ≡ s.stack → p.atoms ≡ s.atoms → p.depth ≡ s.depth → branch_astray p ≡ false
  unfolding branch_astray
  branch-fine e f g = rw (e, f, g) (rw (each_below (λ k. ltb (get_or s.stack k 0) s.atoms) s.depth (λ k l. lt-ltb (get_or s.stack k 0) s.atoms (w.stack k l))))

  bridge-fine : p.openers ≡ s.opener → p.atoms ≡ s.atoms → bridge_astray p ≡ false
  unfolding bridge_astray
  bridge-fine e f = rw (e, f) (rw (each_below (λ r. leb (get_or s.opener r 0) s.atoms) bridges (λ r l. le-leb (get_or s.opener r 0) s.atoms (w.opener r))))

  deep-fine : p.depth ≡ s.depth → deep p ≡ false
  deep-fine g = rw g (le-ltb max_depth s.depth w.depth)

fields-fine : {a e : ℕ} (i : ℕ) (m : Mode) (μ : Memory) → InRange a e μ.draft → a ≤ 999 → e ≤ 9999 → field_above (paused_in i m μ) ≡ false
unfolding field_above
fields-fine i m μ r la le =
    let f = μ.draft in
    rw (le-ltb 999 f.isotope (omega (arith, r.isotope)), le-ltb 118 f.element r.element, le-ltb 1 f.selected r.selected, le-ltb max_mark f.mark r.mark, le-ltb 9 f.hydrogens r.hydrogens, r.charge, le-ltb 9999 f.extension (omega (arith, r.extension)))

and-false : (a : Bool) → (a && false) ≡ false
and-false true = refl
and-false false = refl

bracket-fine : (i : ℕ) (m : Mode) (μ : Memory) → eqb (mode_number m) 7 ≡ false → field_above (paused_in i m μ) ≡ false → half_read_above (paused_in i m μ) ≡ false
bracket-fine i m μ e f = rw (e, f, and-false (leb 10 (mode_number m)))

half-fine : (i : ℕ) (m : Mode) (μ : Memory) → HalfRead m μ → half_read_above (paused_in i m μ) ≡ false
unfolding mode_number
half-fine i (seq plain) μ h = refl
half-fine i (seq afterC) μ h = refl
half-fine i (seq afterB) μ h = refl
half-fine i bond μ h = refl
half-fine i atomNext μ h = refl
half-fine i inside μ h = refl
half-fine i percent μ h = refl
half-fine i percent1 μ h = le-ltb 9 μ.tens h.1
half-fine i letterA μ h = refl
half-fine i letterT μ h = refl
half-fine i bracket μ h = bracket-fine i bracket μ refl (fields-fine i bracket μ h (omega arith) (omega arith))
half-fine i (isotope k) μ h = bracket-fine i (isotope k) μ refl (fields-fine i (isotope k) μ h.1 (isotope-most k) (omega arith))
half-fine i (symbol1 a) μ h = bracket-fine i (symbol1 a) μ refl (fields-fine i (symbol1 a) μ h (omega arith) (omega arith))
half-fine i symbolled μ h = bracket-fine i symbolled μ refl (fields-fine i symbolled μ h (omega arith) (omega arith))
half-fine i at1 μ h = bracket-fine i at1 μ refl (fields-fine i at1 μ h (omega arith) (omega arith))
half-fine i at2 μ h = bracket-fine i at2 μ refl (fields-fine i at2 μ h (omega arith) (omega arith))
half-fine i hydrogen μ h = bracket-fine i hydrogen μ refl (fields-fine i hydrogen μ h (omega arith) (omega arith))
half-fine i hydrogens μ h = bracket-fine i hydrogens μ refl (fields-fine i hydrogens μ h (omega arith) (omega arith))
half-fine i sign μ h = bracket-fine i sign μ refl (fields-fine i sign μ h (omega arith) (omega arith))
half-fine i charged μ h = bracket-fine i charged μ refl (fields-fine i charged μ h (omega arith) (omega arith))
half-fine i colon μ h = bracket-fine i colon μ refl (fields-fine i colon μ h (omega arith) (omega arith))
half-fine i (extension k) μ h = bracket-fine i (extension k) μ refl (fields-fine i (extension k) μ h.1 (omega arith) (extension-most k))

-- the tests put together
none-broken : (p : Paused) (atoms bonds : List ℤ) → valid atoms bonds p.atoms p.bonds ≡ true → hub_astray p ≡ false → branch_astray p ≡ false → bridge_astray p ≡ false → deep p ≡ false → p.read ≤ max_text → half_read_above p ≡ false → broken_of p atoms bonds ≡ false
unfolding broken_of
none-broken p atoms bonds v h b r d o f = rw (v, h, b, r, d, le-ltb max_text p.read o, f, and-false (goes_on p))

pub unbroken : {p q i : ℕ} (σ : MachineState) (μ : Memory) → Sane p q σ i μ → Shown σ μ → i ≤ max_text → broken_of (paused_at i σ μ) μ.atoms μ.bonds ≡ false
unfolding mode_number
unbroken dead μ w h l = absurd w.stands
unbroken {i = i} start μ w h l =
    let z = paused_at i start μ in
    none-broken z μ.atoms μ.bonds (valid-true (sane-between {σ = start} w)) (rw (w.stands.atoms, h.0))
    (branch-fine w.steering z refl refl refl) (bridge-fine w.steering z refl refl) (deep-fine w.steering z refl) l refl
unbroken {i = i} (at m d) μ w h l =
    let z = paused_at i (at m d) μ in
    none-broken z μ.atoms μ.bonds (valid-true (sane-between {σ = at m d} w)) (rw (ne_eqb μ.st.atoms 0 (λ e. omega (arith, w.stands.hub)), lt-leb μ.st.atoms μ.st.hub.0 w.stands.hub))
    (branch-fine w.steering z refl refl refl) (bridge-fine w.steering z refl refl) (deep-fine w.steering z refl) l (half-fine i m μ w.stands.half)
