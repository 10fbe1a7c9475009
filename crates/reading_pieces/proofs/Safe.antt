-- A reading stays safe at every byte within the limit, whatever its tables are. Assumes nothing.
use Prim.Native.Nat.{ℕ, zero, suc, ◌+◌, ◌*◌, ◌-◌, ◌≤◌, ◌<◌}
use native.Mathlib.Omega.{arith}
use native.Mathlib.Decide.{ℕ_discrete, dec_lt}
use mathlib.Core.Path.{◌≡◌, refl, sym, ◌∙◌}
use mathlib.Core.Bool.{Bool, true, false, ◌&&◌}
use mathlib.Core.List.{List, [], ◌∷◌}
use lib.ListN.{length, get_or, set, get_or-eq_default}
use lib.Seq.{get_or-set_same, get_or-set_other, set_out}
use lib.Dec.{eqb, leb}
use borrow.Author.Tests.{ne_eqb, eqb-true, eqb-false, le-leb, lt-leb, leb-true, leb-false}
use Rattle.loops.specs.Loop.{pick}
use Rattle.element.specs.Symbols.{among, starts, listed, marks, symbols}
use Rattle.element.specs.Lookup.{letter_of, number_of, selected_of}
use Rattle.element.specs.declared.Letter.{Letter}
use Rattle.ids.specs.Limits.{max_text, max_depth}
use Rattle.table.specs.Limits.{max_atoms, max_bonds}
use Rattle.reading_grammar.specs.Grammar.{nonzero, digits, several, signs}
use Rattle.reading_grammar.specs.declared.Last.TheVariants.{Plain as plain}
use Rattle.reading_grammar.specs.declared.Mode.{Mode}
use Rattle.reading_grammar.specs.declared.Mode.TheVariants.{Seq as seq, Bond as bond, AtomNext as atomNext, Inside as inside, Percent as percent, Percent1 as percent1, LetterA as letterA, LetterT as letterT, Bracket as bracket, Isotope as isotope, Symbol1 as symbol1, Symbolled as symbolled, At1 as at1, At2 as at2, Hydrogen as hydrogen, Hydrogens as hydrogens, Sign as sign, Charged as charged, Colon as colon, Extension as extension}
use Rattle.reading_grammar.specs.declared.Move.{Move}
use Rattle.reading_grammar.specs.declared.Move.TheVariants.{Stop as stop, To as to}
use Rattle.reading_grammar.specs.declared.MachineState.{MachineState}
use Rattle.reading_grammar.specs.declared.MachineState.TheVariants.{Dead as dead, Start as start, At as at}
use Rattle.reading_grammar.specs.Machine.{next, step, turn, alive, symbol_or}
use Rattle.reading_grammar.specs.Machine as machine
use Rattle.reading_grammar.specs.Fold.{keeps, refuses}
use Rattle.reading_grammar.proofs.Ends.{never}
use Rattle.reading_state.specs.State.{Steering, with_next_atom, opened, closed, bridged, keys_after, joined}
use Rattle.reading_state.specs.declared.Fields.{Fields}
use Rattle.reading.specs.Memory.{Memory, bonded, kind_of, close_refusal, row_of, bare_row, begun, described, moved, counting, drafted}
use Rattle.reading.specs.Bracket.{digit, isotoped, elemented, hydrogened, marked, signed, positive}
use Rattle.reading.specs.Bracket as fields
use Rattle.reading.specs.Act.{Acts, act, atom_act, bridge_act, bridge_bond, branch_act, or_refuse, close_act, charge_act, hydrogen_act, mark_act, isotope_act, mode_act, first_byte_of}
use Rattle.reading.proofs.Cases.{by-test}
use Rattle.reading.proofs.Letters.{Begins, nonzero-is-digit}
use Rattle.reading.proofs.Draft.{nonzero-digit, any-digit}
use Rattle.reading.proofs.Atoms.{bond-room}
use Rattle.reading.proofs.Joints.{allowed}
use Rattle.reading.proofs.Dispatch.{Outside, only-atom, second-letter, in_sequence, in-bond, in_branch, in-percent, in-percent1}
use Rattle.reading_pieces.specs.State.{isotope_mode, extension_mode}
use Rattle.reading_pieces.specs.Safe.{Bounded, Half, Safe}

-- in the machine's states
abbrev pub SafeAt : MachineState → Memory → Type 0
SafeAt dead μ = Unit {0}
SafeAt start μ = Unit {0}
SafeAt (at m d) μ = Safe m d μ

abbrev pub SafeAct : MachineState → Acts → Type 0
SafeAct τ (keeps μ) = SafeAt τ μ
SafeAct τ (refuses c p) = Unit {0}

dies : (a : Acts) → SafeAct dead a
dies (keeps μ) = tt
dies (refuses c p) = tt

-- ---- a digit more of a field
ne-pos : (i : ℕ) → (i ≡ 0 → ⊥) → 0 < i
ne-pos zero h = absurd (h refl)
ne-pos (suc i) h = omega arith

iso-first : (i d : ℕ) → i ≤ 0 → 1 ≤ d → d ≤ 9 → isotope_mode (10 * i + d) ≡ isotope 2
iso-first i d h l u = rw (ne_eqb (10 * i + d) 0 (omega arith), le-leb (10 * i + d) 9 (omega arith))

iso-next : (k i d : ℕ) → isotope_mode i ≡ isotope (suc k) → d ≤ 9 → isotope_mode (10 * i + d) ≡ isotope k
iso-next k i d h u = split (eqb i 0) (leb i 9) (leb i 99) refl refl refl h
  where
    split : (r s t : Bool) → eqb i 0 ≡ r → leb i 9 ≡ s → leb i 99 ≡ t → pick r bracket (isotope (pick s 2 (pick t 1 0))) ≡ isotope (suc k) → isotope_mode (10 * i + d) ≡ isotope k
    split true s t e f g h = absurd (let z : ◌≡◌ {A = ℕ} 0 1 = cc in omega arith)
    split false true t e f g h =
        let q : 2 ≡ suc k = cc in
        let z : k ≡ 1 = omega arith in
        let lo : 0 < i = ne-pos i (eqb-false i 0 e) in
        let hi : i ≤ 9 = leb-true i 9 f in
        rw (ne_eqb (10 * i + d) 0 (omega arith), lt-leb (10 * i + d) 9 (omega arith), le-leb (10 * i + d) 99 (omega arith), z)
    split false false true e f g h =
        let q : 1 ≡ suc k = cc in
        let z : k ≡ 0 = omega arith in
        let lo : 9 < i = leb-false i 9 f in
        let hi : i ≤ 99 = leb-true i 99 g in
        rw (ne_eqb (10 * i + d) 0 (omega arith), lt-leb (10 * i + d) 9 (omega arith), lt-leb (10 * i + d) 99 (omega arith), z)
    split false false false e f g h = let q : 0 ≡ suc k = cc in absurd (omega arith)

ext-first : (i d : ℕ) → i ≤ 0 → 1 ≤ d → d ≤ 9 → extension_mode (10 * i + d) ≡ extension 3
ext-first i d h l u = rw (ne_eqb (10 * i + d) 0 (omega arith), le-leb (10 * i + d) 9 (omega arith))

ext-next : (k i d : ℕ) → extension_mode i ≡ extension (suc k) → d ≤ 9 → extension_mode (10 * i + d) ≡ extension k
ext-next k i d h u = split (eqb i 0) (leb i 9) (leb i 99) (leb i 999) refl refl refl refl h
  where
    split : (r s t v : Bool) → eqb i 0 ≡ r → leb i 9 ≡ s → leb i 99 ≡ t → leb i 999 ≡ v → pick r colon (extension (pick s 3 (pick t 2 (pick v 1 0)))) ≡ extension (suc k) → extension_mode (10 * i + d) ≡ extension k
    split true s t v e f g j h = absurd (let z : ◌≡◌ {A = ℕ} 0 1 = cc in omega arith)
    split false true t v e f g j h =
        let q : 3 ≡ suc k = cc in
        let z : k ≡ 2 = omega arith in
        let lo : 0 < i = ne-pos i (eqb-false i 0 e) in
        let hi : i ≤ 9 = leb-true i 9 f in
        rw (ne_eqb (10 * i + d) 0 (omega arith), lt-leb (10 * i + d) 9 (omega arith), le-leb (10 * i + d) 99 (omega arith), z)
    split false false true v e f g j h =
        let q : 2 ≡ suc k = cc in
        let z : k ≡ 1 = omega arith in
        let lo : 9 < i = leb-false i 9 f in
        let hi : i ≤ 99 = leb-true i 99 g in
        rw (ne_eqb (10 * i + d) 0 (omega arith), lt-leb (10 * i + d) 9 (omega arith), lt-leb (10 * i + d) 99 (omega arith), le-leb (10 * i + d) 999 (omega arith), z)
    split false false false true e f g j h =
        let q : 1 ≡ suc k = cc in
        let z : k ≡ 0 = omega arith in
        let lo : 99 < i = leb-false i 99 g in
        let hi : i ≤ 999 = leb-true i 999 j in
        rw (ne_eqb (10 * i + d) 0 (omega arith), lt-leb (10 * i + d) 9 (omega arith), lt-leb (10 * i + d) 99 (omega arith), lt-leb (10 * i + d) 999 (omega arith), z)
    split false false false false e f g j h = let q : 0 ≡ suc k = cc in absurd (omega arith)

iso-small : (k i : ℕ) → isotope_mode i ≡ isotope (suc k) → i ≤ 99
iso-small k i = split (eqb i 0) (leb i 9) (leb i 99) refl refl refl
  where
    split : (r s t : Bool) → eqb i 0 ≡ r → leb i 9 ≡ s → leb i 99 ≡ t → pick r bracket (isotope (pick s 2 (pick t 1 0))) ≡ isotope (suc k) → i ≤ 99
    split true s t e f g h = let z = eqb-true i 0 e in omega arith
    split false true t e f g h = omega (arith, leb-true i 9 f)
    split false false true e f g h = leb-true i 99 g
    split false false false e f g h = let q : 0 ≡ suc k = cc in absurd (omega arith)

pub ext-small : (k i : ℕ) → extension_mode i ≡ extension (suc k) → i ≤ 999
ext-small k i = split (eqb i 0) (leb i 9) (leb i 99) (leb i 999) refl refl refl refl
  where
    split : (r s t v : Bool) → eqb i 0 ≡ r → leb i 9 ≡ s → leb i 99 ≡ t → leb i 999 ≡ v → pick r colon (extension (pick s 3 (pick t 2 (pick v 1 0)))) ≡ extension (suc k) → i ≤ 999
    split true s t v e f g j h = let z = eqb-true i 0 e in omega arith
    split false true t v e f g j h = omega (arith, leb-true i 9 f)
    split false false true v e f g j h = omega (arith, leb-true i 99 g)
    split false false false true e f g j h = leb-true i 999 j
    split false false false false e f g j h = let q : 0 ≡ suc k = cc in absurd (omega arith)

-- ---- small laws
opened-depth : (s : Steering) → (opened s).depth ≡ s.depth + 1
unfolding opened
opened-depth s = refl

closed-depth : (s : Steering) → (closed s).depth ≡ s.depth - 1
unfolding closed
closed-depth s = refl

symbolled-extension : (b : ℕ) (f : Fields) → (fields.symbolled b f).extension ≡ f.extension
unfolding fields.symbolled
symbolled-extension b f = by-test (λ (g : Fields). g.extension ≡ f.extension) (eqb (selected_of b) 0) (elemented (number_of (b ∷ [])) 0 f) (elemented (selected_of b) 1 f) (λ e. refl) (λ e. refl)

-- a cell more
set-each : (P : ℕ → Type 0) (l : List ℕ) (r v : ℕ) → P v → ((k : ℕ) → P (get_or l k 0)) → (k : ℕ) → P (get_or (set l r v) k 0)
set-each P l r v pv w k = split (ℕ_discrete k r)
  where
    split : Dec (k ≡ r) → P (get_or (set l r v) k 0)
    split (no n) = rw (get_or-set_other l r k v 0 n) (w k)
    split (yes e) = rw e (inside (dec_lt r (length l)))
      where
        inside : Dec (r < length l) → P (get_or (set l r v) r 0)
        inside (yes g) = rw (get_or-set_same l r v 0 g) pv
        inside (no g) = rw (set_out l r v (omega arith)) (w r)

-- ---- the state
module _ {s : Steering} (w : Bounded s) where
  extended : (x m : ℕ) → s.atoms < max_atoms → m ≤ max_bonds → Bounded (with_next_atom s x m)
  extended x m h l =
      record { atoms = omega arith; bonds = l; depth = w.depth; hub = h; stack = w.stack; opener = w.opener; offset = w.offset }

  opened-bounded : s.depth < max_depth → Bounded (opened s)
  unfolding opened
  opened-bounded d =
      record { atoms = w.atoms; bonds = w.bonds; depth = omega arith; hub = w.hub; stack = stack; opener = w.opener; offset = w.offset }
    where
      stack : (k : ℕ) → k < s.depth + 1 → get_or (set s.stack s.depth s.hub.0) k 0 < max_atoms
      stack k l = split (ℕ_discrete k s.depth)
        where
          split : Dec (k ≡ s.depth) → get_or (set s.stack s.depth s.hub.0) k 0 < max_atoms
          split (no n) = rw (get_or-set_other s.stack s.depth k s.hub.0 0 n) (w.stack k (omega arith))
          split (yes e) = rw e (inside (dec_lt s.depth (length s.stack)))
            where
              inside : Dec (s.depth < length s.stack) → get_or (set s.stack s.depth s.hub.0) s.depth 0 < max_atoms
              inside (yes g) = rw (get_or-set_same s.stack s.depth s.hub.0 0 g) w.hub
              inside (no g) = rw (set_out s.stack s.depth s.hub.0 (omega arith)) (rw (get_or-eq_default s.stack 0 {n = s.depth} (omega arith)) (omega arith))

  closed-bounded : 0 < s.depth → Bounded (closed s)
  unfolding closed
  closed-bounded d =
      record {
        atoms = w.atoms;
        bonds = w.bonds;
        depth = omega (arith, w.depth);
        hub = w.stack (s.depth - 1) (omega arith);
        stack = λ k l. rw (get_or-set_other s.stack (s.depth - 1) k 0 0 (λ e. omega arith)) (w.stack k (omega arith));
        opener = w.opener;
        offset = w.offset;
      }

  bridged-bounded : (r a k p m : ℕ) (y : List ℕ) → a ≤ max_atoms → p ≤ max_text → m ≤ max_bonds → Bounded (bridged s r a k p m y)
  bridged-bounded r a k p m y ha hp hm =
      record {
        atoms = w.atoms;
        bonds = hm;
        depth = w.depth;
        hub = w.hub;
        stack = w.stack;
        opener = set-each (λ v. v ≤ max_atoms) s.opener r a ha w.opener;
        offset = set-each (λ v. v ≤ max_text) s.offset r p hp w.offset;
      }

-- ---- outside brackets
module _ {m₀ : Mode} (d i : ℕ) (μ : Memory) (w : Safe m₀ d μ) (within : i < max_text) where
  -- the same state, in a mode that says nothing of a field
  calm : (m : Mode) (ν : Memory) → ν.st ≡ μ.st → Half m ν.tens ν.draft → Safe m d ν
  calm m ν e h = record { bounded = rw e w.bounded; depth = rw e w.depth; half = h }

  begun-safe : (x : ℕ) → μ.st.atoms < max_atoms → (bonded μ ≡ true → μ.st.bonds < max_bonds) → Bounded (begun x μ).st
  unfolding begun
  begun-safe x h l = extended w.bounded x _ h (by-test (λ (m : ℕ). m ≤ max_bonds) (bonded μ) (μ.st.bonds + 1) μ.st.bonds (λ e. omega (arith, l e)) (λ e. w.bounded.bonds))

  first-safe : {l : Letter} {o : Move} → Begins l o → μ.st.atoms < max_atoms → (bonded μ ≡ true → μ.st.bonds < max_bonds) → SafeAt (turn o d) (first_byte_of l μ)
  unfolding begun
  first-safe (Begins.plain {e} {x} s) h l = record { bounded = begun-safe 1 h l; depth = w.depth; half = tt }
  first-safe (Begins.selected {e} {x} s t) h l = record { bounded = begun-safe 1 h l; depth = w.depth; half = tt }
  first-safe Begins.letter-a h l = record { bounded = begun-safe 1 h l; depth = w.depth; half = tt }
  first-safe Begins.letter-t h l = record { bounded = begun-safe 1 h l; depth = w.depth; half = tt }
  first-safe Begins.opening h l = record { bounded = begun-safe 0 h l; depth = w.depth; half = (refl, refl) }

  atom-safe : (b : ℕ) (o : Move) → Begins (letter_of b) o → SafeAct (turn o d) (atom_act b i μ)
  unfolding atom_act
  atom-safe b o x = split (leb max_atoms μ.st.atoms) (bonded μ && leb max_bonds μ.st.bonds) refl refl
    where
      split : (t u : Bool) → leb max_atoms μ.st.atoms ≡ t → (bonded μ && leb max_bonds μ.st.bonds) ≡ u → SafeAct (turn o d) (pick t (refuses 4 i) (pick u (refuses 5 i) (keeps (first_byte_of (letter_of b) μ))))
      split true u e f = tt
      split false true e f = tt
      split false false e f = first-safe x (leb-false max_atoms μ.st.atoms e) (bond-room μ f)

  bridge-safe : (r p : ℕ) → p ≤ i → SafeAct (at (seq plain) d) (bridge_act r p μ)
  unfolding bridge_act joined
  bridge-safe r p h = split (eqb (get_or μ.st.opener r 0) 0) (close_refusal μ.bonds μ.st.bonds (get_or μ.st.opener r 0 - 1) μ.st.hub.0 (get_or μ.st.symbol r 0) (kind_of μ.pending)) refl
    where
      split : (t : Bool) (c : ℕ) → close_refusal μ.bonds μ.st.bonds (get_or μ.st.opener r 0 - 1) μ.st.hub.0 (get_or μ.st.symbol r 0) (kind_of μ.pending) ≡ c
          → let s : Steering = pick t (bridged μ.st r (μ.st.hub.0 + 1) (kind_of μ.pending) p μ.st.bonds μ.st.keys) (bridged μ.st r 0 0 0 (μ.st.bonds + 1) (keys_after μ.st r p)) in
          SafeAct (at (seq plain) d) (pick t (keeps (moved s μ)) (or_refuse c p (moved s (bridge_bond r μ))))
      split true c e = record { bounded = bridged-bounded w.bounded r (μ.st.hub.0 + 1) (kind_of μ.pending) p μ.st.bonds μ.st.keys (omega (arith, w.bounded.hub)) (omega arith) w.bounded.bonds; depth = w.depth; half = tt }
      split false zero e =
          let few = (allowed μ.bonds μ.st.bonds (get_or μ.st.opener r 0 - 1) μ.st.hub.0 (get_or μ.st.symbol r 0) (kind_of μ.pending) e).few in
          record { bounded = bridged-bounded w.bounded r 0 0 0 (μ.st.bonds + 1) (keys_after μ.st r p) (omega arith) (omega arith) (omega arith); depth = w.depth; half = tt }
      split false (suc c) e = tt

  branch-safe : SafeAct (at inside (suc d)) (branch_act i μ)
  unfolding branch_act
  branch-safe = split (leb max_depth μ.st.depth) refl
    where
      split : (t : Bool) → leb max_depth μ.st.depth ≡ t → SafeAct (at inside (suc d)) (pick t (refuses 6 i) (keeps (moved (opened μ.st) μ)))
      split true e = tt
      split false e = record { bounded = opened-bounded w.bounded (leb-false max_depth μ.st.depth e); depth = deeper; half = tt }
        where
          deeper : (opened μ.st).depth ≡ suc d
          deeper = opened-depth μ.st ∙ omega (arith, w.depth)

  unbranch-safe : (e : ℕ) → d ≡ suc e → Safe (seq plain) e (moved (closed μ.st) μ)
  unbranch-safe e q = record { bounded = closed-bounded w.bounded (omega (arith, w.depth)); depth = closed-depth μ.st ∙ omega (arith, w.depth); half = tt }

  outside : (b : ℕ) → Outside SafeAct d i μ b
  outside b =
      record {
        atom = atom-safe b;
        bridge = λ r p h l. bridge-safe r p l;
        symbol = calm bond _ refl tt;
        joint = calm atomNext _ refl tt;
        branch = branch-safe;
        unbranch = unbranch-safe;
        sign = calm percent μ refl tt;
        tens = λ t l u. calm percent1 (counting t μ) refl u;
      }

  second : (e : ℕ) → Safe (seq plain) d (described (bare_row e 0) μ)
  second e = calm (seq plain) (described (bare_row e 0) μ) refl tt

  -- ---- in a bracket
  close-safe : (b : ℕ) (ν : Memory) → ν.st ≡ μ.st → SafeAt (turn (machine.closing b) d) ν
  unfolding machine.closing
  close-safe b ν e = split (eqb b 93)
    where
      split : (t : Bool) → SafeAt (turn (pick t (to (seq plain)) stop) d) ν
      split true = calm (seq plain) ν e tt
      split false = tt

  closed-safe : (b : ℕ) → SafeAct (turn (machine.closing b) d) (close_act b μ)
  closed-safe b = by-test (SafeAt (turn (machine.closing b) d)) (eqb b 93) (described (row_of μ.draft) μ) μ (λ e. close-safe b (described (row_of μ.draft) μ) refl) (λ e. close-safe b μ refl)

  module _ (x : μ.draft.extension ≡ 0) where
    extend-safe : (b : ℕ) → SafeAct (turn (machine.extending b) d) (close_act b μ)
    unfolding machine.extending
    extend-safe b = split (eqb b 58)
      where
        split : (t : Bool) → SafeAct (turn (pick t (to colon) (machine.closing b)) d) (close_act b μ)
        split true = by-test (Safe colon d) (eqb b 93) (described (row_of μ.draft) μ) μ (λ e. calm colon (described (row_of μ.draft) μ) refl x) (λ e. calm colon μ refl x)
        split false = closed-safe b

    charge-safe : (b : ℕ) → SafeAct (turn (machine.charging b) d) (charge_act b μ)
    unfolding machine.charging
    charge-safe b = split (among b signs)
      where
        split : (t : Bool) → SafeAct (turn (pick t (to sign) (machine.extending b)) d) (pick t (keeps (drafted (fields.charged (signed (eqb b 43) 1) μ.draft) μ)) (close_act b μ))
        split true = calm sign (drafted (fields.charged (signed (eqb b 43) 1) μ.draft) μ) refl x
        split false = extend-safe b

    hydrate-safe : (b : ℕ) → SafeAct (turn (machine.hydrating b) d) (hydrogen_act b μ)
    unfolding machine.hydrating
    hydrate-safe b = split (eqb b 72)
      where
        split : (t : Bool) → SafeAct (turn (pick t (to hydrogen) (machine.charging b)) d) (pick t (keeps (drafted (hydrogened 1 μ.draft) μ)) (charge_act b μ))
        split true = calm hydrogen (drafted (hydrogened 1 μ.draft) μ) refl x
        split false = charge-safe b

    first-mark : (b : ℕ) → SafeAct (turn (machine.marking b) d) (mark_act 1 b μ)
    unfolding machine.marking
    first-mark b = split (eqb b 64)
      where
        split : (t : Bool) → SafeAct (turn (pick t (to at1) (machine.hydrating b)) d) (pick t (keeps (drafted (marked 1 μ.draft) μ)) (hydrogen_act b μ))
        split true = calm at1 (drafted (marked 1 μ.draft) μ) refl x
        split false = hydrate-safe b

    second-mark : (b : ℕ) → SafeAct (turn (next at1 b) d) (mark_act 2 b μ)
    unfolding next
    second-mark b = split (eqb b 64)
      where
        split : (t : Bool) → SafeAct (turn (pick t (to at2) (machine.hydrating b)) d) (pick t (keeps (drafted (marked 2 μ.draft) μ)) (hydrogen_act b μ))
        split true = calm at2 (drafted (marked 2 μ.draft) μ) refl x
        split false = hydrate-safe b

    symbol-safe : (a b : ℕ) → SafeAct (turn (next (symbol1 a) b) d) (mode_act (symbol1 a) b i μ)
    unfolding next mode_act
    symbol-safe a b = split (listed (a ∷ b ∷ []) symbols) (listed (a ∷ []) symbols)
      where
        split : (t u : Bool) → SafeAct (turn (pick t (to symbolled) (pick u (machine.marking b) stop)) d) (pick t (keeps (drafted (elemented (number_of (a ∷ b ∷ [])) 0 μ.draft) μ)) (mark_act 1 b μ))
        split true u = calm symbolled (drafted (elemented (number_of (a ∷ b ∷ [])) 0 μ.draft) μ) refl x
        split false true = first-mark b
        split false false = dies (mark_act 1 b μ)

    hydrogen-safe : (b : ℕ) → SafeAct (turn (next hydrogen b) d) (mode_act hydrogen b i μ)
    unfolding next mode_act
    hydrogen-safe b = split (among b several)
      where
        split : (t : Bool) → SafeAct (turn (pick t (to hydrogens) (machine.charging b)) d) (pick t (keeps (drafted (hydrogened (digit b) μ.draft) μ)) (charge_act b μ))
        split true = calm hydrogens (drafted (hydrogened (digit b) μ.draft) μ) refl x
        split false = charge-safe b

    sign-safe : (b : ℕ) → SafeAct (turn (next sign b) d) (mode_act sign b i μ)
    unfolding next mode_act
    sign-safe b = split (among b several)
      where
        split : (t : Bool) → SafeAct (turn (pick t (to charged) (machine.extending b)) d) (pick t (keeps (drafted (fields.charged (signed (positive μ.draft.charge) (digit b)) μ.draft) μ)) (close_act b μ))
        split true = calm charged (drafted (fields.charged (signed (positive μ.draft.charge) (digit b)) μ.draft) μ) refl x
        split false = extend-safe b

    -- the symbol's first byte, or a digit, of which k tells
    isotope-safe : (b : ℕ) (k : Move) → (among b digits ≡ true → SafeAt (turn k d) (drafted (isotoped b μ.draft) μ)) → (among b digits ≡ false → k ≡ stop) → SafeAct (turn (symbol_or b k) d) (isotope_act b μ)
    unfolding symbol_or
    isotope-safe b k on off = split (starts b symbols) (among b marks)
      where
        named : (m : Mode) → ((f : Fields) → f.extension ≡ 0 → Half m μ.tens f) → (t : Bool) → Safe m d (drafted (pick t (isotoped b μ.draft) (fields.symbolled b μ.draft)) μ)
        named m h true = calm m (drafted (isotoped b μ.draft) μ) refl (h (isotoped b μ.draft) x)
        named m h false = calm m (drafted (fields.symbolled b μ.draft) μ) refl (h (fields.symbolled b μ.draft) (symbolled-extension b μ.draft ∙ x))

        more : (t : Bool) → among b digits ≡ t → SafeAt (turn k d) (drafted (pick t (isotoped b μ.draft) (fields.symbolled b μ.draft)) μ)
        more true e = on e
        more false e = rw (off e) tt

        split : (t u : Bool) → SafeAct (turn (pick t (to (symbol1 b)) (pick u (to symbolled) k)) d) (isotope_act b μ)
        split true u = named (symbol1 b) (λ f h. h) (among b digits)
        split false true = named symbolled (λ f h. h) (among b digits)
        split false false = more (among b digits) refl

    bracket-safe : μ.draft.isotope ≡ 0 → (b : ℕ) → SafeAct (turn (next bracket b) d) (mode_act bracket b i μ)
    unfolding next mode_act
    bracket-safe z b = isotope-safe b (pick (among b nonzero) (to (isotope 2)) stop) (λ h. on (among b nonzero) refl) (λ h. off (among b nonzero) refl h)
      where
        on : (t : Bool) → among b nonzero ≡ t → SafeAt (turn (pick t (to (isotope 2)) stop) d) (drafted (isotoped b μ.draft) μ)
        on true e =
            let n = nonzero-digit b e in
            calm (isotope 2) (drafted (isotoped b μ.draft) μ) refl (iso-first μ.draft.isotope (digit b) (omega arith) n.0 n.1, omega (arith, n.1), x)
        on false e = tt

        off : (t : Bool) → among b nonzero ≡ t → among b digits ≡ false → pick t (to (isotope 2)) stop ≡ stop
        off true e h = never (sym h ∙ nonzero-is-digit b e)
        off false e h = refl

    digit-safe : (k b : ℕ) → isotope_mode μ.draft.isotope ≡ isotope k → SafeAct (turn (next (isotope k) b) d) (mode_act (isotope k) b i μ)
    unfolding next mode_act
    digit-safe zero b h = isotope-safe b stop (λ h. tt) (λ h. refl)
    digit-safe (suc k) b h = isotope-safe b (pick (among b digits) (to (isotope k)) stop) (λ e. on (among b digits) refl) (λ e. rw e)
      where
        on : (t : Bool) → among b digits ≡ t → SafeAt (turn (pick t (to (isotope k)) stop) d) (drafted (isotoped b μ.draft) μ)
        on true e = calm (isotope k) (drafted (isotoped b μ.draft) μ) refl (iso-next k μ.draft.isotope (digit b) h (any-digit b e), omega (arith, iso-small k μ.draft.isotope h, any-digit b e), x)
        on false e = tt

    first-extension : (b : ℕ) → SafeAct (turn (next colon b) d) (mode_act colon b i μ)
    unfolding next mode_act
    first-extension b = split (among b nonzero) refl
      where
        split : (t : Bool) → among b nonzero ≡ t → SafeAct (turn (pick t (to (extension 3)) stop) d) (keeps (drafted (fields.extended b μ.draft) μ))
        split true e =
            let n = nonzero-digit b e in
            calm (extension 3) (drafted (fields.extended b μ.draft) μ) refl (ext-first μ.draft.extension (digit b) (omega arith) n.0 n.1, omega (arith, n.1))
        split false e = tt

  extension-digit : (k b : ℕ) → extension_mode μ.draft.extension ≡ extension k → SafeAct (turn (next (extension k) b) d) (mode_act (extension k) b i μ)
  unfolding next mode_act
  extension-digit zero b h = by-test (SafeAct (turn (machine.closing b) d)) (among b digits) (keeps (drafted (fields.extended b μ.draft) μ)) (close_act b μ) (λ e. close-safe b (drafted (fields.extended b μ.draft) μ) refl) (λ e. closed-safe b)
  extension-digit (suc k) b h = split (among b digits) refl
    where
      split : (t : Bool) → among b digits ≡ t → SafeAct (turn (pick t (to (extension k)) (machine.closing b)) d) (pick t (keeps (drafted (fields.extended b μ.draft) μ)) (close_act b μ))
      split true e = calm (extension k) (drafted (fields.extended b μ.draft) μ) refl (ext-next k μ.draft.extension (digit b) h (any-digit b e), omega (arith, ext-small k μ.draft.extension h, any-digit b e))
      split false e = closed-safe b

-- ---- every byte
module _ {i : ℕ} {μ : Memory} (within : i < max_text) where
  mode-safe : (m : Mode) {d : ℕ} → Safe m d μ → (b : ℕ) → alive (turn (next m b) d) ≡ true → SafeAct (turn (next m b) d) (mode_act m b i μ)
  unfolding next mode_act
  mode-safe (seq x) {d} w b v = in_sequence SafeAct d i μ b (outside d i μ w within b) x (λ z e l. second d i μ w within e) v
  mode-safe bond {d} w b v = in-bond SafeAct d i μ b (outside d i μ w within b) v
  mode-safe atomNext {d} w b v = only-atom SafeAct d i μ b (outside d i μ w within b).atom v
  mode-safe inside {d} w b v = in_branch SafeAct d i μ b (outside d i μ w within b) v
  mode-safe percent {d} w b v = in-percent SafeAct d i μ b (outside d i μ w within b) v
  mode-safe percent1 {d} w b v = in-percent1 SafeAct d i μ b (outside d i μ w within b) w.half v
  mode-safe letterA {d} w b v = second-letter SafeAct d i μ b 85 (eqb b 116) (λ e. second d i μ w within 85) v
  mode-safe letterT {d} w b v = second-letter SafeAct d i μ b 117 (eqb b 115) (λ e. second d i μ w within 117) v
  mode-safe bracket {d} w b v = bracket-safe d i μ w within w.half.1 w.half.0 b
  mode-safe (isotope k) {d} w b v = digit-safe d i μ w within w.half.2 k b w.half.0
  mode-safe (symbol1 a) {d} w b v = symbol-safe d i μ w within w.half a b
  mode-safe symbolled {d} w b v = first-mark d i μ w within w.half b
  mode-safe at1 {d} w b v = second-mark d i μ w within w.half b
  mode-safe at2 {d} w b v = hydrate-safe d i μ w within w.half b
  mode-safe hydrogen {d} w b v = hydrogen-safe d i μ w within w.half b
  mode-safe hydrogens {d} w b v = charge-safe d i μ w within w.half b
  mode-safe sign {d} w b v = sign-safe d i μ w within w.half b
  mode-safe charged {d} w b v = extend-safe d i μ w within w.half b
  mode-safe colon {d} w b v = first-extension d i μ w within w.half b
  mode-safe (extension k) {d} w b v = extension-digit d i μ w within k b w.half.0

  pub byte-safe : (m : Mode) {d : ℕ} → Safe m d μ → (b : ℕ) → alive (step (at m d) b) ≡ true → SafeAct (step (at m d) b) (act (at m d) b i μ)
  unfolding step act
  byte-safe m w b v = mode-safe m w b v

  -- before the first atom the machine steps as it does after a dot
  pub start-safe : Safe atomNext 0 μ → (b : ℕ) → alive (step start b) ≡ true → SafeAct (step start b) (act start b i μ)
  unfolding step act
  start-safe w b v = only-atom SafeAct 0 i μ b (outside 0 i μ w within b).atom v
