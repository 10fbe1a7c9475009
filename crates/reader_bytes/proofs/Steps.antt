-- A byte's step is reading's own, and leaves a reading that is safe and has an atom. Assumes nothing.
use Prim.Native.Nat.{ℕ, zero, suc, ◌+◌, ◌-◌, ◌≤◌, ◌<◌}
use native.Mathlib.Omega.{arith}
use mathlib.Core.Path.{◌≡◌, refl, sym, ap, ◌∙◌, subst}
use mathlib.Core.Bool.{Bool, true, false, ◌&&◌}
use lib.Dec.{eqb, leb}
use lib.ListN.{get_or}
use borrow.Author.Tests.{ne_eqb, eqb-true, eqb-false}
use Rattle.loops.specs.Loop.{pick}
use Rattle.element.specs.declared.Letter.{Letter}
use Rattle.element.specs.Lookup.{letter_of}
use Rattle.ids.specs.Limits.{max_text, max_depth}
use Rattle.table.specs.Limits.{max_atoms, max_bonds}
use Rattle.reading_grammar.specs.declared.Last.TheVariants.{Plain as plain}
use Rattle.reading_grammar.specs.declared.Mode.{Mode}
use Rattle.reading_grammar.specs.declared.Mode.TheVariants.{Seq as seq, Bond as bond, AtomNext as atomNext, Inside as inside, Percent as percent, Percent1 as percent1, LetterA as letterA, LetterT as letterT, Bracket as bracket, Isotope as isotope, Symbol1 as symbol1, Symbolled as symbolled, At1 as at1, At2 as at2, Hydrogen as hydrogen, Hydrogens as hydrogens, Sign as sign, Charged as charged, Colon as colon, Extension as extension}
use Rattle.reading_grammar.specs.declared.Move.{Move}
use Rattle.reading_grammar.specs.declared.Move.TheVariants.{Stop as stop, To as to, Up as up, Down as down}
use Rattle.reading_grammar.specs.declared.MachineState.{MachineState}
use Rattle.reading_grammar.specs.declared.MachineState.TheVariants.{Dead as dead, Start as start, At as at}
use Rattle.reading_grammar.specs.Machine.{next, step, turn, alive}
use Rattle.reading_grammar.specs.Fold.{keeps, refuses, going, halted, after, feed}
use Rattle.reading_state.specs.State.{Steering, bridged, keys_after, joined, opened, closed}
use Rattle.reading_state.specs.declared.Fields.{Fields}
use Rattle.reading.specs.Memory.{Memory, kind_of, bonded, begun, moved, close_refusal}
use Rattle.reading.specs.Act.{Acts, act, atom_act, first_byte_of, bridge_act, bridge_bond, branch_act, or_refuse, mode_act}
use Rattle.reading.proofs.Letters.{Begins}
use Rattle.reading.proofs.Dispatch.{only-atom}
use Rattle.reading_pieces.specs.Safe.{Bounded, Half, Safe}
use Rattle.reading_pieces.proofs.Safe.{SafeAct, byte-safe, ext-small}
use Rattle.reading_deeds.specs.declared.Deed.{Deed}
use Rattle.reading_deeds.specs.Deed.{beginning, performed, Fitting, Does}
use Rattle.reader_bytes.specs.declared.Head.{Head}
use Rattle.std.specs.Prelude.{Option, Some, None, Result, Ok, Err}
use Rattle.reader.specs.declared.answer.TextRefusal.{TextRefusal}
use Rattle.reader_bytes.specs.Step.{Lent, steering_in, memory_in, machine_in, reading_in, Ready, RefusesAt, Steps}
use Rattle.reader_bytes.specs.Parts.{in_mode, Went, Performs, Leads}

-- ---- where a move leads
pub leads-to : {o : Move} (d : ℕ) {m : Mode} → o ≡ to m → Leads o d (Some m)
leads-to d e = (d, rw e)

pub leads-up : {o : Move} (d : ℕ) → o ≡ up → Leads o d (Some inside)
leads-up d e = (suc d, rw e)

pub leads-down : {o : Move} (d : ℕ) → o ≡ down → (d ≡ 0 → ⊥) → Leads o d (Some (seq plain))
leads-down zero e n = absurd (n refl)
leads-down (suc d) e n = (d, rw e)

-- ---- the atoms are at least n
abbrev More : ℕ → Acts → Type 0
More n (keeps μ) = n ≤ μ.st.atoms
More n (refuses c p) = Unit {0}

or-refused : (n i : ℕ) (μ : Memory) (t u : Bool) → n ≤ μ.st.atoms → More n (pick t (refuses 4 i) (pick u (refuses 5 i) (keeps μ)))
or-refused n i μ true u h = tt
or-refused n i μ false true h = tt
or-refused n i μ false false h = h

letter-more : (l : Letter) (μ : Memory) → μ.st.atoms ≤ (first_byte_of l μ).st.atoms
unfolding begun
letter-more (Letter.Plain e) μ = omega arith
letter-more (Letter.Selected e) μ = omega arith
letter-more Letter.Half μ = omega arith
letter-more Letter.Bracket μ = omega arith
letter-more Letter.Nothing μ = omega arith

bridge-more : (r p : ℕ) (μ : Memory) → More μ.st.atoms (bridge_act r p μ)
unfolding bridge_act joined
bridge-more r p μ = split (eqb (get_or μ.st.opener r 0) 0) (close_refusal μ.bonds μ.st.bonds (get_or μ.st.opener r 0 - 1) μ.st.hub.0 (get_or μ.st.symbol r 0) (kind_of μ.pending))
  where
    split : (t : Bool) (c : ℕ)
        → let s : Steering = pick t (bridged μ.st r (μ.st.hub.0 + 1) (kind_of μ.pending) p μ.st.bonds μ.st.keys) (bridged μ.st r 0 0 0 (μ.st.bonds + 1) (keys_after μ.st r p)) in
        More μ.st.atoms (pick t (keeps (moved s μ)) (or_refuse c p (moved s (bridge_bond r μ))))
    split true c = omega arith
    split false zero = omega arith
    split false (suc c) = tt

more : (d : Deed) (i : ℕ) (μ : Memory) → More μ.st.atoms (performed d i μ)
unfolding beginning branch_act opened closed
more Deed.Keep i μ = omega arith
more (Deed.Atom l) i μ = or-refused μ.st.atoms i (first_byte_of l μ) (leb max_atoms μ.st.atoms) (bonded μ && leb max_bonds μ.st.bonds) (letter-more l μ)
more (Deed.Second e) i μ = omega arith
more (Deed.Bridge r k) i μ = bridge-more r (i - k) μ
more (Deed.Joint k) i μ = omega arith
more Deed.Open i μ = split (leb max_depth μ.st.depth)
  where
    split : (t : Bool) → More μ.st.atoms (pick t (refuses 6 i) (keeps (moved (opened μ.st) μ)))
    split true = tt
    split false = omega arith
more Deed.Close i μ = omega arith
more (Deed.Tens t) i μ = omega arith
more (Deed.Draft f) i μ = omega arith
more Deed.Row i μ = omega arith

some : (n : ℕ) (a : Acts) → (n ≡ 0 → ⊥) → More n a → More 1 a
some zero a z m = absurd (z refl)
some (suc n) (keeps μ) z m = omega arith
some (suc n) (refuses c p) z m = tt

-- the first atom is one more
first_more : {l : Letter} {o : Move} (μ : Memory) → Begins l o → 1 ≤ (first_byte_of l μ).st.atoms
unfolding begun
first_more μ (Begins.plain s) = omega arith
first_more μ (Begins.selected s t) = omega arith
first_more μ Begins.letter-a = omega arith
first_more μ Begins.letter-t = omega arith
first_more μ Begins.opening = omega arith

atom-more : (b i d : ℕ) (μ : Memory) → alive (turn (next atomNext b) d) ≡ true → More 1 (mode_act atomNext b i μ)
unfolding next mode_act atom_act
atom-more b i d μ v = only-atom (λ τ a. More 1 a) d i μ b (λ o w. or-refused 1 i (first_byte_of (letter_of b) μ) (leb max_atoms μ.st.atoms) (bonded μ && leb max_bonds μ.st.bonds) (first_more μ w)) v

-- ---- a digit more fits
pub fitting : (m : Mode) (t : ℕ) (f : Fields) → Half m t f → Fitting m t f
fitting (seq x) t f w = tt
fitting bond t f w = tt
fitting atomNext t f w = tt
fitting inside t f w = tt
fitting percent t f w = tt
fitting percent1 t f w = w
fitting letterA t f w = tt
fitting letterT t f w = tt
fitting bracket t f w = omega (arith, w.0)
fitting (isotope k) t f w = w.1
fitting (symbol1 a) t f w = tt
fitting symbolled t f w = tt
fitting at1 t f w = tt
fitting at2 t f w = tt
fitting hydrogen t f w = tt
fitting hydrogens t f w = tt
fitting sign t f w = tt
fitting charged t f w = tt
fitting colon t f w = omega arith
fitting (extension zero) t f w = λ n. absurd (n refl)
fitting (extension (suc k)) t f w = λ n. ext-small k f.extension w.0

-- the mode is nothing that bounds the state
pub moved-bounded : (h : Head) (l : Lent) {g : Head} {m : Mode} → Ready h l → g ≡ in_mode h m → Bounded (steering_in g l)
moved-bounded h l w e = rw e w.safe.bounded

-- ---- the step
module _ (h : Head) (l : Lent) (w : Ready h l) (b p : ℕ) where
  -- before the first atom the machine steps and acts as it does after a dot
  machine-steps : step (machine_in h) b ≡ turn (next h.mode b) h.depth
  unfolding step next
  machine-steps = split (eqb h.atoms 0) refl
    where
      split : (t : Bool) → eqb h.atoms 0 ≡ t → step (pick t start (at h.mode h.depth)) b ≡ turn (next h.mode b) h.depth
      split true e = let z = eqb-true h.atoms 0 e in rw (w.waits z, w.shallow z)
      split false e = refl

  machine-acts : act (machine_in h) b p (memory_in h l) ≡ mode_act h.mode b p (memory_in h l)
  unfolding act mode_act
  machine-acts = split (eqb h.atoms 0) refl
    where
      split : (t : Bool) → eqb h.atoms 0 ≡ t → act (pick t start (at h.mode h.depth)) b p (memory_in h l) ≡ mode_act h.mode b p (memory_in h l)
      split true e = rw (w.waits (eqb-true h.atoms 0 e))
      split false e = refl

  fed : feed act p (reading_in h l) b ≡ pick (alive (turn (next h.mode b) h.depth)) (after (turn (next h.mode b) h.depth) (mode_act h.mode b p (memory_in h l))) (halted 3 p)
  unfolding feed
  fed = rw (machine-steps, machine-acts)

  module _ {o : Move} (eo : o ≡ next h.mode b) {y : Option Mode} (ey : Leads o h.depth y) where
    pub grammar-refused : y ≡ None → RefusesAt p b (reading_in h l) 3 p
    grammar-refused e = let q : turn (next h.mode b) h.depth ≡ dead = rw eo at (subst (Leads o h.depth) e ey) in record { is = fed ∙ rw q; early = omega arith }

    module _ {m : Mode} (e : y ≡ Some m) where
      led : (k : ℕ) × (turn (next h.mode b) h.depth ≡ at m k)
      led = rw eo at (subst (Leads o h.depth) e ey)

      pub goes_on : next h.mode b ≡ stop → ⊥
      goes_on z = let q = led.1 in let u : ◌≡◌ {A = MachineState} dead (at m led.0) = rw z at q in let v : ◌≡◌ {A = ℕ} 0 1 = cc in omega arith

      living : alive (turn (next h.mode b) h.depth) ≡ true
      living = ap alive led.1

      module _ (within : p < max_text) {r : Deed} (does : Does h.mode b h.tens h.draft r) where
        acted : mode_act h.mode b p (memory_in h l) ≡ performed r p (memory_in h l)
        acted = does.is p (memory_in h l) refl refl

        safe : SafeAct (at m led.0) (performed r p (memory_in h l))
        unfolding step act
        safe = subst (λ (x : Acts). SafeAct (at m led.0) x) acted (subst (λ (τ : MachineState). SafeAct τ (mode_act h.mode b p (memory_in h l))) led.1 (byte-safe within h.mode w.safe b living))

        atoms : More 1 (performed r p (memory_in h l))
        atoms = split (eqb h.atoms 0) refl
          where
            split : (t : Bool) → eqb h.atoms 0 ≡ t → More 1 (performed r p (memory_in h l))
            split true q = let z = w.waits (eqb-true h.atoms 0 q) in subst (More 1) acted (rw z (atom-more b p h.depth (memory_in h l) (rw z at living)))
            split false q = some h.atoms (performed r p (memory_in h l)) (eqb-false h.atoms 0 q) (more r p (memory_in h l))

        module _ {h' : Head} (eh : h' ≡ in_mode h m) (l' : Lent) where
          gone : (x : Result Head TextRefusal) → Went h' (performed r p (memory_in h' l)) p l' x → Steps p b (reading_in h l) l' x
          gone (Ok g) v =
              let is : performed r p (memory_in h l) ≡ keeps (memory_in g l') = rw eh at v.is in
              let same : g.mode ≡ m = rw eh at v.mode in
              let k : ℕ = led.0 in
              let s : Safe m k (memory_in g l') = subst (SafeAct (at m k)) is safe in
              let n : 1 ≤ g.atoms = subst (More 1) is atoms in
              let there : machine_in g ≡ at m k = rw (ne_eqb g.atoms 0 (λ z. omega arith), same, s.depth) in
              record {
                is = fed ∙ rw (led.1, acted, is) (ap (λ (τ : MachineState). going τ (memory_in g l')) (sym there));
                ready = record {
                  safe = subst (λ (j : ℕ). Safe g.mode j (memory_in g l')) (sym s.depth) (subst (λ (x : Mode). Safe x k (memory_in g l')) (sym same) s);
                  waits = λ z. absurd (omega arith);
                  shallow = λ z. absurd (omega arith);
                };
              }
          gone (Err e) v = record { is = fed ∙ rw (led.1, acted, rw eh at v.0); early = v.1 }

          pub stepped : {x : Result Head TextRefusal} → Performs h' (performed r p (memory_in h' l)) p l' x → Steps p b (reading_in h l) l' x
          stepped {x} v = gone x v.went
