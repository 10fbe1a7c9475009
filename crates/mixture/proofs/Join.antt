-- The first text, the dot and the second text: what stands in the memory at the end. Assumes nothing.
use Prim.Native.Nat.{ℕ, zero, suc, ◌+◌, ◌*◌}
use native.Mathlib.Omega.{arith}
use mathlib.Core.Path.{◌≡◌, refl, sym, ap, subst, ◌∙◌}
use mathlib.Core.Bool.{true, not}
use mathlib.Core.List.{List, [], ◌∷◌, map}
use lib.ListN.{get_or, replicate, length-map, get_or-map, length-replicate}
use lib.Seq.{ext_get_or}
use lib.IntN.{ℤ}
use lib.Dec.{eqb}
use Rattle.loops.proofs.Loops.{repeated-at}
use Rattle.element.specs.Symbols.{among, letters}
use Rattle.element.specs.Lookup.{letter_of, selected_of}
use Rattle.reading_grammar.specs.Grammar.{nonzero, bond_symbols}
use Rattle.reading_grammar.specs.declared.Last.{Last}
use Rattle.reading_grammar.specs.declared.Last.TheVariants.{Plain as plain, AfterC as afterC, AfterB as afterB}
use Rattle.reading_grammar.specs.declared.Mode.TheVariants.{Seq as seq, Bond as bond, AtomNext as atomNext, Inside as inside, Percent as percent, Percent1 as percent1, LetterA as letterA, LetterT as letterT, Bracket as bracket, Isotope as isotope, Symbol1 as symbol1, Symbolled as symbolled, At1 as at1, At2 as at2, Hydrogen as hydrogen, Hydrogens as hydrogens, Sign as sign, Charged as charged, Colon as colon, Extension as extension}
use Rattle.reading_grammar.specs.declared.MachineState.{MachineState}
use Rattle.reading_grammar.specs.declared.MachineState.TheVariants.{Dead as dead, Start as start, At as at}
use Rattle.reading_grammar.specs.Machine.{alive, accepting, resting, step, next, atom_or, bridge_or}
use Rattle.reading_grammar.specs.Fold.{keeps, going, read}
use Rattle.reading_grammar.proofs.Ends.{never}
use Rattle.table.specs.Valid.{enough}
use Rattle.ids.specs.Limits.{bridges}
use Rattle.reading_state.specs.State.{key_count, started}
use Rattle.reading.specs.Memory.{Memory, dotted, awaiting}
use Rattle.reading.specs.Act.{atom_act, mode_act, act}
use Rattle.reading.specs.Read.{zeros, beginning}
use Rattle.reading.proofs.Sane.{Sane}
use Rattle.reading.proofs.Dispatch.{Second}
use Rattle.reading.proofs.Atoms.{Ready, ready, ready-start, held_of}
use Rattle.reading.proofs.Step.{sane-beginning, sane-going}
use Rattle.mixture.proofs.Behind.{raised, Grounded, Clear, Grown, Room, Both}
use Rattle.mixture.proofs.Steps.{Jointly, atom-both}
use Rattle.mixture.proofs.Bridges.{and_none}
use Rattle.mixture.proofs.Modes.{only-atom}
use Rattle.mixture.proofs.Follow.{taken, takes, sane-taken, not_start, percent-first, grown-on, read-grown, room-before, Step, step_of, Followed, follows}

-- ---- from the first atom on
-- a memory over zeroed tables, and one in which the next atom begins a piece
module _ (b : ℕ) (s : List ℕ) {n m p q p' q' d j : ℕ} {φ : List ℕ} {σ τ : MachineState} {μ ν κ : Memory} (h : Sane p q start 0 μ) (k : Sane p' q' σ j κ) (ready-behind : Ready p' q' d j κ) (g : Grounded n m j φ μ κ) (jointly : Jointly n μ κ)
    (alike : step σ b ≡ step start b) (acts : act σ b j κ ≡ atom_act b j κ) (e : read act 0 (going start μ) (b ∷ s) ≡ going τ ν) where
  begun-alike : alive (step start b) ≡ true → Both n m j φ μ (act start b 0 μ) (atom_act b j κ)
  unfolding step act
  begun-alike v = atom-both (ready-start h) ready-behind g jointly b 0 j (only-atom b 0 v)

  -- the counts and the keys after it
  pub start-grown : Grown μ ν
  start-grown =
      let x = taken 0 b start μ s e in
      grown-on (subst (λ a. Both n m j φ μ a (atom_act b j κ)) x.kept (begun-alike x.lives)).0 (read-grown s (not_start start b) (sane-taken b h x.lives x.kept) x.rest)

  pub follows-start : Room n m ν → Followed n m j φ τ ν (read act j (going σ κ) (b ∷ s))
  follows-start r =
      let x = taken 0 b start μ s e in
      let hx = sane-taken b h x.lives x.kept in
      let grown = read-grown s (not_start start b) hx x.rest in
      let y : Step n m j φ j σ b κ x.memory = step_of (atom_act b j κ) acts ((subst (λ a. Both n m j φ μ a (atom_act b j κ)) x.kept (begun-alike x.lives)).1 (room-before grown r)) in
      let lives : alive (step σ b) ≡ true = ap alive alike ∙ x.lives in
      let ky : Sane p' q' (step start b) (suc j) y.memory = subst (λ (c : MachineState). Sane p' q' c (suc j) y.memory) alike (sane-taken b k lives y.kept) in
      subst (Followed n m j φ τ ν) (sym (takes j b σ κ s lives y.kept))
      (subst (λ (c : MachineState). Followed n m j φ τ ν (read act (suc j) (going c y.memory) s)) (sym alike) (follows s (not_start start b) hx ky y.behind (omega arith) (omega arith) (percent-first j b 1 (suc j) x.memory y.memory) x.rest r))

-- ---- the beginning
started-act : (b : ℕ) (κ : Memory) → act start b 0 κ ≡ atom_act b 0 κ
unfolding act
started-act b κ = refl

-- the same text into other tables
module _ (A₁ B₁ A B : List ℤ) (long₁ : enough A₁ B₁ ≡ true) (long : enough A B ≡ true) where
  started-alike : Grounded 0 0 0 [] (beginning (zeros A₁) (zeros B₁)) (beginning (zeros A) (zeros B))
  unfolding started
  started-alike =
      record {
        atoms_count = refl;
        bonds_count = refl;
        depth = refl;
        stack = λ k l. absurd (omega arith);
        opener = no-openers;
        symbol = λ r l. refl;
        offset = λ r l. omega arith;
        front = λ c l. absurd (omega arith);
        keys = λ c. repeated-at {A = ℕ} key_count (2 * 0 + c) 0 ∙ sym (ap (raised 0) (repeated-at {A = ℕ} key_count c 0));
        outside = λ a l. absurd (omega arith);
        atom_rows = λ a l. absurd (omega arith);
        bond_rows = record { inside = λ b l. absurd (omega arith); first_bonds = λ b l. refl; second_bonds = λ b l. absurd (omega arith) };
      }
    where
      no-openers : replicate bridges 0 ≡ map (raised 0) (replicate bridges 0)
      no-openers = refl

  jointly-started : Jointly 0 (beginning (zeros A₁) (zeros B₁)) (beginning (zeros A) (zeros B))
  jointly-started = record { alike = refl; hub = λ b. omega arith; kind = λ b. refl }

  pub other-tables : (b : ℕ) (s : List ℕ) {τ : MachineState} {ν : Memory} → read act 0 (going start (beginning (zeros A₁) (zeros B₁))) (b ∷ s) ≡ going τ ν → Followed 0 0 0 [] τ ν (read act 0 (going start (beginning (zeros A) (zeros B))) (b ∷ s))
  other-tables b s {τ} {ν} e =
      follows-start b s (sane-beginning A₁ B₁ long₁) (sane-beginning A B long) (ready-start (sane-beginning A B long)) started-alike jointly-started refl (started-act b (beginning (zeros A) (zeros B))) e room
    where
      room : Room 0 0 ν
      room =
          let t = (sane-going (b ∷ s) (sane-beginning A₁ B₁ long₁) e).tables in
          record { atoms = omega (arith, t.atoms_few); bonds = omega (arith, t.bonds_few) }

  -- no key is behind those of the bonds
  pub read-clear : (b : ℕ) (s : List ℕ) {τ : MachineState} {ν : Memory} → read act 0 (going start (beginning (zeros A₁) (zeros B₁))) (b ∷ s) ≡ going τ ν → Clear ν
  unfolding started
  read-clear b s e =
      (start-grown b s (sane-beginning A₁ B₁ long₁) (sane-beginning A B long) (ready-start (sane-beginning A B long)) started-alike jointly-started refl (started-act b (beginning (zeros A) (zeros B))) e).clear (λ c l. repeated-at {A = ℕ} key_count c 0)

-- ---- the dot
pub ends-sequence : (σ : MachineState) → accepting σ ≡ true → (σ ≡ start → ⊥) → (x : Last) × (σ ≡ at (seq x) 0)
unfolding accepting resting
ends-sequence dead a n = never a
ends-sequence start a n = absurd (n refl)
ends-sequence (at (seq x) zero) a n = (x, refl)
ends-sequence (at (seq x) (suc d)) a n = never a
ends-sequence (at bond d) a n = never a
ends-sequence (at atomNext d) a n = never a
ends-sequence (at inside d) a n = never a
ends-sequence (at percent d) a n = never a
ends-sequence (at percent1 d) a n = never a
ends-sequence (at letterA d) a n = never a
ends-sequence (at letterT d) a n = never a
ends-sequence (at bracket d) a n = never a
ends-sequence (at (isotope y) d) a n = never a
ends-sequence (at (symbol1 y) d) a n = never a
ends-sequence (at symbolled d) a n = never a
ends-sequence (at at1 d) a n = never a
ends-sequence (at at2 d) a n = never a
ends-sequence (at hydrogen d) a n = never a
ends-sequence (at hydrogens d) a n = never a
ends-sequence (at sign d) a n = never a
ends-sequence (at charged d) a n = never a
ends-sequence (at colon d) a n = never a
ends-sequence (at (extension y) d) a n = never a

dot-step : (x : Last) (d : ℕ) → step (at (seq x) d) 46 ≡ at atomNext d
unfolding step next atom_or bridge_or among letters nonzero bond_symbols
dot-step x d = refl

dot-act : (x : Last) (d i : ℕ) (μ : Memory) → act (at (seq x) d) 46 i μ ≡ keeps (awaiting dotted μ)
unfolding act mode_act letter_of selected_of among letters nonzero bond_symbols
dot-act x d i μ = refl

-- after the dot an atom must come, as at the start
after_dot : (b : ℕ) → step (at atomNext 0) b ≡ step start b
unfolding step next
after_dot b = refl

dotted-act : (b i : ℕ) (κ : Memory) → act (at atomNext 0) b i κ ≡ atom_act b i κ
unfolding act mode_act
dotted-act b i κ = refl

pub no_second : (x : Last) → Second x 46 → ⊥
no_second plain e = e
no_second afterC e = omega arith
no_second afterB e = omega arith

-- ---- the second text, behind the dot
module _ {p q j : ℕ} {x : Last} {ν : Memory} (k : Sane p q (at (seq x) 0) j ν) (shut : (r : ℕ) → get_or ν.st.opener r 0 ≡ 0) (clear : Clear ν) (A B : List ℤ) where
  behind-dot : Grounded ν.st.atoms ν.st.bonds (suc j) ν.st.keys (beginning (zeros A) (zeros B)) (awaiting dotted ν)
  unfolding started
  behind-dot =
      record {
        atoms_count = omega arith;
        bonds_count = omega arith;
        depth = k.stands.depth;
        stack = λ i l. absurd (omega arith);
        opener = no-openers;
        symbol = λ r l. absurd (omega (arith, repeated-at {A = ℕ} bridges r 0));
        offset = λ r l. absurd (omega (arith, repeated-at {A = ℕ} bridges r 0));
        front = λ c l. refl;
        keys = λ c. clear (2 * ν.st.bonds + c) (omega arith) ∙ sym (ap (raised (suc j)) (repeated-at {A = ℕ} key_count c 0));
        outside = λ a l. absurd (omega arith);
        atom_rows = λ a l. absurd (omega arith);
        bond_rows = record { inside = λ b l. let w = k.tables.bond_rows b l in (omega (arith, w.order, w.second), w.second); first_bonds = λ b l. refl; second_bonds = λ b l. absurd (omega arith) };
      }
    where
      no-openers : ν.st.opener ≡ map (raised ν.st.atoms) (replicate bridges 0)
      no-openers =
          ext_get_or 0 ν.st.opener (map (raised ν.st.atoms) (replicate bridges 0)) (k.steering.opener-length ∙ sym (length-map (replicate bridges 0) (raised ν.st.atoms) ∙ length-replicate {A = ℕ} bridges 0))
          (λ r l. shut r ∙ sym (get_or-map (raised ν.st.atoms) (replicate bridges 0) r 0 ∙ ap (raised ν.st.atoms) (repeated-at {A = ℕ} bridges r 0)))

  jointly-dot : Jointly ν.st.atoms (beginning (zeros A) (zeros B)) (awaiting dotted ν)
  unfolding started
  jointly-dot = record { alike = and_none (not (eqb ν.st.atoms 0)); hub = λ b. never b; kind = λ b. never b }

  -- the rest of the text is read to the same state
  pub follows-dot : (b : ℕ) (t : List ℕ) {τ : MachineState} {μ : Memory} → enough A B ≡ true → read act 0 (going start (beginning (zeros A) (zeros B))) (b ∷ t) ≡ going τ μ → Room ν.st.atoms ν.st.bonds μ
      → Followed ν.st.atoms ν.st.bonds (suc j) ν.st.keys τ μ (read act j (going (at (seq x) 0) ν) (46 ∷ b ∷ t))
  follows-dot b t {τ} {μ} long e r =
      let lives : alive (step (at (seq x) 0) 46) ≡ true = ap alive (dot-step x 0) in
      let kd : Sane p q (at atomNext 0) (suc j) (awaiting dotted ν) = subst (λ (c : MachineState). Sane p q c (suc j) (awaiting dotted ν)) (dot-step x 0) (sane-taken 46 k lives (dot-act x 0 j ν)) in
      subst (Followed ν.st.atoms ν.st.bonds (suc j) ν.st.keys τ μ) (sym (takes j 46 (at (seq x) 0) ν (b ∷ t) lives (dot-act x 0 j ν)))
      (subst (λ (c : MachineState). Followed ν.st.atoms ν.st.bonds (suc j) ν.st.keys τ μ (read act (suc j) (going c (awaiting dotted ν)) (b ∷ t))) (sym (dot-step x 0))
      (follows-start b t (sane-beginning A B long) kd (ready (held_of kd)) behind-dot jointly-dot (after_dot b) (dotted-act b (suc j) (awaiting dotted ν)) e r))
