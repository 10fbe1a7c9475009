-- Reading the bytes of tokens holds what reading the tokens holds. Assumes nothing.
use mathlib.Core.Path.{◌≡◌, refl}
use mathlib.Core.Bool.{Bool, true, false, ◌&&◌, not, cond}
use mathlib.Core.List.{List, [], ◌∷◌, ◌++◌}
use Prim.Native.Nat.{ℕ, suc, ◌+◌, ◌*◌, ◌<◌, ◌≤◌}
use native.Mathlib.Omega.{arith}
use lib.Dec.{eqb, leb}
use lib.ListN.{length, length-append}
use lib.IntN.{ℤ}
use borrow.Author.Tests.{ne_eqb, lt-leb}
use Rattle.kinds.specs.Kind.{max_kind}
use Rattle.element.specs.Symbols.{among, letters}
use Rattle.element.specs.Lookup.{letter_of, selected_of}
use Rattle.reading_grammar.specs.Grammar.{nonzero, bond_symbols}
use Rattle.reading_grammar.specs.declared.Last.{Last}
use Rattle.reading_grammar.specs.declared.Last.TheVariants.{Plain as plain}
use Rattle.reading_grammar.specs.declared.Mode.TheVariants.{Seq as seq, Inside as inside}
use Rattle.reading_grammar.specs.declared.MachineState.{MachineState}
use Rattle.reading_grammar.specs.declared.MachineState.TheVariants.{At as at}
use Rattle.reading_grammar.specs.Machine.{step, next, atom_or, bridge_or}
use Rattle.table.specs.Limits.{max_atoms, max_bonds, atom_cells, bond_cells}
use Rattle.table.proofs.Valid.{AtomFine}
use Rattle.ids.specs.Limits.{max_depth, bridges}
use Rattle.reading_state.specs.State.{opened, closed}
use Rattle.reading.specs.Memory.{Memory, nothing, dotted, kind_of, bonded, begun, moved, awaiting, counting}
use Rattle.reading.specs.Act.{act, mode_act, branch_act}
use Rattle.writing_walk.specs.Token.{Bond, Tok, apart, along, ring, branch, back}
use Rattle.writing_walk.specs.Reading.{Closure, closure_at, St, st}
use Rattle.writing_walk.specs.Keyed.{Keys, Keyed, keyed, state_of, step_keyed}
use Rattle.writing_walk.specs.Check.{refused_bridge}
use Rattle.writing.specs.Spell.{atom_bytes, kind_bytes, bridge_bytes}
use Rattle.roundtrip.proofs.Feed.{Takes, stays, joins, byte}
use Rattle.roundtrip.proofs.Letters.{Begins, Room}
use Rattle.roundtrip.proofs.Atoms.{draft_row, outside_flag, takes-atom}
use Rattle.writing_walk.proofs.Stamps.{InTime}
use Rattle.roundtrip.proofs.Keying.{keying-later, keying-same, keying-child}
use Rattle.roundtrip.proofs.Simulation.{Holds, Keeps, sim-await, sim-count, sim-apart, sim-along, sim-branch, sim-back, sim-ring}
use Rattle.roundtrip.proofs.Signs.{Stance, after, fresh, takes-dot, waiting, waiting-kind, takes-kind, takes-ring}

-- a token that the writer may emit for valid tables of n atoms
abbrev pub Good : ℕ → Tok → Type 0
Good n (apart w) = w < n
Good n (along k w) = (k ≤ max_kind) × (w < n)
Good n (ring k r) = (k ≤ max_kind) × (suc r < bridges)
Good n branch = Unit {0}
Good n back = Unit {0}

abbrev pub next_of : St → ℕ
next_of (st xs bs h n hs stk) = n

abbrev pub depth_of : St → ℕ
depth_of (st xs bs h n hs stk) = length stk

-- what is not refused has room
pub room-first : (a : Bool) → ◌≡◌ {A = ℕ} (cond a 0 4) 0 → a ≡ true
room-first true h = refl
room-first false h = absurd (omega arith)

pub room-both : (a b : Bool) → ◌≡◌ {A = ℕ} (cond a (cond b 0 5) 4) 0 → (a ≡ true) × (b ≡ true)
room-both true true h = (refl, refl)
room-both true false h = absurd (omega arith)
room-both false b h = absurd (omega arith)

pub room-depth : (a : Bool) → ◌≡◌ {A = ℕ} (cond a 0 6) 0 → a ≡ true
room-depth true h = refl
room-depth false h = absurd (omega arith)

and-false : (a : Bool) → (a && false) ≡ false
and-false true = refl
and-false false = refl

module _ (atoms bonds : List ℤ) (N m p q : ℕ) (fine-atoms : (v : ℕ) → v < N → AtomFine atoms v) (proom : atom_cells * max_atoms ≤ p) (qroom : bond_cells * max_bonds ≤ q) where
  abbrev pub Is : St → Memory → Type 0
  Is s μ = Holds (draft_row atoms bonds m) (outside_flag atoms bonds m) p q s μ

  abbrev f : ℕ → List ℕ
  f = atom_bytes atoms bonds m

  -- the bytes of a token lead from a memory to one that holds x, in a stance with d open branches
  pub record Stepped (i : ℕ) (σ : MachineState) (μ : Memory) (l : List ℕ) (x : Keyed) (b : Bool) (d : ℕ) : Type 0 where
    pub state : MachineState
    pub memory : Memory
    pub takes : Takes i σ μ l state memory
    pub stance : Stance b d state
    pub waits : memory.pending ≡ nothing
    pub holds : Is (state_of x) memory
    pub keys : Keeps x (i + length l) memory

  -- ---- a reading of tokens in a state, with the time z, the stamps ts and the keys ks, and a memory that holds it
  module _ (xs : List ℕ) (bs : List Bond) (h n : ℕ) (hs : List Closure) (stk : List ℕ) (z : ℕ) (ts : List ℕ) (ks : List Keys) where
    abbrev now : Keyed
    now = keyed (st xs bs h n hs stk) z ts ks

    room_of : (μ : Memory) → Is (state_of now) μ → n < max_atoms → (bonded μ && leb max_bonds μ.st.bonds) ≡ false → Room μ
    room_of μ s l e =
        let a = s.atoms in
        record { atoms = lt-leb max_atoms μ.st.atoms (omega arith); bonds = e }

    -- ---- atoms, after a joint
    pub atom-apart : (i : ℕ) (τ : MachineState) (d : ℕ) (ν : Memory) (w : ℕ) → w < N → Begins τ d → Is (state_of now) ν → Keeps now i ν → n < max_atoms → bonded ν ≡ false → Stepped i τ ν (f w) (step_keyed (apart w) now) false d
    unfolding begun
    atom-apart i τ d ν w g v s y l e =
        let a = takes-atom atoms bonds m w (fine-atoms w g) i τ d ν v (room_of ν s l (rw e)) in
        record {
          state = at (seq a.last) d;
          memory = _;
          takes = a.is;
          stance = after;
          waits = refl;
          holds = sim-apart (draft_row atoms bonds m) (outside_flag atoms bonds m) p q proom qroom xs bs h n hs stk ν s w a.draft l e;
          keys = keying-same (keying-later (omega arith) y);
        }

    atom-along : (i : ℕ) (τ : MachineState) (d : ℕ) (ν : Memory) (k w : ℕ) → w < N → Begins τ d → Is (state_of now) ν → Keeps now i ν → n < max_atoms → length bs < max_bonds → 0 < n → bonded ν ≡ true → kind_of ν.pending ≡ k
        → Stepped i τ ν (f w) (step_keyed (along k w) now) false d
    unfolding begun
    atom-along i τ d ν k w g v s y l c o e t =
        let b = s.bonds in
        let a = takes-atom atoms bonds m w (fine-atoms w g) i τ d ν v (room_of ν s l (rw (e, lt-leb max_bonds ν.st.bonds (omega arith)))) in
        record {
          state = at (seq a.last) d;
          memory = _;
          takes = a.is;
          stance = after;
          waits = refl;
          holds = sim-along (draft_row atoms bonds m) (outside_flag atoms bonds m) p q proom qroom xs bs h n hs stk ν s k w a.draft l c o e t;
          keys = keying-child (keying-later (omega arith) y);
        }

    -- ---- the five tokens
    pub step-apart : (i : ℕ) (σ : MachineState) (μ : Memory) (x : Bool) (d w : ℕ) → w < N → Stance x d σ → Is (state_of now) μ → Keeps now i μ → n < max_atoms → Stepped i σ μ (46 ∷ f w) (step_keyed (apart w) now) false d
    step-apart i σ μ x d w g v s y l =
        let j = takes-dot i μ v in
        let a = atom-apart (i + 1) j.state d (awaiting dotted μ) w g j.begins (sim-await (draft_row atoms bonds m) (outside_flag atoms bonds m) p q proom qroom xs bs h n hs stk μ s dotted) (keying-later (omega arith) y) l (and-false (not (eqb μ.st.atoms 0))) in
        record { state = a.state; memory = a.memory; takes = joins (46 ∷ []) (f w) j.takes a.takes; stance = a.stance; waits = a.waits; holds = a.holds; keys = keying-later (omega arith) a.keys }

    pub step-along : (i : ℕ) (σ : MachineState) (μ : Memory) (x : Bool) (d k w : ℕ) → k ≤ max_kind → w < N → Stance x d σ → μ.pending ≡ nothing → Is (state_of now) μ → Keeps now i μ → n < max_atoms → length bs < max_bonds → 0 < n
        → Stepped i σ μ (kind_bytes k ++ f w) (step_keyed (along k w) now) false d
    step-along i σ μ x d k w kk g v e s y l c o =
        let j = takes-kind i μ k kk e v in
        let ν = awaiting (waiting k) μ in
        let b = s.atoms in
        let u : bonded ν ≡ true = rw (ne_eqb μ.st.atoms 0 (λ q. omega arith), (waiting-kind k).1) in
        let a = atom-along (i + length (kind_bytes k)) j.state d ν k w g j.begins (sim-await (draft_row atoms bonds m) (outside_flag atoms bonds m) p q proom qroom xs bs h n hs stk μ s (waiting k)) (keying-later (omega arith) y) l c o u (waiting-kind k).0 in
        record {
          state = a.state;
          memory = a.memory;
          takes = joins (kind_bytes k) (f w) j.takes a.takes;
          stance = a.stance;
          waits = a.waits;
          holds = a.holds;
          keys = keying-later (let b = length-append (kind_bytes k) (f w) in omega arith) a.keys;
        }

    pub step-ring : (i : ℕ) (x : Last) (μ : Memory) (d k r : ℕ) → k ≤ max_kind → suc r < bridges → μ.pending ≡ nothing → Is (state_of now) μ → Keeps now i μ → InTime now → length ks ≡ length bs
        → refused_bridge max_atoms max_bonds max_depth (closure_at hs r) k bs h ≡ 0 → Stepped i (at (seq x) d) μ (kind_bytes k ++ bridge_bytes r) (step_keyed (ring k r) now) false d
    step-ring i x μ d k r kk g e s y t b o =
        let R = draft_row atoms bonds m in
        let F = outside_flag atoms bonds m in
        let w = sim-await R F p q proom qroom xs bs h n hs stk μ s (waiting k) in
        let a = takes-ring R F p q (step_keyed (ring k r) now) r g i x d μ k kk e
        (λ c. sim-ring R F p q proom qroom xs bs h n hs stk z ts ks (counting c (awaiting (waiting k) μ)) (sim-count R F p q proom qroom xs bs h n hs stk (awaiting (waiting k) μ) w c) r k g (waiting-kind k).0 i (i + length (kind_bytes k)) y t b (omega arith) o) in
        record { state = at (seq plain) d; memory = a.memory; takes = a.takes; stance = after; waits = a.waits; holds = a.holds; keys = a.keys }

    pub step-branch : (i : ℕ) (x : Last) (μ : Memory) (d : ℕ) → Is (state_of now) μ → Keeps now i μ → length stk < max_depth → 0 < n → Stepped i (at (seq x) d) μ (40 ∷ []) (step_keyed branch now) true (suc d)
    unfolding step next atom_or bridge_or among letters nonzero bond_symbols act mode_act letter_of selected_of branch_act opened
    step-branch i x μ d s y l o =
        let b = s.depth in
        record {
          state = at inside (suc d);
          memory = moved (opened μ.st) μ;
          takes = byte 40 [] refl refl (rw (lt-leb max_depth μ.st.depth (omega arith))) stays;
          stance = fresh;
          waits = refl;
          holds = sim-branch (draft_row atoms bonds m) (outside_flag atoms bonds m) p q proom qroom xs bs h n hs stk μ s l o;
          keys = keying-same (keying-later (omega arith) y);
        }

  pub step_back : (xs : List ℕ) (bs : List Bond) (h n : ℕ) (hs : List Closure) (g : ℕ) (stk : List ℕ) (z : ℕ) (ts : List ℕ) (ks : List Keys) (i : ℕ) (x : Last) (μ : Memory) (d : ℕ) → Is (st xs bs h n hs (g ∷ stk)) μ → Keeps (keyed (st xs bs h n hs (g ∷ stk)) z ts ks) i μ
      → Stepped i (at (seq x) (suc d)) μ (41 ∷ []) (step_keyed back (keyed (st xs bs h n hs (g ∷ stk)) z ts ks)) false d
  unfolding step next atom_or bridge_or among letters nonzero bond_symbols act mode_act letter_of selected_of closed
  step_back xs bs h n hs g stk z ts ks i x μ d s y = record {
    state = at (seq plain) d;
    memory = moved (closed μ.st) μ;
    takes = byte 41 [] refl refl refl stays;
    stance = after;
    waits = refl;
    holds = sim-back (draft_row atoms bonds m) (outside_flag atoms bonds m) p q proom qroom xs bs h n hs g stk μ s;
    keys = keying-same (keying-later (omega arith) y);
  }
