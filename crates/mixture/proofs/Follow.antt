-- A text that is read from a memory is read as well from the one that has n atoms, m bonds and δ bytes before it, where there is room. Assumes nothing.
use Prim.Native.Nat.{ℕ, zero, suc, ◌+◌, ◌-◌, ◌*◌, ◌<◌}
use native.Mathlib.Omega.{arith}
use native.Mathlib.Nat.{zero-add}
use mathlib.Core.Path.{◌≡◌, refl, sym, ap, subst, ◌∙◌}
use mathlib.Core.Bool.{Bool, true, false}
use mathlib.Core.List.{List, [], ◌∷◌, map}
use lib.ListN.{get_or}
use lib.IntN.{ℤ, pos, negsuc}
use lib.Signed.{le_z}
use Rattle.table.specs.Limits.{FIRST, SECOND, KIND}
use Rattle.loops.specs.Loop.{pick}
use Rattle.table.specs.Cells.{number, bond_cell, end1}
use Rattle.table.specs.Rows.{atom_row, bond_row}
use Rattle.reading_grammar.specs.declared.Mode.TheVariants.{Percent as percent}
use Rattle.reading_grammar.specs.declared.Move.{Move}
use Rattle.reading_grammar.specs.declared.Move.TheVariants.{Stop as stop, To as to, Up as up, Down as down}
use Rattle.reading_grammar.specs.declared.MachineState.{MachineState}
use Rattle.reading_grammar.specs.declared.MachineState.TheVariants.{Dead as dead, Start as start, At as at}
use Rattle.reading_grammar.specs.Machine.{alive, turn, step, next, atom_or}
use Rattle.reading_grammar.specs.Fold.{keeps, refuses, Reading, going, halted, after, feed, read}
use Rattle.reading_grammar.proofs.Fold.{read-halted}
use Rattle.reading_grammar.proofs.Ends.{never}
use Rattle.reading.specs.Memory.{Memory, counting}
use Rattle.reading.specs.Bracket.{digit}
use Rattle.reading.specs.Act.{Acts, act}
use Rattle.reading.proofs.Sane.{Sane, SaneReading}
use Rattle.reading.proofs.Step.{sane-feed}
use Rattle.reading.proofs.Percent.{into-percent1, first-digit}
use Rattle.mixture_rows.specs.Beside.{raised_row}
use Rattle.mixture.proofs.Behind.{raised, Behind, Grown, Room, Side, Both}
use Rattle.mixture.proofs.Keys.{unmoved}
use Rattle.mixture.proofs.Modes.{SamePercent, mode-both}

-- ---- one byte of a reading that goes on
pub record Taken (i : ℕ) (σ : MachineState) (μ : Memory) (b : ℕ) (s : List ℕ) (r : Reading Memory) : Type 0 where
  pub memory : Memory
  pub lives : alive (step σ b) ≡ true
  pub kept : act σ b i μ ≡ keeps memory
  pub rest : read act (suc i) (going (step σ b) memory) s ≡ r

pub taken : (i b : ℕ) (σ : MachineState) (μ : Memory) (s : List ℕ) {τ : MachineState} {ν : Memory} → read act i (going σ μ) (b ∷ s) ≡ going τ ν → Taken i σ μ b s (going τ ν)
unfolding read feed
taken i b σ μ s {τ} {ν} e = split (alive (step σ b)) refl (act σ b i μ) refl e
  where
    halts : (c p : ℕ) → read act (suc i) (halted c p) s ≡ going τ ν → Taken i σ μ b s (going τ ν)
    halts c p q = let z : halted c p ≡ going τ ν = sym (read-halted act s (suc i) c p) ∙ q in absurd (let y : ◌≡◌ {A = ℕ} 0 1 = cc in omega arith)

    split : (t : Bool) → alive (step σ b) ≡ t → (a : Acts) → act σ b i μ ≡ a → read act (suc i) (pick t (after (step σ b) a) (halted 3 i)) s ≡ going τ ν → Taken i σ μ b s (going τ ν)
    split true v (keeps κ) q r = record { memory = κ; lives = v; kept = q; rest = r }
    split true v (refuses c p) q r = halts c p r
    split false v a q r = halts 3 i r

pub takes : (i b : ℕ) (σ : MachineState) (μ : Memory) (s : List ℕ) {κ : Memory} → alive (step σ b) ≡ true → act σ b i μ ≡ keeps κ → read act i (going σ μ) (b ∷ s) ≡ read act (suc i) (going (step σ b) κ) s
unfolding read feed
takes i b σ μ s v e = rw (v, e)

pub sane-taken : (b : ℕ) {p q i : ℕ} {σ : MachineState} {μ κ : Memory} → Sane p q σ i μ → alive (step σ b) ≡ true → act σ b i μ ≡ keeps κ → Sane p q (step σ b) (suc i) κ
unfolding feed
sane-taken b {p} {q} {i} {σ} {μ} {κ} h v e =
    let f : feed act i (going σ μ) b ≡ going (step σ b) κ = rw (v, e) in
    subst (SaneReading p q (suc i)) f (sane-feed p q i (going σ μ) h b)

-- no byte leads to the start
turned-away : (o : Move) (d : ℕ) → turn o d ≡ start → ⊥
turned-away stop d e = let z : ◌≡◌ {A = ℕ} 0 1 = cc in omega arith
turned-away (to x) d e = let z : ◌≡◌ {A = ℕ} 0 1 = cc in omega arith
turned-away up d e = let z : ◌≡◌ {A = ℕ} 0 1 = cc in omega arith
turned-away down zero e = let z : ◌≡◌ {A = ℕ} 0 1 = cc in omega arith
turned-away down (suc d) e = let z : ◌≡◌ {A = ℕ} 0 1 = cc in omega arith

pub not_start : (σ : MachineState) (b : ℕ) → step σ b ≡ start → ⊥
unfolding step
not_start dead b e = let z : ◌≡◌ {A = ℕ} 0 1 = cc in omega arith
not_start start b e = turned-away (atom_or b stop) 0 e
not_start (at x d) b e = turned-away (next x b) d e

module _ {n m δ p q i p' q' j : ℕ} {φ : List ℕ} {μ κ : Memory} where
  step_both : (σ : MachineState) → (σ ≡ start → ⊥) → Sane p q σ i μ → Sane p' q' σ j κ → Behind n m δ φ μ κ → j ≡ δ + i → SamePercent δ i j σ μ κ → (b : ℕ) → alive (step σ b) ≡ true → Both n m δ φ μ (act σ b i μ) (act σ b j κ)
  unfolding step act
  step_both dead s h k w y t b v = absurd h.stands
  step_both start s h k w y t b v = absurd (s refl)
  step_both (at x d) s h k w y t b v = mode-both x h k w b i j y t v

-- after the first digit behind `%` both have it
pub percent-after : (δ : ℕ) (σ : MachineState) (b i j : ℕ) (μ κ ν ξ : Memory) → j ≡ δ + i → 0 < i → act σ b i μ ≡ keeps ν → act σ b j κ ≡ keeps ξ → SamePercent δ (suc i) (suc j) (step σ b) ν ξ
percent-after δ σ b i j μ κ ν ξ y l e f x q =
    let d = (into-percent1 σ b x q).0 in
    let e1 : ν ≡ counting (digit b) μ = inside (sym e ∙ ap (λ (z : MachineState). act z b i μ) d.1 ∙ first-digit d.0 b i μ) in
    let f1 : ξ ≡ counting (digit b) κ = inside (sym f ∙ ap (λ (z : MachineState). act z b j κ) d.1 ∙ first-digit d.0 b j κ) in
    (ap (λ (z : Memory). z.tens) f1 ∙ sym (ap (λ (z : Memory). z.tens) e1), omega arith)
  where
    inside : {α β : Memory} → keeps α ≡ keeps β → α ≡ β
    inside g = cc

-- no first byte of a text leads there
pub percent-first : (δ b i j : ℕ) (ν ξ : Memory) → SamePercent δ i j (step start b) ν ξ
percent-first δ b i j ν ξ x q = let d = (into-percent1 start b x q).0 in let e : start ≡ at percent d.0 = d.1 in absurd (let z : ◌≡◌ {A = ℕ} 0 1 = cc in omega arith)

-- ---- the counts only grow: a memory is behind itself
raised-none : (l : List ℕ) → l ≡ map (raised 0) l
raised-none [] = refl
raised-none (x ∷ l) = λ i. sym (unmoved x) i ∷ raised-none l i

first_cell : (x : ℤ) → le_z (pos 0) x ≡ true → x ≡ pos (0 + number x)
unfolding number
first_cell (pos k) e = ap pos (sym (zero-add k))
first_cell (negsuc k) e = never e

second-cell : (k : ℕ) (x : ℤ) → k < number x → x ≡ pos (0 + number x)
unfolding number
second-cell k (pos y) l = ap pos (sym (zero-add y))
second-cell k (negsuc y) l = absurd (omega arith)

-- a bond's row moved up by nothing
pub unraised : {p q i : ℕ} {σ : MachineState} {μ : Memory} → Sane p q σ i μ → (b : ℕ) → b < μ.st.bonds → bond_row μ.bonds b ≡ raised_row 0 (bond_row μ.bonds b)
unraised {μ = μ} h b l =
    let w = h.tables.bond_rows b l in
    λ v. record { first = first_cell (bond_cell μ.bonds b FIRST) w.natural v; second = second-cell (end1 μ.bonds b) (bond_cell μ.bonds b SECOND) w.order v; kind = bond_cell μ.bonds b KIND }

itself : {p q i : ℕ} {σ : MachineState} {μ : Memory} → Sane p q σ i μ → Behind 0 0 0 [] μ μ
itself {μ = μ} h =
    record {
      ground = record {
        atoms_count = omega arith;
        bonds_count = omega arith;
        depth = refl;
        stack = λ k l. omega arith;
        opener = raised-none μ.st.opener;
        symbol = λ r l. refl;
        offset = λ r l. omega arith;
        front = λ c l. absurd (omega arith);
        keys = λ c. (let e : 2 * 0 + c ≡ c = omega arith in ap (λ (v : ℕ). get_or μ.st.keys v 0) e ∙ sym (unmoved (get_or μ.st.keys c 0)));
        outside = λ a l. ap (λ (v : ℕ). get_or μ.st.outside v 0) (zero-add a);
        atom_rows = λ a l. ap (atom_row μ.atoms) (zero-add a);
        bond_rows = record { inside = λ b l. absurd (omega arith); first_bonds = λ b l. refl; second_bonds = λ b l. ap (bond_row μ.bonds) (zero-add b) ∙ unraised h b l };
      };
      hub = omega arith;
      pending = refl;
      draft = refl;
    }

pub grown-on : {μ ν ξ : Memory} → Grown μ ν → Grown ν ξ → Grown μ ξ
grown-on g r = record { atoms = omega (arith, g.atoms, r.atoms); bonds = omega (arith, g.bonds, r.bonds); clear = λ x. r.clear (g.clear x) }

step-grown : {p q i : ℕ} {σ : MachineState} {μ ν : Memory} (b : ℕ) → (σ ≡ start → ⊥) → Sane p q σ i μ → alive (step σ b) ≡ true → act σ b i μ ≡ keeps ν → Grown μ ν
step-grown {i = i} {σ = σ} {μ = μ} b s h v e = (subst (λ a. Both 0 0 0 [] μ a (act σ b i μ)) e (step_both σ s h h (itself h) (sym (zero-add i)) (λ x q. (refl, sym (zero-add (i - 2)))) b v)).0

pub read-grown : (s : List ℕ) {p q i : ℕ} {σ τ : MachineState} {μ ν : Memory} → (σ ≡ start → ⊥) → Sane p q σ i μ → read act i (going σ μ) s ≡ going τ ν → Grown μ ν
unfolding read
read-grown [] {μ = μ} {ν = ν} z h e = let f : μ ≡ ν = cc in subst (Grown μ) f (record { atoms = omega arith; bonds = omega arith; clear = λ x. x })
read-grown (b ∷ s) {i = i} {σ = σ} {μ = μ} z h e =
    let t = taken i b σ μ s e in
    let g = step-grown b z h t.lives t.kept in
    let r = read-grown s (not_start σ b) (sane-taken b h t.lives t.kept) t.rest in
    grown-on g r

-- ---- a text
-- the reading goes on to the same state, with a memory that has n atoms, m bonds and δ bytes before ν
pub record Followed (n m δ : ℕ) (φ : List ℕ) (τ : MachineState) (ν : Memory) (r : Reading Memory) : Type 0 where
  pub memory : Memory
  pub goes : r ≡ going τ memory
  pub behind : Behind n m δ φ ν memory

-- a byte that both take
pub record Step (n m δ : ℕ) (φ : List ℕ) (j : ℕ) (σ : MachineState) (b : ℕ) (κ ν : Memory) : Type 0 where
  pub memory : Memory
  pub kept : act σ b j κ ≡ keeps memory
  pub behind : Behind n m δ φ ν memory

pub step_of : {n m δ : ℕ} {φ : List ℕ} {j : ℕ} {σ : MachineState} {b : ℕ} {κ ν : Memory} (a : Acts) → act σ b j κ ≡ a → Side n m δ φ ν a → Step n m δ φ j σ b κ ν
step_of (keeps ξ) e w = record { memory = ξ; kept = e; behind = w }
step_of (refuses c p) e w = absurd w

pub room-before : {n m : ℕ} {μ ν : Memory} → Grown μ ν → Room n m ν → Room n m μ
room-before g r = record { atoms = omega (arith, g.atoms, r.atoms); bonds = omega (arith, g.bonds, r.bonds) }

pub follows : (s : List ℕ) {n m δ p q i p' q' j : ℕ} {φ : List ℕ} {σ τ : MachineState} {μ ν κ : Memory} → (σ ≡ start → ⊥) → Sane p q σ i μ → Sane p' q' σ j κ → Behind n m δ φ μ κ → j ≡ δ + i → 0 < i → SamePercent δ i j σ μ κ → read act i (going σ μ) s ≡ going τ ν → Room n m ν
    → Followed n m δ φ τ ν (read act j (going σ κ) s)
unfolding read
follows [] {n} {m} {δ} {φ = φ} {σ = σ} {τ = τ} {μ = μ} {ν = ν} {κ = κ} z h k w y l t e r =
    let f : σ ≡ τ = cc in
    let g : μ ≡ ν = cc in
    record { memory = κ; goes = ap (λ (x : MachineState). going x κ) f; behind = subst (λ x. Behind n m δ φ x κ) g w }
follows (b ∷ s) {n} {m} {δ} {i = i} {j = j} {φ = φ} {σ = σ} {τ = τ} {μ = μ} {ν = ν} {κ = κ} z h k w later l t e r =
    let x = taken i b σ μ s e in
    let hx = sane-taken b h x.lives x.kept in
    let g = read-grown s (not_start σ b) hx x.rest in
    let y = step_of (act σ b j κ) refl ((subst (λ a. Both n m δ φ μ a (act σ b j κ)) x.kept (step_both σ z h k w later t b x.lives)).1 (room-before g r)) in
    subst (Followed n m δ φ τ ν) (sym (takes j b σ κ s x.lives y.kept))
    (follows s (not_start σ b) hx (sane-taken b k x.lives y.kept) y.behind (omega arith) (omega arith) (percent-after δ σ b i j μ κ x.memory y.memory later l x.kept y.kept) x.rest r)
