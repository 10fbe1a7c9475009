-- Where the condition of 01 for a code from 4 on holds at a place, reading halts there, with that code or a smaller one. Assumes nothing.
use Prim.Native.Nat.{ℕ, zero, suc, ◌+◌, ◌-◌, ◌*◌, ◌≤◌, ◌<◌}
use native.Mathlib.Omega.{arith}
use mathlib.Core.Path.{◌≡◌, refl, subst, ◌∙◌}
use mathlib.Core.Bool.{Bool, true, false}
use mathlib.Core.Logic.{⊎_elim, ◌≢◌}
use mathlib.Core.List.{List}
use lib.ListN.{length, get_or}
use lib.IntN.{ℤ}
use lib.Dec.{eqb, leb}
use borrow.Author.Tests.{ne_eqb, eq-eqb, le-leb}
use Rattle.loops.specs.Loop.{pick}
use Rattle.element.specs.declared.Letter.{Letter}
use Rattle.element.specs.declared.Letter.TheVariants.{Plain, Selected, Half, Bracket, Nothing}
use Rattle.element.specs.Symbols.{among, letters}
use Rattle.element.specs.Lookup.{letter_of, selected_of}
use Rattle.reading_grammar.specs.Grammar.{nonzero, digits, bond_symbols}
use Rattle.reading_grammar.specs.declared.Last.{Last}
use Rattle.reading_grammar.specs.declared.Mode.TheVariants.{Seq as seq, Percent as percent, Percent1 as percent1}
use Rattle.reading_grammar.specs.declared.Move.{Move}
use Rattle.reading_grammar.specs.declared.MachineState.{MachineState}
use Rattle.reading_grammar.specs.declared.MachineState.TheVariants.{At as at}
use Rattle.reading_grammar.specs.Machine.{alive, turn, step, next, atom_or, bridge_or}
use Rattle.reading_grammar.specs.Fold.{refuses, halted}
use Rattle.reading_grammar.proofs.Ends.{each}
use Rattle.table.specs.Limits.{max_atoms, max_bonds}
use Rattle.ids.specs.Limits.{max_depth}
use Rattle.reading_state.specs.State.{joined}
use Rattle.reading.specs.Memory.{Memory, kind_of, moved, counting, joined_already, close_refusal}
use Rattle.reading.specs.Bracket.{digit}
use Rattle.reading.specs.Act.{Acts, atom_act, or_atom, bridge_bond, or_refuse, bridge_act, branch_act, mode_act, act}
use Rattle.reading.specs.Conditions.{bytes_read, AtomMayBegin, BridgeMayStand, ToBeBonded, Open, opener_of, HaveBond, Differ, Before, AtomBegins, Numbered, BridgeCloses, BranchOpens, Holds}
use Rattle.reading.proofs.Letters.{Begins, begins}
use Rattle.reading.proofs.Refusals.{no-letter}
use Rattle.reading.proofs.Percent.{at-percent, first-digit}
use Rattle.reading.proofs.Bytes.{goes_on, ends}
use Rattle.reading.proofs.Words.{bonded-so, clashes, bond-had}

-- what an act refuses at p, with the code c at most
pub record Refuses (a : Acts) (c p : ℕ) : Type 0 where
  pub code : ℕ
  pub low : 4 ≤ code
  pub most : code ≤ c
  pub said : a ≡ refuses code p

-- ---- an atom
or-first : (l : Letter) (a k : Acts) → l ≢ Nothing → or_atom l a k ≡ a
or-first (Plain e) a k n = refl
or-first (Selected e) a k n = refl
or-first Half a k n = refl
or-first Bracket a k n = refl
or-first Nothing a k n = absurd (n refl)

begin-act : {σ : MachineState} (b i : ℕ) (μ : Memory) → AtomMayBegin σ → letter_of b ≢ Nothing → act σ b i μ ≡ atom_act b i μ
unfolding act mode_act
begin-act b i μ AtomMayBegin.at_start n = refl
begin-act b i μ AtomMayBegin.in_sequence n = or-first (letter_of b) _ _ n
begin-act b i μ AtomMayBegin.after_symbol n = or-first (letter_of b) _ _ n
begin-act b i μ AtomMayBegin.after_dot n = refl
begin-act b i μ AtomMayBegin.in_branch n = or-first (letter_of b) _ _ n

lives : {l : Letter} {o : Move} → Begins l o → (d : ℕ) → alive (turn o d) ≡ true
lives (Begins.plain s) d = refl
lives (Begins.selected s t) d = refl
lives Begins.letter-a d = refl
lives Begins.letter-t d = refl
lives Begins.opening d = refl

or-lives : (b d : ℕ) (k : Move) → letter_of b ≢ Nothing → alive (turn (atom_or b k) d) ≡ true
or-lives b d k n = ⊎_elim (λ w. lives w d) (λ e. absurd (n e.0)) (begins b k)

begin-lives : {σ : MachineState} (b : ℕ) → AtomMayBegin σ → letter_of b ≢ Nothing → alive (step σ b) ≡ true
unfolding step next
begin-lives b AtomMayBegin.at_start n = or-lives b 0 _ n
begin-lives b (AtomMayBegin.in_sequence {d = d}) n = or-lives b d _ n
begin-lives b (AtomMayBegin.after_symbol {d}) n = or-lives b d _ n
begin-lives b (AtomMayBegin.after_dot {d}) n = or-lives b d _ n
begin-lives b (AtomMayBegin.in_branch {d}) n = or-lives b d _ n

atom_over : (b i : ℕ) (μ : Memory) → max_atoms ≤ μ.st.atoms → Refuses (atom_act b i μ) 4 i
unfolding atom_act
atom_over b i μ h = record { code = 4; low = omega arith; most = omega arith; said = rw (le-leb max_atoms μ.st.atoms h) }

child_over : (b i : ℕ) (μ : Memory) → ToBeBonded μ → max_bonds ≤ μ.st.bonds → Refuses (atom_act b i μ) 5 i
unfolding atom_act
child_over b i μ w h = split (leb max_atoms μ.st.atoms) refl
  where
    split : (t : Bool) → leb max_atoms μ.st.atoms ≡ t → Refuses (atom_act b i μ) 5 i
    split true e = record { code = 4; low = omega arith; most = omega arith; said = rw e }
    split false e = record { code = 5; low = omega arith; most = omega arith; said = rw (e, bonded-so μ w, le-leb max_bonds μ.st.bonds h) }

-- ---- a bridge that closes
-- a code that is told, c at most
record Told (c d : ℕ) : Type 0 where
  pub low : 4 ≤ d
  pub most : d ≤ c

abbrev refusal_of : Memory → ℕ → ℕ
refusal_of μ r = close_refusal μ.bonds μ.st.bonds (opener_of μ r) μ.st.hub.0 (get_or μ.st.symbol r 0) (kind_of μ.pending)

one_of : (c d : ℕ) → 4 ≤ d → d ≤ c → Told c d
one_of c d l m = record { low = l; most = m }

-- after a check that is asked before
checked : (c e d : ℕ) (t : Bool) → 4 ≤ e → e ≤ c → Told c d → Told c (pick t e d)
checked c e d true l h w = one_of c e l h
checked c e d false l h w = w

module _ (μ : Memory) (r : ℕ) where
  bridge-5 : max_bonds ≤ μ.st.bonds → Told 5 (refusal_of μ r)
  unfolding close_refusal
  bridge-5 h = rw (le-leb max_bonds μ.st.bonds h) (one_of 5 5 (omega arith) (omega arith))

  bridge-7 : opener_of μ r ≡ μ.st.hub.0 → Told 7 (refusal_of μ r)
  unfolding close_refusal
  bridge-7 h = rw (eq-eqb (opener_of μ r) μ.st.hub.0 h) (checked 7 5 7 (leb max_bonds μ.st.bonds) (omega arith) (omega arith) (one_of 7 7 (omega arith) (omega arith)))

  bridge-8 : HaveBond μ.bonds μ.st.bonds (opener_of μ r) μ.st.hub.0 → Told 8 (refusal_of μ r)
  unfolding close_refusal
  bridge-8 h =
      rw (bond-had μ.bonds μ.st.bonds (opener_of μ r) μ.st.hub.0 h)
      (checked 8 5 _ (leb max_bonds μ.st.bonds) (omega arith) (omega arith) (checked 8 7 8 (eqb (opener_of μ r) μ.st.hub.0) (omega arith) (omega arith) (one_of 8 8 (omega arith) (omega arith))))

  bridge-9 : Differ (get_or μ.st.symbol r 0) (kind_of μ.pending) → Told 9 (refusal_of μ r)
  unfolding close_refusal
  bridge-9 h =
      rw (clashes (get_or μ.st.symbol r 0) (kind_of μ.pending) h)
      (checked 9 5 _ (leb max_bonds μ.st.bonds) (omega arith) (omega arith) (checked 9 7 _ (eqb (opener_of μ r) μ.st.hub.0) (omega arith) (omega arith)
      (checked 9 8 9 (joined_already μ.bonds μ.st.bonds (opener_of μ r) μ.st.hub.0) (omega arith) (omega arith) (one_of 9 9 (omega arith) (omega arith)))))

or-refuses : (d p : ℕ) (ν : Memory) → 4 ≤ d → or_refuse d p ν ≡ refuses d p
or-refuses zero p ν h = absurd (omega arith)
or-refuses (suc d) p ν h = refl

bridge-refuses : (r p c : ℕ) (μ : Memory) → Open μ.st.opener r → Told c (refusal_of μ r) → Refuses (bridge_act r p μ) c p
unfolding bridge_act
bridge-refuses r p c μ o w =
    record {
      code = refusal_of μ r;
      low = w.low;
      most = w.most;
      said = rw (ne_eqb (get_or μ.st.opener r 0) 0 (λ e. omega arith)) (or-refuses (refusal_of μ r) p (moved (joined μ.st r (kind_of μ.pending) p) (bridge_bond r μ)) w.low);
    }

-- a digit, outside brackets
digit-letter : (b : ℕ) → among b nonzero ≡ true → letter_of b ≡ Nothing
unfolding nonzero letter_of selected_of letters among
digit-letter = each (λ b. letter_of b ≡ Nothing) nonzero (refl, (refl, (refl, (refl, (refl, (refl, (refl, (refl, (refl, tt)))))))))

digit-act : {σ : MachineState} (b i : ℕ) (μ : Memory) → BridgeMayStand σ → among b nonzero ≡ true → act σ b i μ ≡ bridge_act (digit b) i μ
unfolding act mode_act
digit-act b i μ BridgeMayStand.in_sequence e = rw (digit-letter b e, e)
digit-act b i μ BridgeMayStand.after_symbol e = rw (digit-letter b e, e)

digit_or : (b d : ℕ) (k : Move) → among b nonzero ≡ true → alive (turn (atom_or b (bridge_or b k)) d) ≡ true
unfolding bridge_or
digit_or b d k e = ⊎_elim (λ w. absurd (no-letter w (digit-letter b e))) (λ f. rw (f.1, e)) (begins b (bridge_or b k))

digit-lives : {σ : MachineState} (b : ℕ) → BridgeMayStand σ → among b nonzero ≡ true → alive (step σ b) ≡ true
unfolding step next
digit-lives b (BridgeMayStand.in_sequence {d = d}) e = digit_or b d _ e
digit-lives b (BridgeMayStand.after_symbol {d}) e = digit_or b d _ e

-- `%`, its first digit, its second
sign-step : {σ : MachineState} → BridgeMayStand σ → (d : ℕ) × (step σ 37 ≡ at percent d)
unfolding step next atom_or bridge_or letters nonzero among
sign-step (BridgeMayStand.in_sequence {d = d}) = (d, refl)
sign-step (BridgeMayStand.after_symbol {d}) = (d, refl)

tens-step : (b d : ℕ) → among b nonzero ≡ true → step (at percent d) b ≡ at percent1 d
unfolding step next
tens-step b d e = rw e

last_step : (b d : ℕ) → among b digits ≡ true → alive (step (at percent1 d) b) ≡ true
unfolding step next
last_step b d e = rw e

last-act : (d b p : ℕ) (μ : Memory) → act (at percent1 d) b (suc (suc p)) μ ≡ bridge_act (10 * μ.tens + digit b) p μ
unfolding act mode_act
last-act d b p μ = let e : suc (suc p) - 2 ≡ p = omega arith in rw e

-- ---- a branch
branch-lives : (x : Last) (d : ℕ) → alive (step (at (seq x) d) 40) ≡ true
unfolding step next atom_or bridge_or letters nonzero bond_symbols among
branch-lives x d = refl

branch_65 : (x : Last) (d i : ℕ) (μ : Memory) → max_depth ≤ μ.st.depth → act (at (seq x) d) 40 i μ ≡ refuses 6 i
unfolding act mode_act branch_act letter_of selected_of letters nonzero bond_symbols among
branch_65 x d i μ h = rw (le-leb max_depth μ.st.depth h)

-- ---- in a text
module _ (s : List ℕ) (atoms bonds : List ℤ) where
  -- reading halts at p, with the code c at most
  pub record Halts (c p : ℕ) : Type 0 where
    pub code : ℕ
    pub low : 4 ≤ code
    pub most : code ≤ c
    pub halts : bytes_read s atoms bonds ≡ halted code p

  halts_at : {k c p : ℕ} {σ : MachineState} {μ : Memory} (a : Acts) → Before s atoms bonds k σ μ → alive (step σ (get_or s k 0)) ≡ true → act σ (get_or s k 0) k μ ≡ a → Refuses a c p → Halts c p
  halts_at {p = p} a b v e w = record { code = w.code; low = w.low; most = w.most; halts = ends s atoms bonds b w.code p v (e ∙ w.said) }

  atom-halts : {c p : ℕ} {μ : Memory} → AtomBegins s atoms bonds p μ → Refuses (atom_act (get_or s p 0) p μ) c p → Halts c p
  atom-halts {p = p} {μ = μ} w = halts_at (atom_act (get_or s p 0) p μ) w.before (begin-lives (get_or s p 0) w.place w.first_byte) (begin-act (get_or s p 0) p μ w.place w.first_byte)

  -- `%` and two digits: the memory is the same but for the first
  percent-halts : {c p : ℕ} {σ : MachineState} {μ : Memory} → Before s atoms bonds p σ μ → BridgeMayStand σ → get_or s p 0 ≡ 37 → among (get_or s (suc p) 0) nonzero ≡ true → among (get_or s (suc (suc p)) 0) digits ≡ true → suc (suc p) < length s
      → let r : ℕ = 10 * digit (get_or s (suc p) 0) + digit (get_or s (suc (suc p)) 0) in
      Open μ.st.opener r → Told c (refusal_of μ r) → Halts c p
  percent-halts {c} {p} {σ} {μ} b w e f g l o t =
      let d = (sign-step w).0 in
      let q = (sign-step w).1 in
      let ν = counting (digit (get_or s (suc p) 0)) μ in
      let after1 : Before s atoms bonds (suc p) (at percent d) μ =
      record { within = omega arith; reached = goes_on s atoms bonds b (record { lives = rw (e, q); moves = rw e q; keeps = rw e (at-percent w p μ) }) } in
      let after2 : Before s atoms bonds (suc (suc p)) (at percent1 d) ν =
      record { within = l; reached = goes_on s atoms bonds after1 (record { lives = rw (tens-step (get_or s (suc p) 0) d f); moves = tens-step (get_or s (suc p) 0) d f; keeps = first-digit d (get_or s (suc p) 0) (suc p) μ }) } in
      let r = 10 * digit (get_or s (suc p) 0) + digit (get_or s (suc (suc p)) 0) in
      halts_at (bridge_act r p ν) after2 (last_step (get_or s (suc (suc p)) 0) d g) (last-act d (get_or s (suc (suc p)) 0) p ν) (bridge-refuses r p c ν o t)

  bridge-halts : {c p r : ℕ} {μ : Memory} → BridgeCloses s atoms bonds p r μ → Told c (refusal_of μ r) → Halts c p
  bridge-halts {c} {p} {r} {μ} w t = go w.complete w.opened t
    where
      go : {r : ℕ} → Numbered s atoms bonds p r → Open μ.st.opener r → Told c (refusal_of μ r) → Halts c p
      go (Numbered.by_digit e) o t =
          let b = get_or s p 0 in
          halts_at (bridge_act (digit b) p μ) w.before (digit-lives b w.place e) (digit-act b p μ w.place e) (bridge-refuses (digit b) p c μ o t)
      go (Numbered.by_percent e f g l) o t =
          let one : p + 1 ≡ suc p = omega arith in
          let two : p + 2 ≡ suc (suc p) = omega arith in
          let n : 10 * digit (get_or s (p + 1) 0) + digit (get_or s (p + 2) 0) ≡ 10 * digit (get_or s (suc p) 0) + digit (get_or s (suc (suc p)) 0) = rw (one, two) in
          percent-halts w.before w.place e (rw one at f) (rw two at g) (omega arith) (subst (Open μ.st.opener) n o) (subst (λ (r : ℕ). Told c (refusal_of μ r)) n t)

  branch-halts : {p : ℕ} {μ : Memory} → BranchOpens s atoms bonds p μ → max_depth ≤ μ.st.depth → Halts 6 p
  branch-halts {p} {μ} w h =
      let e = w.byte in
      record { code = 6; low = omega arith; most = omega arith; halts = ends s atoms bonds w.before 6 p (rw e (branch-lives w.last w.depth)) (rw e (branch_65 w.last w.depth p μ h)) }

  -- what holds at a place halts the reading there
  pub holds-halts : {c p : ℕ} → Holds s atoms bonds c p → 4 ≤ c → Halts c p
  holds-halts (Holds.grammar g) l = absurd (omega arith)
  holds-halts {p = p} (Holds.atom_over {μ = μ} w h) l = atom-halts w (atom_over (get_or s p 0) p μ h)
  holds-halts {p = p} (Holds.child_over {μ = μ} w d h) l = atom-halts w (child_over (get_or s p 0) p μ d h)
  holds-halts (Holds.bridge_over {r = r} {μ = μ} w h) l = bridge-halts w (bridge-5 μ r h)
  holds-halts (Holds.branch_65 w h) l = branch-halts w h
  holds-halts (Holds.to_itself {r = r} {μ = μ} w h) l = bridge-halts w (bridge-7 μ r h)
  holds-halts (Holds.joined_twice {r = r} {μ = μ} w h) l = bridge-halts w (bridge-8 μ r h)
  holds-halts (Holds.symbols_differ {r = r} {μ = μ} w h) l = bridge-halts w (bridge-9 μ r h)
