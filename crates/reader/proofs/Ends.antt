-- The end of a text, and what the public call tells of it. Assumes nothing.
use Prim.Native.Nat.{ℕ, zero, suc, ◌+◌, ◌*◌, ◌≤◌, ◌<◌}
use native.Mathlib.Omega.{arith}
use native.Mathlib.Decide.{ℕ_discrete}
use mathlib.Core.Path.{◌≡◌, refl, sym, ap, ◌∙◌, subst, subst⁻¹}
use mathlib.Core.Bool.{Bool, true, false, ◌&&◌}
use mathlib.Core.Logic.{◌⊎◌, inl, ⊎_elim}
use mathlib.Core.List.{List, [], ◌∷◌}
use lib.ListN.{length, get_or, set, replicate, length-replicate}
use lib.IntN.{ℤ, pos}
use lib.Dec.{eqb, leb}
use borrow.Author.Tests.{eqb-true, eqb-false, eq-eqb, ne_eqb, le-leb, lt-leb, lt-ltb, le-ltb}
use mir.Val.{to_z}
use mir.Syntax.{w32}
use mir.Facts.{to_z_pos}
use Rattle.loops.specs.Loop.{pick, up_to, run}
use Rattle.loops.proofs.Loops.{and_left, and_right, up_to-at}
use Rattle.refusal.specs.declared.Refusal.{Refusal}
use Rattle.refusal.specs.declared.Refusal.TheVariants.{Short, LongText, Grammar}
use Rattle.refusal.specs.Code.{code_of}
use Rattle.refusal.proofs.Codes.{code-range}
use Rattle.valence.specs.Valence.{implied}
use Rattle.reading_grammar.specs.declared.Last.TheVariants.{Plain as plain}
use Rattle.reading_grammar.specs.declared.Mode.TheVariants.{Seq as seq, AtomNext as atomNext}
use Rattle.reading_grammar.specs.declared.MachineState as machine
use Rattle.reading_grammar.specs.declared.MachineState.TheVariants.{Start as start}
use Rattle.reading_grammar.specs.Machine.{next, step, resting, accepting}
use Rattle.reading_grammar.specs.Fold.{Reading, going, halted, feed, read, Verdict, good, bad, finish, answer}
use Rattle.table.specs.Limits.{max_atoms, max_bonds, atom_cells, bond_cells, HYDROGENS}
use Rattle.table.specs.Cells.{atom_place, element, selected}
use Rattle.table.specs.Valid.{Valid, enough}
use Rattle.table.specs.Sound.{late_code}
use Rattle.table.specs.Orders.{turn_marks}
use Rattle.table.proofs.Valid.{second-end}
use Rattle.table.proofs.Orders.{ButMarks, turned-but, but-late, turned-length}
use Rattle.table_graph.specs.Graph.{bond_sum, matchable}
use Rattle.table_graph.specs.Built.{Wired, Prepared}
use Rattle.table_graph.proofs.Graph.{prepared}
use Rattle.table_graph.proofs.Marks.{but-matchable}
use Rattle.reading_state.specs.declared.Fields.{Fields}
use Rattle.ids.specs.Limits.{max_text, max_depth, bridges}
use Rattle.reading_state.specs.State.{Steering, key_count, steering, started}
use Rattle.reading_state.specs.declared.State.{State}
use Rattle.reading.specs.Memory.{Memory, nothing, blank}
use Rattle.reading.specs.Act.{act, mode_act}
use Rattle.reading.specs.Read.{ReadResult, zeros, refused, beginning, hydrogenate, hydrogenated, overfull_atoms, earlier, leftmost, text_rank, ended, finished, read_from, read_of}
use Rattle.reading.proofs.Hydrogens.{implied-small}
use Rattle.reading.proofs.Sane.{Steers}
use Rattle.reading.proofs.Valid.{sane-filled}
use Rattle.reading.proofs.Claims.{read-sane}
use Rattle.reading.specs.Conditions.{bytes_read}
use Rattle.reading_short.specs.Short as rows
use Rattle.reading_short.specs.Short.{read_into}
use Rattle.reading_short.proofs.Short.{short-stands}
use Rattle.reading_fields.specs.Rest.{rest, memory}
use Rattle.reading_fields.proofs.Rest.{rest_end, rest-down-stop}
use Rattle.reading_fields.proofs.Bytes.{there}
use Rattle.reader.specs.declared.piece.Joint.{Joint}
use Rattle.std.specs.Prelude.{Option, Some, None, Result, Ok, Err}
use Rattle.std.specs.Option.{is_some}
use Rattle.reader.specs.declared.answer.TextRefusal.{TextRefusal}
use Rattle.reader.specs.Outcome.{Bounded, Reached, Outcome, refused_at, PastFine, Sequenced}
use Rattle.kekule.specs.First.{FirstIn}
use Rattle.reader.specs.Ranks.{Rankable}
use Rattle.reader.specs.Filled.{hydrogens_by, hydrogenated_by, placed_by}
use Rattle.reader.specs.Ending.{told, counted, refused_text, ended_of, answer_of, Ready, Blank, TextGoes, TextRead}
use Rattle.reader.proofs.Branches.{close_down}

-- ---- the whole text
-- before its first byte the machine stands as before an atom
start-dot : (s : List ℕ) (a b : List ℤ) → 0 < length s → answer_of s a b ≡ rest s 0 atomNext (memory started a b nothing 0 blank)
unfolding answer rest read feed act step next mode_act started
start-dot [] a b h = absurd (omega arith)
start-dot (x ∷ s) a b h = refl

pub bounded-started : {u : Steering} → u ≡ started → Bounded u
unfolding started
bounded-started e = rw e (record { atoms = omega arith; bonds = omega arith; depth = omega arith; hub = omega arith; stack = zeros-le max_depth max_atoms; opener = zeros-le bridges (max_atoms + 1); offset = zeros-le bridges max_text })
  where
    zeros-le : (k n i : ℕ) → get_or (replicate k 0) i 0 ≤ n
    zeros-le zero n i = omega arith
    zeros-le (suc k) n zero = omega arith
    zeros-le (suc k) n (suc i) = zeros-le k n i

-- a new state with arrays of zeros
pub new-started : {st : State} {p x y : List ℕ} → p ≡ replicate bridges 0 → x ≡ replicate max_atoms 0 → y ≡ replicate key_count 0 → steering st (replicate bridges 0) (replicate max_atoms 0) (replicate key_count 0) ≡ started → steering st p x y ≡ started
new-started ep ex ey e = rw (ep, ex, ey) e

pub text-empty : (s : List ℕ) (a b : List ℤ) {u : Steering} → length s ≡ 0 → u ≡ started → TextRead s a b a b (Ok (record { at = 0; st = u }))
unfolding answer read accepting
text-empty [] a b e q = record { is = (0, blank, bounded-started q, rw q) }
text-empty (x ∷ s) a b e q = absurd (omega arith)

module _ (s : List ℕ) (a b : List ℤ) (h : length s ≡ 0 → ⊥) {u : Steering} (eu : u ≡ started) where
  positive : 0 < length s
  positive = split (length s) h
    where
      split : (n : ℕ) → (n ≡ 0 → ⊥) → 0 < n
      split zero k = absurd (k refl)
      split (suc n) k = omega arith

  begun-at : answer_of s a b ≡ rest s 0 atomNext (memory u a b nothing 0 blank)
  begun-at = start-dot s a b positive ∙ ap (λ (v : Steering). rest s 0 atomNext (memory v a b nothing 0 blank)) (sym eu)

  pub text-refused : {a' b' : List ℤ} (e : TextRefusal) → Sequenced s 0 Joint.Elided u a b a' b' (Err e) → TextRead s a b a' b' (Err e)
  text-refused e g = record { is = begun-at ∙ g.goes 0 blank }

  module _ {a' b' : List ℤ} (o : Reached) (g : Sequenced s 0 Joint.Elided u a b a' b' (Ok o)) where
    past : PastFine s 0 u o.at o.st
    past = g.past

    flat : o.st.depth ≡ 0
    unfolding started
    flat = past.deep ∙ ap (λ (v : Steering). v.depth) eu

    reached : (i : ℕ) × (f : Fields) × (answer_of s a b ≡ rest s o.at (seq plain) (memory o.st a' b' nothing i f))
    reached = let y = g.goes 0 blank in (y.tens, y.draft, begun-at ∙ y.is)

    -- a `)` that closes nothing
    pub text-wrong : o.at < length s → TextRead s a b a' b' (refused_at Grammar o.at)
    text-wrong l = record { is = reached.2 ∙ rest-down-stop s o.at (seq plain) (memory o.st a' b' nothing reached.0 reached.1) (there s o.at) l (close_down (get_or s o.at 0) closing) flat }
      where
        closing : get_or s o.at 0 ≡ 41
        closing = split (eqb (get_or s o.at 0) 41) refl
          where
            split : (t : Bool) → eqb (get_or s o.at 0) 41 ≡ t → get_or s o.at 0 ≡ 41
            split true e = eqb-true (get_or s o.at 0) 41 e
            split false e = absurd (let z = g.stops (eqb-false (get_or s o.at 0) 41 e) in omega (arith, z))

    ends-flat : (μ : Memory) → μ.st.depth ≡ 0 → length s ≤ o.at → rest s o.at (seq plain) μ ≡ good μ
    unfolding resting
    ends-flat μ e l = rest_end s o.at (seq plain) μ l ∙ ap (λ (k : ℕ). pick (resting (seq plain) k) (good μ) (bad 3 (length s))) e

    pub text-read : length s ≤ o.at → TextRead s a b a' b' (Ok o)
    text-read l = record { is = (reached.0, reached.1, past.bounded, reached.2 ∙ ends-flat (memory o.st a' b' nothing reached.0 reached.1) flat l) }

-- ---- hydrogens
hydrogens-step : (outside : List ℕ) (bonds : List ℤ) (m len a : ℕ) (t : List ℤ) {sums : List ℕ} → sums ≡ up_to (bond_sum bonds m) 0 len → a < len
    → hydrogens_by (get_or outside a 0) (get_or sums a 0) a t ≡ hydrogenate outside bonds m a t
hydrogens-step outside bonds m len a t e l = rw (e, up_to-at (bond_sum bonds m) len a 0 l)

-- written from the bond sums, the hydrogens are the molecule's
hydrogens-by : (outside : List ℕ) (bonds : List ℤ) (n m len : ℕ) (t : List ℤ) {sums : List ℕ} → sums ≡ up_to (bond_sum bonds m) 0 len → n ≤ len
    → hydrogenated_by outside sums n t ≡ hydrogenated outside bonds m n t
unfolding hydrogenated_by hydrogenated run
hydrogens-by outside bonds n m len t {sums} e l = go 0 n t (omega arith)
  where
    go : (k c : ℕ) (t : List ℤ) → k + c ≤ len → run (λ a. hydrogens_by (get_or outside a 0) (get_or sums a 0) a) k c t ≡ run (hydrogenate outside bonds m) k c t
    go k zero t h = refl
    go k (suc c) t h =
        ap (run (λ a. hydrogens_by (get_or outside a 0) (get_or sums a 0) a) (suc k) c) (hydrogens-step outside bonds m len k t e (omega arith)) ∙ go (suc k) c (hydrogenate outside bonds m k t) (omega arith)

-- the tables once the hydrogens are written, beside what one pass over the bonds left
module _ (outside : List ℕ) (atoms bonds : List ℤ) (n m len : ℕ) {sums : List ℕ} (l : n ≤ len) (e : sums ≡ up_to (bond_sum bonds m) 0 len) (v : Valid (hydrogenated outside bonds m n atoms) bonds n m) {atoms' : List ℤ} (h : atoms' ≡ hydrogenated_by outside sums n atoms) where
  pub completed-atoms : atoms' ≡ hydrogenated outside bonds m n atoms
  completed-atoms = h ∙ hydrogens-by outside bonds n m len atoms e l

  pub completed-tables : {ea eb el : List ℕ} → Wired bonds m ea eb el → Prepared atoms' bonds n m sums ea eb el
  completed-tables w = prepared (rw completed-atoms v) w e l

-- a row got the first matching, whether one exists being told by another name
pub told-as : {a b : List ℤ} {n m : ℕ} {row row' : List ℕ} {u w : Bool} → u ≡ w → FirstIn a b n m row u row' → FirstIn a b n m row w row'
told-as {a} {b} {n} {m} {row} {row'} e h = subst (λ (x : Bool). FirstIn a b n m row x row') e h

pub implied-cell : (e s sum : ℕ) → to_z w32 (implied e s sum) ≡ pos (implied e s sum)
implied-cell e s sum = to_z_pos w32 {n = implied e s sum} (omega (arith, implied-small e s sum))

-- ---- open bridges
-- the openers below i are 0 where all of them passed
pub record Closed (opener : List ℕ) (i : ℕ) (c : Bool) : Type 0 where
  pub all : c ≡ true → (r : ℕ) → r < i → get_or opener r 0 ≡ 0

pub closed-start : {opener : List ℕ} {c : Bool} → Closed opener 0 c
closed-start = record { all = λ e r l. absurd (omega arith) }

pub closed-step : {opener : List ℕ} {i : ℕ} {c : Bool} → Closed opener i c → Closed opener (i + 1) (c && eqb (get_or opener i 0) 0)
closed-step {opener} {i} {c} v = record { all = λ e r l. split e r l (ℕ_discrete r i) }
  where
    split : (c && eqb (get_or opener i 0) 0) ≡ true → (r : ℕ) → r < i + 1 → Dec (r ≡ i) → get_or opener r 0 ≡ 0
    split e r l (yes d) = rw d (eqb-true (get_or opener i 0) 0 (and_right c (eqb (get_or opener i 0) 0) e))
    split e r l (no n) = v.all (and_left c (eqb (get_or opener i 0) 0) e) r (omega arith)

-- where none is open there is no leftmost opening
module _ (opener offset : List ℕ) where
  closed_run : (c k p : ℕ) → ((r : ℕ) → r < k + c → get_or opener r 0 ≡ 0) → run (λ r q. earlier q (get_or opener r 0) (get_or offset r 0)) k c p ≡ p
  unfolding run
  closed_run zero k p f = refl
  closed_run (suc c) k p f = ap (λ (o : ℕ). run (λ r q. earlier q (get_or opener r 0) (get_or offset r 0)) (suc k) c (earlier p o (get_or offset k 0))) (f k (omega arith)) ∙ closed_run c (suc k) p (λ r l. f r (omega arith))

  pub closed-leftmost : ((r : ℕ) → r < bridges → get_or opener r 0 ≡ 0) → max_text ≡ leftmost opener offset
  unfolding leftmost
  closed-leftmost f = sym (closed_run bridges 0 max_text f)

-- ---- after the last byte
module _ (t : Steering) (a b : List ℤ) {p : ℕ} (e : p ≡ leftmost t.opener t.offset) where
  pub ended-open : {o : ReadResult} → p < max_text → o ≡ refused 10 p a b → o ≡ ended_of t a b
  unfolding ended
  ended-open h eo = rw (eo, ← e, lt-ltb p max_text h)

  module _ (h : max_text ≤ p) {v : List ℤ} (ev : v ≡ hydrogenated t.outside b t.bonds t.atoms a) where
    -- with the marks as they are stored: the late checks and matchings are the same
    abbrev stored : List ℤ
    stored = turn_marks (text_rank t.keys b) b t.bonds t.atoms v

    same-but : ButMarks stored v t.atoms
    same-but = turned-but (text_rank t.keys b) b t.bonds t.atoms t.atoms v

    stored-zeros : zeros stored ≡ zeros v
    stored-zeros = ap (λ (n : ℕ). replicate n (pos 0)) (turned-length (text_rank t.keys b) b t.bonds t.atoms v)

    pub ended-late : {o : ReadResult} (r : Refusal) → code_of r ≡ late_code v b t.atoms t.bonds → o ≡ refused (code_of r) 0 v b → o ≡ ended_of t a b
    unfolding ended
    ended-late r l eo =
        let c : code_of r ≡ late_code stored b t.atoms t.bonds = l ∙ sym (but-late same-but b t.bonds) in
        let n : eqb (late_code stored b t.atoms t.bonds) 0 ≡ false = ne_eqb (late_code stored b t.atoms t.bonds) 0 (λ z. omega (arith, (code-range r).positive, c, z)) in
        rw (eo, ← e, le-ltb p max_text h, ← ev, ← stored-zeros, c, n)

    pub ended-placed : {o : ReadResult} (x : Option ℕ) → 0 ≡ late_code v b t.atoms t.bonds → ((k : ℕ) → x ≡ Some k → k ≡ overfull_atoms t.outside b t.bonds t.atoms a) → is_some x ≡ matchable v b t.atoms t.bonds → o ≡ placed_by x stored b t.atoms t.bonds → o ≡ ended_of t a b
    unfolding ended
    ended-placed x l ek m eo = eo ∙ go x ek m
      where
        go : (x : Option ℕ) → ((k : ℕ) → x ≡ Some k → k ≡ overfull_atoms t.outside b t.bonds t.atoms a) → is_some x ≡ matchable v b t.atoms t.bonds → placed_by x stored b t.atoms t.bonds ≡ ended_of t a b
        go (Some k) ek m = rw (← e, le-ltb p max_text h, ← ev, but-late same-but b t.bonds, ← l, but-matchable same-but b t.bonds, ← m, ek k refl)
        go None ek m = rw (← e, le-ltb p max_text h, ← ev, but-late same-but b t.bonds, ← l, but-matchable same-but b t.bonds, ← m)

-- ---- the molecule with its marks as they are stored, and 11
module _ (f : ℕ → ℕ → ℕ) (v b : List ℤ) (n m : ℕ) {w : Option ℕ} where
  pub placed-marks : {k : ℕ} {x : List ℤ} → w ≡ Some k → x ≡ turn_marks f b m n v
      → told (counted n m k) x b ≡ placed_by w (turn_marks f b m n v) b n m
  placed-marks h e = rw (e, h)

  pub refused-marks : {o : ReadResult} → w ≡ None → o ≡ refused 11 0 v b → o ≡ placed_by w (turn_marks f b m n v) b n m
  refused-marks h e = rw (e, h, turned-length f b m n v)

-- ---- the public call
abbrev by_answer : List ℤ → List ℤ → Verdict Memory → ReadResult
by_answer a b (good μ) = ended μ
by_answer a b (bad c p) = refused c p a b

finished-by : (n : ℕ) (a b : List ℤ) (r : Reading Memory) → finished n a b r ≡ by_answer a b (finish n r)
finished-by n a b (going σ μ) = split (accepting σ)
  where
    split : (x : Bool) → pick x (ended μ) (refused 3 n a b) ≡ by_answer a b (pick x (good μ) (bad 3 n))
    split true = refl
    split false = refl
finished-by n a b (halted c p) = refl

zeros-as : (a x : List ℤ) {a₁ y : List ℤ} → a₁ ≡ zeros a → length x ≡ length a₁ → y ≡ zeros x → y ≡ zeros a
zeros-as a x e l h = h ∙ ap (λ (n : ℕ). replicate n (pos 0)) (l ∙ ap length e ∙ length-replicate (length a) (pos 0))

-- an answer of the machine that is good comes from a reading that goes on
good-going : (n : ℕ) (r : Reading Memory) (μ : Memory) → finish n r ≡ good μ → (σ : machine.MachineState) × (r ≡ going σ μ)
good-going n (going σ ν) μ h = split (accepting σ) h
  where
    split : (x : Bool) → pick x (good ν) (bad 3 n) ≡ good μ → (τ : machine.MachineState) × (going σ ν ≡ going τ μ)
    split true q = (σ, let e : ν ≡ μ = cc in ap (going σ) e)
    split false q = absurd (let z : ◌≡◌ {A = ℕ} 0 1 = cc in omega arith)
good-going n (halted c p) μ h = absurd (let z : ◌≡◌ {A = ℕ} 0 1 = cc in omega arith)

-- where the text was read whole the state is within its bounds
pub text-bounded : {s : List ℕ} {a b x y : List ℤ} (o : Reached) → TextRead s a b x y (Ok o) → Bounded o.st
text-bounded o g = g.is.2

-- a zeroed table that is longer than another by so many cells
abbrev longer : ℕ → List ℤ → List ℤ
longer k t = replicate (length t + k) (pos 0)

longer-than : (k : ℕ) (t : List ℤ) → length t ≤ length (longer k t)
longer-than k t = omega (arith, length-replicate {A = ℤ} (length t + k) (pos 0))

longer-enough : (a b : List ℤ) → enough (longer (atom_cells * max_atoms) a) (longer (bond_cells * max_bonds) b) ≡ true
unfolding enough
longer-enough a b =
    let la = le-leb (atom_cells * max_atoms) (length (longer (atom_cells * max_atoms) a)) (omega (arith, length-replicate {A = ℤ} (length a + atom_cells * max_atoms) (pos 0))) in
    let lb = le-leb (bond_cells * max_bonds) (length (longer (bond_cells * max_bonds) b)) (omega (arith, length-replicate {A = ℤ} (length b + bond_cells * max_bonds) (pos 0))) in
    λ i. la i && lb i

module _ (s : List ℕ) (a b : List ℤ) where
  pub told-short : enough a b ≡ false → told (refused_text Short 0) a b ≡ read_of s a b
  unfolding read_of
  told-short h = rw h

  -- into tables that are as long as they have to be
  pub into-of : enough a b ≡ true → read_into s a b ≡ read_of s a b
  unfolding read_of read_into
  into-of h = rw h

  pub told-long : {x y : List ℤ} → max_text < length s → x ≡ zeros a → y ≡ zeros b → told (refused_text LongText max_text) x y ≡ read_into s a b
  unfolding read_into
  told-long l ex ey = rw (ex, ey, lt-leb (length s) max_text l)

  module _ (l : length s ≤ max_text) {a₁ b₁ : List ℤ} (ea : a₁ ≡ zeros a) (eb : b₁ ≡ zeros b) where
    whole : read_into s a b ≡ by_answer a b (answer_of s a₁ b₁)
    unfolding read_into read_from answer
    whole = rw (le-leb (length s) max_text l, ea, eb) (finished-by (length s) a b (read act 0 (going start (beginning (zeros a) (zeros b))) s))

    pub told-refused : (e : TextRefusal) {x y x' y' : List ℤ} → TextRead s a₁ b₁ x y (Err e) → length x ≡ length a₁ → length y ≡ length b₁ → x' ≡ zeros x → y' ≡ zeros y
        → told (Err e) x' y' ≡ read_into s a b
    told-refused e {x} {y} g lx ly ex ey =
        rw (zeros-as a x ea lx ex, zeros-as b y eb ly ey) (sym (whole ∙ ap (by_answer a b) g.is))

    module _ {x y : List ℤ} (o : Reached) (g : TextRead s a₁ b₁ x y (Ok o)) where
      fine : (i : ℕ) × (f : Fields) × Bounded o.st × (answer_of s a₁ b₁ ≡ good (memory o.st x y nothing i f))
      fine = g.is

      pub told-fine : {z : ReadResult} → z ≡ ended_of o.st x y → z ≡ read_into s a b
      unfolding ended
      told-fine q = q ∙ sym (whole ∙ ap (by_answer a b) fine.3)

      -- the bytes were read to this memory
      reached-end : (σ : machine.MachineState) × (bytes_read s a b ≡ going σ (memory o.st x y nothing fine.0 fine.1))
      unfolding answer
      reached-end =
          let e : answer_of s (zeros a) (zeros b) ≡ good (memory o.st x y nothing fine.0 fine.1) = rw (← ea, ← eb) fine.3 in
          good-going (length s) (read act 0 (going start (beginning (zeros a) (zeros b))) s) (memory o.st x y nothing fine.0 fine.1) e

      module _ (room : (enough a b ≡ true) ⊎ rows.Short s a b) where
        stands : Valid (hydrogenated o.st.outside y o.st.bonds o.st.atoms x) y o.st.atoms o.st.bonds × Steers (length s) o.st
        stands = ⊎_elim long few room
          where
            long : enough a b ≡ true → Valid (hydrogenated o.st.outside y o.st.bonds o.st.atoms x) y o.st.atoms o.st.bonds × Steers (length s) o.st
            long h =
                let v = read-sane s a b {σ = reached-end.0} (record { room = h; short = l }) reached-end.1 in
                (sane-filled {σ = reached-end.0} v, v.steering)

            few : rows.Short s a b → Valid (hydrogenated o.st.outside y o.st.bonds o.st.atoms x) y o.st.atoms o.st.bonds × Steers (length s) o.st
            few h = short-stands s a b (longer (atom_cells * max_atoms) a) (longer (bond_cells * max_bonds) b) h (longer-enough a b) (longer-than (atom_cells * max_atoms) a) (longer-than (bond_cells * max_bonds) b) l reached-end.1

        pub text-valid : Valid (hydrogenated o.st.outside y o.st.bonds o.st.atoms x) y o.st.atoms o.st.bonds
        text-valid = stands.0

        pub text-rankable : Rankable y o.st.bonds o.st.keys
        text-rankable =
            record {
              few = stands.0.bonds_few;
              second = λ b k. omega (arith, second-end stands.0 b k, stands.0.atoms_few);
              room = stands.1.keys_length;
              key = λ k. omega (arith, stands.1.keys k);
            }

-- tables that were cleared are blank
zeros-twice : (t : List ℤ) → zeros t ≡ zeros (zeros t)
zeros-twice t = ap (λ (k : ℕ). replicate k (pos 0)) (sym (length-replicate {A = ℤ} (length t) (pos 0)))

pub cleared-blank : (a b : List ℤ) {x y : List ℤ} → enough a b ≡ true → x ≡ zeros a → y ≡ zeros b → Blank x y
unfolding enough
cleared-blank a b {x} {y} h ex ey =
    record {
      atoms_zero = ex ∙ zeros-twice a ∙ ap zeros (sym ex);
      bonds_zero = ey ∙ zeros-twice b ∙ ap zeros (sym ey);
      room = (λ i. leb (atom_cells * max_atoms) (lx i) && leb (bond_cells * max_bonds) (ly i)) ∙ h;
    }
  where
    lx : length x ≡ length a
    lx = ap length ex ∙ length-replicate {A = ℤ} (length a) (pos 0)

    ly : length y ≡ length b
    ly = ap length ey ∙ length-replicate {A = ℤ} (length b) (pos 0)

pub blank-ready : (s : List ℕ) {x y : List ℤ} → Blank x y → Ready s x y
blank-ready s b = record { atoms_zero = b.atoms_zero; bonds_zero = b.bonds_zero; room = inl b.room }

-- ---- for the functions' proofs
pub hydrogens-put : (t : List ℤ) (a x sum : ℕ) {e s h : ℕ} {t' : List ℤ} → x ≡ 1 → e ≡ element t a → s ≡ selected t a → h ≡ implied e s sum → t' ≡ set t (atom_place a HYDROGENS) (to_z w32 h) → t' ≡ hydrogens_by x sum a t
hydrogens-put t a x sum {e} {s} {h} ex ee es eh et =
    et ∙ ap (λ (z : ℕ). set t (atom_place a HYDROGENS) (to_z w32 z)) (eh ∙ ap (λ (z : ℕ). implied z s sum) ee ∙ ap (λ (z : ℕ). implied (element t a) z sum) es)
    ∙ rw (implied-cell (element t a) (selected t a) sum, eq-eqb x 1 ex)
