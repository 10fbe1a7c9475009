-- Reading what was written: the tables that are read, cell by cell and bond by bond. Assumes nothing.
use mathlib.Core.Path.{◌≡◌, refl, sym, ap, ◌∙◌, subst}
use mathlib.Core.Bool.{Bool, true, false}
use mathlib.Core.List.{List, [], ◌∷◌, map}
use Prim.Native.Nat.{ℕ, zero, suc, ◌*◌, ◌<◌, ◌≤◌}
use native.Mathlib.Omega.{arith}
use lib.Dec.{eqb, ltb}
use lib.ListN.{length, get_or, length-map}
use lib.IntN.{ℤ, pos}
use borrow.Author.Tests.{ltb-true, eqb-true, eqb-false}
use Rattle.kinds.proofs.Kind.{turned-small, order-turned}
use Rattle.kinds.specs.Kind.{max_kind, order}
use Rattle.loops.specs.Loop.{pick}
use Rattle.parity.specs.Parity.{odd}
use Rattle.parity.specs.Mark.{mark_if}
use Rattle.loops.proofs.Loops.{and_left, and_right}
use Rattle.valence.specs.Valence.{implied}
use Rattle.table_graph.specs.Graph.{bond_sum, matchable}
use Rattle.table.specs.Limits.{max_atoms, max_bonds, atom_cells, bond_cells, ELEMENT, SELECTED, ISOTOPE, HYDROGENS, CHARGE, EXTENSION, MARK, FIRST, SECOND}
use Rattle.table.specs.Cells.{number, atom_cell, bond_cell, element, selected, hydrogens, mark, end1, end2}
use Rattle.table.specs.Rows.{cells_of, bond_cells_of}
use Rattle.table.specs.Valid.{Valid, max_mark, selected_ok}
use Rattle.table.specs.Sound.{bond_degree, loose, none_loose, unfit, none_unfit, late_code}
use Rattle.table.specs.Orders.{turned_mark, turn_marks}
use Rattle.table.proofs.Sound.{late-fine, late-none, none-loose, not-loose, none-unfit, not-unfit}
use Rattle.table.proofs.Orders.{mark-zero, turned-cell, turned-field, turned-rest, turned-length}
use Rattle.table.proofs.Valid.{AtomFine, atom-row, range-pos, Enough}
use Rattle.ids.specs.Limits.{max_text, max_depth, bridges}
use Rattle.reading.specs.Memory.{Memory}
use Rattle.reading.specs.Read.{hydrogenated, overfull_atoms, text_rank, leftmost, refused, checked, ended, finished, read_from}
use Rattle.writing_walk.specs.Token.{Bond, Tok, apart, along, ring, branch, back}
use Rattle.writing_walk.specs.Reading.{St, st, start_tokens}
use Rattle.writing_walk.specs.Emit.{pre}
use Rattle.writing_walk.specs.Walk.{forest_of, place, renumber, renumbered}
use Rattle.writing_walk.specs.Check.{fine, reading}
use Rattle.writing_walk.specs.Keyed.{Keyed, run_keyed, start_keyed, key_of}
use Rattle.writing_walk.specs.Ranks.{Clock, offset_clock}
use Rattle.writing_walk.proofs.Count.{count, All, none, more, all_map, all-at}
use Rattle.writing_walk.proofs.Trip.{Renumbering, renumbering, completed, Returned, round_trip}
use Rattle.writing_walk.proofs.Perm.{Perm, bonds-permuted}
use Rattle.writing_walk.proofs.Checked.{read-written, length-count}
use Rattle.writing_walk.proofs.Grammar.{written-grammar}
use Rattle.writing_walk.proofs.Twice.{count_map}
use Rattle.writing_walk.proofs.Times.{written-keys, written-time}
use Rattle.writing_walk.proofs.Ranks.{offset-clock, offset-bound}
use Rattle.writing_walk.proofs.Seats.{ring_tokens}
use Rattle.writing_walk.proofs.Sums as sums
use Rattle.walk_orders.specs.Orders.{numbers_at, new_number}
use Rattle.roundtrip_matchings.proofs.Sums.{sum-total, degree-total}
use Rattle.roundtrip_matchings.proofs.Marks.{uncrowded-same, touching-same}
use Rattle.roundtrip_matchings.proofs.Claims.{matchable-renumbered}
use Rattle.writing_walk.proofs.Made.{Made, written-made}
use Rattle.writing_walk.proofs.Order.{place-below, atom-below, place-atom, atom-place}
use Rattle.writing.specs.Spell.{unbracketed}
use Rattle.writing.specs.Write.{bond_list, tokens, written_rank, marks_written, text_of, few_bridges, shallow}
use Rattle.writing.proofs.Bonds.{inside}
use Rattle.writing.proofs.Marks.{written-but, written-mark, written-valid}
use Rattle.roundtrip.proofs.Atoms.{row_by, draft_row, outside_flag, bare_of}
use Rattle.roundtrip.proofs.Held.{nobond, row_of_bond}
use Rattle.roundtrip.proofs.Keying.{KeyTable}
use Rattle.roundtrip.proofs.Turned.{mark-read, mark-rewritten}
use Rattle.roundtrip.proofs.Simulation.{Sim}
use Rattle.roundtrip.proofs.Tokens.{Good}
use Rattle.roundtrip.proofs.Written.{Held, text-read}
use Rattle.roundtrip.proofs.Bonds.{small-kinds, distinct, many, listed}
use Rattle.roundtrip.proofs.Ending.{none_left, hydrogens-cell, other-cell, rest-cell, hydrogenated-length}

-- ---- tokens of valid tables with few bridges
good-tokens : (n : ℕ) (ts : List Tok) → few_bridges ts ≡ true → All (Made (λ v. v < n) (λ k. k ≤ max_kind)) ts → All (Good n) ts
unfolding few_bridges
good-tokens n [] h none = none
good-tokens n (apart w ∷ ts) h (more g a) = more {b = apart w} g (good-tokens n ts h a)
good-tokens n (along k w ∷ ts) h (more g a) = more {b = along k w} g (good-tokens n ts h a)
good-tokens n (ring k r ∷ ts) h (more g a) = more {b = ring k r} (g, ltb-true (suc r) bridges (and_left (ltb (suc r) bridges) (few_bridges ts) h)) (good-tokens n ts (and_right (ltb (suc r) bridges) (few_bridges ts) h) a)
good-tokens n (branch ∷ ts) h (more g a) = more {b = branch} tt (good-tokens n ts h a)
good-tokens n (back ∷ ts) h (more g a) = more {b = back} tt (good-tokens n ts h a)

pub map_same : (l : List ℕ) → map (λ a. a) l ≡ l
map_same [] = refl
map_same (x ∷ l) = ap (λ (k : List ℕ). x ∷ k) (map_same l)

seven : (P : ℕ → Type 0) → P 0 → P 1 → P 2 → P 3 → P 4 → P 5 → P 6 → (f : ℕ) → f < atom_cells → P f
seven P a b c d e g h zero l = a
seven P a b c d e g h (suc zero) l = b
seven P a b c d e g h (suc (suc zero)) l = c
seven P a b c d e g h (suc (suc (suc zero))) l = d
seven P a b c d e g h (suc (suc (suc (suc zero)))) l = e
seven P a b c d e g h (suc (suc (suc (suc (suc zero))))) l = g
seven P a b c d e g h (suc (suc (suc (suc (suc (suc zero)))))) l = h
seven P a b c d e g h (suc (suc (suc (suc (suc (suc (suc f))))))) l = absurd (omega arith)

-- ---- the row of an atom before its hydrogens, against its row in valid tables
module _ (atoms bonds : List ℤ) (m v : ℕ) (fine-row : AtomFine atoms v) where
  element-cell : atom_cell atoms v ELEMENT ≡ pos (element atoms v)
  element-cell = range-pos (atom_cell atoms v ELEMENT) 118 fine-row.element

  selected-cell : atom_cell atoms v SELECTED ≡ pos (selected atoms v)
  unfolding selected_ok
  selected-cell = range-pos (atom_cell atoms v SELECTED) 1 (and_left _ _ fine-row.selected)

  isotope-cell : atom_cell atoms v ISOTOPE ≡ pos (number (atom_cell atoms v ISOTOPE))
  isotope-cell = range-pos (atom_cell atoms v ISOTOPE) 999 fine-row.isotope

  hydrogens-as : atom_cell atoms v HYDROGENS ≡ pos (hydrogens atoms v)
  hydrogens-as = range-pos (atom_cell atoms v HYDROGENS) 9 fine-row.hydrogens

  extension-cell : atom_cell atoms v EXTENSION ≡ pos (number (atom_cell atoms v EXTENSION))
  extension-cell = range-pos (atom_cell atoms v EXTENSION) 9999 fine-row.extension

  mark-cell : atom_cell atoms v MARK ≡ pos (mark atoms v)
  mark-cell = range-pos (atom_cell atoms v MARK) max_mark fine-row.mark

  draft-cell : (f : ℕ) → f < atom_cells → (f ≡ HYDROGENS → ⊥) → get_or (cells_of (draft_row atoms bonds m v)) f (pos 0) ≡ atom_cell atoms v f
  unfolding draft_row
  draft-cell f l h = go (unbracketed atoms bonds m v) refl f l h
    where
      go : (x : Bool) → unbracketed atoms bonds m v ≡ x → (f : ℕ) → f < atom_cells → (f ≡ HYDROGENS → ⊥) → get_or (cells_of (row_by atoms bonds m v x)) f (pos 0) ≡ atom_cell atoms v f
      go true e =
          let b = bare_of atoms bonds m v e in
          seven (λ f. (f ≡ HYDROGENS → ⊥) → get_or (cells_of (row_by atoms bonds m v true)) f (pos 0) ≡ atom_cell atoms v f)
          (λ h. sym element-cell) (λ h. sym selected-cell) (λ h. sym (isotope-cell ∙ ap pos b.isotope)) (λ h. absurd (h refl)) (λ h. sym b.charge) (λ h. sym (extension-cell ∙ ap pos b.extension)) (λ h. sym (mark-cell ∙ ap pos b.unmarked))
      go false e =
          seven (λ f. (f ≡ HYDROGENS → ⊥) → get_or (cells_of (row_by atoms bonds m v false)) f (pos 0) ≡ atom_cell atoms v f)
          (λ h. sym element-cell) (λ h. sym selected-cell) (λ h. sym isotope-cell) (λ h. absurd (h refl)) (λ h. refl) (λ h. sym extension-cell) (λ h. sym mark-cell)

  -- the hydrogens that reading gives at the end
  given : (t : List ℤ) (a : ℕ) (U : List ℤ) → element t a ≡ element atoms v → selected t a ≡ selected atoms v → bond_sum U m a ≡ bond_sum bonds m v → atom_cell t a HYDROGENS ≡ get_or (cells_of (draft_row atoms bonds m v)) HYDROGENS (pos 0)
      → pick (eqb (outside_flag atoms bonds m v) 1) (pos (implied (element t a) (selected t a) (bond_sum U m a))) (atom_cell t a HYDROGENS) ≡ atom_cell atoms v HYDROGENS
  unfolding draft_row outside_flag
  given t a U e s b = go (unbracketed atoms bonds m v) refl
    where
      go : (x : Bool) → unbracketed atoms bonds m v ≡ x → atom_cell t a HYDROGENS ≡ get_or (cells_of (row_by atoms bonds m v x)) HYDROGENS (pos 0)
          → pick (eqb (pick x 1 0) 1) (pos (implied (element t a) (selected t a) (bond_sum U m a))) (atom_cell t a HYDROGENS) ≡ atom_cell atoms v HYDROGENS
      go true y c = rw (e, s, b, (bare_of atoms bonds m v y).implied) (sym hydrogens-as)
      go false y c = c ∙ sym hydrogens-as

-- ---- the end of a reading with no open bridge: the atoms with their hydrogens, before and after their marks are turned
abbrev filled_in : Memory → ℕ → ℕ → List ℤ
filled_in μ n m = hydrogenated μ.st.outside μ.bonds m n μ.atoms

abbrev turned_in : Memory → ℕ → ℕ → List ℤ
turned_in μ n m = turn_marks (text_rank μ.st.keys μ.bonds) μ.bonds m n (filled_in μ n m)

ended-law : (μ : Memory) (n m : ℕ) → leftmost μ.st.opener μ.st.offset ≡ max_text → μ.st.atoms ≡ n → μ.st.bonds ≡ m → ended μ ≡ checked (turned_in μ n m) μ.bonds n m (overfull_atoms μ.st.outside μ.bonds m n μ.atoms)
unfolding ended
ended-law μ n m e a b = rw (e, a, b)

-- ---- the molecule that is read
-- T and U: its tables; p and q: their cells
pub record Molecule (atoms bonds : List ℤ) (n m : ℕ) (T U : List ℤ) (p q : ℕ) : Type 0 where
  pub cells : (v f : ℕ) → v < n → f < atom_cells → (f ≡ MARK → ⊥) → atom_cell T (place (pre (forest_of n (bond_list bonds m))) v) f ≡ atom_cell atoms v f
  -- the mark, turned as the numbers of the atom's bonds are
  pub marks : (v : ℕ) → v < n → atom_cell T (place (pre (forest_of n (bond_list bonds m))) v) MARK
      ≡ pos (mark_if (odd (map (new_number n (bond_list bonds m) (completed n (bond_list bonds m))) (numbers_at v (bond_list bonds m)))) (mark atoms v))
  -- and the mark that is written of it, which is that of the text
  pub rewritten : (v : ℕ) → v < n → turned_mark (written_rank U n m) T U m (place (pre (forest_of n (bond_list bonds m))) v) ≡ mark (marks_written atoms bonds n m) v
  pub listed : bond_list U m ≡ completed n (bond_list bonds m)
  pub bonds_cells : (b f : ℕ) → b < m → f < bond_cells → bond_cell U b f ≡ get_or (bond_cells_of (row_of_bond (get_or (completed n (bond_list bonds m)) b nobond))) f (pos 0)
  pub atoms_after : (j : ℕ) → atom_cells * n ≤ j → get_or T j (pos 0) ≡ pos 0
  pub bonds_after : (j : ℕ) → bond_cells * m ≤ j → get_or U j (pos 0) ≡ pos 0
  pub atoms_long : length T ≡ p
  pub bonds_long : length U ≡ q

pub record ReadBack (atoms₀ bonds₀ : List ℤ) (n m : ℕ) (A B : List ℤ) : Type 0 where
  pub atoms : List ℤ
  pub bonds : List ℤ
  pub overfull : ℕ
  pub reads : read_from (text_of atoms₀ bonds₀ n m) A B ≡ checked atoms bonds n m overfull
  pub molecule : Molecule atoms₀ bonds₀ n m atoms bonds (length A) (length B)

module _ (atoms bonds : List ℤ) (n m : ℕ) (v : Valid atoms bonds n m) where
  abbrev bs : List Bond
  bs = bond_list bonds m

  abbrev walked : List ℕ
  walked = pre (forest_of n bs)

  pub ren : Renumbering n walked
  ren = renumbering n bs (inside v)

  pub as_many : length (completed n bs) ≡ m
  unfolding renumbered
  as_many =
      let r : (p : Bond → Bool) → count p (completed n bs) ≡ count p (map (renumber walked) bs) = (round_trip n (λ a. a) bs (inside v)).bonds in
      length-count (completed n bs) ∙ r (λ b. true) ∙ count_map (λ b. true) (renumber walked) bs ∙ sym (length-count bs) ∙ many v

  -- bond sums are the same in the table of the completed bonds
  pub sum_same : (U : List ℤ) → bond_list U m ≡ completed n bs → (w : ℕ) → w < n → bond_sum U m (place walked w) ≡ bond_sum bonds m w
  sum_same U e w l =
      sum-total U m (place walked w) ∙ ap (sums.bond_sum order (place walked w)) e ∙ sums.sum_kept n bs (inside v) order order-turned w l ∙ sym (sum-total bonds m w)

  -- and so are the numbers of bonds
  degree-same : (U : List ℤ) → bond_list U m ≡ completed n bs → (w : ℕ) → w < n → bond_degree U m (place walked w) ≡ bond_degree bonds m w
  degree-same U e w l =
      degree-total U m (place walked w) ∙ ap (sums.bond_sum (λ k. 1) (place walked w)) e ∙ sums.sum_kept n bs (inside v) (λ k. 1) (λ k. refl) w l ∙ sym (degree-total bonds m w)

  module _ (A B : List ℤ) (lent : Enough A B) (few : few_bridges (tokens bonds n m) ≡ true) (flat : shallow (tokens bonds n m) ≡ true) (short : length (text_of atoms bonds n m) ≤ max_text) where
    -- the atoms as they are written
    abbrev W : List ℤ
    W = marks_written atoms bonds n m

    rows-fine : (w : ℕ) → w < n → AtomFine W w
    rows-fine = atom-row (written-valid atoms bonds n m v)

    trip : Returned n (λ a. a) bs
    trip = round_trip n (λ a. a) bs (inside v)

    end-state : St
    end-state = st (map (λ a. a) walked) (completed n bs) trip.hub n trip.bridges []

    tokens-read : reading max_atoms max_bonds max_depth (tokens bonds n m) start_tokens ≡ fine end-state
    unfolding tokens end-state
    tokens-read = read-written max_atoms max_bonds max_depth n (λ a. a) bs (inside v) (distinct v) v.atoms_few (let e = many v in let l = v.bonds_few in omega arith) flat ∙ ap fine trip.reads

    abbrev end-keyed : Keyed
    end-keyed = run_keyed (tokens bonds n m) start_keyed

    held : Held W bonds n m (length A) (length B) rows-fine lent.atoms_room lent.bonds_room A B refl refl (text_of atoms bonds n m) end-state end-keyed
    unfolding text_of tokens
    held = text-read W bonds n m (length A) (length B) rows-fine lent.atoms_room lent.bonds_room A B refl refl (tokens bonds n m) end-state (written-grammar n (λ a. a) bs) tokens-read
        (good-tokens n (tokens bonds n m) few (written-made (λ w. w < n) (λ k. k ≤ max_kind) (omega arith) turned-small n (λ a. a) bs (inside v) (λ w l. l) (small-kinds v)))

    abbrev μ : Memory
    μ = held.memory

    sim : Sim (draft_row W bonds m) (outside_flag W bonds m) (length A) (length B) (map (λ a. a) walked) (completed n bs) trip.hub n trip.bridges [] μ
    unfolding end-state
    sim = held.holds

    -- the tables that are read; the atoms before their marks are turned
    abbrev read_bonds : List ℤ
    read_bonds = μ.bonds

    abbrev H : List ℤ
    H = filled_in μ n m

    abbrev read_atoms : List ℤ
    read_atoms = turned_in μ n m

    payload : (w : ℕ) → w < n → get_or (map (λ a. a) walked) (place walked w) 0 ≡ w
    payload w l = ap (λ (x : List ℕ). get_or x (place walked w) 0) (map_same walked) ∙ atom-place ren w l

    before : (w f : ℕ) → w < n → f < atom_cells → atom_cell μ.atoms (place walked w) f ≡ get_or (cells_of (draft_row W bonds m w)) f (pos 0)
    before w f l k = sim.table.cells (place walked w) f (place-below ren w l) k ∙ ap (λ (x : ℕ). get_or (cells_of (draft_row W bonds m x)) f (pos 0)) (payload w l)

    same-cell : (w f : ℕ) → w < n → f < atom_cells → (f ≡ HYDROGENS → ⊥) → atom_cell μ.atoms (place walked w) f ≡ atom_cell W w f
    same-cell w f l k h = before w f l k ∙ draft-cell W bonds m w (rows-fine w l) f k h

    read-list : bond_list read_bonds m ≡ completed n bs
    read-list = subst (λ (k : ℕ). bond_list read_bonds k ≡ completed n bs) as_many (listed (length B) read_bonds (completed n bs) sim.bonding)

    hydrogens-read : (w : ℕ) → w < n → atom_cell H (place walked w) HYDROGENS ≡ atom_cell W w HYDROGENS
    hydrogens-read w l =
        let a = place walked w in
        let b = place-below ren w l in
        let t = sim.table.long in
        let g = lent.atoms_room in
        let y = v.atoms_few in
        hydrogens-cell μ.st.outside read_bonds m n a μ.atoms b (omega arith)
        ∙ ap (λ (x : ℕ). pick (eqb x 1) (pos (implied (element μ.atoms a) (selected μ.atoms a) (bond_sum read_bonds m a))) (atom_cell μ.atoms a HYDROGENS)) (sim.table.flags a b ∙ ap (outside_flag W bonds m) (payload w l))
        ∙ given W bonds m w (rows-fine w l) μ.atoms a read_bonds (ap number (same-cell w ELEMENT l (omega arith) (λ z. omega arith))) (ap number (same-cell w SELECTED l (omega arith) (λ z. omega arith))) (sum_same read_bonds read-list w l) (before w HYDROGENS l (omega arith))

    -- every cell as it was written
    filled-cell : (w f : ℕ) → w < n → f < atom_cells → (x : Bool) → eqb f HYDROGENS ≡ x → atom_cell H (place walked w) f ≡ atom_cell W w f
    filled-cell w f l k true e = subst (λ (f : ℕ). atom_cell H (place walked w) f ≡ atom_cell W w f) (sym (eqb-true f HYDROGENS e)) (hydrogens-read w l)
    filled-cell w f l k false e = other-cell μ.st.outside read_bonds m n (place walked w) f μ.atoms k (eqb-false f HYDROGENS e) ∙ same-cell w f l k (eqb-false f HYDROGENS e)

    -- every cell but the mark as it was
    cell-read : (w f : ℕ) → w < n → f < atom_cells → (f ≡ MARK → ⊥) → atom_cell read_atoms (place walked w) f ≡ atom_cell atoms w f
    cell-read w f l k h =
        turned-field (text_rank μ.st.keys read_bonds) read_bonds m n H (place walked w) f k h ∙ filled-cell w f l k (eqb f HYDROGENS) refl ∙ (written-but atoms bonds n m).field w f k h

    -- ---- the marks: the offsets of the digits are a clock of the ring tokens
    abbrev offsets : List ℕ
    offsets = held.keys.offsets

    timed : length offsets ≡ ring_tokens n bs
    unfolding tokens
    timed = held.keys.timed ∙ written-time n bs (inside v) (distinct v) (λ a. a)

    clock : Clock (offset_clock offsets) (ring_tokens n bs)
    clock = subst (Clock (offset_clock offsets)) timed (offset-clock offsets held.keys.rising)

    large : offset_clock offsets (ring_tokens n bs) ≤ max_text
    large = offset-bound offsets max_text (all_map (λ p. p < length (text_of atoms bonds n m)) (λ p. p < max_text) (λ p l. omega arith) offsets held.keys.past) (ring_tokens n bs) (let e = timed in omega arith)

    keyed-read : KeyTable (offset_clock offsets) μ.st.keys (map (key_of n bs) (completed n bs))
    unfolding tokens
    keyed-read = subst (KeyTable (offset_clock offsets) μ.st.keys) (written-keys n bs (inside v) (distinct v) (λ a. a)) held.keys.table

    ordered : (b : ℕ) → b < m → end1 read_bonds b < end2 read_bonds b
    unfolding number
    ordered b l =
        let k : b < length (completed n bs) = (let e = as_many in omega arith) in
        rw (sim.bonding.cells b FIRST k (omega arith), sim.bonding.cells b SECOND k (omega arith)) (all-at (λ b. b.lo < b.hi) nobond (completed n bs) b sim.bonding.ordered k)

    mark-filled : (w : ℕ) → w < n → mark H (place walked w) ≡ turned_mark (written_rank bonds n m) atoms bonds m w
    mark-filled w l = ap number (filled-cell w MARK l (omega arith) false refl) ∙ written-mark atoms bonds n m w l

    hydrogens-filled : (w : ℕ) → w < n → hydrogens H (place walked w) ≡ hydrogens atoms w
    hydrogens-filled w l = ap number (hydrogens-read w l ∙ (written-but atoms bonds n m).field w HYDROGENS (omega arith) (λ e. omega arith))

    key-count : length (map (key_of n bs) (completed n bs)) ≡ m
    key-count = length-map (completed n bs) (key_of n bs) ∙ as_many

    mark-cell-read : (w : ℕ) → w < n → atom_cell read_atoms (place walked w) MARK ≡ pos (turned_mark (text_rank μ.st.keys read_bonds) H read_bonds m (place walked w))
    mark-cell-read w l = turned-cell (text_rank μ.st.keys read_bonds) read_bonds m n H (place walked w) (place-below ren w l)

    molecule : Molecule atoms bonds n m read_atoms read_bonds (length A) (length B)
    unfolding number
    molecule = record {
      cells = cell-read;
      marks = λ w l. mark-cell-read w l
          ∙ ap pos (mark-read atoms bonds read_bonds n m (inside v) (distinct v) read-list μ.st.keys (offset_clock offsets) clock large key-count keyed-read ordered w l H (hydrogens-filled w l) (mark-filled w l));
      rewritten = λ w l.
          mark-rewritten atoms bonds read_bonds n m (inside v) (distinct v) read-list μ.st.keys (offset_clock offsets) clock large key-count keyed-read ordered w l H read_atoms (place-below ren w l)
          (ap number (turned-field (text_rank μ.st.keys read_bonds) read_bonds m n H (place walked w) HYDROGENS (omega arith) (λ e. omega arith))) (ap number (mark-cell-read w l)) (mark-filled w l)
          ∙ sym (written-mark atoms bonds n m w l);
      listed = read-list;
      bonds_cells = λ b f l k. sim.bonding.cells b f (let e = as_many in omega arith) k;
      atoms_after = λ j l. turned-rest (text_rank μ.st.keys read_bonds) read_bonds m n H j l ∙ rest-cell μ.st.outside read_bonds m n j μ.atoms l ∙ sim.table.after j l;
      bonds_after = λ j l. sim.bonding.after j (let e = as_many in omega arith);
      atoms_long = turned-length (text_rank μ.st.keys read_bonds) read_bonds m n H ∙ hydrogenated-length μ.st.outside read_bonds m n μ.atoms ∙ sim.table.long;
      bonds_long = sim.bonding.long;
    }

    reads : read_from (text_of atoms bonds n m) A B ≡ checked read_atoms read_bonds n m (overfull_atoms μ.st.outside read_bonds m n μ.atoms)
    unfolding read_from
    reads =
        ap (finished (length (text_of atoms bonds n m)) A B) held.takes.is
        ∙ ap (λ (x : Bool). pick x (ended μ) (refused 3 (length (text_of atoms bonds n m)) A B)) held.ends
        ∙ ended-law μ n m (none_left μ.st.opener μ.st.symbol μ.st.offset trip.bridges sim.bridging trip.closed) sim.atoms (sim.bonds ∙ as_many)

    -- THE READING of what was written
    pub read_back : ReadBack atoms bonds n m A B
    read_back = record { atoms = read_atoms; bonds = read_bonds; overfull = overfull_atoms μ.st.outside read_bonds m n μ.atoms; reads = reads; molecule = molecule }

  -- ---- what is read is the molecule under its renumbering, so a matching exists in both or in none
  module _ {T U : List ℤ} {p q : ℕ} (M : Molecule atoms bonds n m T U p q) where
    permuted : Perm (completed n bs) (map (renumber walked) bs)
    unfolding renumbered
    permuted = bonds-permuted n bs (inside v)

    -- an atom that is read
    module _ (a : ℕ) (l : a < n) where
      abbrev origin : ℕ
      origin = get_or walked a 0

      here : place walked origin ≡ a
      here = place-atom ren a l

      degree : bond_degree U m a ≡ bond_degree bonds m origin
      degree = subst (λ (x : ℕ). bond_degree U m x ≡ bond_degree bonds m origin) here (degree-same U M.listed origin (atom-below ren a l))

      pub cell-here : (f : ℕ) → f < atom_cells → (f ≡ MARK → ⊥) → atom_cell T a f ≡ atom_cell atoms origin f
      cell-here f k e = subst (λ (x : ℕ). atom_cell T x f ≡ atom_cell atoms origin f) here (M.cells origin f (atom-below ren a l) k e)

      marked : ltb 0 (mark T a) ≡ ltb 0 (mark atoms origin)
      unfolding number
      marked = subst (λ (x : ℕ). ltb 0 (mark T x) ≡ ltb 0 (mark atoms origin)) here
          (ap (λ (z : ℤ). ltb 0 (number z)) (M.marks origin (atom-below ren a l)) ∙ mark-zero (odd (map (new_number n bs (completed n bs)) (numbers_at origin bs))) (mark atoms origin))

      tight : none_loose atoms bonds n m ≡ true → loose T U m a ≡ false
      tight h = rw (cell-here SELECTED (omega arith) (λ e. omega arith), degree) (not-loose atoms bonds n m h origin (atom-below ren a l))

      fit : none_unfit atoms bonds n m ≡ true → unfit T U m a ≡ false
      fit h = rw (marked, cell-here HYDROGENS (omega arith) (λ e. omega arith), degree) (not-unfit atoms bonds n m h origin (atom-below ren a l))

    -- no late check fails in what is read if none fails in the molecule
    pub late-same : late_code atoms bonds n m ≡ 0 → late_code T U n m ≡ 0
    late-same h =
        let p = late-none atoms bonds n m h in
        late-fine T U n m (uncrowded-same bonds U n m (inside v) M.listed p.uncrowded) (touching-same bonds U n m (inside v) M.listed p.touching) (none-loose T U n m (λ a l. tight a l p.tight))
        (none-unfit T U n m (λ a l. fit a l p.fit))

    pub matchable-same : matchable T U n m ≡ matchable atoms bonds n m
    matchable-same = matchable-renumbered (record {
      numbers = ren;
      inside = inside v;
      permuted = subst (λ (l : List Bond). Perm l (map (renumber walked) bs)) (sym M.listed) permuted;
      elements = λ w l. ap number (M.cells w ELEMENT l (omega arith) (λ e. omega arith));
      selections = λ w l. ap number (M.cells w SELECTED l (omega arith) (λ e. omega arith));
      charges = λ w l. M.cells w CHARGE l (omega arith) (λ e. omega arith);
      hydrogen-counts = λ w l. ap number (M.cells w HYDROGENS l (omega arith) (λ e. omega arith));
    })
