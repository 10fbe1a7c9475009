-- What was read stands in the tables of an accepted text: complete atoms, bonds, and the fields of each bracket. Assumes nothing.
use Prim.Native.Nat.{ℕ, zero, suc, ◌+◌, ◌*◌, ◌≤◌, ◌<◌}
use native.Mathlib.Omega.{arith}
use mathlib.Core.Path.{◌≡◌, refl, sym, ap, subst, ◌∙◌}
use mathlib.Core.Bool.{Bool, true, false}
use mathlib.Core.List.{List, [], ◌∷◌, ◌++◌}
use lib.ListN.{length, get_or, take, drop, take-append-drop}
use native.Mathlib.Nat.{add-zero}
use lib.Seq.{take-suc, get_or-drop, get_or-set_same}
use lib.IntN.{ℤ}
use Rattle.element.specs.declared.Letter.{Letter}
use Rattle.element.specs.declared.Letter.TheVariants.{Plain, Selected}
use Rattle.element.specs.Symbols.{among, listed, symbols, starts, marks}
use Rattle.reading_grammar.specs.Grammar.{nonzero, digits, several, signs}
use Rattle.reading_grammar.specs.declared.Last.{Last}
use Rattle.reading_grammar.specs.declared.Last.TheVariants.{Plain as plain, AfterC as afterC, AfterB as afterB}
use Rattle.reading_grammar.specs.declared.Mode.{Mode}
use Rattle.reading_grammar.specs.declared.Mode.TheVariants.{Seq as seq, Bond as bond, AtomNext as atomNext, Inside as inside, Percent as percent, Percent1 as percent1, LetterA as letterA, LetterT as letterT, Bracket as bracket, Isotope as isotope, Symbol1 as symbol1, Symbolled as symbolled, At1 as at1, At2 as at2, Hydrogen as hydrogen, Hydrogens as hydrogens, Sign as sign, Charged as charged, Colon as colon, Extension as extension}
use Rattle.reading_grammar.specs.declared.MachineState.{MachineState}
use Rattle.reading_grammar.specs.declared.MachineState.TheVariants.{Start as start, At as at}
use Rattle.reading_grammar.specs.Machine.{alive, step, next, symbol_or}
use Rattle.reading_grammar.specs.Machine as machine
use Rattle.reading_grammar.specs.Fold.{Reading, going, halted, keeps, feed, read}
use Rattle.reading_grammar.proofs.Ends.{never}
use Rattle.reading_grammar.proofs.Complete.{no_second}
use Rattle.reading_grammar.proofs.Fold.{Goes, goes, read-append, prefix-goes}
use Rattle.table.specs.Limits.{atom_cells}
use Rattle.table.specs.declared.Atom.{Atom}
use Rattle.table.specs.Cells.{number}
use Rattle.table.specs.Rows.{atom_row, bond_row}
use Rattle.reading.specs.Memory.{Memory, row_of, bare_row, begun, described}
use Rattle.reading.specs.Act.{first_byte_of, mode_act, act}
use Rattle.reading.specs.Read.{zeros, beginning, read_of}
use Rattle.reading.specs.Conditions.{bytes_read, Fits}
use Rattle.reading.specs.Claims.{with_hydrogens, with_mark, implied_at, stored_mark, Given, Accepted}
use Rattle.reading.proofs.Sane.{Sane}
use Rattle.table.proofs.Rows.{with-atom-row}
use Rattle.reading.proofs.Step.{sane-beginning, sane-going}
use Rattle.reading.proofs.Dispatch.{Second}
use Rattle.reading.proofs.Stays.{half-bracket, writing, After, Complete, Left, stays, Same, counted, letter-stays}
use Rattle.reading.proofs.Accepted.{read-accepted}

-- ---- `]`

-- in a bracket, `]` writes the row of the fields, and the bracket is closed
record Shuts (m : Mode) (d k : ℕ) (μ : Memory) : Type 0 where
  pub state : step (at m d) 93 ≡ at (seq plain) d
  pub memory : act (at m d) 93 k μ ≡ keeps (described (row_of μ.draft) μ)

shuts : (m : Mode) (d k : ℕ) (μ : Memory) → writing m ≡ half-bracket → alive (step (at m d) 93) ≡ true → Shuts m d k μ
unfolding step next act mode_act symbol_or starts symbols among marks nonzero digits several signs machine.marking machine.hydrating machine.charging machine.extending machine.closing
shuts (seq plain) d k μ w v = absurd (let z : ◌≡◌ {A = ℕ} 0 1 = cc in omega arith)
shuts (seq afterC) d k μ w v = absurd (let z : ◌≡◌ {A = ℕ} 0 1 = cc in omega arith)
shuts (seq afterB) d k μ w v = absurd (let z : ◌≡◌ {A = ℕ} 0 1 = cc in omega arith)
shuts bond d k μ w v = absurd (let z : ◌≡◌ {A = ℕ} 0 1 = cc in omega arith)
shuts atomNext d k μ w v = absurd (let z : ◌≡◌ {A = ℕ} 0 1 = cc in omega arith)
shuts inside d k μ w v = absurd (let z : ◌≡◌ {A = ℕ} 0 1 = cc in omega arith)
shuts percent d k μ w v = absurd (let z : ◌≡◌ {A = ℕ} 0 1 = cc in omega arith)
shuts percent1 d k μ w v = absurd (let z : ◌≡◌ {A = ℕ} 0 1 = cc in omega arith)
shuts letterA d k μ w v = absurd (let z : ◌≡◌ {A = ℕ} 0 1 = cc in omega arith)
shuts letterT d k μ w v = absurd (let z : ◌≡◌ {A = ℕ} 0 1 = cc in omega arith)
shuts bracket d k μ w v = never v
shuts (isotope zero) d k μ w v = never v
shuts (isotope (suc n)) d k μ w v = never v
shuts (symbol1 a) d k μ w v = known (listed (a ∷ []) symbols) refl (no_second a 93 refl)
  where
    known : (t : Bool) → listed (a ∷ []) symbols ≡ t → listed (a ∷ 93 ∷ []) symbols ≡ false → Shuts (symbol1 a) d k μ
    known true e n = record { state = rw (n, e); memory = rw n }
    known false e n = never (rw (n, e) at v)
shuts symbolled d k μ w v = record { state = refl; memory = refl }
shuts at1 d k μ w v = record { state = refl; memory = refl }
shuts at2 d k μ w v = record { state = refl; memory = refl }
shuts hydrogen d k μ w v = record { state = refl; memory = refl }
shuts hydrogens d k μ w v = record { state = refl; memory = refl }
shuts sign d k μ w v = record { state = refl; memory = refl }
shuts charged d k μ w v = record { state = refl; memory = refl }
shuts colon d k μ w v = never v
shuts (extension zero) d k μ w v = record { state = refl; memory = refl }
shuts (extension (suc n)) d k μ w v = record { state = refl; memory = refl }

-- ---- an accepted text
goes-not-halted : {r : Reading Memory} {c p : ℕ} → Goes r → r ≡ halted c p → ⊥
goes-not-halted goes e = let z : ◌≡◌ {A = ℕ} 0 1 = cc in omega arith

flag-of : (m : Mode) (d : ℕ) (μ : Memory) → writing m ≡ half-bracket → Complete 0 (at m d) μ → get_or μ.st.outside μ.st.hub.0 0 ≡ 0
flag-of m d μ w c = (subst (λ x. After 0 x μ) w c.1).1

module _ (s : List ℕ) (atoms bonds : List ℤ) where
  -- the reading before the byte k, with that byte
  one_more : (k : ℕ) {σ : MachineState} {μ : Memory} → k < length s → bytes_read (take k s) atoms bonds ≡ going σ μ → bytes_read (take (suc k) s) atoms bonds ≡ feed act (0 + length (take k s)) (going σ μ) (get_or s k 0)
  unfolding read
  one_more k l e =
      ap (λ (t : List ℕ). bytes_read t atoms bonds) (take-suc s k 0 l)
      ∙ read-append act (take k s) (get_or s k 0 ∷ []) 0 (going start (beginning (zeros atoms) (zeros bonds)))
      ∙ ap (λ (r : Reading Memory). feed act (0 + length (take k s)) r (get_or s k 0)) e

  -- the rest of the reading
  rest : (k : ℕ) {σ : MachineState} {μ : Memory} → bytes_read (take k s) atoms bonds ≡ going σ μ → bytes_read s atoms bonds ≡ read act (0 + length (take k s)) (going σ μ) (drop k s)
  rest k e =
      ap (λ (t : List ℕ). bytes_read t atoms bonds) (sym (take-append-drop k s))
      ∙ read-append act (take k s) (drop k s) 0 (going start (beginning (zeros atoms) (zeros bonds)))
      ∙ ap (λ (r : Reading Memory). read act (0 + length (take k s)) r (drop k s)) e

  sane-before : (k : ℕ) {σ : MachineState} {μ : Memory} → Fits s atoms bonds → bytes_read (take k s) atoms bonds ≡ going σ μ → Sane (length atoms) (length bonds) σ (0 + length (take k s)) μ
  sane-before k f e = sane-going (take k s) (sane-beginning atoms bonds f.room) e

  -- in every state reached, an open bracket is the hub's
  complete-0 : (k : ℕ) {σ : MachineState} {μ : Memory} → Fits s atoms bonds → bytes_read (take k s) atoms bonds ≡ going σ μ → Complete 0 σ μ
  complete-0 k f e = (stays 0 (take k s) (sane-beginning atoms bonds f.room) (omega arith) e).complete

  -- a text that is read to its end does not halt before
  not-halted : (k : ℕ) {τ : MachineState} {ν : Memory} {c p : ℕ} → bytes_read s atoms bonds ≡ going τ ν → bytes_read (take k s) atoms bonds ≡ halted c p → ⊥
  not-halted k {τ} {ν} e h =
      let f : bytes_read (take k s ++ drop k s) atoms bonds ≡ going τ ν = rw (take-append-drop k s) e in
      goes-not-halted (prefix-goes act (take k s) (drop k s) 0 (going start (beginning (zeros atoms) (zeros bonds))) f) h

  module _ (ok : (read_of s atoms bonds).code ≡ 0) (k : ℕ) {σ : MachineState} {μ : Memory} (reached : bytes_read (take k s) atoms bonds ≡ going σ μ) where
    abbrev told : Accepted s atoms bonds (read_of s atoms bonds)
    told = read-accepted s atoms bonds ok

    left : (n : ℕ) → Complete n σ μ → Left n μ.st.bonds μ told.state told.memory
    left n c = stays n (drop k s) (sane-before k told.fits reached) c (sym (rest k reached) ∙ told.reached)

    given-same : (n a : ℕ) → a < n → n ≤ told.memory.st.atoms → Same n μ.st.bonds μ told.memory → Given μ told.memory.st.keys (read_of s atoms bonds) a
    given-same n a l h w =
        let t = read_of s atoms bonds in
        let g = told.rows a (omega (arith, told.counts.0)) in
        record {
          outside = λ e. g.outside (w.flags a l ∙ e) ∙ ap (λ (x : Atom). with_mark (with_hydrogens x (implied_at t a)) (stored_mark told.memory.st.keys t a (number x.mark))) (w.rows a l);
          bracket = λ f. g.bracket (λ e. f (sym (w.flags a l) ∙ e)) ∙ ap (λ (x : Atom). with_mark x (stored_mark told.memory.st.keys t a (number x.mark))) (w.rows a l);
        }

    -- the row of each atom that is complete after k bytes is what stands there, with hydrogens if it stands outside brackets, and with its mark as it is stored
    pub atom-kept : (n : ℕ) → Complete n σ μ → (a : ℕ) → a < n → Given μ (read-accepted s atoms bonds ok).memory.st.keys (read_of s atoms bonds) a
    atom-kept n c a l = let w = left n c in given-same n a l (counted n told.state told.memory told.ends w.complete) w.same

    -- and each bond is the bond that stood there
    pub bond-kept : (b : ℕ) → b < μ.st.bonds → bond_row (read_of s atoms bonds).bonds b ≡ bond_row μ.bonds b
    bond-kept b l = ap (λ (t : List ℤ). bond_row t b) told.counts.2 ∙ (left 0 (complete-0 k told.fits reached)).same.bonds b l

  -- the same of every atom, outside brackets, where the next byte is not a second letter
  pub letter-kept : (ok : (read_of s atoms bonds).code ≡ 0) (k : ℕ) {x : Last} {d : ℕ} {μ : Memory} (reached : bytes_read (take k s) atoms bonds ≡ going (at (seq x) d) μ) → (Second x (get_or s k 0) → ⊥)
      → (a : ℕ) → a < μ.st.atoms → Given μ (read-accepted s atoms bonds ok).memory.st.keys (read_of s atoms bonds) a
  letter-kept ok k {x} {d} {μ} reached n a l =
      let acc = told ok k reached in
      let first : get_or (drop k s) 0 0 ≡ get_or s k 0 = get_or-drop k s 0 0 ∙ ap (λ (j : ℕ). get_or s j 0) (add-zero k) in
      let w = letter-stays (drop k s) (sane-before k acc.fits reached) (λ z. n (subst (Second x) first z)) (sym (rest k reached) ∙ acc.reached) in
      given-same ok k reached μ.st.atoms a l (w.count acc.ends) w.same

  -- a bracket atom has what is written: the row of the fields that stood before its `]`, with its mark as it is stored
  pub bracket-kept : (ok : (read_of s atoms bonds).code ≡ 0) (k : ℕ) {m : Mode} {d : ℕ} {μ : Memory} → k < length s → bytes_read (take k s) atoms bonds ≡ going (at m d) μ → writing m ≡ half-bracket → get_or s k 0 ≡ 93
      → atom_row (read_of s atoms bonds).atoms μ.st.hub.0 ≡ with_mark (row_of μ.draft) (stored_mark (read-accepted s atoms bonds ok).memory.st.keys (read_of s atoms bonds) μ.st.hub.0 μ.draft.mark)
  unfolding feed number
  bracket-kept ok k {m} {d} {μ} l e w b = split (alive (step (at m d) 93)) refl
    where
      acc : Accepted s atoms bonds (read_of s atoms bonds)
      acc = read-accepted s atoms bonds ok

      sane : Sane (length atoms) (length bonds) (at m d) (0 + length (take k s)) μ
      sane = sane-before k acc.fits e

      fed : bytes_read (take (suc k) s) atoms bonds ≡ feed act (0 + length (take k s)) (going (at m d) μ) 93
      fed = one_more k l e ∙ ap (λ (x : ℕ). feed act (0 + length (take k s)) (going (at m d) μ) x) b

      -- no flag says that the hub stands outside brackets
      unflagged : get_or μ.st.outside μ.st.hub.0 0 ≡ 0
      unflagged = flag-of m d μ w (complete-0 k acc.fits e)

      final : bytes_read (take (suc k) s) atoms bonds ≡ going (at (seq plain) d) (described (row_of μ.draft) μ) → atom_row (read_of s atoms bonds).atoms μ.st.hub.0 ≡ with_mark (row_of μ.draft) (stored_mark acc.memory.st.keys (read_of s atoms bonds) μ.st.hub.0 μ.draft.mark)
      final f =
          (atom-kept ok (suc k) f μ.st.atoms (omega arith, tt) μ.st.hub.0 sane.stands.hub).bracket (λ z. omega (arith, unflagged))
          ∙ ap (λ (x : Atom). with_mark x (stored_mark acc.memory.st.keys (read_of s atoms bonds) μ.st.hub.0 (number x.mark))) (with-atom-row μ.atoms μ.st.hub.0 (row_of μ.draft) (omega (arith, sane.tables.atom-length, sane.tables.atom-room, sane.tables.atoms_few, sane.stands.hub)))

      split : (t : Bool) → alive (step (at m d) 93) ≡ t → atom_row (read_of s atoms bonds).atoms μ.st.hub.0 ≡ with_mark (row_of μ.draft) (stored_mark acc.memory.st.keys (read_of s atoms bonds) μ.st.hub.0 μ.draft.mark)
      split true v = let x = shuts m d (0 + length (take k s)) μ w v in final (fed ∙ rw (v, x.state, x.memory))
      split false v =
          let h : bytes_read (take (suc k) s) atoms bonds ≡ halted 3 (0 + length (take k s)) = fed ∙ rw v in
          absurd (not-halted (suc k) acc.reached h)

-- ---- letters

-- the element of a letter outside brackets, and whether it is selected
pub data Reads : Letter → ℕ → ℕ → Type 0 where
  plain-letter : {e : ℕ} → Reads (Plain e) e 0
  selected-letter : {e : ℕ} → Reads (Selected e) e 1

-- the row that the first byte of an atom outside brackets leaves, and its flag
pub first-row : {l : Letter} {e x : ℕ} (μ : Memory) → Reads l e x → atom_cells * μ.st.atoms + atom_cells ≤ length μ.atoms → μ.st.atoms < length μ.st.outside
    → (atom_row (first_byte_of l μ).atoms μ.st.atoms ≡ bare_row e x) × (get_or (first_byte_of l μ).st.outside μ.st.atoms 0 ≡ 1)
unfolding begun
first-row μ (plain-letter {e}) r o = (with-atom-row μ.atoms μ.st.atoms (bare_row e 0) r, get_or-set_same μ.st.outside μ.st.atoms 1 0 o)
first-row μ (selected-letter {e}) r o = (with-atom-row μ.atoms μ.st.atoms (bare_row e 1) r, get_or-set_same μ.st.outside μ.st.atoms 1 0 o)
