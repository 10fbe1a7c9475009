-- Reading into tables with a row for each byte gives what reading into tables of full length gives. Assumes nothing.
use Prim.Native.Nat.{ℕ, ◌+◌, ◌*◌, ◌≤◌, ◌<◌}
use native.Mathlib.Omega.{arith}
use mathlib.Core.Path.{◌≡◌, refl, sym, subst, subst⁻¹, ◌∙◌}
use mathlib.Core.Bool.{Bool, true, false}
use mathlib.Core.List.{List}
use lib.ListN.{length, take, get_or, set, length-set, get_or-eq_default}
use lib.Seq.{get_or-take, length-take-le}
use lib.IntN.{ℤ, pos}
use lib.Dec.{eqb, leb, ltb}
use borrow.Author.Tests.{le-leb, leb-true, leb-false}
use Rattle.loops.proofs.Loops.{repeated-at}
use Rattle.loops.specs.Loop.{pick, run}
use Rattle.ids.specs.Limits.{max_text}
use Rattle.valence.specs.Valence.{implied, overfull}
use Rattle.table.specs.Limits.{atom_cells, ELEMENT, SELECTED, HYDROGENS, SECOND}
use Rattle.table.specs.Cells.{number, atom_place, bond_place, element, selected}
use Rattle.table.specs.Valid.{Valid, enough}
use Rattle.table.specs.Sound.{late_code}
use Rattle.table_graph.specs.Graph.{bond_sum, matchable}
use Rattle.table_alike.specs.Alike.{Alike}
use Rattle.reading_grammar.specs.declared.MachineState.{MachineState}
use Rattle.reading_grammar.specs.Machine.{accepting}
use Rattle.reading_grammar.specs.Fold.{Reading, going, halted}
use Rattle.reading.specs.Memory.{Memory}
use Rattle.reading.specs.Conditions.{bytes_read}
use Rattle.reading.specs.Read.{ReadResult, zeros, refused, atoms_of, hydrogenate, hydrogenated, overfull_atoms, rank_by, text_rank, leftmost, placed, checked, ended, finished, read_from, read_of}
use Rattle.reading.proofs.Sane.{Sane, Steers}
use Rattle.reading.proofs.Accepted.{read-sane}
use Rattle.reading.proofs.Valid.{sane-filled}
use Rattle.reading.proofs.Hydrogens.{hydrogenated-length}
use Rattle.reading_short.specs.Short.{Short, read_into, cut, cut_reading, Agree}
use Rattle.table_alike.proofs.Readings.{same_sum, same-late, same-valid, same-matchable}
use Rattle.table_alike.proofs.Edits.{alike-back, alike-put, alike-run, alike-marks}
use Rattle.reading_short.proofs.Cut.{cut-read, few-read}

-- ---- a table, and what is left of it when its zeros at the end are cut

cut-alike : (t : List ℤ) (p : ℕ) → p ≤ length t → ((k : ℕ) → p ≤ k → get_or t k (pos 0) ≡ pos 0) → Alike (take p t) t
cut-alike t p l clear = record { cell = λ k. split k (leb p k) refl }
  where
    split : (k : ℕ) (x : Bool) → leb p k ≡ x → get_or (take p t) k (pos 0) ≡ get_or t k (pos 0)
    split k true e = get_or-eq_default (take p t) (pos 0) {n = k} (omega (arith, length-take-le p t l, leb-true p k e)) ∙ sym (clear k (leb-true p k e))
    split k false e = get_or-take p t k (pos 0) (leb-false p k e)

zeros-alike : (t u : List ℤ) → Alike (zeros t) (zeros u)
zeros-alike t u = record { cell = λ k. repeated-at (length t) k (pos 0) ∙ sym (repeated-at (length u) k (pos 0)) }

-- ---- what comes after the last byte, in alike tables

module _ {bonds bonds' : List ℤ} (r : Alike bonds bonds') where
  same_rank : (keys : List ℕ) → text_rank keys bonds ≡ text_rank keys bonds'
  unfolding text_rank
  same_rank keys = λ i a b. rank_by (get_or keys (2 * b + pick (eqb (number (r.cell (bond_place b SECOND) i)) a) 1 0) 0) (number (r.cell (bond_place b SECOND) i)) a

  module _ (outside : List ℕ) (m : ℕ) where
    one_alike : (k : ℕ) (t u : List ℤ) → atom_place k HYDROGENS < length t → atom_place k HYDROGENS < length u → Alike t u → Alike (hydrogenate outside bonds m k t) (hydrogenate outside bonds' m k u)
    one_alike k t u lt lu q = split (eqb (get_or outside k 0) 1)
      where
        split : (x : Bool) → Alike (pick x (set t (atom_place k HYDROGENS) (pos (implied (element t k) (selected t k) (bond_sum bonds m k)))) t) (pick x (set u (atom_place k HYDROGENS) (pos (implied (element u k) (selected u k) (bond_sum bonds' m k)))) u)
        split true = alike-put q (atom_place k HYDROGENS) _ _ (λ i. pos (implied (number (q.cell (atom_place k ELEMENT) i)) (number (q.cell (atom_place k SELECTED) i)) (same_sum r m k i))) lt lu
        split false = q

    one-length : (b : List ℤ) (k : ℕ) (t : List ℤ) → length (hydrogenate outside b m k t) ≡ length t
    one-length b k t = split (eqb (get_or outside k 0) 1)
      where
        split : (x : Bool) → length (pick x (set t (atom_place k HYDROGENS) (pos (implied (element t k) (selected t k) (bond_sum b m k)))) t) ≡ length t
        split true = length-set t (atom_place k HYDROGENS) (pos (implied (element t k) (selected t k) (bond_sum b m k)))
        split false = refl

    -- the hydrogens given
    hydrogens-alike : (n : ℕ) {t u : List ℤ} → Alike t u → atom_cells * n ≤ length t → atom_cells * n ≤ length u → Alike (hydrogenated outside bonds m n t) (hydrogenated outside bonds' m n u)
    unfolding hydrogenated
    hydrogens-alike n {t} {u} q lt lu = alike-run (hydrogenate outside bonds m) (hydrogenate outside bonds' m) (atom_cells * n) n (λ k v w l lv lw. one_alike k v w (omega arith) (omega arith)) (one-length bonds) (one-length bonds') t u lt lu q

  -- the over-full atoms counted
  same-overfull : (outside : List ℕ) (n m : ℕ) {t u : List ℤ} → Alike t u → overfull_atoms outside bonds m n t ≡ overfull_atoms outside bonds' m n u
  unfolding overfull_atoms
  same-overfull outside n m q = λ i. run (λ a k. k + pick (eqb (get_or outside a 0) 1) (overfull (number (q.cell (atom_place a ELEMENT) i)) (number (q.cell (atom_place a SELECTED) i)) (same_sum r m a i)) 0) 0 n 0

-- ---- results that agree

agree-refused : (c p : ℕ) (a b a' b' : List ℤ) → Agree (refused c p a b) (refused c p a' b')
agree-refused c p a b a' b' = record { code = refl; offset = refl; atoms_count = refl; bonds_count = refl; overfull = refl; atoms = zeros-alike a a'; bonds = zeros-alike b b' }

agree-pick : (x : Bool) {r r' t t' : ReadResult} → Agree r r' → Agree t t' → Agree (pick x r t) (pick x r' t')
agree-pick true f g = f
agree-pick false f g = g

module _ {a a' b b' : List ℤ} (q : Alike a a') (r : Alike b b') (n m k : ℕ) where
  agree-placed : Agree (placed a b n m k) (placed a' b' n m k)
  agree-placed =
      subst (λ (x : Bool). Agree (placed a b n m k) (pick x (record { code = 0; offset = 0; atom_count = n; bond_count = m; overfull = k; atoms = a'; bonds = b' }) (refused 11 0 a' b'))) (same-matchable r q n m)
      (agree-pick (matchable a b n m) (record { code = refl; offset = refl; atoms_count = refl; bonds_count = refl; overfull = refl; atoms = q; bonds = r }) (agree-refused 11 0 a b a' b'))

  agree-checked : Agree (checked a b n m k) (checked a' b' n m k)
  agree-checked =
      subst (λ (c : ℕ). Agree (checked a b n m k) (pick (eqb c 0) (placed a' b' n m k) (refused c 0 a' b'))) (same-late r q n m)
      (agree-pick (eqb (late_code a b n m) 0) agree-placed (agree-refused (late_code a b n m) 0 a b a' b'))

-- ---- a text, tables with a row for each byte of it, and longer ones

module _ (s : List ℕ) (a b atoms bonds : List ℤ) (rows : Short s a b) (room : enough atoms bonds ≡ true) (la : length a ≤ length atoms) (lb : length b ≤ length bonds) (fits : length s ≤ max_text) where
  -- the memory at the end, and what is left of it when its tables are cut
  module _ {σ : MachineState} {μ : Memory} (e : bytes_read s atoms bonds ≡ going σ μ) where
    sane : Sane (length atoms) (length bonds) σ (length s) μ
    sane = read-sane s atoms bonds (record { room = room; short = fits }) e

    few : (μ.st.atoms ≤ length s) × (μ.st.bonds ≤ length s)
    few = few-read s atoms bonds e

    atoms-near : Alike (take (length a) μ.atoms) μ.atoms
    atoms-near = cut-alike μ.atoms (length a) (omega (arith, la, sane.tables.atom-length)) (λ k l. sane.tables.atoms-clear k (omega (arith, l, rows.atoms_long, few.0)))

    bonds-near : Alike (take (length b) μ.bonds) μ.bonds
    bonds-near = cut-alike μ.bonds (length b) (omega (arith, lb, sane.tables.bond-length)) (λ k l. sane.tables.bonds-clear k (omega (arith, l, rows.bonds_long, few.1)))

    long-cut : atom_cells * μ.st.atoms ≤ length (take (length a) μ.atoms)
    long-cut = omega (arith, few.0, rows.atoms_long, length-take-le (length a) μ.atoms (omega (arith, la, sane.tables.atom-length)))

    long : atom_cells * μ.st.atoms ≤ length μ.atoms
    long = omega (arith, sane.tables.atom-length, few.0, rows.atoms_long, la)

    abbrev filled : Memory → List ℤ
    filled ν = hydrogenated ν.st.outside ν.bonds ν.st.bonds ν.st.atoms ν.atoms

    filled-near : Alike (filled (cut (length a) (length b) μ)) (filled μ)
    filled-near = hydrogens-alike bonds-near μ.st.outside μ.st.bonds μ.st.atoms atoms-near long-cut long

    -- valid once the hydrogens are given
    cut-valid : Valid (filled (cut (length a) (length b) μ)) (take (length b) μ.bonds) μ.st.atoms μ.st.bonds
    cut-valid = same-valid (alike-back bonds-near) (alike-back filled-near) μ.st.atoms μ.st.bonds (sane-filled {σ = σ} sane)

    stored-near : Alike (atoms_of (cut (length a) (length b) μ)) (atoms_of μ)
    stored-near =
        alike-marks (text_rank μ.st.keys (take (length b) μ.bonds)) (text_rank μ.st.keys μ.bonds) (same_rank bonds-near μ.st.keys) bonds-near filled-near μ.st.atoms μ.st.bonds
        (omega (arith, long-cut, hydrogenated-length μ.st.outside (take (length b) μ.bonds) μ.st.bonds μ.st.atoms (take (length a) μ.atoms)))
        (omega (arith, long, hydrogenated-length μ.st.outside μ.bonds μ.st.bonds μ.st.atoms μ.atoms))

    agree-ended : Agree (ended (cut (length a) (length b) μ)) (ended μ)
    unfolding ended
    agree-ended =
        agree-pick (ltb (leftmost μ.st.opener μ.st.offset) max_text) (agree-refused 10 (leftmost μ.st.opener μ.st.offset) (take (length a) μ.atoms) (take (length b) μ.bonds) μ.atoms μ.bonds)
        (subst (λ (k : ℕ). Agree (checked (atoms_of (cut (length a) (length b) μ)) (take (length b) μ.bonds) μ.st.atoms μ.st.bonds (overfull_atoms μ.st.outside (take (length b) μ.bonds) μ.st.bonds μ.st.atoms (take (length a) μ.atoms))) (checked (atoms_of μ) μ.bonds μ.st.atoms μ.st.bonds k))
        (same-overfull bonds-near μ.st.outside μ.st.atoms μ.st.bonds atoms-near)
        (agree-checked stored-near bonds-near μ.st.atoms μ.st.bonds (overfull_atoms μ.st.outside (take (length b) μ.bonds) μ.st.bonds μ.st.atoms (take (length a) μ.atoms))))

  -- what a reading into the short tables leaves is valid, and its state stands as it would
  pub short-stands : {σ : MachineState} {ν : Memory} → bytes_read s a b ≡ going σ ν → Valid (hydrogenated ν.st.outside ν.bonds ν.st.bonds ν.st.atoms ν.atoms) ν.bonds ν.st.atoms ν.st.bonds × Steers (length s) ν.st
  short-stands {σ} {ν} e = split (bytes_read s atoms bonds) refl (sym (cut-read s a b atoms bonds rows la lb) ∙ e)
    where
      Stands : Memory → Type 0
      Stands κ = Valid (hydrogenated κ.st.outside κ.bonds κ.st.bonds κ.st.atoms κ.atoms) κ.bonds κ.st.atoms κ.st.bonds × Steers (length s) κ.st

      split : (r : Reading Memory) → bytes_read s atoms bonds ≡ r → cut_reading (length a) (length b) r ≡ going σ ν → Stands ν
      split (going τ μ) f g = let h : cut (length a) (length b) μ ≡ ν = cc in subst Stands h (cut-valid f, (sane f).steering)
      split (halted c k) f g = absurd (let z : ◌≡◌ {A = ℕ} 0 1 = cc in omega arith)

  agree-read : Agree (read_from s a b) (read_from s atoms bonds)
  unfolding read_from
  agree-read = subst⁻¹ (λ (x : Reading Memory). Agree (finished (length s) a b x) (finished (length s) atoms bonds (bytes_read s atoms bonds))) (cut-read s a b atoms bonds rows la lb) (split (bytes_read s atoms bonds) refl)
    where
      split : (r : Reading Memory) → bytes_read s atoms bonds ≡ r → Agree (finished (length s) a b (cut_reading (length a) (length b) r)) (finished (length s) atoms bonds r)
      split (going σ μ) e = agree-pick (accepting σ) (agree-ended e) (agree-refused 3 (length s) a b atoms bonds)
      split (halted c k) e = agree-refused c k a b atoms bonds

  -- the two readings agree
  pub short-agree : Agree (read_into s a b) (read_of s atoms bonds)
  unfolding read_of read_into
  short-agree = rw (room, le-leb (length s) max_text fits) agree-read
