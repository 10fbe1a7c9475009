-- The end of a text in pieces. Assumes nothing.
use Prim.Native.Nat.{ℕ, ◌*◌, ◌<◌, ◌≤◌}
use native.Mathlib.Omega.{arith}
use mathlib.Core.Path.{◌≡◌, refl, sym, ap, ◌∙◌}
use mathlib.Core.Bool.{Bool, true, false}
use mathlib.Core.List.{List}
use lib.ListN.{length}
use lib.IntN.{ℤ}
use lib.Dec.{eqb, ltb}
use Rattle.loops.specs.Loop.{pick}
use Rattle.loops.proofs.Loops.{each_at, each_all}
use Rattle.refusal.specs.declared.Refusal.{Refusal}
use Rattle.refusal.specs.Code.{code_of}
use Rattle.refusal.proofs.Codes.{code-range}
use Rattle.ids.specs.Limits.{max_text, bridges}
use Rattle.table.specs.Limits.{max_atoms, max_bonds, atom_cells, bond_cells}
use Rattle.table.specs.Valid.{Valid, atom_ok, enough}
use Rattle.table.specs.Sound.{late_code}
use Rattle.table.proofs.Valid.{second-end, enough-facts}
use Rattle.table_graph.specs.Graph.{matchable}
use Rattle.reading_state.specs.State.{Steering, key_count}
use Rattle.reading.specs.Memory.{Memory}
use Rattle.reading.specs.Read.{ReadResult, refused, hydrogenated, overfull_atoms, leftmost, atoms_of, ended}
use Rattle.reading.proofs.Hydrogens.{hydrogenated-ok}
use Rattle.reading_pieces.specs.declared.Paused.{Paused}
use Rattle.reading_pieces.specs.State.{capped, memory_of, blank_state, ended_code}
use Rattle.reading_pieces.specs.Broken.{broken_of}
use Rattle.reading_pieces.specs.Calls.{cleared_from, rest_cleared}
use Rattle.reading_pieces.proofs.Cleared.{refused-cleared}
use Rattle.std.proofs.Common.{Result}
use Rattle.reader.specs.declared.answer.Counts.{Counts}
use Rattle.reader.specs.declared.answer.TextRefusal.{TextRefusal}
use Rattle.reader.specs.Ranks.{Rankable}
use Rattle.reader.specs.Ending.{told, counted, refused_text, ended_of}
use Rattle.reader_pieces.specs.Answer.{fed_is, replied, concluded}
use Rattle.reader_pieces.proofs.Capped.{capped-length, capped-most}
use Rattle.reader_pieces.proofs.Sound.{sound-tables}

-- what comes at the end has no more rows than there were, and a refusal has nothing after them
record Ended (n m : ℕ) (t : ReadResult) : Type 0 where
  atoms_few : t.atom_count ≤ n
  bonds_few : t.bond_count ≤ m
  cleared : (t.code ≡ 0 → ⊥) → rest_cleared t ≡ t

ended-refused : (n m c p : ℕ) (a b : List ℤ) → Ended n m (refused c p a b)
ended-refused n m c p a b = record { atoms_few = omega arith; bonds_few = omega arith; cleared = λ h. refused-cleared c p a b }

ended_so : (μ : Memory) → Ended μ.st.atoms μ.st.bonds (ended μ)
unfolding ended
ended_so μ = by (ltb (leftmost μ.st.opener μ.st.offset) max_text) (eqb (late_code (atoms_of μ) μ.bonds n m) 0) (matchable (atoms_of μ) μ.bonds n m)
  where
    n : ℕ
    n = μ.st.atoms

    m : ℕ
    m = μ.st.bonds

    by : (t u v : Bool)
        → Ended n m (pick t (refused 10 (leftmost μ.st.opener μ.st.offset) μ.atoms μ.bonds)
        (pick u (pick v (record { code = 0; offset = 0; atom_count = n; bond_count = m; overfull = overfull_atoms μ.st.outside μ.bonds m n μ.atoms; atoms = atoms_of μ; bonds = μ.bonds }) (refused 11 0 (atoms_of μ) μ.bonds))
        (refused (late_code (atoms_of μ) μ.bonds n m) 0 (atoms_of μ) μ.bonds)))
    by true u v = ended-refused n m 10 (leftmost μ.st.opener μ.st.offset) μ.atoms μ.bonds
    by false true true = record { atoms_few = omega arith; bonds_few = omega arith; cleared = λ h. absurd (h refl) }
    by false true false = ended-refused n m 11 0 (atoms_of μ) μ.bonds
    by false false v = ended-refused n m (late_code (atoms_of μ) μ.bonds n m) 0 (atoms_of μ) μ.bonds

module _ (p : Paused) (atoms bonds : List ℤ) (room : enough atoms bonds ≡ true) (sound : broken_of p atoms bonds ≡ false) where
  tables : Valid atoms bonds p.atoms p.bonds
  tables = sound-tables p atoms bonds sound

  -- the tables are valid with the hydrogens too
  pub end-valid : Valid (hydrogenated p.outsides bonds p.bonds p.atoms atoms) bonds p.atoms p.bonds
  end-valid =
      record {
        atoms_few = tables.atoms_few;
        bonds_few = tables.bonds_few;
        atom_rows = each_all (atom_ok (hydrogenated p.outsides bonds p.bonds p.atoms atoms)) p.atoms rows;
        bond_rows = tables.bond_rows;
        apart = tables.apart;
      }
    where
      rows : (a : ℕ) → a < p.atoms → atom_ok (hydrogenated p.outsides bonds p.bonds p.atoms atoms) a ≡ true
      rows a l =
          hydrogenated-ok p.outsides bonds p.bonds p.atoms atoms a l
          (omega (arith, (enough-facts atoms bonds room).atoms_room, tables.atoms_few)) (each_at (atom_ok atoms) p.atoms a tables.atom_rows l)

  pub end-few : (p.atoms ≤ max_atoms) × (p.bonds ≤ max_bonds)
  end-few = (tables.atoms_few, tables.bonds_few)

  module _ {o y : List ℕ} (eo : o ≡ capped bridges p.offsets) (ey : y ≡ capped key_count p.keys) where
    pub end-rankable : length p.keys ≡ key_count → Rankable bonds p.bonds y
    end-rankable l =
        rw ey
        (record {
          few = tables.bonds_few;
          second = λ b h. omega (arith, second-end tables b h, tables.atoms_few);
          room = capped-length key_count p.keys ∙ l;
          key = capped-most key_count p.keys (omega (arith, l));
        })

    abbrev steers : Steering
    steers = record { hub = record { 0 = p.hub }; atoms = p.atoms; bonds = p.bonds; depth = p.depth; stack = p.hubs; opener = p.openers; symbol = p.symbols; offset = o; outside = p.outsides; keys = y }

    module _ (r : Result Counts TextRefusal) (a' b' : List ℤ) (is : told r a' b' ≡ ended_of steers atoms bonds) where
      as-ended : told r a' b' ≡ ended (memory_of p atoms bonds)
      unfolding ended
      as-ended = is ∙ rw (eo, ey)

      so : Ended p.atoms p.bonds (told r a' b')
      so = rw as-ended (ended_so (memory_of p atoms bonds))

      module _ {n m k : ℕ} (e : r ≡ counted n m k) where
        pub molecule-few : (n ≤ max_atoms) × (m ≤ max_bonds)
        molecule-few = let w : Ended p.atoms p.bonds (told (counted n m k) a' b') = rw e at so in (omega (arith, w.atoms_few, tables.atoms_few), omega (arith, w.bonds_few, tables.bonds_few))

        pub end-molecule : {a'' b'' : List ℤ} {s : Paused} → a'' ≡ cleared_from (atom_cells * n) a' → b'' ≡ cleared_from (bond_cells * m) b' → s ≡ blank_state ended_code 0
            → fed_is (record { code = 0; place = 0; atoms = n; bonds = m; overfull = k; state = s }) a'' b'' ≡ concluded p atoms bonds
        end-molecule ea eb es = rw (ea, eb, es) (ap (λ (t : ReadResult). record { result = rest_cleared t; state = blank_state ended_code 0 }) (ap (λ (x : Result Counts TextRefusal). told x a' b') (sym e) ∙ as-ended))

      pub end_refused : {x : Refusal} {q c : ℕ} {s : Paused} → r ≡ refused_text x q → c ≡ code_of x → s ≡ blank_state ended_code 0 → fed_is (replied c q s) a' b' ≡ concluded p atoms bonds
      end_refused {x} {q} e ec es =
          let w : Ended p.atoms p.bonds (told (refused_text x q) a' b') = rw e at so in
          let h : told (refused_text x q) a' b' ≡ ended (memory_of p atoms bonds) = ap (λ (z : Result Counts TextRefusal). told z a' b') (sym e) ∙ as-ended in
          rw (ec, es) (ap (λ (t : ReadResult). record { result = t; state = blank_state ended_code 0 }) (sym (w.cleared (λ z. omega (arith, (code-range x).positive, z))) ∙ ap rest_cleared h))
