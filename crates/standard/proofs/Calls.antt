-- From what the calls hand back to the answer. Assumes nothing.
use Prim.Native.Nat.{ℕ, ◌*◌, ◌-◌, ◌≤◌, ◌<◌}
use native.Mathlib.Omega.{arith}
use mathlib.Core.Path.{◌≡◌, refl, sym, ap, subst, ◌∙◌}
use mathlib.Core.Logic.{inr, ⊎_elim}
use mathlib.Core.List.{List, ◌++◌}
use mathlib.Core.Bool.{Bool, true, false, ◌&&◌}
use lib.ListN.{length, take, replicate, length-replicate}
use lib.IntN.{ℤ, pos}
use lib.Dec.{eqb}
use borrow.Author.Tests.{ne_eqb, lt-leb, le-leb}
use Rattle.std.specs.Prelude.{Result, Ok, Err}
use Rattle.loops.specs.Loop.{pick}
use Rattle.refusal.specs.Code.{code_of}
use Rattle.refusal.specs.declared.Refusal.{Refusal}
use Rattle.refusal.proofs.Codes.{code-range}
use Rattle.ids.specs.Limits.{max_text}
use Rattle.ids.specs.Small.{small}
use Rattle.table.specs.Limits.{max_atoms, max_bonds, atom_cells, bond_cells}
use Rattle.table.specs.Valid.{Valid, enough}
use Rattle.table.specs.Sound.{none_unfit, sound}
use Rattle.table.proofs.Valid.{enough-facts}
use Rattle.table.proofs.Sound.{sound-valid, sound-late, late-none}
use Rattle.table_graph.specs.Graph.{matching_of}
use Rattle.table_alike.proofs.Readings.{same-sound, same-matchable}
use Rattle.table_alike.proofs.Edits.{alike-itself}
use Rattle.matching.specs.Enumeration.{row_call}
use Rattle.matching.specs.declared.Call.TheVariants.{First}
use Rattle.reading.specs.Read as read
use Rattle.reading.proofs.Accepted as reading
use Rattle.reading_short.specs.Short.{Short, read_into, Agree}
use Rattle.reading_short.proofs.Cut.{few-read}
use Rattle.reading_short.proofs.Short.{short-agree}
use Rattle.reader.specs.Ending as reader
use Rattle.reader.specs.Chosen.{ChosenBy, Chosen}
use Rattle.std.proofs.Common.{Result, Ok, Err}
use Rattle.reader.specs.declared.answer.Counts.{Counts}
use Rattle.reader.specs.declared.answer.TextRefusal.{TextRefusal}
use Rattle.reader.proofs.Ends.{cleared-blank, blank-ready, into-of}
use Rattle.kekule.specs.First.{first_in}
use Rattle.kekule.specs.Kekule.{CallReply, call_reply_of, out, tables}
use Rattle.kekule.proofs.Kekule.{cleared}
use Rattle.writing.specs.Write as write
use Rattle.writer.specs.Told as writer
use Rattle.writer.proofs.Answer.{told-valid}
use Rattle.standard.specs.Standard.{refused_as, zeroed, of_written, of_molecule, of_read, standard_of, told}
use Rattle.standard.specs.Standing.{Writable, Standing, Readable, Held, first_of, HasFirst, kekule_by, KekulizedBy, by_tables, molecule_of}
use Rattle.kekule_answers.specs.Answers.{Found}
use Rattle.standard.proofs.Alike.{same_first, same-molecule}
use Rattle.standard.proofs.Kekulized.{numbers-long, standing-held, standing-molecule}

pub code-not-zero : (r : Refusal) → eqb (code_of r) 0 ≡ false
code-not-zero r = ne_eqb (code_of r) 0 (λ e. omega (arith, (code-range r).positive))

-- a refusal
pub refuses : (r : Refusal) (p : ℕ) (out after : List ℕ) → after ≡ take 0 out ++ replicate (length out - 0) 0 → told (Err (record { refusal = r; at = p })) after ≡ zeroed (code_of r) p out
refuses r p out after e = ap (refused_as (code_of r) p) (e ∙ cleared out)

-- ---- writing

pub sound-facts : {atoms bonds : List ℤ} {n m : ℕ} → sound atoms bonds n m ≡ true → Valid atoms bonds n m × (none_unfit atoms bonds n m ≡ true)
sound-facts {atoms} {bonds} {n} {m} s = (sound-valid atoms bonds n m s, (late-none atoms bonds n m (sound-late atoms bonds n m s)).fit)

pub writable-facts : {atoms bonds : List ℤ} {n m : ℕ} → Writable atoms bonds n m → Valid atoms bonds n m × (none_unfit atoms bonds n m ≡ true)
writable-facts u = sound-facts u.is_sound

module _ (atoms bonds : List ℤ) (n m k : ℕ) (out : List ℕ) (w : Result ℕ Refusal) (after numbers : List ℕ) (answer : writer.told w after numbers ≡ write.write_valid atoms bonds n m out (replicate max_atoms 0)) where
  -- into buffers that are long enough
  pub the-writing : Writable atoms bonds n m → max_text ≤ length out → writer.told w after numbers ≡ write.write_of atoms bonds n m out (replicate max_atoms 0)
  the-writing u long = answer ∙ told-valid atoms bonds n m out (replicate max_atoms 0) u.room long numbers-long u.is_sound

  pub is-written : {size : ℕ} → w ≡ Ok size → told (Ok (record { counts = record { atoms = n; bonds = m; overfull = k }; length = size })) after ≡ of_written n m k (write.write_valid atoms bonds n m out (replicate max_atoms 0))
  is-written e = sym (ap (λ (y : Result ℕ Refusal). of_written n m k (writer.told y after numbers)) e) ∙ ap (of_written n m k) answer

  pub not_written : {r : Refusal} → w ≡ Err r → told (Err (record { refusal = r; at = 0 })) after ≡ of_written n m k (write.write_valid atoms bonds n m out (replicate max_atoms 0))
  not_written {r} e =
      sym (ap (λ t. pick t (record { code = 0; place = 0; atoms = n; bonds = m; overfull = k; size = 0; output = after }) (refused_as (code_of r) 0 after)) (code-not-zero r))
      ∙ sym (ap (λ (y : Result ℕ Refusal). of_written n m k (writer.told y after numbers)) e) ∙ ap (of_written n m k) answer

-- ---- kekulizing

module _ (atoms bonds : List ℤ) (n m : ℕ) (w : Standing atoms bonds n m) where
  pub standing-valid : Valid atoms bonds n m
  standing-valid = sound-valid atoms bonds n m w.is_sound

  pub blank-fits : (blank : List ℕ) → blank ≡ replicate max_bonds 0 → m ≤ length blank
  blank-fits blank zero = omega (arith, standing-valid.bonds_few, ap length zero, length-replicate {A = ℕ} max_bonds 0)

-- the row that the first call leaves
pub first-called : (atoms bonds : List ℤ) (n m : ℕ) (blank row : List ℕ) (f : Found) → blank ≡ replicate max_bonds 0 → length row ≡ length blank → out f row ≡ call_reply_of (row_call (matching_of atoms bonds n m) m First blank) → HasFirst atoms bonds n m row
first-called atoms bonds n m blank row f zero kept first =
    record {
      long = kept ∙ ap length zero ∙ length-replicate {A = ℕ} max_bonds 0;
      first = ap (λ (o : CallReply). o.row) first ∙ ap (λ (l : List ℕ). (row_call (matching_of atoms bonds n m) m First l).row) zero;
    }

-- the answer, by what kekulizing hands back
module _ (atoms bonds : List ℤ) (n m k : ℕ) (row output : List ℕ) (a b : List ℤ) (c : Result (Unit {0}) Refusal) (f : HasFirst atoms bonds n m row) (settled : KekulizedBy atoms bonds n m row c a b) where
  the-answer : {x : Result (Unit {0}) Refusal} → c ≡ x → by_tables n m k output (tables x a b) ≡ molecule_of atoms bonds n m k output
  unfolding molecule_of
  the-answer e = sym (ap (λ (x : Result (Unit {0}) Refusal). by_tables n m k output (tables x a b)) e) ∙ ap (by_tables n m k output) (settled.done ∙ ap (kekule_by atoms bonds n m) f.first)

  pub is-settled : c ≡ Ok tt → of_written n m k (write.write_valid a b n m output (replicate max_atoms 0)) ≡ molecule_of atoms bonds n m k output
  is-settled e = the-answer e

  pub not-settled : {r : Refusal} → c ≡ Err r → zeroed (code_of r) 0 output ≡ molecule_of atoms bonds n m k output
  not-settled {r} e = sym (ap (λ t. pick t (of_written n m k (write.write_valid a b n m output (replicate max_atoms 0))) (zeroed (code_of r) 0 output)) (code-not-zero r)) ∙ the-answer e

-- ---- reading

abbrev read_blank : List ℕ → read.ReadResult
read_blank s = read.read_of s (replicate (atom_cells * max_atoms) (pos 0)) (replicate (bond_cells * max_bonds) (pos 0))

both : {x y : Bool} → x ≡ true → y ≡ true → (x && y) ≡ true
both e f = λ i. e i && f i

-- the tables that are read into
abbrev blank_atoms : List ℤ
blank_atoms = replicate (atom_cells * max_atoms) (pos 0)

abbrev blank_bonds : List ℤ
blank_bonds = replicate (bond_cells * max_bonds) (pos 0)

blank-is : (k : ℕ) → replicate k (pos 0) ≡ read.zeros (replicate k (pos 0))
blank-is k = ap (λ (x : ℕ). replicate x (pos 0)) (sym (length-replicate {A = ℤ} k (pos 0)))

blank-room : enough blank_atoms blank_bonds ≡ true
unfolding enough
blank-room = both (le-leb (atom_cells * max_atoms) (length blank_atoms) (omega (arith, length-replicate {A = ℤ} (atom_cells * max_atoms) (pos 0)))) (le-leb (bond_cells * max_bonds) (length blank_bonds) (omega (arith, length-replicate {A = ℤ} (bond_cells * max_bonds) (pos 0))))

pub blank-tables : reader.Blank blank_atoms blank_bonds
blank-tables = cleared-blank blank_atoms blank_bonds blank-room (blank-is (atom_cells * max_atoms)) (blank-is (bond_cells * max_bonds))

-- with as many rows as a short text has bytes
abbrev few_atoms : List ℤ
few_atoms = replicate (atom_cells * small) (pos 0)

abbrev few_bonds : List ℤ
few_bonds = replicate (bond_cells * small) (pos 0)

pub row-long : max_bonds ≤ length {A = ℕ} (replicate max_bonds 0)
row-long = omega (arith, length-replicate {A = ℕ} max_bonds 0)

-- what reading into them promises
pub blank-read : (s : List ℕ) {t : read.ReadResult} → ((a b : List ℤ) → blank_atoms ≡ read.zeros a → blank_bonds ≡ read.zeros b → enough a b ≡ true → t ≡ read.read_of s a b) → t ≡ read_blank s
blank-read s f = f blank_atoms blank_bonds (blank-is (atom_cells * max_atoms)) (blank-is (bond_cells * max_bonds)) blank-room

-- an accepted text leaves sound tables that have a matching
accepted-standing : (s : List ℕ) → (read_blank s).code ≡ 0 → Standing (read_blank s).atoms (read_blank s).bonds (read_blank s).atom_count (read_blank s).bond_count
unfolding enough
accepted-standing s e =
    let t = reading.read-accepted s _ _ e in
    record {
      room = both (le-leb (atom_cells * max_atoms) (length (read_blank s).atoms) (omega (arith, t.lengths.0, length-replicate {A = ℤ} (atom_cells * max_atoms) (pos 0)))) (le-leb (bond_cells * max_bonds) (length (read_blank s).bonds) (omega (arith, t.lengths.1, length-replicate {A = ℤ} (bond_cells * max_bonds) (pos 0))));
      is_sound = reading.read-sound s _ _ e;
      matched = t.matched;
    }

pub too_short : (s output : List ℕ) → length output < max_text → refused_as 1 0 output ≡ standard_of s output
unfolding standard_of
too_short s output l = sym (ap (λ t. pick t (of_read (read_blank s) output) (refused_as 1 0 output)) (lt-leb max_text (length output) l))

pub read-standing : (s : List ℕ) (a b : List ℤ) (x : Result Counts TextRefusal) → reader.told x a b ≡ read_blank s → {n m k : ℕ} → x ≡ reader.counted n m k → Standing a b n m
read-standing s a b x answer {n} {m} {k} e =
    let same : reader.told (reader.counted n m k) a b ≡ read_blank s = ap (λ (y : Result Counts TextRefusal). reader.told y a b) (sym e) ∙ answer in
    let fine : (read_blank s).code ≡ 0 = ap (λ (t : read.ReadResult). t.code) (sym same) in
    subst (λ (t : read.ReadResult). Standing t.atoms t.bonds t.atom_count t.bond_count) (sym same) (accepted-standing s fine)

-- ---- tables of any length that a text can be read into

pub long-readable : (s : List ℕ) → Readable s blank_atoms blank_bonds
long-readable s =
    record {
      ready = blank-ready s blank-tables;
      agrees = subst (λ (t : read.ReadResult). Agree t (read_blank s)) (sym (into-of s blank_atoms blank_bonds blank-room)) (agree-itself (read_blank s));
    }
  where
    agree-itself : (t : read.ReadResult) → Agree t t
    agree-itself t = record { code = refl; offset = refl; atoms_count = refl; bonds_count = refl; overfull = refl; atoms = alike-itself t.atoms; bonds = alike-itself t.bonds }

pub short-readable : (s : List ℕ) → length s ≤ small → Readable s few_atoms few_bonds
short-readable s l =
    record {
      ready = record { atoms_zero = blank-is (atom_cells * small); bonds_zero = blank-is (bond_cells * small); room = inr rows };
      agrees = short-agree s few_atoms few_bonds blank_atoms blank_bonds rows blank-room (omega (arith, la, length-replicate {A = ℤ} (atom_cells * max_atoms) (pos 0))) (omega (arith, lb, length-replicate {A = ℤ} (bond_cells * max_bonds) (pos 0))) (omega (arith, l));
    }
  where
    la : length few_atoms ≡ atom_cells * small
    la = length-replicate {A = ℤ} (atom_cells * small) (pos 0)

    lb : length few_bonds ≡ bond_cells * small
    lb = length-replicate {A = ℤ} (bond_cells * small) (pos 0)

    rows : Short s few_atoms few_bonds
    rows = record { atoms_long = omega (arith, la, l); bonds_long = omega (arith, lb, l) }

-- an accepted text has at most as many atoms and bonds as bytes
few-accepted : (s : List ℕ) → (read_blank s).code ≡ 0 → ((read_blank s).atom_count ≤ length s) × ((read_blank s).bond_count ≤ length s)
few-accepted s e =
    let t = reading.read-accepted s _ _ e in
    let f = few-read s blank_atoms blank_bonds t.reached in
    (omega (arith, f.0, t.counts.0), omega (arith, f.1, t.counts.1))

-- what reading into such tables leaves: z and w are the tables before, a and b after
module _ (s : List ℕ) (z w a b : List ℤ) (x : Result Counts TextRefusal) (readable : Readable s z w) (answer : reader.told x a b ≡ read_into s z w) where
  agrees : Agree (reader.told x a b) (read_blank s)
  agrees = subst (λ (t : read.ReadResult). Agree t (read_blank s)) (sym answer) readable.agrees

  module _ {n m k : ℕ} (e : x ≡ reader.counted n m k) where
    same : Agree (reader.told (reader.counted n m k) a b) (read_blank s)
    same = subst (λ (y : Result Counts TextRefusal). Agree (reader.told y a b) (read_blank s)) e agrees

    stands : Standing (read_blank s).atoms (read_blank s).bonds n m
    stands = subst (λ (y : ℕ). Standing (read_blank s).atoms (read_blank s).bonds n y) (sym same.bonds_count) (subst (λ (y : ℕ). Standing (read_blank s).atoms (read_blank s).bonds y (read_blank s).bond_count) (sym same.atoms_count) (accepted-standing s (sym same.code)))

    -- the tables have their rows
    rows : (atom_cells * n ≤ length z) × (bond_cells * m ≤ length w)
    rows = ⊎_elim long few readable.ready.room
      where
        long : enough z w ≡ true → (atom_cells * n ≤ length z) × (bond_cells * m ≤ length w)
        long h =
            let v = sound-valid (read_blank s).atoms (read_blank s).bonds n m stands.is_sound in
            let r = enough-facts z w h in
            (omega (arith, v.atoms_few, r.atoms_room), omega (arith, v.bonds_few, r.bonds_room))

        few : Short s z w → (atom_cells * n ≤ length z) × (bond_cells * m ≤ length w)
        few h =
            let f = few-accepted s (sym same.code) in
            (omega (arith, f.0, same.atoms_count, h.atoms_long), omega (arith, f.1, same.bonds_count, h.bonds_long))

    pub read_held : length a ≡ length z → length b ≡ length w → Held a b n m
    read_held la lb =
        record {
          atom_rows = omega (arith, la, rows.0);
          bond_rows = omega (arith, lb, rows.1);
          is_sound = same-sound same.bonds same.atoms n m ∙ stands.is_sound;
          matched = same-matchable same.bonds same.atoms n m ∙ stands.matched;
        }

    -- the row that reading got
    pub read_first : (blank row : List ℕ) → Chosen x a b blank row → blank ≡ replicate max_bonds 0 → length row ≡ length blank → HasFirst a b n m row
    read_first blank row c zero kept =
        record {
          long = kept ∙ ap length zero ∙ length-replicate {A = ℕ} max_bonds 0;
          first = subst (λ (y : Result Counts TextRefusal). ChosenBy y a b blank row) e c.is ∙ ap (first_in a b n m) zero;
        }

    pub read-accepted : (row output : List ℕ) → Held a b n m → HasFirst a b n m row → max_text ≤ length output → molecule_of a b n m k output ≡ standard_of s output
    unfolding standard_of
    read-accepted row output h f long =
        let g = standing-held (read_blank s).atoms (read_blank s).bonds n m stands in
        let l : first_of a b n m ≡ first_of (read_blank s).atoms (read_blank s).bonds n m = same_first same.atoms same.bonds n m h.atom_rows g.atom_rows h.bond_rows g.bond_rows in
        same-molecule same.atoms same.bonds n m h.atom_rows g.atom_rows h.bond_rows g.bond_rows k output
        ∙ standing-molecule (read_blank s).atoms (read_blank s).bonds n m stands (ap length (sym l) ∙ ap length (sym f.first) ∙ f.long) k output long
        ∙ (λ i. pick (eqb (same.code i) 0) (of_molecule (read_blank s).atoms (read_blank s).bonds (same.atoms_count i) (same.bonds_count i) (same.overfull i) output) (zeroed (same.code i) (same.offset i) output))
        ∙ sym (ap (λ t. pick t (of_read (read_blank s) output) (refused_as 1 0 output)) (le-leb max_text (length output) long))

  pub read-refused : {r : Refusal} {p : ℕ} → x ≡ reader.refused_text r p → (output : List ℕ) → max_text ≤ length output → zeroed (code_of r) p output ≡ standard_of s output
  unfolding standard_of
  read-refused {r} {p} e output long =
      let same : Agree (reader.told (reader.refused_text r p) a b) (read_blank s) = subst (λ (y : Result Counts TextRefusal). Agree (reader.told y a b) (read_blank s)) e agrees in
      sym (ap (λ t. pick t (of_molecule (read_blank s).atoms (read_blank s).bonds 0 0 0 output) (zeroed (code_of r) p output)) (code-not-zero r))
      ∙ (λ i. pick (eqb (same.code i) 0) (of_molecule (read_blank s).atoms (read_blank s).bonds (same.atoms_count i) (same.bonds_count i) (same.overfull i) output) (zeroed (same.code i) (same.offset i) output))
      ∙ sym (ap (λ t. pick t (of_read (read_blank s) output) (refused_as 1 0 output)) (le-leb max_text (length output) long))
