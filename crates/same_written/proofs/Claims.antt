-- What was written and read back is the same compound: demand 2 read with P4. Assumes nothing.
use mathlib.Core.Path.{◌≡◌, refl, sym, ap, ◌∙◌}
use mathlib.Core.Bool.{Bool, true, false, ◌&&◌}
use mathlib.Core.List.{List, []}
use Prim.Native.Nat.{ℕ}
use native.Mathlib.Omega.{arith}
use lib.Dec.{leb}
use lib.ListN.{length}
use lib.IntN.{ℤ}
use Rattle.ids.specs.Limits.{max_text}
use Rattle.loops.proofs.Loops.{and_left}
use Rattle.table.specs.Limits.{max_atoms}
use Rattle.table.specs.Valid.{enough}
use Rattle.table.specs.Sound.{sound}
use Rattle.table.proofs.Valid.{Enough, enough-facts}
use Rattle.table.proofs.Sound.{sound-valid}
use Rattle.matching.specs.Model.{head_or}
use Rattle.matching.proofs.Graph.{and_intro}
use Rattle.table_graph.specs.Graph.{matchable}
use Rattle.reading.specs.Read.{ReadResult, read_of}
use Rattle.writing.specs.Write.{text_of, renumbering, write_of}
use Rattle.roundtrip.specs.Claims.{Same, RoundTrip}
use Rattle.roundtrip.proofs.Claims.{renumbering-permutes, written, written-and-read}
use Rattle.same_model.specs.Same.{max_same, molecule, placements, roomy_both, sound_both, few_both, same_of}
use Rattle.same_model.specs.Redrawing as redrawing
use Rattle.same_renumbered.specs.Renumbered.{Renumbered}
use Rattle.same_renumbered.proofs.Claims.{renumbered-same, first-placement, same-told}
use Rattle.same_written.specs.Reading.{molecule_read}

module _ (atoms bonds : List ℤ) (n m : ℕ) (h : sound atoms bonds n m ≡ true) where
  -- tables that hold the molecule as demand 2 says hold a renumbering of it
  pub held-renumbered : {T U : List ℤ} → Same atoms bonds n m T U → Renumbered (renumbering bonds n m) n m atoms bonds T U
  held-renumbered s =
      let p = renumbering-permutes atoms bonds n m h in
      record {
        renumbers = record { size = p.long; below = p.below; one = p.injective };
        cells = λ a f l k. s.cells a f l (omega arith) (λ e. omega arith);
        permuted = s.permuted;
      }

  -- THE STATEMENT: a molecule that has a matching, and what demand 2 says is read of its text, are the same compound
  pub round-trip-same : Enough atoms bonds → matchable atoms bonds n m ≡ true → {A B : List ℤ} → enough A B ≡ true → (t : RoundTrip atoms bonds n m A B) → redrawing.Same (molecule atoms bonds n m) (molecule t.T t.U n m)
  round-trip-same e k {A} {B} long t =
      let x = molecule atoms bonds n m in
      let room = enough-facts A B long in
      let room' : Enough t.T t.U = record { atoms_room = rw t.atoms_long room.atoms_room; bonds_room = rw t.bonds_long room.bonds_room } in
      renumbered-same (held-renumbered t.same) (sound-valid atoms bonds n m h) e (sound-valid t.T t.U n m t.still_sound) room' (head_or [] (placements x)) (first-placement x k)

-- what an accepted writing, and an accepted reading of its text, say of the two molecules
module _ (atoms bonds : List ℤ) (n m : ℕ) (out ren : List ℕ) (h : (write_of atoms bonds n m out ren).code ≡ 0) (A B : List ℤ) (long : enough A B ≡ true) (c : (read_of (text_of atoms bonds n m) A B).code ≡ 0) where
  -- the text is not refused as 11, so there is a matching
  matched : matchable atoms bonds n m ≡ true
  matched = go (matchable atoms bonds n m) refl
    where
      go : (z : Bool) → matchable atoms bonds n m ≡ z → z ≡ true
      go true e = refl
      go false e = absurd (let q : ◌≡◌ {A = ℕ} 11 0 = sym (ap (λ (r : ReadResult). r.code) ((written-and-read atoms bonds n m out ren h A B long).no_matching e)) ∙ c in omega arith)

  trip : RoundTrip atoms bonds n m A B
  trip = (written-and-read atoms bonds n m out ren h A B long).matching matched

  room : Enough atoms bonds
  room = enough-facts atoms bonds (and_left (enough atoms bonds) (leb max_text (length out)) (and_left (enough atoms bonds && leb max_text (length out)) (leb max_atoms (length ren)) (written atoms bonds n m out ren h).1))

  -- THE STATEMENT: whatever writing accepts, and what reading its text hands back, are the same compound
  pub written-read-same : redrawing.Same (molecule atoms bonds n m) (molecule_read (read_of (text_of atoms bonds n m) A B))
  written-read-same = rw trip.told (round-trip-same atoms bonds n m (written atoms bonds n m out ren h).0.tables room matched long trip)

  -- THE STATEMENT of the call: "yes" for the two, of at most 64 atoms, where nothing is too short
  pub written-read-told : leb n max_same ≡ true → (row1 row2 numbers : List ℕ) → roomy_both (molecule atoms bonds n m) (molecule_read (read_of (text_of atoms bonds n m) A B)) row1 row2 numbers ≡ true
      → (same_of (molecule atoms bonds n m) (molecule_read (read_of (text_of atoms bonds n m) A B)) row1 row2 numbers).code ≡ 0
  written-read-told l row1 row2 numbers k =
      let x = molecule atoms bonds n m in
      let y = molecule_read (read_of (text_of atoms bonds n m) A B) in
      let s : sound_both x y ≡ true = rw trip.told (and_intro (sound atoms bonds n m) (sound trip.T trip.U n m) (written atoms bonds n m out ren h).0.tables trip.still_sound) in
      let f : few_both x y ≡ true = rw trip.told (and_intro (leb n max_same) (leb n max_same) l l) in
      same-told x y written-read-same row1 row2 numbers k s f
