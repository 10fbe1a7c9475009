-- What an accepted text leaves in tables of any length, kekulized by its first matching. Assumes nothing.
use Prim.Native.Nat.{ℕ, ◌*◌, ◌≤◌}
use native.Mathlib.Omega.{arith}
use mathlib.Core.Path.{◌≡◌, refl, sym, ap, subst, ◌∙◌}
use mathlib.Core.Bool.{Bool, true, false, ◌&&◌}
use mathlib.Core.List.{List}
use lib.ListN.{length, replicate, length-replicate}
use lib.IntN.{ℤ}
use lib.Dec.{eqb, leb}
use Rattle.std.specs.Prelude.{Result, Ok, Err}
use Rattle.loops.specs.Loop.{pick}
use Rattle.refusal.specs.declared.Refusal.{Refusal}
use Rattle.refusal.specs.declared.Refusal.TheVariants.{CrowdedEnd}
use Rattle.refusal.specs.Code.{code_of}
use Rattle.refusal.proofs.Codes.{code-range}
use Rattle.ids.specs.Limits.{max_text}
use Rattle.table.specs.Limits.{max_atoms, max_bonds, atom_cells, bond_cells}
use Rattle.table.specs.Valid.{Valid, enough, check_code}
use Rattle.table.specs.Sound.{sound}
use Rattle.table.specs.Marks.{none_crowded}
use Rattle.table.specs.Edits.{unselected_atoms, doubled_bonds}
use Rattle.table.proofs.Sound.{sound-valid, sound-late, late-none}
use Rattle.table.proofs.Valid.{Enough, enough-facts}
use Rattle.table_marks.specs.Chosen.{none_crowded_by}
use Rattle.table_alike.specs.Alike.{Alike}
use Rattle.table_alike.proofs.Readings.{same-sound, same-valid, same-late}
use Rattle.table_alike.proofs.Edits.{alike-unselected, alike-doubled}
use Rattle.matching.specs.declared.Call.TheVariants.{First}
use Rattle.kekule.specs.Kekule.{KekulizeReply, CallReply, kekulize_reply, tables, roomy, is_matching_of, kekulized, kekulized_of}
use Rattle.kekule.proofs.Kekule.{call-done}
use Rattle.kekule.proofs.Crowding.{crowded-by, elides}
use Rattle.kekule.proofs.Kekulized.{kekulized-sound}
use Rattle.writing.specs.Write.{write_of}
use Rattle.writer.proofs.Answer.{told-valid}
use Rattle.standard.specs.Standard.{StandardOut, first_row, kekule_of, written_of, of_written, zeroed, of_molecule}
use Rattle.standard.specs.Standing.{Standing, Settled, Held, first_of, HasFirst, kekule_by, KekulizedBy, by_tables, molecule_of}
use Rattle.standard.proofs.First.{first-is}
use Rattle.standard.proofs.Alike.{padded, padded-length, padded-alike, unselected-length, doubled-length, same-crowding}

-- the renumbering that writing is lent has its length
pub numbers-long : max_atoms ≤ length {A = ℕ} (replicate max_atoms 0)
numbers-long = omega (arith, length-replicate {A = ℕ} max_atoms 0)

-- no refusal is an acceptance
no-refusal : {P : Type 0} {r : Refusal} → ◌≡◌ {A = Result Unit Refusal} (Err r) (Ok tt) → P
no-refusal {r = r} e =
    let z : code_of r ≡ 0 = ap check_code e in
    let p = code-range r in
    absurd (omega (arith, z, p.positive))

module _ (atoms bonds : List ℤ) (n m : ℕ) (h : Held atoms bonds n m) where
  pub held-valid : Valid atoms bonds n m
  held-valid = sound-valid atoms bonds n m h.is_sound

  pub first_matches : is_matching_of atoms bonds n m (first_of atoms bonds n m) ≡ true
  first_matches = first-is atoms bonds n m (replicate max_bonds 0) h.matched

  module _ (row : List ℕ) where
    -- kekulized, they are sound: so are longer ones
    pub still_sound : none_crowded (doubled_bonds row m bonds) m ≡ true → sound (unselected_atoms n atoms) (doubled_bonds row m bonds) n m ≡ true
    still_sound c =
        same-sound (alike-doubled (padded-alike (bond_cells * max_bonds) bonds) row m h.bond_rows long-bonds) (alike-unselected (padded-alike (atom_cells * max_atoms) atoms) n h.atom_rows long-atoms) n m
        ∙ kekulized-sound {atoms = padded (atom_cells * max_atoms) atoms} {bonds = padded (bond_cells * max_bonds) bonds} {n = n} {m = m}
        (same-valid near-bonds near-atoms n m held-valid) room row
        (sym (same-late near-bonds near-atoms n m) ∙ sound-late atoms bonds n m h.is_sound)
        (sym (same-crowding near-atoms near-bonds n m h.atom_rows long-atoms h.bond_rows long-bonds row) ∙ c)
      where
        near-atoms : Alike atoms (padded (atom_cells * max_atoms) atoms)
        near-atoms = padded-alike (atom_cells * max_atoms) atoms

        near-bonds : Alike bonds (padded (bond_cells * max_bonds) bonds)
        near-bonds = padded-alike (bond_cells * max_bonds) bonds

        long-atoms : atom_cells * n ≤ length (padded (atom_cells * max_atoms) atoms)
        long-atoms = omega (arith, h.atom_rows, padded-length (atom_cells * max_atoms) atoms)

        long-bonds : bond_cells * m ≤ length (padded (bond_cells * max_bonds) bonds)
        long-bonds = omega (arith, h.bond_rows, padded-length (bond_cells * max_bonds) bonds)

        room : Enough (padded (atom_cells * max_atoms) atoms) (padded (bond_cells * max_bonds) bonds)
        room = record { atoms_room = omega (arith, padded-length (atom_cells * max_atoms) atoms); bonds_room = omega (arith, padded-length (bond_cells * max_bonds) bonds) }

    module _ (f : HasFirst atoms bonds n m row) where
      pub row_fits : m ≤ length row
      row_fits = omega (arith, held-valid.bonds_few, f.long)

      matches : is_matching_of atoms bonds n m row ≡ true
      matches = subst (λ (r : List ℕ). is_matching_of atoms bonds n m r ≡ true) (sym f.first) first_matches

      -- what is asked of the ends of the chosen bonds is 20 of the kekulized ones
      chosen_is : none_crowded (doubled_bonds row m bonds) m ≡ none_crowded_by bonds m row
      chosen_is = crowded-by bonds m row (λ b l. omega (arith, h.bond_rows)) (elides atoms bonds n m row matches) (late-none atoms bonds n m (sound-late atoms bonds n m h.is_sound)).uncrowded

      pub crowded : none_crowded_by bonds m row ≡ false → KekulizedBy atoms bonds n m row (Err CrowdedEnd) atoms bonds
      unfolding kekule_by
      crowded d = record { done = sym (ap (λ (x : Bool). pick x (kekulized atoms bonds n m row) (kekulize_reply 20 atoms bonds)) (chosen_is ∙ d)); still_sound = λ e. no-refusal e }

      pub settled : {a b : List ℤ} → none_crowded_by bonds m row ≡ true → tables (Ok tt) a b ≡ kekulized atoms bonds n m row → KekulizedBy atoms bonds n m row (Ok tt) a b
      unfolding kekule_by
      settled d e =
          record {
            done = e ∙ sym (ap (λ (x : Bool). pick x (kekulized atoms bonds n m row) (kekulize_reply 20 atoms bonds)) (chosen_is ∙ d));
            still_sound = λ z. subst (λ (t : KekulizeReply). sound t.atoms t.bonds n m ≡ true) (sym e) (still_sound (chosen_is ∙ d));
          }

-- ---- tables of full length

module _ (atoms bonds : List ℤ) (n m : ℕ) (w : Standing atoms bonds n m) where
  pub standing-held : Held atoms bonds n m
  standing-held =
      let v = sound-valid atoms bonds n m w.is_sound in
      let r = enough-facts atoms bonds w.room in
      record { atom_rows = omega (arith, v.atoms_few, r.atoms_room); bond_rows = omega (arith, v.bonds_few, r.bonds_room); is_sound = w.is_sound; matched = w.matched }

  is-long : (row : List ℕ) → length row ≡ max_bonds → roomy atoms bonds (length row) ≡ true
  is-long row l = ap (λ (x : ℕ). leb max_bonds x && enough atoms bonds) l ∙ w.room

  pub standing-first : first_of atoms bonds n m ≡ first_row atoms bonds n m
  unfolding first_row
  standing-first = ap (λ (o : CallReply). o.row) (call-done First atoms bonds n m (replicate max_bonds 0) (is-long (replicate max_bonds 0) (length-replicate {A = ℕ} max_bonds 0)) w.is_sound refl)

  -- the tests that the definitions make first are passed
  pub standing-kekule : (row : List ℕ) → HasFirst atoms bonds n m row → kekule_by atoms bonds n m row ≡ kekule_of atoms bonds n m
  unfolding kekule_by kekule_of kekulized_of
  standing-kekule row f =
      let e : row ≡ first_row atoms bonds n m = f.first ∙ standing-first in
      let g : is_matching_of atoms bonds n m row ≡ true = subst (λ (r : List ℕ). is_matching_of atoms bonds n m r ≡ true) (sym f.first) (first_matches atoms bonds n m standing-held) in
      sym (rw (← e, is-long row f.long, w.is_sound, g))

  -- what the search hands back, as the definitions say it
  module _ (row : List ℕ) (f : HasFirst atoms bonds n m row) where
    pub standing-settled : {r : Result (Unit {0}) Refusal} {a b : List ℤ} → KekulizedBy atoms bonds n m row r a b → length a ≡ length atoms → length b ≡ length bonds → Settled atoms bonds n m r a b row
    unfolding enough
    standing-settled {r} {a} {b} k la lb =
        record {
          first = f.first ∙ standing-first;
          done = k.done ∙ standing-kekule row f;
          writable = λ e. record { room = (λ i. leb (atom_cells * max_atoms) (la i) && leb (bond_cells * max_bonds) (lb i)) ∙ w.room; is_sound = k.still_sound e };
        }

  -- the molecule kekulized and written
  pub standing-molecule : length (first_of atoms bonds n m) ≡ max_bonds → (k : ℕ) (out : List ℕ) → max_text ≤ length out → molecule_of atoms bonds n m k out ≡ of_molecule atoms bonds n m k out
  unfolding molecule_of of_molecule written_of kekule_by enough
  standing-molecule l k out long = split (none_crowded (doubled_bonds (first_of atoms bonds n m) m bonds) m) refl ∙ ap guarded (standing-kekule (first_of atoms bonds n m) (record { long = l; first = refl }))
    where
      guarded : KekulizeReply → StandardOut
      guarded t = pick (eqb t.code 0) (of_written n m k (write_of t.atoms t.bonds n m out (replicate max_atoms 0))) (zeroed t.code 0 out)

      row : List ℕ
      row = first_of atoms bonds n m

      split : (x : Bool) → none_crowded (doubled_bonds row m bonds) m ≡ x → by_tables n m k out (pick x (kekulized atoms bonds n m row) (kekulize_reply 20 atoms bonds)) ≡ guarded (pick x (kekulized atoms bonds n m row) (kekulize_reply 20 atoms bonds))
      split true e =
          ap (of_written n m k)
          (told-valid (unselected_atoms n atoms) (doubled_bonds row m bonds) n m out (replicate max_atoms 0)
          ((λ i. leb (atom_cells * max_atoms) (unselected-length n atoms i) && leb (bond_cells * max_bonds) (doubled-length row m bonds i)) ∙ w.room)
          long numbers-long (still_sound atoms bonds n m standing-held row e))
      split false e = refl
