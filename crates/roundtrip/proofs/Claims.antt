-- The round trip (demand 2): reading what was written, and writing what was read, for all valid tables. Assumes nothing.
use mathlib.Core.Path.{◌≡◌, refl, sym, ap, ◌∙◌, subst}
use mathlib.Core.Bool.{Bool, true, false}
use mathlib.Core.List.{List, [], ◌∷◌, map}
use Prim.Native.Nat.{ℕ, ◌-◌, ◌<◌}
use native.Mathlib.Omega.{arith}
use lib.Dec.{eqb, leb}
use lib.ListN.{length, get_or, take, replicate}
use lib.Seq.{take-append_seam, take_at}
use lib.IntN.{ℤ, pos}
use Rattle.loops.specs.Loop.{pick}
use borrow.Author.Tests.{leb-true}
use Rattle.loops.proofs.Loops.{length-up_to, up_to-at}
use Rattle.parity.specs.Parity.{odd, unlike}
use Rattle.parity.specs.Mark.{mark_if}
use Rattle.parity.proofs.Swapped.{sorting-swaps}
use Rattle.table_graph.specs.Graph.{matchable}
use Rattle.table_graph.proofs.Localized.{localized-matchable}
use Rattle.valence.specs.Valence.{delocalized}
use Rattle.table.specs.Limits.{MARK}
use Rattle.table.specs.Cells.{atom_cell, selected, mark}
use Rattle.table.specs.Valid.{Valid, enough}
use Rattle.table.specs.Sound.{late_code, sound}
use Rattle.table.proofs.Sound.{sound-valid, sound-late, sound_back}
use Rattle.table.proofs.Valid.{bond-row, enough-facts}
use Rattle.ids.specs.Limits.{max_text}
use Rattle.reading.specs.Read.{refused, placed, checked, read_of}
use Rattle.writing_walk.specs.Token.{Bond, bond, bond_between}
use Rattle.writing_walk.specs.Emit.{pre}
use Rattle.writing_walk.specs.Walk.{forest_of, place, renumber, renumbered}
use Rattle.writing_walk.proofs.Count.{none, more}
use Rattle.writing_walk.proofs.Walk.{Inside}
use Rattle.writing_walk.proofs.Trip.{completed}
use Rattle.writing_walk.proofs.Perm.{Perm, bonds-permuted}
use Rattle.writing_walk.proofs.Seats.{ring_tokens}
use Rattle.writing_walk.proofs.Order.{place-below, atom-below, atom-place, place-atom}
use Rattle.walk_orders.specs.Orders.{bond_at, numbers_at, new_number}
use Rattle.walk_orders.proofs.Numbers.{index-found}
use Rattle.walk_orders.proofs.Marks.{is_read, numbers-unlike}
use Rattle.writing.specs.Write.{walk_bond, bond_list, tokens, text_of, renumbering, few_bridges, shallow, lent, write_valid, write_of}
use Rattle.writing.specs.Write as write
use Rattle.writing.specs.Conditions.{Writes}
use Rattle.writing.proofs.Bonds.{inside}
use Rattle.writing.proofs.Claims.{written-iff, one_answer}
use Rattle.writing.proofs.Marks.{bonds-numbers}
use Rattle.roundtrip.specs.Claims.{Writable, numbered, renamed, accepted, new_numbers, Same, RoundTrip, Permutes, WrittenAndRead, Demand2}
use Rattle.roundtrip.proofs.Bonds.{distinct, many}
use Rattle.roundtrip.proofs.Back.{Molecule, ReadBack, ren, as_many, read_back, late-same, matchable-same}
use Rattle.roundtrip.proofs.Again.{text-again, identity-again}
use Rattle.roundtrip.proofs.Rewritten.{valid-again, few-again, shallow-again}

never : {X : Type 0} {t : Bool} → t ≡ true → t ≡ false → X
never h k = absurd (let z : ◌≡◌ {A = ℕ} 0 1 = cc in omega arith)

-- ---- what writing answers
-- what is not refused is written
pub writes : {atoms bonds : List ℤ} {n m : ℕ} → Writable atoms bonds n m → (out ren : List ℕ) → lent atoms bonds out ren ≡ true → write_of atoms bonds n m out ren ≡ write.write_accepted (text_of atoms bonds n m) (renumbering bonds n m) out ren
unfolding write_of write_valid
writes w out ren l = rw (l, w.tables, w.bridges, w.branches, w.bytes)

all_pass : (t : write.WriteResult) (out ren : List ℕ) (l a b c d : Bool) → (pick l (pick a (pick b (pick c (pick d t (write.write_refused 16 out ren)) (write.write_refused 15 out ren)) (write.write_refused 14 out ren)) (write.write_refused 13 out ren)) (write.write_short out ren)).code ≡ 0
    → (l ≡ true) × ((a ≡ true) × ((b ≡ true) × ((c ≡ true) × (d ≡ true))))
all_pass t out ren true true true true true h = (refl, (refl, (refl, (refl, refl))))
all_pass t out ren true true true true false h = absurd (omega arith)
all_pass t out ren true true true false d h = absurd (omega arith)
all_pass t out ren true true false c d h = absurd (omega arith)
all_pass t out ren true false b c d h = absurd (omega arith)
all_pass t out ren false a b c d h = absurd (omega arith)

-- and what is written was not refused: nothing was too short, and the tables are valid
pub written : (atoms bonds : List ℤ) (n m : ℕ) (out ren : List ℕ) → (write_of atoms bonds n m out ren).code ≡ 0 → Writable atoms bonds n m × (lent atoms bonds out ren ≡ true)
unfolding write_of write_valid
written atoms bonds n m out ren h =
    let r = all_pass (write.write_accepted (text_of atoms bonds n m) (renumbering bonds n m) out ren) out ren (lent atoms bonds out ren) (sound atoms bonds n m) (few_bridges (tokens bonds n m)) (shallow (tokens bonds n m)) (leb (length (text_of atoms bonds n m)) max_text) h in
    (record { tables = r.1.0; bridges = r.1.1.0; branches = r.1.1.1.0; bytes = r.1.1.1.1 }, r.0)

-- the text stands at the front of the output, and the renumbering at the front of the numbers
module _ {atoms bonds : List ℤ} {n m : ℕ} (w : Writable atoms bonds n m) (out ren : List ℕ) (l : lent atoms bonds out ren ≡ true) where
  written-output : take (write_of atoms bonds n m out ren).size (write_of atoms bonds n m out ren).output ≡ text_of atoms bonds n m
  written-output =
      ap (λ (t : write.WriteResult). take t.size t.output) (writes w out ren l) ∙ take-append_seam (text_of atoms bonds n m) (replicate (length out - length (text_of atoms bonds n m)) 0)

  written-numbers : take n (write_of atoms bonds n m out ren).numbers ≡ renumbering bonds n m
  unfolding renumbering
  written-numbers =
      ap (λ (t : write.WriteResult). take n t.numbers) (writes w out ren l)
      ∙ take_at (renumbering bonds n m) (replicate (length ren - length (renumbering bonds n m)) 0) n (length-up_to (place (pre (forest_of n (bond_list bonds m)))) 0 n)

-- ---- the renumbering
number-place : (bonds : List ℤ) (n m v : ℕ) → v < n → numbered (renumbering bonds n m) v ≡ place (pre (forest_of n (bond_list bonds m))) v
unfolding renumbering
number-place bonds n m v l = up_to-at (place (pre (forest_of n (bond_list bonds m)))) n v 0 l

-- THE RENUMBERING is a permutation of the atom numbers
pub renumbering-permutes : (atoms bonds : List ℤ) (n m : ℕ) → sound atoms bonds n m ≡ true → Permutes n (renumbering bonds n m)
unfolding renumbering
renumbering-permutes atoms bonds n m h =
    let walked = pre (forest_of n (bond_list bonds m)) in
    let r = ren atoms bonds n m (sound-valid atoms bonds n m h) in
    let e : (v : ℕ) → v < n → numbered (renumbering bonds n m) v ≡ place walked v = number-place bonds n m in
    record {
      long = length-up_to (place walked) 0 n;
      below = λ v l. (let a = e v l in let b = place-below r v l in omega arith);
      injective = λ v w l k q. sym (atom-place r v l) ∙ ap (λ (x : ℕ). get_or walked x 0) (sym (e v l) ∙ q ∙ e w k) ∙ atom-place r w k;
      onto = λ a l. (get_or walked a 0, (atom-below r a l, e (get_or walked a 0) (atom-below r a l) ∙ place-atom r a l));
    }

-- ---- the bonds
renamed-bond : (bonds : List ℤ) (n m : ℕ) (b : Bond) → b.lo < b.hi → b.hi < n → renumber (pre (forest_of n (bond_list bonds m))) b ≡ renamed (renumbering bonds n m) b
renamed-bond bonds n m b h l =
    let e : place (pre (forest_of n (bond_list bonds m))) b.lo ≡ numbered (renumbering bonds n m) b.lo = sym (number-place bonds n m b.lo (omega arith)) in
    let f : place (pre (forest_of n (bond_list bonds m))) b.hi ≡ numbered (renumbering bonds n m) b.hi = sym (number-place bonds n m b.hi l) in
    λ i. bond_between (e i) (f i) b.kind

renamed-list : (bonds : List ℤ) (n m : ℕ) (bs : List Bond) → Inside n bs → map (renumber (pre (forest_of n (bond_list bonds m)))) bs ≡ map (renamed (renumbering bonds n m)) bs
renamed-list bonds n m [] none = refl
renamed-list bonds n m (b ∷ bs) (more h a) = λ i. renamed-bond bonds n m b h.0 h.1 i ∷ renamed-list bonds n m bs a i

-- what is read is the molecule
module _ (atoms bonds : List ℤ) (n m : ℕ) (T U : List ℤ) (p q : ℕ) (valid : Valid atoms bonds n m) (M : Molecule atoms bonds n m T U p q) where
  abbrev bs : List Bond
  bs = bond_list bonds m

  -- the number of a bond among those read
  abbrev new : ℕ → ℕ
  new = new_number n bs (completed n bs)

  new_bond : (b : ℕ) → b < m → (new b < m) × (walk_bond U (new b) ≡ renamed (renumbering bonds n m) (walk_bond bonds b))
  unfolding new_number
  new_bond b l =
      let x = renumber (pre (forest_of n bs)) (bond_at bs b) in
      let at : bond_at bs b ≡ walk_bond bonds b = up_to-at (walk_bond bonds) m b (bond 0 0 0) l in
      let f = index-found x (completed n bs) (is_read n bs (inside valid) b (let e = many valid in omega arith)) in
      let g : new b < m = (let e = as_many atoms bonds n m valid in let k = f.0 in omega arith) in
      let r = bond-row valid b l in (
        g,
        sym (up_to-at (walk_bond U) m (new b) (bond 0 0 0) g) ∙ ap (λ (c : List Bond). bond_at c (new b)) M.listed ∙ f.1 ∙ ap (renumber (pre (forest_of n bs))) at
            ∙ renamed-bond bonds n m (walk_bond bonds b) r.order r.second,
      )

  numbers-listed : (w : ℕ) → new_numbers new bonds m w ≡ map new (numbers_at w bs)
  numbers-listed w = ap (map new) (bonds-numbers bonds w m)

  unlike-listed : (w : ℕ) → w < n → unlike (new_numbers new bonds m w) ≡ true
  unlike-listed w l =
      ap unlike (numbers-listed w)
      ∙ numbers-unlike n bs (inside valid) (distinct valid) w l (λ z. z) (ring_tokens n bs) (record { zeroth = refl; rises = λ a b h k. h }) (omega arith)

  same_of : Same atoms bonds n m T U
  unfolding renumbered
  same_of =
      let perm : Perm (completed n bs) (map (renumber (pre (forest_of n bs))) bs) = bonds-permuted n bs (inside valid) in
      record {
        cells = λ w f l k h. ap (λ (a : ℕ). atom_cell T a f) (number-place bonds n m w l) ∙ M.cells w f l k h;
        permuted = subst (λ (l : List Bond). Perm l (map (renamed (renumbering bonds n m)) bs)) (sym M.listed) (subst (Perm (completed n bs)) (renamed-list bonds n m bs (inside valid)) perm);
        new = new;
        new_bond = new_bond;
        marks = λ w l. ap (λ (a : ℕ). atom_cell T a MARK) (number-place bonds n m w l) ∙ M.marks w l ∙ ap (λ (o : List ℕ). pos (mark_if (odd o) (mark atoms w))) (sym (numbers-listed w));
        swaps = λ w l s a. sorting-swaps s (unlike-listed w l) a;
        atoms_after = M.atoms_after;
        bonds_after = M.bonds_after;
      }

-- after the late checks, where none fails
passed : (T U : List ℤ) (n m k : ℕ) → late_code T U n m ≡ 0 → checked T U n m k ≡ placed T U n m k
passed T U n m k e = ap (λ (c : ℕ). pick (eqb c 0) (placed T U n m k) (refused c 0 T U)) e

module _ (atoms bonds : List ℤ) (n m : ℕ) (w : Writable atoms bonds n m) (A B : List ℤ) (long : enough A B ≡ true) where
  v : Valid atoms bonds n m
  v = sound-valid atoms bonds n m w.tables

  back : ReadBack atoms bonds n m A B
  back = read_back atoms bonds n m v A B (enough-facts A B long) w.bridges w.branches (leb-true (length (text_of atoms bonds n m)) max_text w.bytes)

  sound-again : {T U : List ℤ} {p q : ℕ} → Molecule atoms bonds n m T U p q → sound T U n m ≡ true
  sound-again {T} {U} M = sound_back T U n m (valid-again atoms bonds n m v M) (late-same atoms bonds n m v M (sound-late atoms bonds n m w.tables))

  reads : read_of (text_of atoms bonds n m) A B ≡ placed back.atoms back.bonds n m back.overfull
  unfolding read_of
  reads = rw (long, w.bytes) (back.reads ∙ passed back.atoms back.bonds n m back.overfull (late-same atoms bonds n m v back.molecule (sound-late atoms bonds n m w.tables)))

  again : {T U : List ℤ} → Molecule atoms bonds n m T U (length A) (length B) → Writable T U n m
  again M = record {
    tables = sound-again M;
    bridges = few-again atoms bonds n m v M ∙ w.bridges;
    branches = shallow-again atoms bonds n m v M ∙ w.branches;
    bytes = ap (λ (s : List ℕ). leb (length s) max_text) (text-again atoms bonds n m v M) ∙ w.bytes;
  }

  -- DEMAND 2: a molecule that has a matching is read back, and written again
  pub round_trip : matchable atoms bonds n m ≡ true → RoundTrip atoms bonds n m A B
  round_trip h =
      let M = back.molecule in
      let e : matchable back.atoms back.bonds n m ≡ true = matchable-same atoms bonds n m v M ∙ h in
      record {
        T = back.atoms;
        U = back.bonds;
        overfull = back.overfull;
        told = reads ∙ ap (λ (x : Bool). pick x (accepted n m back.overfull back.atoms back.bonds) (refused 11 0 back.atoms back.bonds)) e;
        same = same_of atoms bonds n m back.atoms back.bonds (length A) (length B) v M;
        atoms_long = M.atoms_long;
        bonds_long = M.bonds_long;
        still_sound = sound-again M;
        again = λ out ren l. writes (again M) out ren l ∙ (λ i. write.write_accepted (text-again atoms bonds n m v M i) (identity-again atoms bonds n m v M i) out ren);
      }

  -- DEMAND 2: the text of one that has none is refused as 11
  pub no-matching-read : matchable atoms bonds n m ≡ false → read_of (text_of atoms bonds n m) A B ≡ refused 11 0 A B
  no-matching-read h =
      let M = back.molecule in
      let e : matchable back.atoms back.bonds n m ≡ false = matchable-same atoms bonds n m v M ∙ h in
      reads ∙ ap (λ (x : Bool). pick x (accepted n m back.overfull back.atoms back.bonds) (refused 11 0 back.atoms back.bonds)) e
      ∙ (λ i. record { code = 11; offset = 0; atom_count = 0; bond_count = 0; overfull = 0; atoms = replicate (M.atoms_long i) (pos 0); bonds = replicate (M.bonds_long i) (pos 0) })

  -- a molecule in which no atom is selected, as a kekulized one, needs no more
  pub unselected-round-trip : ((a : ℕ) → a < n → selected atoms a ≡ 0) → RoundTrip atoms bonds n m A B
  unfolding delocalized
  unselected-round-trip h = round_trip (localized-matchable atoms bonds n m (λ a l. rw (h a l)))

-- every writing that is not refused, and all buffers long enough to read into
pub written-and-read : (atoms bonds : List ℤ) (n m : ℕ) (out ren : List ℕ) → (write_of atoms bonds n m out ren).code ≡ 0 → (A B : List ℤ) → enough A B ≡ true → WrittenAndRead atoms bonds n m out ren A B
written-and-read atoms bonds n m out ren h A B long =
    let w = written atoms bonds n m out ren h in
    record {
      text = written-output w.0 out ren w.1;
      numbers = written-numbers w.0 out ren w.1;
      permutes = renumbering-permutes atoms bonds n m w.0.tables;
      matching = round_trip atoms bonds n m w.0 A B long;
      no_matching = no-matching-read atoms bonds n m w.0 A B long;
    }

module _ (atoms bonds : List ℤ) (n m : ℕ) (out ren : List ℕ) (l : lent atoms bonds out ren ≡ true) (v : sound atoms bonds n m ≡ true) (A B : List ℤ) (long : enough A B ≡ true) where
  -- DEMAND 2, for all sound tables and all long enough buffers: written and read back, or 14, 15 or 16 with its reason
  pub demand-2 : Demand2 atoms bonds n m out ren A B (write_of atoms bonds n m out ren)
  demand-2 = go refl ((written-iff atoms bonds n m out ren (write_of atoms bonds n m out ren)).0 refl)
    where
      go : {t : write.WriteResult} → write_of atoms bonds n m out ren ≡ t → Writes atoms bonds n m out ren t → Demand2 atoms bonds n m out ren A B t
      go e (Writes.too_short k) = never l k
      go e (Writes.not_valid k u) = never v u
      go e (Writes.many_bridges k u w) = Demand2.says_14 w
      go e (Writes.deep_branch k u f w) = Demand2.says_15 f w
      go e (Writes.long_text k u f s w) = Demand2.says_16 f s w
      go e (Writes.writes k u w) = Demand2.written w (written-and-read atoms bonds n m out ren (ap (λ (t : write.WriteResult). t.code) e) A B long)

  -- exactly one of the four holds
  pub exactly-one : {t u : write.WriteResult} → Demand2 atoms bonds n m out ren A B t → Demand2 atoms bonds n m out ren A B u → t ≡ u
  exactly-one x y = one_answer atoms bonds n m out ren (so x) (so y)
    where
      so : {t : write.WriteResult} → Demand2 atoms bonds n m out ren A B t → Writes atoms bonds n m out ren t
      so (Demand2.written w r) = Writes.writes l v w
      so (Demand2.says_14 w) = Writes.many_bridges l v w
      so (Demand2.says_15 f w) = Writes.deep_branch l v f w
      so (Demand2.says_16 f s w) = Writes.long_text l v f s w
