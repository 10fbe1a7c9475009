-- A molecule with a placement is the same compound as any renumbering of it. Assumes nothing.
use mathlib.Core.Path.{◌≡◌, refl, sym, ap, ◌∙◌, subst}
use mathlib.Core.Bool.{true, ◌&&◌}
use mathlib.Core.List.{List, [], map}
use Prim.Native.Nat.{ℕ, ◌+◌, ◌<◌}
use native.Mathlib.Omega.{arith}
use lib.Dec.{leb}
use lib.ListN.{length, length-map}
use lib.IntN.{ℤ}
use Rattle.loops.proofs.Loops.{and_left, and_right, length-up_to}
use Rattle.table.specs.Limits.{max_atoms, max_bonds, ELEMENT, SELECTED, ISOTOPE, HYDROGENS, CHARGE, EXTENSION}
use Rattle.table.specs.Cells.{number}
use Rattle.table.specs.Valid.{Valid, enough}
use Rattle.table.specs.Sound.{sound}
use Rattle.table.proofs.Valid.{Enough, enough-facts}
use Rattle.table.proofs.Sound.{sound-valid}
use Rattle.matching.specs.Enumeration.{Row}
use Rattle.matching.specs.Model.{head_or}
use Rattle.matching.proofs.Graph.{and_intro}
use Rattle.table_graph.specs.Graph.{delocalized_flags, matchable}
use Rattle.writing_walk.specs.Token.{Bond}
use Rattle.writing_walk.specs.Same.{Perm}
use Rattle.writing_walk.specs.Walk.{renumber}
use Rattle.writing_walk.proofs.Sums.{total, total-perm}
use Rattle.writing.specs.Write.{walk_bond, bond_list}
use Rattle.writing.proofs.Bonds.{inside}
use Rattle.roundtrip_matchings.proofs.Chosen.{chosen_sum, Carried, carried, perm-sym, sum-renamed}
use Rattle.roundtrip_matchings.proofs.Renamed.{Matched, matched, matching, forth, carried-matched}
use Rattle.roundtrip_matchings.proofs.Sums as sums
use Rattle.same_model.specs.Same.{max_same, Molecule, molecule, placements, settled, order_between, image, same?, answered, roomy_both, sound_both, few_both, same_of}
use Rattle.same_model.specs.Redrawing.{Placement, Same}
use Rattle.same_model.proofs.Onto.{inverse}
use Rattle.same_model.proofs.Lists.{all_head}
use Rattle.kekule.specs.Kekule.{roomy}
use Rattle.same_model.proofs.Cells.{Alike, cells-alike, alike-sym, alike-trans, alike-settled}
use Rattle.same_model.proofs.Sameness.{facts-carried, placements-all, fact-same}
use Rattle.same_model.proofs.Settling.{order-more}
use Rattle.same_renumbered.specs.Renumbered.{moved, Renumbered}
use Rattle.same_renumbered.proofs.Numbers.{ordered, place-image, moved-list}
use Rattle.same_renumbered.proofs.Spans.{span_order, span_one, order-list, chosen-list, order-moved, one-moved}

module _ {t : List ℕ} {n m : ℕ} {atoms bonds atoms' bonds' : List ℤ} (w : Renumbered t n m atoms bonds atoms' bonds')
    (v : Valid atoms bonds n m) (e : Enough atoms bonds) (v' : Valid atoms' bonds' n m) (e' : Enough atoms' bonds') where
  abbrev x : Molecule
  x = molecule atoms bonds n m

  abbrev y : Molecule
  y = molecule atoms' bonds' n m

  abbrev bs : List Bond
  bs = bond_list bonds m

  size : (u : List ℤ) → length (bond_list u m) ≡ m
  size u = length-up_to (walk_bond u) 0 m

  size-moved : length (map (moved t) bs) ≡ m
  size-moved = length-map bs (moved t) ∙ size bonds

  -- as the walk's laws say it
  walked : sums.Renumbered n m (inverse n t) atoms bonds atoms' bonds'
  walked =
      record {
        numbers = ordered w.renumbers;
        inside = inside v;
        permuted = subst (Perm (bond_list bonds' m)) (moved-list w.renumbers bs (inside v)) w.permuted;
        elements = λ a l. rw (place-image w.renumbers a l) (ap number (w.cells a ELEMENT l (omega arith)));
        selections = λ a l. rw (place-image w.renumbers a l) (ap number (w.cells a SELECTED l (omega arith)));
        charges = λ a l. rw (place-image w.renumbers a l) (w.cells a CHARGE l (omega arith));
        hydrogen-counts = λ a l. rw (place-image w.renumbers a l) (ap number (w.cells a HYDROGENS l (omega arith)));
      }

  module _ (r : Row) (p : Placement x r) where
    -- the row of the renumbering that chooses the same bonds
    carry : Carried (map (moved t) bs) (bond_list bonds' m) r
    carry = carried (perm-sym w.permuted) r (rw size-moved p.row)

    carried-placement : Placement y carry.row
    carried-placement =
        let flags = delocalized_flags atoms bonds n m in
        let flags' = delocalized_flags atoms' bonds' n m in
        let a : Matched flags bs r = matched flags bs r (rw sums.graph-edges at p.placed) in
        let b : Matched flags' (map (renumber (inverse n t)) bs) r = forth (sums.flags-followed walked) bs (inside v) r a in
        let c : Matched flags' (map (moved t) bs) r = rw (moved-list w.renumbers bs (inside v)) b in
        record {
          row = rw (size bonds') at carry.fits;
          placed = rw sums.graph-edges (matching flags' (bond_list bonds' m) carry.row (carried-matched carry c));
        }

    -- settled, the order between any two atoms is the same
    same-orders : (a b : ℕ) → a < n → b < n → order_between (settled x r) a b ≡ order_between (settled y carry.row) (image t a) (image t b)
    same-orders a b l k =
        let A = image t a in
        let B = image t b in
        let o1 = order-more x r p v e a b in
        let o2 = order-more y carry.row carried-placement v' e' A B in
        let s1 = order-list x a b in
        let s2 = order-list y A B in
        let g1 = chosen-list x r a b p.row in
        let g2 = chosen-list y carry.row A B carried-placement.row in
        let s3 : total (span_order A B) (bond_list bonds' m) ≡ total (span_order a b) bs = total-perm (span_order A B) w.permuted ∙ order-moved w.renumbers a b l k bs (inside v) in
        let g3 : chosen_sum (span_one A B) (bond_list bonds' m) carry.row ≡ chosen_sum (span_one a b) bs r =
        carry.same (span_one A B) ∙ sum-renamed (λ c. (c.lo < c.hi) × (c.hi < n)) (moved t) (span_one a b) (span_one A B) (one-moved w.renumbers a b l k) bs (inside v) r in
        o1 ∙ (λ i. s1 i + g1 i) ∙ (λ i. sym s3 i + sym g3 i) ∙ (λ i. sym s2 i + sym g2 i) ∙ sym o2

    kept : (a : ℕ) → a < n → Alike x y a (image t a)
    kept a l =
        record {
          element = sym (w.cells a ELEMENT l (omega arith));
          isotope = sym (w.cells a ISOTOPE l (omega arith));
          hydrogens = sym (w.cells a HYDROGENS l (omega arith));
          charge = sym (w.cells a CHARGE l (omega arith));
          extension = sym (w.cells a EXTENSION l (omega arith));
        }

    -- THE STATEMENT: a molecule with a placement is the same compound as any renumbering of it
    pub renumbered-same : Same x y
    renumbered-same =
        record {
          row1 = r;
          row2 = carry.row;
          renumbering = t;
          counts = refl;
          placement1 = p;
          placement2 = carried-placement;
          renumbers = w.renumbers;
          carried =
              facts-carried (settled x r) (settled y carry.row) t
              (record {
                cells = λ a l. cells-alike (settled x r) (settled y carry.row) a (image t a) (alike-trans (alike-sym (alike-settled x r a)) (alike-trans (kept a l) (alike-settled y carry.row (image t a))));
                orders = same-orders;
              });
        }

    -- so "yes" is said of them
    pub renumbered-yes : same? x y ≡ true
    renumbered-yes = fact-same x y renumbered-same

-- a molecule that has a matching has a first one
pub first-placement : (x : Molecule) → matchable x.atoms x.bonds x.n x.m ≡ true → Placement x (head_or [] (placements x))
unfolding matchable
first-placement x h = all_head [] (placements-all x) h

-- what the call says of two molecules that are the same compound: "yes", where nothing is too short, both are sound and neither is too large
pub same-told : (x y : Molecule) → Same x y → (row1 row2 ren : List ℕ) → roomy_both x y row1 row2 ren ≡ true → sound_both x y ≡ true → few_both x y ≡ true → (same_of x y row1 row2 ren).code ≡ 0
unfolding same_of answered
same-told x y s row1 row2 ren h k l = rw (h, k, l, fact-same x y s)

-- what lent tables that are long enough have
roomy-enough : (x y : Molecule) (row1 row2 ren : List ℕ) → roomy_both x y row1 row2 ren ≡ true → Enough x.atoms x.bonds × Enough y.atoms y.bonds
roomy-enough x y row1 row2 ren h =
    let a = roomy x.atoms x.bonds (length row1) in
    let b = roomy y.atoms y.bonds (length row2) in
    let c = and_left (a && b) (leb max_atoms (length ren)) h in (
      enough-facts x.atoms x.bonds (and_right (leb max_bonds (length row1)) (enough x.atoms x.bonds) (and_left a b c)),
      enough-facts y.atoms y.bonds (and_right (leb max_bonds (length row2)) (enough y.atoms y.bonds) (and_right a b c)),
    )

module _ {t : List ℕ} {n m : ℕ} {atoms bonds atoms' bonds' : List ℤ} (w : Renumbered t n m atoms bonds atoms' bonds') (row1 row2 ren : List ℕ) where
  -- THE STATEMENT of the call: "yes" for a sound molecule of at most 64 atoms that has a matching, and any sound renumbering of it
  pub renumbered-told : roomy_both (molecule atoms bonds n m) (molecule atoms' bonds' n m) row1 row2 ren ≡ true → sound atoms bonds n m ≡ true → sound atoms' bonds' n m ≡ true → leb n max_same ≡ true
      → matchable atoms bonds n m ≡ true → (same_of (molecule atoms bonds n m) (molecule atoms' bonds' n m) row1 row2 ren).code ≡ 0
  renumbered-told k s s' l h =
      let x = molecule atoms bonds n m in
      let y = molecule atoms' bonds' n m in
      let e = roomy-enough x y row1 row2 ren k in
      same-told x y (renumbered-same w (sound-valid atoms bonds n m s) e.0 (sound-valid atoms' bonds' n m s') e.1 (head_or [] (placements x)) (first-placement x h)) row1 row2 ren k
      (and_intro (sound atoms bonds n m) (sound atoms' bonds' n m) s s') (and_intro (leb n max_same) (leb n max_same) l l)
