-- Whether a matching exists is the same for a molecule and for its renumbering: reading back what was written meets no other verdict. Assumes nothing.
use mathlib.Core.Path.{◌≡◌, refl, ap, ◌∙◌}
use mathlib.Core.Bool.{Bool, true}
use mathlib.Core.List.{List, [], ◌∷◌, map}
use Prim.Native.Nat.{ℕ}
use native.Mathlib.Omega.{arith}
use lib.ListN.{length, length-map}
use lib.IntN.{ℤ}
use Rattle.loops.proofs.Loops.{and_left, and_right, length-up_to}
use Rattle.matching.specs.Enumeration.{Row, matchings, cursor_at, is_row}
use Rattle.matching.specs.Model.{some?}
use Rattle.matching.proofs.Enumeration.{cursor-found, found, after, first-matching}
use Rattle.matching.proofs.Graph.{and_intro, same_bool}
use Rattle.table_graph.specs.Graph.{delocalized_flags, matching_of, matchable}
use Rattle.writing_walk.specs.Walk.{renumber}
use Rattle.writing.specs.Write.{walk_bond, bond_list}
use Rattle.roundtrip_matchings.proofs.Chosen.{Carried, carried, perm-sym}
use Rattle.roundtrip_matchings.proofs.Renamed.{Matched, matched, matching, forth, back, carried-matched}
use Rattle.roundtrip_matchings.proofs.Sums.{graph-edges, Renumbered, flags-followed}

-- a row that passes, in the list of all that pass
pub record Passes (p : Row → Bool) (m : ℕ) : Type 0 where
  pub row : Row
  pub fits : is_row m row ≡ true
  pub passes : p row ≡ true

passing-row : (p : Row → Bool) (m : ℕ) → some? (matchings p m) ≡ true → Passes p m
passing-row p m h = go (matchings p m) refl h
  where
    go : (es : List Row) → matchings p m ≡ es → some? es ≡ true → Passes p m
    go [] e h = absurd (let z : ◌≡◌ {A = ℕ} 0 1 = cc in omega arith)
    go (r ∷ es) e h =
        let k = (first-matching p m r es e).0 in
        record { row = r; fits = and_left (is_row m r) (p r) k; passes = and_right (is_row m r) (p r) k }

row-passing : (p : Row → Bool) (m : ℕ) → Passes p m → some? (matchings p m) ≡ true
unfolding cursor_at
row-passing p m w = go (matchings p m) (cursor-found p m w.row ∙ ap (λ (b : Bool). found b (w.row ∷ matchings (after p w.row) m)) (and_intro (is_row m w.row) (p w.row) w.fits w.passes))
  where
    go : (es : List Row) → cursor_at w.row es ≡ w.row ∷ matchings (after p w.row) m → some? es ≡ true
    go [] e = absurd (let z : ◌≡◌ {A = ℕ} 0 1 = cc in omega arith)
    go (x ∷ es) e = refl

module _ {n m : ℕ} {order : List ℕ} {atoms bonds atoms' bonds' : List ℤ} (w : Renumbered n m order atoms bonds atoms' bonds') where
  -- the two tests of rows
  old : Row → Bool
  old = matching_of atoms bonds n m

  new : Row → Bool
  new = matching_of atoms' bonds' n m

  size : (t : List ℤ) → length (bond_list t m) ≡ m
  size t = length-up_to (walk_bond t) 0 m

  size-renumbered : length (map (renumber order) (bond_list bonds m)) ≡ m
  size-renumbered = length-map (bond_list bonds m) (renumber order) ∙ size bonds

  forwards : Passes old m → Passes new m
  unfolding old new
  forwards p =
      let a : Matched (delocalized_flags atoms bonds n m) (bond_list bonds m) p.row = matched (delocalized_flags atoms bonds n m) (bond_list bonds m) p.row (rw graph-edges at p.passes) in
      let c : Carried (map (renumber order) (bond_list bonds m)) (bond_list bonds' m) p.row = carried (perm-sym w.permuted) p.row (rw size-renumbered p.fits) in
      record {
        row = c.row;
        fits = rw (size bonds') at c.fits;
        passes = rw graph-edges (matching (delocalized_flags atoms' bonds' n m) (bond_list bonds' m) c.row (carried-matched c (forth (flags-followed w) (bond_list bonds m) w.inside p.row a)));
      }

  backwards : Passes new m → Passes old m
  unfolding old new
  backwards p =
      let a : Matched (delocalized_flags atoms' bonds' n m) (bond_list bonds' m) p.row = matched (delocalized_flags atoms' bonds' n m) (bond_list bonds' m) p.row (rw graph-edges at p.passes) in
      let c : Carried (bond_list bonds' m) (map (renumber order) (bond_list bonds m)) p.row = carried w.permuted p.row (rw (size bonds') p.fits) in
      record {
        row = c.row;
        fits = rw size-renumbered at c.fits;
        passes = rw graph-edges (matching (delocalized_flags atoms bonds n m) (bond_list bonds m) c.row (back (flags-followed w) (bond_list bonds m) w.inside c.row (carried-matched c a)));
      }

  -- THE STATEMENT: a renumbered molecule has a matching exactly if the molecule has one
  pub matchable-renumbered : matchable atoms' bonds' n m ≡ matchable atoms bonds n m
  unfolding matchable old new
  matchable-renumbered =
      same_bool (matchable atoms' bonds' n m) (matchable atoms bonds n m) (λ h. row-passing old m (backwards (passing-row new m h))) (λ h. row-passing new m (forwards (passing-row old m h)))
