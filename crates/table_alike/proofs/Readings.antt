-- Alike tables read the same: sums, sides, degrees, validity, the late checks, matchings and turned marks. Assumes nothing.
use Prim.Native.Nat.{ℕ, zero, suc, ◌+◌}
use mathlib.Core.Path.{◌≡◌, refl, sym, ◌∙◌}
use mathlib.Core.Bool.{◌&&◌, ◌||◌, not}
use mathlib.Core.List.{List, ◌∷◌, ◌++◌, map}
use lib.IntN.{ℤ, pos, negsuc}
use lib.Signed.{le_z}
use lib.Dec.{eqb, leb, ltb}
use Rattle.loops.specs.Loop.{pick, each, how_many, run, up_to}
use Rattle.kinds.specs.Kind.{elided, double, up, down, is_mark, mark_of, turned, order, max_kind}
use Rattle.parity.specs.Parity.{odd}
use Rattle.parity.specs.Mark.{mark_if}
use Rattle.valence.specs.Valence.{delocalized}
use Rattle.matching.specs.Enumeration.{matchings}
use Rattle.matching.specs.Graph.{is_matching}
use Rattle.matching.specs.Model.{some?}
use Rattle.table.specs.Limits.{ELEMENT, SELECTED, ISOTOPE, HYDROGENS, CHARGE, EXTENSION, MARK, FIRST, SECOND, KIND}
use Rattle.table.specs.Cells.{number, in_range, atom_place, bond_place, element, selected, hydrogens, mark, end1, end2, kind, touches}
use Rattle.table.specs.Valid.{counts_ok, max_mark, selectable, selected_ok, same_ends, fresh, distinct, atom_ok, bond_ok, valid, Valid}
use Rattle.table.specs.Marks.{side, side_count, double_count, crowded, none_crowded, none_stray, unmarked}
use Rattle.table.specs.Sound.{bond_degree, none_loose, none_unfit, late_code, sound}
use Rattle.table.specs.Orders.{bonds_from, bonds_at, hydrogen_rank, turns, turned_mark}
use Rattle.table_graph.specs.Graph.{share, bond_sum, flag, delocalized_at, none_selected, delocalized_flags, graph_of, matching_of, matchable}
use Rattle.table_alike.specs.Alike.{Alike}

module _ {atoms atoms' : List ℤ} (q : Alike atoms atoms') where
  -- ---- the cells of an atom's row
  pub same-element : (a : ℕ) → element atoms a ≡ element atoms' a
  same-element a = λ i. number (q.cell (atom_place a ELEMENT) i)

  pub same-selected : (a : ℕ) → selected atoms a ≡ selected atoms' a
  same-selected a = λ i. number (q.cell (atom_place a SELECTED) i)

  pub same-hydrogens : (a : ℕ) → hydrogens atoms a ≡ hydrogens atoms' a
  same-hydrogens a = λ i. number (q.cell (atom_place a HYDROGENS) i)

  pub same-mark : (a : ℕ) → mark atoms a ≡ mark atoms' a
  same-mark a = λ i. number (q.cell (atom_place a MARK) i)

  -- ---- valid atoms
  -- the selected cell of an atom passes in both or in neither
  pub same-selected-ok : (a : ℕ) → selected_ok atoms a ≡ selected_ok atoms' a
  unfolding selected_ok
  same-selected-ok a = λ i. in_range (q.cell (atom_place a SELECTED) i) (pos 0) (pos 1) && (eqb (same-selected a i) 0 || selectable (same-element a i))

  -- a row passes in both or in neither
  pub same-atom-ok : (a : ℕ) → atom_ok atoms a ≡ atom_ok atoms' a
  unfolding atom_ok
  same-atom-ok a =
      λ i.
      in_range (q.cell (atom_place a ELEMENT) i) (pos 0) (pos 118) && in_range (q.cell (atom_place a ISOTOPE) i) (pos 0) (pos 999) && in_range (q.cell (atom_place a HYDROGENS) i) (pos 0) (pos 9)
      && in_range (q.cell (atom_place a CHARGE) i) (negsuc 8) (pos 9) && in_range (q.cell (atom_place a EXTENSION) i) (pos 0) (pos 9999) && in_range (q.cell (atom_place a MARK) i) (pos 0) (pos max_mark)
      && same-selected-ok a i

  -- the rows of n atoms pass in both or in neither
  pub same-atom-rows : (n : ℕ) → each (atom_ok atoms) 0 n ≡ each (atom_ok atoms') 0 n
  same-atom-rows n = λ i. each (λ a. same-atom-ok a i) 0 n

  -- both have a selected atom or neither
  pub same-none-selected : (n : ℕ) → none_selected atoms n ≡ none_selected atoms' n
  unfolding none_selected
  same-none-selected n = λ i. each (λ a. not (eqb (same-selected a i) 1)) 0 n

module _ {bonds bonds' : List ℤ} (r : Alike bonds bonds') where
  -- ---- the cells of a bond's row: its ends and its kind
  pub same_first : (b : ℕ) → end1 bonds b ≡ end1 bonds' b
  same_first b = λ i. number (r.cell (bond_place b FIRST) i)

  pub same_second : (b : ℕ) → end2 bonds b ≡ end2 bonds' b
  same_second b = λ i. number (r.cell (bond_place b SECOND) i)

  pub same_kind : (b : ℕ) → kind bonds b ≡ kind bonds' b
  same_kind b = λ i. number (r.cell (bond_place b KIND) i)

  -- a bond is at the same atoms
  pub same-touches : (a b : ℕ) → touches bonds a b ≡ touches bonds' a b
  unfolding touches
  same-touches a b = λ i. eqb (same_first b i) a || eqb (same_second b i) a

  -- ---- bond sums and degrees
  -- a bond adds the same to the sum of an atom
  pub same-share : (a b : ℕ) → share bonds a b ≡ share bonds' a b
  unfolding share
  same-share a b = λ i. pick (same-touches a b i) (order (same_kind b i)) 0

  -- an atom has the same bond sum
  pub same_sum : (m a : ℕ) → bond_sum bonds m a ≡ bond_sum bonds' m a
  unfolding bond_sum
  same_sum m a = λ i. run (λ b s. s + same-share a b i) 0 m 0

  -- an atom has as many bonds
  pub same-degree : (m a : ℕ) → bond_degree bonds m a ≡ bond_degree bonds' m a
  unfolding bond_degree
  same-degree m a = λ i. run (λ b k. k + pick (same-touches a b i) 1 0) 0 m 0

  -- ---- marked bonds
  -- a bond places the neighbour on the same side
  pub same_side : (a b : ℕ) → side bonds a b ≡ side bonds' a b
  unfolding side
  same_side a b = λ i. pick (eqb (same_first b i) a) (mark_of (same_kind b i)) (pick (eqb (same_second b i) a) (turned (mark_of (same_kind b i))) elided)

  -- as many neighbours lie on a side
  pub same-side-count : (m a s : ℕ) → side_count bonds m a s ≡ side_count bonds' m a s
  unfolding side_count
  same-side-count m a s = λ i. how_many (λ b. eqb (same_side a b i) s) 0 m

  -- an atom has as many double bonds
  pub same-doubles : (m a : ℕ) → double_count bonds m a ≡ double_count bonds' m a
  unfolding double_count
  same-doubles m a = λ i. how_many (λ b. same-touches a b i && eqb (same_kind b i) double) 0 m

  -- an atom is crowded in both or in neither
  pub same-crowded-at : (m a : ℕ) → crowded bonds m a ≡ crowded bonds' m a
  same-crowded-at m a = λ i. ltb 1 (same-side-count m a up i) || ltb 1 (same-side-count m a down i)

  -- 20: both have a double bond with a crowded end or neither
  pub same-crowded : (m : ℕ) → none_crowded bonds m ≡ none_crowded bonds' m
  unfolding none_crowded
  same-crowded m = λ i. each (λ b. not (eqb (same_kind b i) double && (same-crowded-at m (same_first b i) i || same-crowded-at m (same_second b i) i))) 0 m

  -- 21: both have a stray mark or neither
  pub same-stray : (m : ℕ) → none_stray bonds m ≡ none_stray bonds' m
  unfolding none_stray
  same-stray m = λ i. each (λ b. not (is_mark (same_kind b i) && eqb (same-doubles m (same_first b i) i) 0 && eqb (same-doubles m (same_second b i) i) 0)) 0 m

  -- bonds have marks in both or in neither
  pub same-unmarked : (m : ℕ) → unmarked bonds m ≡ unmarked bonds' m
  unfolding unmarked
  same-unmarked m = λ i. each (λ b. not (is_mark (same_kind b i))) 0 m

  -- ---- valid bonds
  -- a row passes in both or in neither
  pub same-bond-ok : (n b : ℕ) → bond_ok bonds n b ≡ bond_ok bonds' n b
  unfolding bond_ok
  same-bond-ok n b = λ i. in_range (r.cell (bond_place b KIND) i) (pos elided) (pos max_kind) && (le_z (pos 0) (r.cell (bond_place b FIRST) i) && ltb (same_first b i) (same_second b i)) && ltb (same_second b i) n

  -- the rows of m bonds pass in both or in neither
  pub same-bond-rows : (n m : ℕ) → each (bond_ok bonds n) 0 m ≡ each (bond_ok bonds' n) 0 m
  same-bond-rows n m = λ i. each (λ b. same-bond-ok n b i) 0 m

  -- two bonds join the same atoms in both or in neither
  pub same_ends_lem : (j k : ℕ) → same_ends bonds j k ≡ same_ends bonds' j k
  unfolding same_ends
  same_ends_lem j k = λ i. eqb (same_first j i) (same_first k i) && eqb (same_second j i) (same_second k i)

  -- a bond joins other atoms than those before it in both or in neither
  pub same-fresh : (b : ℕ) → fresh bonds b ≡ fresh bonds' b
  unfolding fresh
  same-fresh b = λ i. each (λ j. not (same_ends_lem b j i)) 0 b

  -- no two of m bonds join the same atoms, in both or in neither
  pub same-distinct : (m : ℕ) → distinct bonds m ≡ distinct bonds' m
  unfolding distinct
  same-distinct m = λ i. each (λ b. same-fresh b i) 0 m

  -- ---- the bonds at an atom
  -- of m bonds from the bond b on
  same_from : (a b m : ℕ) → bonds_from bonds a b m ≡ bonds_from bonds' a b m
  unfolding bonds_from
  same_from a b zero = refl
  same_from a b (suc m) = λ i. pick (same-touches a b i) (b ∷ same_from a (suc b) m i) (same_from a (suc b) m i)

  -- of all m bonds
  pub same-bonds : (m a : ℕ) → bonds_at bonds m a ≡ bonds_at bonds' m a
  unfolding bonds_at
  same-bonds m a = same_from a 0 m

  -- ---- the bonds, as matchings see them
  pub same_graph : (m : ℕ) → graph_of bonds m ≡ graph_of bonds' m
  same_graph m = λ i. up_to (λ b. record { end1 = same_first b i; end2 = same_second b i; elided = eqb (same_kind b i) elided }) 0 m

  module _ {atoms atoms' : List ℤ} (q : Alike atoms atoms') where
    -- ---- the late checks
    -- 22: both have a selected atom with too few bonds or neither
    pub same-loose : (n m : ℕ) → none_loose atoms bonds n m ≡ none_loose atoms' bonds' n m
    unfolding none_loose
    same-loose n m = λ i. each (λ a. not (eqb (same-selected q a i) 1 && ltb (same-degree m a i) 2)) 0 n

    -- 23: both have an unfit marked atom or neither
    pub same-unfit : (n m : ℕ) → none_unfit atoms bonds n m ≡ none_unfit atoms' bonds' n m
    unfolding none_unfit
    same-unfit n m = λ i. each (λ a. not (ltb 0 (same-mark q a i) && not (eqb (same-degree m a i + same-hydrogens q a i) 4 && leb (same-hydrogens q a i) 1))) 0 n

    -- the first late check that fails is the same
    pub same-late : (n m : ℕ) → late_code atoms bonds n m ≡ late_code atoms' bonds' n m
    unfolding late_code
    same-late n m = λ i. pick (same-crowded m i) (pick (same-stray m i) (pick (same-loose n m i) (pick (same-unfit n m i) 0 23) 22) 21) 20

    -- ---- validity
    -- the tables pass all in both or in neither
    pub same-tested : (n m : ℕ) → valid atoms bonds n m ≡ valid atoms' bonds' n m
    unfolding valid
    same-tested n m = λ i. counts_ok n m && same-atom-rows q n i && same-bond-rows n m i && same-distinct m i

    -- the same as facts
    pub same-valid : (n m : ℕ) → Valid atoms bonds n m → Valid atoms' bonds' n m
    same-valid n m v =
        record {
          atoms_few = v.atoms_few;
          bonds_few = v.bonds_few;
          atom_rows = sym (same-atom-rows q n) ∙ v.atom_rows;
          bond_rows = sym (same-bond-rows n m) ∙ v.bond_rows;
          apart = sym (same-distinct m) ∙ v.apart;
        }

    -- valid, and no late check fails
    pub same-sound : (n m : ℕ) → sound atoms bonds n m ≡ sound atoms' bonds' n m
    unfolding sound
    same-sound n m = λ i. same-tested n m i && eqb (same-late n m i) 0

    -- ---- matchings
    -- an atom is delocalized in both or in neither
    pub same-delocalized : (m a : ℕ) → delocalized_at atoms bonds m a ≡ delocalized_at atoms' bonds' m a
    same-delocalized m a = λ i. delocalized (same-element q a i) (same-selected q a i) (q.cell (atom_place a CHARGE) i) (same_sum m a i) (same-hydrogens q a i)

    -- the flags of the atoms
    pub same_flags : (n m : ℕ) → delocalized_flags atoms bonds n m ≡ delocalized_flags atoms' bonds' n m
    same_flags n m = λ i. up_to (λ a. flag (same-delocalized m a i)) 0 n

    -- a row is a matching of both or of neither
    pub same-matching : (n m : ℕ) → matching_of atoms bonds n m ≡ matching_of atoms' bonds' n m
    same-matching n m = λ i. is_matching (same_flags n m i) (same_graph m i)

    -- both have a matching or neither
    pub same-matchable : (n m : ℕ) → matchable atoms bonds n m ≡ matchable atoms' bonds' n m
    unfolding matchable
    same-matchable n m = λ i. some? (matchings (same-matching n m i) m)

    -- ---- turned marks
    -- two orders differ by an odd number of swaps in both or in neither
    pub same-turns : (rank rank' : ℕ → ℕ) → rank ≡ rank' → (m a : ℕ) → turns rank atoms bonds m a ≡ turns rank' atoms' bonds' m a
    unfolding turns
    same-turns rank rank' e m a = λ i. odd (hydrogen_rank (same-hydrogens q a i) ++ map (e i) (same-bonds m a i))

    -- the mark of an atom, turned
    pub same-turned : (rank rank' : ℕ → ℕ → ℕ) → rank ≡ rank' → (m a : ℕ) → turned_mark rank atoms bonds m a ≡ turned_mark rank' atoms' bonds' m a
    unfolding turned_mark
    same-turned rank rank' e m a = λ i. mark_if (same-turns (rank a) (rank' a) (λ j. e j a) m a i) (same-mark q a i)
