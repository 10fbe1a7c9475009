-- Marks and kekulizing: a matching's bonds have no mark, so 20 over the new double bonds is asked of their ends; and no mark becomes stray. Assumes nothing.
use Prim.Native.Nat.{ℕ, ◌≤◌, ◌<◌}
use native.Mathlib.Omega.{arith}
use mathlib.Core.Path.{◌≡◌, refl, sym, ap, subst, ◌∙◌}
use mathlib.Core.Bool.{Bool, true, false, ◌&&◌, ◌||◌, not, true≢false}
use mathlib.Core.List.{List}
use lib.ListN.{length, take, get_or}
use lib.Seq.{get_or-take}
use lib.IntN.{ℤ, pos}
use lib.Dec.{eqb}
use borrow.Author.Tests.{eqb-true, eq-eqb, not-true}
use Rattle.kinds.specs.Kind.{elided, double, up, down, is_mark, mark_of, turned}
use Rattle.loops.specs.Loop.{pick, how_many}
use Rattle.loops.proofs.Loops.{and_left, and_right, each_at, each_all, each_same, length-up_to, up_to-at}
use Rattle.loops.proofs.Counting.{many-same, many-mono}
use Rattle.table.specs.Limits.{FIRST, SECOND, KIND}
use Rattle.table.specs.Cells.{number, bond_place, bond_cell, end1, end2, kind, touches}
use Rattle.table.specs.Edits.{doubled_bonds}
use Rattle.table.specs.Marks.{side, side_count, double_at, double_count, crowded, crowded_ends, crowded_bond, none_crowded, stray, none_stray}
use Rattle.table.proofs.Edits.{doubled-kind, doubled-field}
use Rattle.table_marks.specs.Chosen.{crowded_choice, none_crowded_by}
use Rattle.matching.specs.Enumeration.{is_row}
use Rattle.matching.specs.Graph.{Bond, flagged, induced, nth_bond, set_of, Pairs}
use Rattle.matching.proofs.Claims.{row-is-set}
use Rattle.table_graph.specs.Graph.{delocalized_flags, bond_of, graph_of, matching_of}
use Rattle.kekule.specs.Kekule.{is_matching_of}

-- the bonds with those of the row made double
module _ (bonds : List ℤ) (m : ℕ) (row : List ℕ) (room : (b : ℕ) → b < m → bond_place b KIND < length bonds) where
  abbrev bonds' : List ℤ
  bonds' = doubled_bonds row m bonds

  first-kept : (b : ℕ) → end1 bonds' b ≡ end1 bonds b
  first-kept b = ap number (doubled-field row m b FIRST bonds (omega arith) (λ e. omega arith))

  second-kept : (b : ℕ) → end2 bonds' b ≡ end2 bonds b
  second-kept b = ap number (doubled-field row m b SECOND bonds (omega arith) (λ e. omega arith))

  kind-now : (b : ℕ) → b < m → kind bonds' b ≡ pick (eqb (get_or row b 0) 1) double (kind bonds b)
  unfolding number
  kind-now b l = ap number (doubled-kind row m b bonds l (room b l)) ∙ go (eqb (get_or row b 0) 1)
    where
      go : (x : Bool) → number (pick x (pos double) (bond_cell bonds b KIND)) ≡ pick x double (number (bond_cell bonds b KIND))
      go true = refl
      go false = refl

  -- ---- no mark becomes stray
  more-doubles : (a : ℕ) → double_count bonds m a ≤ double_count bonds' m a
  unfolding double_count touches
  more-doubles a = many-mono (double_at bonds a) (double_at bonds' a) m (λ b l h.
      rw (first-kept b, second-kept b, kind-now b l, and_left (eqb (end1 bonds b) a || eqb (end2 bonds b) a) (eqb (kind bonds b) double) h)
      (go b (eqb (get_or row b 0) 1) (and_right (eqb (end1 bonds b) a || eqb (end2 bonds b) a) (eqb (kind bonds b) double) h)))
    where
      go : (b : ℕ) (x : Bool) → eqb (kind bonds b) double ≡ true → eqb (pick x double (kind bonds b)) double ≡ true
      go b true e = refl
      go b false e = e

  pub still-touching : none_stray bonds m ≡ true → none_stray bonds' m ≡ true
  unfolding none_stray
  still-touching h = each_all (λ b. not (stray bonds' m b)) m (λ b l. ap not (one b l (eqb (get_or row b 0) 1) refl))
    where
      -- with fewer ends of double bonds than before it would have been stray
      less : (c c' : ℕ) → c ≤ c' → eqb c' 0 ≡ true → eqb c 0 ≡ true
      less c c' l e = eq-eqb c 0 (omega (arith, l, eqb-true c' 0 e))

      smaller : (p q r q' r' : Bool) → (q' ≡ true → q ≡ true) → (r' ≡ true → r ≡ true) → (p && q && r) ≡ false → (p && q' && r') ≡ false
      smaller false q r q' r' f g e = refl
      smaller true q r false r' f g e = refl
      smaller true q r true false f g e = refl
      smaller true q r true true f g e = absurd (true≢false (sym (rw (f refl, g refl)) ∙ e))

      one : (b : ℕ) → b < m → (x : Bool) → eqb (get_or row b 0) 1 ≡ x → stray bonds' m b ≡ false
      one b l true e = rw (kind-now b l, e)
      one b l false e =
          rw (kind-now b l, e, first-kept b, second-kept b)
          (smaller (is_mark (kind bonds b)) (eqb (double_count bonds m (end1 bonds b)) 0) (eqb (double_count bonds m (end2 bonds b)) 0) (eqb (double_count bonds' m (end1 bonds b)) 0) (eqb (double_count bonds' m (end2 bonds b)) 0)
          (less (double_count bonds m (end1 bonds b)) (double_count bonds' m (end1 bonds b)) (more-doubles (end1 bonds b)))
          (less (double_count bonds m (end2 bonds b)) (double_count bonds' m (end2 bonds b)) (more-doubles (end2 bonds b)))
          (not-true (stray bonds m b) (each_at (λ x. not (stray bonds m x)) m b h l)))

  -- ---- chosen bonds are elided
  module _ (elides : (b : ℕ) → b < m → eqb (get_or row b 0) 1 ≡ true → kind bonds b ≡ elided) where
    side-kept : (a b : ℕ) → b < m → side bonds' a b ≡ side bonds a b
    unfolding side mark_of
    side-kept a b l = rw (first-kept b, second-kept b, kind-now b l) (go (eqb (get_or row b 0) 1) refl)
      where
        go : (x : Bool) → eqb (get_or row b 0) 1 ≡ x
            → pick (eqb (end1 bonds b) a) (mark_of (pick x double (kind bonds b))) (pick (eqb (end2 bonds b) a) (turned (mark_of (pick x double (kind bonds b)))) elided)
            ≡ pick (eqb (end1 bonds b) a) (mark_of (kind bonds b)) (pick (eqb (end2 bonds b) a) (turned (mark_of (kind bonds b))) elided)
        go true e = rw (elides b l e)
        go false e = refl

    crowded-kept : (a : ℕ) → crowded bonds' m a ≡ crowded bonds m a
    unfolding side_count
    crowded-kept a = rw (on up, on down)
      where
        on : (s : ℕ) → how_many (λ b. eqb (side bonds' a b) s) 0 m ≡ how_many (λ b. eqb (side bonds a b) s) 0 m
        on s = many-same (λ b. eqb (side bonds' a b) s) (λ b. eqb (side bonds a b) s) m (λ b l. ap (λ (x : ℕ). eqb x s) (side-kept a b l))

    -- 20 of the kekulized bonds is asked of the ends of those that the row chooses
    pub crowded-by : none_crowded bonds m ≡ true → none_crowded bonds' m ≡ none_crowded_by bonds m row
    unfolding none_crowded none_crowded_by
    crowded-by h = each_same (λ b. not (crowded_bond bonds' m b)) (λ b. not (crowded_choice bonds m row b)) m (λ b l.
        ap not (same b l))
      where
        go : (b : ℕ) → b < m → (x : Bool) → (eqb (pick x double (kind bonds b)) double && crowded_ends bonds m b) ≡ (x && crowded_ends bonds m b)
        go b l true = refl
        go b l false = not-true (crowded_bond bonds m b) (each_at (λ x. not (crowded_bond bonds m x)) m b h l)

        same : (b : ℕ) → b < m → crowded_bond bonds' m b ≡ crowded_choice bonds m row b
        same b l = rw (kind-now b l, first-kept b, second-kept b, crowded-kept (end1 bonds b), crowded-kept (end2 bonds b)) (go b l (eqb (get_or row b 0) 1))

-- ---- a matching
module _ (atoms bonds : List ℤ) (n m : ℕ) (row : List ℕ) (h : is_matching_of atoms bonds n m row ≡ true) where
  abbrev bs : List Bond
  bs = graph_of bonds m

  many : length bs ≡ m
  many = length-up_to (bond_of bonds) 0 m

  is-row : is_row (length bs) (take m row) ≡ true
  is-row = rw many (and_left (is_row m (take m row)) (matching_of atoms bonds n m (take m row)) h)

  pub pairs : Pairs (delocalized_flags atoms bonds n m) bs (set_of (take m row))
  pairs = (row-is-set (delocalized_flags atoms bonds n m) bs (take m row) is-row).0 (and_right (is_row m (take m row)) (matching_of atoms bonds n m (take m row)) h)

  pub nth : (b : ℕ) → b < m → nth_bond bs b ≡ bond_of bonds b
  nth b l = up_to-at (bond_of bonds) m b (record { end1 = 0; end2 = 0; elided = false }) l

  pub member : (b : ℕ) → b < m → set_of (take m row) b ≡ eqb (get_or row b 0) 1
  member b l = ap (λ (x : ℕ). eqb x 1) (get_or-take m row b 0 l)

  -- the bonds of a matching are elided
  pub elides : (b : ℕ) → b < m → eqb (get_or row b 0) 1 ≡ true → kind bonds b ≡ elided
  elides b l e =
      let i : induced (delocalized_flags atoms bonds n m) (bond_of bonds b) ≡ true = subst (λ (x : Bond). induced (delocalized_flags atoms bonds n m) x ≡ true) (nth b l) (pairs.all_induced b (member b l ∙ e)) in
      let f1 = flagged (delocalized_flags atoms bonds n m) (end1 bonds b) in
      let f2 = flagged (delocalized_flags atoms bonds n m) (end2 bonds b) in
      let x = eqb (kind bonds b) elided in
      eqb-true (kind bonds b) elided (and_left x f1 (and_left (x && f1) f2 i))
