-- Settling by a placement: each delocalized atom's bond sum grows by 1, and which atoms are joined stays. Assumes nothing.
use mathlib.Core.Path.{◌≡◌, refl, sym, ap, ◌∙◌}
use mathlib.Core.Bool.{Bool, true, false, ◌&&◌, ◌||◌, not}
use mathlib.Core.List.{List}
use Prim.Native.Nat.{ℕ, ◌+◌, ◌<◌, ◌≤◌}
use native.Mathlib.Omega.{arith}
use lib.IntN.{ℤ, pos}
use lib.Dec.{eqb}
use borrow.Author.Tests.{eqb-true, eq-eqb}
use Rattle.loops.specs.Loop.{pick}
use Rattle.loops.proofs.Loops.{and_left, and_right, length-up_to, up_to-at}
use Rattle.table.specs.Limits.{FIRST, SECOND, KIND}
use Rattle.table.specs.Cells.{number, bond_cell, end1, end2, kind, touches}
use Rattle.table.specs.Valid.{Valid}
use Rattle.table.specs.Edits.{doubled_bonds}
use Rattle.table.proofs.Valid.{Enough}
use Rattle.table.proofs.Edits.{doubled-kind, doubled-field}
use Rattle.kinds.specs.Kind.{order}
use Rattle.matching.specs.Enumeration.{Row}
use Rattle.matching.specs.Graph.{flagged, induced, nth_bond, ExactlyOne, Pairs, set_of}
use Rattle.matching.proofs.Graph.{same_bool, not-true, never, or_cases}
use Rattle.matching.proofs.Sets.{row-pairs}
use Rattle.table_graph.specs.Graph.{share, bond_sum, delocalized_at, delocalized_flag, delocalized_flags, flag, bond_of, graph_of}
use Rattle.same_model.specs.Same.{Molecule, settled, joins, order_between}
use Rattle.same_model.specs.Redrawing.{Placement, settled_sum, joined}
use Rattle.same_model.proofs.Totals.{total, total-same, total-add, total-le, total-none, total-one}
use Rattle.same_model.proofs.Orders.{between, order-total, sum-total}

-- a bond that is chosen was elided and becomes double: its order grows by 1
more-order : (t z : Bool) (k' k : ℕ) → (z ≡ true → (k' ≡ 2) × (k ≡ 0)) → (z ≡ false → k' ≡ k) → pick t (order k') 0 ≡ pick t (order k) 0 + pick (z && t) 1 0
unfolding order
more-order true true k' k f g = rw ((f refl).0, (f refl).1)
more-order false true k' k f g = refl
more-order true false k' k f g = rw (g refl) (omega arith)
more-order false false k' k f g = refl

-- what it grows by is at most what it was
small-growth : (t z : Bool) (k : ℕ) → (z ≡ true → k ≡ 0) → pick (z && t) 1 0 ≤ pick t (order k) 0
unfolding order
small-growth true true k f = rw (f refl) (omega arith)
small-growth false true k f = omega arith
small-growth true false k f = omega arith
small-growth false false k f = omega arith

flag-back : (z : Bool) → eqb (flag z) 1 ≡ z
flag-back true = refl
flag-back false = refl

grown : (s b : ℕ) → b ≤ s → eqb (s + b) 0 ≡ eqb s 0
grown s b l =
    same_bool (eqb (s + b) 0) (eqb s 0)
    (λ h. let u = eqb-true (s + b) 0 h in eq-eqb s 0 (omega arith))
    (λ h. let u = eqb-true s 0 h in eq-eqb (s + b) 0 (omega arith))

module _ (x : Molecule) (r : Row) (p : Placement x r) (v : Valid x.atoms x.bonds x.n x.m) (e : Enough x.atoms x.bonds) where
  abbrev bonds' : List ℤ
  bonds' = doubled_bonds r x.m x.bonds

  abbrev flags : List ℕ
  flags = delocalized_flags x.atoms x.bonds x.n x.m

  pairs : Pairs flags (graph_of x.bonds x.m) (set_of r)
  pairs = row-pairs flags (graph_of x.bonds x.m) r (rw (length-up_to (bond_of x.bonds) 0 x.m) p.row) p.placed

  bond-at : (k : ℕ) → k < x.m → nth_bond (graph_of x.bonds x.m) k ≡ bond_of x.bonds k
  bond-at k l = up_to-at (bond_of x.bonds) x.m k (record { end1 = 0; end2 = 0; elided = false }) l

  chosen : (k : ℕ) → k < x.m → set_of r k ≡ true → induced flags (bond_of x.bonds k) ≡ true
  chosen k l h = rw (bond-at k l) at (pairs.all_induced k h)

  chosen-elided : (k : ℕ) → k < x.m → set_of r k ≡ true → kind x.bonds k ≡ 0
  chosen-elided k l h =
      let b = bond_of x.bonds k in
      eqb-true (kind x.bonds k) 0 (and_left b.elided (flagged flags b.end1) (and_left (b.elided && flagged flags b.end1) (flagged flags b.end2) (chosen k l h)))

  first : (k : ℕ) → end1 bonds' k ≡ end1 x.bonds k
  first k = ap number (doubled-field r x.m k FIRST x.bonds (omega arith) (λ q. omega arith))

  second : (k : ℕ) → end2 bonds' k ≡ end2 x.bonds k
  second k = ap number (doubled-field r x.m k SECOND x.bonds (omega arith) (λ q. omega arith))

  kind_at : (k : ℕ) → k < x.m → kind bonds' k ≡ number (pick (set_of r k) (pos 2) (bond_cell x.bonds k KIND))
  kind_at k l = ap number (doubled-kind r x.m k x.bonds l (omega (arith, v.bonds_few, e.bonds_room)))

  doubled-two : (k : ℕ) → k < x.m → set_of r k ≡ true → (kind bonds' k ≡ 2) × (kind x.bonds k ≡ 0)
  unfolding number
  doubled-two k l h = (kind_at k l ∙ ap (λ (z : Bool). number (pick z (pos 2) (bond_cell x.bonds k KIND))) h, chosen-elided k l h)

  else_same : (k : ℕ) → k < x.m → set_of r k ≡ false → kind bonds' k ≡ kind x.bonds k
  else_same k l h = kind_at k l ∙ ap (λ (z : Bool). number (pick z (pos 2) (bond_cell x.bonds k KIND))) h

  touches-same : (a k : ℕ) → touches bonds' a k ≡ touches x.bonds a k
  unfolding touches
  touches-same a k = rw (first k, second k)

  joins-same : (a b k : ℕ) → joins (settled x r) a b k ≡ joins x a b k
  unfolding joins
  joins-same a b k = rw (first k, second k)

  abbrev growth : ℕ → ℕ → ℕ
  growth a k = pick (set_of r k && touches x.bonds a k) 1 0

  share-more : (a k : ℕ) → k < x.m → share bonds' a k ≡ share x.bonds a k + growth a k
  unfolding share
  share-more a k l = rw (touches-same a k) (more-order (touches x.bonds a k) (set_of r k) (kind bonds' k) (kind x.bonds k) (doubled-two k l) (else_same k l))

  flag_at : (a : ℕ) → a < x.n → flagged flags a ≡ delocalized_at x.atoms x.bonds x.m a
  flag_at a l = ap (λ (k : ℕ). eqb k 1) (up_to-at (delocalized_flag x.atoms x.bonds x.m) x.n a 0 l) ∙ flag-back (delocalized_at x.atoms x.bonds x.m a)

  -- a delocalized atom is an end of one chosen bond, any other of none
  growth-one : (a : ℕ) → flagged flags a ≡ true → total (growth a) x.m ≡ 1
  unfolding touches
  growth-one a h =
      let c = pairs.once_each a h in
      let s = and_left (set_of r c.one) (touches-of c.one) c.member in
      let i : c.one < x.m = rw (length-up_to (bond_of x.bonds) 0 x.m) at (pairs.below c.one s) in
      total-same (growth a) (λ k. pick (eqb c.one k) 1 0) x.m (λ k l. ap (λ (z : Bool). pick z 1 0) (only c k l)) ∙ total-one c.one 1 x.m i
    where
      touches-of : ℕ → Bool
      touches-of k = let b = nth_bond (graph_of x.bonds x.m) k in eqb b.end1 a || eqb b.end2 a

      only : (c : ExactlyOne (λ k. set_of r k && (let b = nth_bond (graph_of x.bonds x.m) k in eqb b.end1 a || eqb b.end2 a))) (k : ℕ) → k < x.m → (set_of r k && touches x.bonds a k) ≡ eqb c.one k
      only c k l =
          same_bool (set_of r k && touches x.bonds a k) (eqb c.one k)
          (λ q. eq-eqb c.one k (sym (c.only k (rw (bond-at k l) q))))
          (λ q. let u : c.one ≡ k = eqb-true c.one k q in let w = rw u at c.member in rw (bond-at k l) at w)

  growth-none : (a : ℕ) → flagged flags a ≡ false → total (growth a) x.m ≡ 0
  unfolding touches
  growth-none a h = total-none (growth a) x.m (λ k l. ap (λ (z : Bool). pick z 1 0) (not-true (set_of r k && touches x.bonds a k) (λ q. clash k l q)))
    where
      clash : (k : ℕ) → k < x.m → (set_of r k && touches x.bonds a k) ≡ true → ⊥
      clash k l q =
          let b = bond_of x.bonds k in
          let c = chosen k l (and_left (set_of r k) (touches x.bonds a k) q) in
          let c1 = and_left (b.elided && flagged flags b.end1) (flagged flags b.end2) c in
          or_cases (eqb (end1 x.bonds k) a) (eqb (end2 x.bonds k) a) (and_right (set_of r k) (touches x.bonds a k) q)
          (λ w. never (flagged flags a) (rw (eqb-true (end1 x.bonds k) a w) at (and_right b.elided (flagged flags b.end1) c1)) h)
          (λ w. never (flagged flags a) (rw (eqb-true (end2 x.bonds k) a w) at (and_right (b.elided && flagged flags b.end1) (flagged flags b.end2) c)) h)

  growth-flag : (a : ℕ) → a < x.n → total (growth a) x.m ≡ delocalized_flag x.atoms x.bonds x.m a
  growth-flag a l = go (delocalized_at x.atoms x.bonds x.m a) refl
    where
      go : (z : Bool) → delocalized_at x.atoms x.bonds x.m a ≡ z → total (growth a) x.m ≡ flag z
      go true q = growth-one a (flag_at a l ∙ q)
      go false q = growth-none a (flag_at a l ∙ q)

  -- the settled sum is the bond sum of every settled drawing
  pub settled-sum : (a : ℕ) → a < x.n → bond_sum bonds' x.m a ≡ settled_sum x a
  settled-sum a l =
      sum-total bonds' x.m a
      ∙ total-same (share bonds' a) (λ k. share x.bonds a k + growth a k) x.m (share-more a)
      ∙ total-add (share x.bonds a) (growth a) x.m
      ∙ (let s = sum-total x.bonds x.m a in let g = growth-flag a l in omega arith)

  -- which atoms are joined stays
  abbrev grows : ℕ → ℕ → ℕ → ℕ
  grows a b k = pick (set_of r k && joins x a b k) 1 0

  pub order-more : (a b : ℕ) → order_between (settled x r) a b ≡ order_between x a b + total (grows a b) x.m
  order-more a b =
      order-total (settled x r) a b
      ∙ total-same (between (settled x r) a b) (λ k. between x a b k + grows a b k) x.m
      (λ k l. rw (joins-same a b k) (more-order (joins x a b k) (set_of r k) (kind bonds' k) (kind x.bonds k) (doubled-two k l) (else_same k l)))
      ∙ total-add (between x a b) (grows a b) x.m
      ∙ (let s = order-total x a b in omega arith)

  pub joined-settled : (a b : ℕ) → joined (settled x r) a b ≡ joined x a b
  joined-settled a b =
      let l = total-le (grows a b) (between x a b) x.m (λ k i. small-growth (joins x a b k) (set_of r k) (kind x.bonds k) (λ h. chosen-elided k i h)) in
      let s = order-total x a b in
      ap not (ap (λ (k : ℕ). eqb k 0) (order-more a b) ∙ grown (order_between x a b) (total (grows a b) x.m) (omega arith))
