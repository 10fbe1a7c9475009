-- The matrices hold what they are to hold: the orders of the settled molecule, and which atoms may go to one another. Assumes nothing.
use mathlib.Core.Path.{◌≡◌, refl, sym, ap, ◌∙◌}
use mathlib.Core.Bool.{Bool, true, false, ◌&&◌, ◌||◌}
use mathlib.Core.List.{List, ◌++◌}
use Prim.Native.Nat.{ℕ, ◌+◌, ◌*◌, ◌<◌, ◌≤◌, ◌/◌, ◌%◌}
use native.Mathlib.Omega.{arith}
use native.Mathlib.Nat.{add-zero, mul-add-div, div-eq_of_lt, mul-add-mod_self_left, mod-eq_of_lt}
use lib.IntN.{ℤ, pos}
use lib.Dec.{eqb}
use lib.ListN.{length, get_or}
use Rattle.loops.specs.Loop.{pick, run, up_to}
use Rattle.loops.proofs.Loops.{filled_at}
use Rattle.table.specs.Limits.{FIRST, SECOND, KIND}
use Rattle.table.specs.Cells.{number, bond_cell, end1, end2, kind}
use Rattle.table.specs.Valid.{Valid}
use Rattle.table.specs.Edits.{doubled_bonds}
use Rattle.table.proofs.Valid.{Enough, bond-row}
use Rattle.table.proofs.Edits.{doubled-kind, doubled-field}
use Rattle.kinds.specs.Kind.{order}
use Rattle.table_graph.specs.Graph.{flag}
use Rattle.same_model.specs.Same.{max_same, Molecule, settled, same_cells, joins}
use Rattle.same_model.proofs.Totals.{run_more, total-same}
use Rattle.same_model.proofs.Orders.{between, order-total}
use Rattle.same_place.specs.Place.{entry}
use Rattle.same_drawing.specs.Drawing.{cells, drawn_order, with_bond, Drawable, may_go, match_cell, Orders, Matches}
use Rattle.same_drawing.proofs.Matrix.{adds, run_at}

-- valid tables can be drawn
pub drawable : (x : Molecule) (row : List ℕ) → Valid x.atoms x.bonds x.n x.m → x.n ≤ max_same → x.m ≤ length row → Drawable x.bonds x.m row
drawable x row v few room =
    record {
      few = v.bonds_few;
      room = room;
      ends = λ k l. let f = bond-row v k l in record { few = omega (arith, v.bonds_few); order = f.order; second = omega (arith, f.second) };
    }

module _ (x : Molecule) (row : List ℕ) (v : Valid x.atoms x.bonds x.n x.m) (e : Enough x.atoms x.bonds) where
  abbrev bonds' : List ℤ
  bonds' = doubled_bonds row x.m x.bonds

  first : (k : ℕ) → end1 bonds' k ≡ end1 x.bonds k
  first k = ap number (doubled-field row x.m k FIRST x.bonds (omega arith) (λ q. omega arith))

  second : (k : ℕ) → end2 bonds' k ≡ end2 x.bonds k
  second k = ap number (doubled-field row x.m k SECOND x.bonds (omega arith) (λ q. omega arith))

  order-at : (k : ℕ) → k < x.m → order (kind bonds' k) ≡ drawn_order x.bonds (get_or row k 0) k
  unfolding order number
  order-at k l = ap (λ (z : ℤ). order (number z)) (doubled-kind row x.m k x.bonds l (omega (arith, v.bonds_few, e.bonds_room))) ∙ go (eqb (get_or row k 0) 1)
    where
      go : (z : Bool) → order (number (pick z (pos 2) (bond_cell x.bonds k KIND))) ≡ pick z 2 (order (kind x.bonds k))
      go true = refl
      go false = refl

  pub between-at : (a b k : ℕ) → k < x.m → between (settled x row) a b k
      ≡ pick ((eqb (end1 x.bonds k) a && eqb (end2 x.bonds k) b) || (eqb (end1 x.bonds k) b && eqb (end2 x.bonds k) a)) (drawn_order x.bonds (get_or row k 0) k) 0
  unfolding joins
  between-at a b k l = rw (first k, second k, order-at k l)

  pub orders-drawn : x.n ≤ max_same → (q : ℕ → ℕ → ℕ) (base : List ℕ) → length base ≡ cells → ((a b : ℕ) → a < x.n → b < x.n → entry base a b ≡ 4 * q a b) → Orders (settled x row) q (run (with_bond x.bonds row) 0 x.m base)
  orders-drawn few q base size based =
      record {
        at = λ a b ka kb.
            let la : a < max_same = omega arith in
            let lb : b < max_same = omega arith in
            run_at x.bonds a b la lb row 0 x.m base size
            (λ i u l. let f = bond-row v i (omega arith) in record { few = omega (arith, v.bonds_few); order = f.order; second = omega (arith, f.second) })
            ∙ run_more (adds x.bonds a b la lb row) x.m (entry base a b)
            ∙ (λ i. based a b ka kb i + sym (order-total (settled x row) a b ∙ total-same (between (settled x row) a b) (adds x.bonds a b la lb row) x.m (between-at a b)) i);
      }

-- the matrix of atoms that may go to one another
pub matches-filled : (x y : Molecule) (keys1 keys2 rest : List ℕ) {ok : List ℕ} → ok ≡ up_to (match_cell x.atoms keys1 y.atoms keys2) 0 (max_same * x.n) ++ rest → Matches x y keys1 keys2 ok
unfolding same_cells
matches-filled x y keys1 keys2 rest {ok} e =
    record {
      at = λ a d l h.
          let q : (max_same * a + d) / max_same ≡ a = mul-add-div {m = max_same} (omega arith) a d ∙ ap (λ (k : ℕ). a + k) (div-eq_of_lt {n = d} {m = max_same} h) ∙ add-zero a in
          let r : (max_same * a + d) % max_same ≡ d = mul-add-mod_self_left max_same a d ∙ mod-eq_of_lt {n = d} {m = max_same} h in
          filled_at (match_cell x.atoms keys1 y.atoms keys2) (max_same * x.n) (max_same * a + d) 0 ok rest e (omega arith)
          ∙ ap (λ (k : ℕ). flag (may_go x.atoms keys1 y.atoms keys2 k ((max_same * a + d) % max_same))) q
          ∙ ap (λ (k : ℕ). flag (may_go x.atoms keys1 y.atoms keys2 a k)) r;
    }
