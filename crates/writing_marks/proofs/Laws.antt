-- Laws of the ranks and of the marks in their arrays. Assumes nothing.
use Prim.Native.Nat.{ℕ, suc, ◌+◌, ◌-◌, ◌*◌, ◌<◌, ◌≤◌}
use native.Mathlib.Omega.{arith}
use mathlib.Core.Path.{◌≡◌, refl, sym, ap, ◌∙◌}
use mathlib.Core.Bool.{Bool, true, false, ◌||◌, true≢false}
use mathlib.Core.List.{List, ◌++◌}
use lib.ListN.{length, get_or, set, drop, replicate, length-set, get_or-replicate}
use lib.Seq.{get_or-set_same, get_or-set_other}
use lib.IntN.{ℤ}
use lib.Dec.{eqb}
use borrow.Author.Tests.{eq-eqb, ne_eqb, eqb-true, eqb-false}
use Rattle.loops.specs.Loop.{pick, each, up_to}
use Rattle.loops.proofs.Loops.{each_at, filled_at}
use Rattle.table.specs.Cells.{mark, end1, end2, touches}
use Rattle.table.specs.Orders.{turned_mark, at_end}
use Rattle.table.proofs.Orders.{turns_same, turned_none}
use Rattle.writing_walk.specs.Emit.{pre}
use Rattle.writing_walk.specs.Walk.{forest_of, place}
use Rattle.writing_walk.specs.Flat.{ups}
use Rattle.writing_walk.specs.Parents.{walk_rank}
use Rattle.writing.specs.Write.{walk_bond, bond_list, written_rank}
use Rattle.writing.proofs.Marks.{written-mark}
use Rattle.writing_visit.specs.Visit.{BondsFit}
use Rattle.writing_bridges.specs.Unused.{Numbered}
use Rattle.writing_marks.specs.Marks.{unmarked, with_ranks, Ranked, Turned}

-- ---- one rank
pub rank-parent : (n : ℕ) (up : List ℕ) (x y : ℕ) → get_or up x 0 ≡ y + 1 → 0 ≡ walk_rank n up x y
unfolding walk_rank
rank-parent n up x y e = sym (rw (eq-eqb (get_or up x 0) (suc y) (omega arith)))

module _ (n : ℕ) (up : List ℕ) (x y : ℕ) (no : get_or up x 0 ≡ y + 1 → ⊥) where
  not-parent : eqb (get_or up x 0) (suc y) ≡ false
  not-parent = ne_eqb (get_or up x 0) (suc y) (λ e. no (omega arith))

  pub rank-child : get_or up y 0 ≡ x + 1 → n + 2 + y ≡ walk_rank n up x y
  unfolding walk_rank
  rank-child e = sym (rw (not-parent, eq-eqb (get_or up y 0) (suc x) (omega arith)))

  pub rank-bridge : (get_or up y 0 ≡ x + 1 → ⊥) → y + 2 ≡ walk_rank n up x y
  unfolding walk_rank
  rank-bridge e = sym (rw (not-parent, ne_eqb (get_or up y 0) (suc x) (λ q. e (omega arith))))

rank_same : (n : ℕ) (u w : List ℕ) (x y : ℕ) → get_or u x 0 ≡ get_or w x 0 → get_or u y 0 ≡ get_or w y 0 → walk_rank n u x y ≡ walk_rank n w x y
unfolding walk_rank
rank_same n u w x y e f = rw (e, f)

-- ---- the ranks of the bonds of a molecule whose walk stands in arrays
module _ (bonds : List ℤ) {n m : ℕ} {number up : List ℕ} (f : BondsFit (walk_bond bonds) n m) (d : Numbered (bond_list bonds m) n number up) where
  abbrev walked : ℕ → ℕ
  walked = place (pre (forest_of n (bond_list bonds m)))

  number_is : (a : ℕ) → a < n → get_or number a 0 - 1 ≡ walked a
  number_is a h = let q = d.number a h in omega arith

  pub ends-below : (b : ℕ) → b < m → (end1 bonds b < n) × (end2 bonds b < n)
  ends-below b h = let r = f.ends b h in let l = r.0 in let u = r.1 in (omega arith, u)

  pub numbered-some : (a : ℕ) → a < n → 0 < get_or number a 0
  numbered-some a h = let q = d.number a h in omega arith

  pub number-below : (a : ℕ) → a < n → get_or number a 0 - 1 < n
  number-below a h = let q = number_is a h in let l = d.below a h in omega arith

  -- the rank of the bond between the atoms a and c
  between : (a c : ℕ) → a < n → c < n → walk_rank n up (get_or number a 0 - 1) (get_or number c 0 - 1) ≡ walk_rank n (ups (forest_of n (bond_list bonds m)) 0 0) (walked a) (walked c)
  between a c h g =
      (λ i. walk_rank n up (number_is a h i) (number_is c g i))
      ∙ rank_same n up (ups (forest_of n (bond_list bonds m)) 0 0) (walked a) (walked c) (d.up (walked a) (d.below a h)) (d.up (walked c) (d.below c g))

  first-rank : (b : ℕ) → b < m → walk_rank n up (get_or number (end1 bonds b) 0 - 1) (get_or number (end2 bonds b) 0 - 1) ≡ written_rank bonds n m (end1 bonds b) b
  unfolding written_rank
  first-rank b h =
      let e = ends-below b h in
      between (end1 bonds b) (end2 bonds b) e.0 e.1 ∙ sym (rw (eq-eqb (end1 bonds b) (end1 bonds b) refl))

  second-rank : (b : ℕ) → b < m → walk_rank n up (get_or number (end2 bonds b) 0 - 1) (get_or number (end1 bonds b) 0 - 1) ≡ written_rank bonds n m (end2 bonds b) b
  unfolding written_rank
  second-rank b h =
      let e = ends-below b h in
      let l = (f.ends b h).0 in
      between (end2 bonds b) (end1 bonds b) e.1 e.0 ∙ sym (rw (ne_eqb (end1 bonds b) (end2 bonds b) (omega arith)))

  -- the loop stands before the bond k
  pub ranked-start : (ranks : List ℕ) → Ranked bonds n m 0 ranks
  ranked-start ranks = record { first = λ b h. absurd (omega arith); second = λ b h. absurd (omega arith) }

  pub ranked-step : (k : ℕ) (ranks t : List ℕ) → Ranked bonds n m k ranks → k < m → 2 * m ≤ length ranks → t ≡ with_ranks n up (get_or number (end1 bonds k) 0 - 1) (get_or number (end2 bonds k) 0 - 1) k ranks → Ranked bonds n m (k + 1) t
  ranked-step k ranks t r h l e =
      record { first = λ b g. ap (λ (s : List ℕ). get_or s (2 * b) 0) e ∙ firsts b g (eqb b k) refl; second = λ b g. ap (λ (s : List ℕ). get_or s (2 * b + 1) 0) e ∙ seconds b g (eqb b k) refl }
    where
      x : ℕ
      x = get_or number (end1 bonds k) 0 - 1

      y : ℕ
      y = get_or number (end2 bonds k) 0 - 1

      one : List ℕ
      one = set ranks (2 * k) (walk_rank n up x y)

      firsts : (b : ℕ) → b < k + 1 → (z : Bool) → eqb b k ≡ z → get_or (with_ranks n up x y k ranks) (2 * b) 0 ≡ written_rank bonds n m (end1 bonds b) b
      firsts b g true q =
          let i = eqb-true b k q in
          rw i (get_or-set_other one (2 * k + 1) (2 * k) (walk_rank n up y x) 0 (λ w. omega arith) ∙ get_or-set_same ranks (2 * k) (walk_rank n up x y) 0 (omega arith) ∙ first-rank k h)
      firsts b g false q =
          let i = eqb-false b k q in
          get_or-set_other one (2 * k + 1) (2 * b) (walk_rank n up y x) 0 (λ w. omega arith) ∙ get_or-set_other ranks (2 * k) (2 * b) (walk_rank n up x y) 0 (λ w. i (omega arith)) ∙ r.first b (omega arith)

      seconds : (b : ℕ) → b < k + 1 → (z : Bool) → eqb b k ≡ z → get_or (with_ranks n up x y k ranks) (2 * b + 1) 0 ≡ written_rank bonds n m (end2 bonds b) b
      seconds b g true q =
          let i = eqb-true b k q in
          rw i (get_or-set_same one (2 * k + 1) (walk_rank n up y x) 0 (omega (arith, length-set ranks (2 * k) (walk_rank n up x y))) ∙ second-rank k h)
      seconds b g false q =
          let i = eqb-false b k q in
          get_or-set_other one (2 * k + 1) (2 * b + 1) (walk_rank n up y x) 0 (λ w. i (omega arith)) ∙ get_or-set_other ranks (2 * k) (2 * b + 1) (walk_rank n up x y) 0 (λ w. omega arith) ∙ r.second b (omega arith)

pub ranked-end : {bonds : List ℤ} {n m k : ℕ} {ranks : List ℕ} → Ranked bonds n m k ranks → m ≤ k → Ranked bonds n m m ranks
ranked-end r h = record { first = λ b g. r.first b (omega arith); second = λ b g. r.second b (omega arith) }

-- ---- the marks
module _ {bonds : List ℤ} {n m : ℕ} {ranks : List ℕ} (r : Ranked bonds n m m ranks) where
  -- the ranks of the bonds at an atom
  at-end : (a b : ℕ) → b < m → touches bonds a b ≡ true → at_end ranks bonds a b ≡ written_rank bonds n m a b
  unfolding touches
  at-end a b h t = go (eqb (end2 bonds b) a) refl (eqb (end1 bonds b) a) refl t
    where
      go : (x : Bool) → eqb (end2 bonds b) a ≡ x → (y : Bool) → eqb (end1 bonds b) a ≡ y → (y || x) ≡ true → get_or ranks (2 * b + pick x 1 0) 0 ≡ written_rank bonds n m a b
      go true e y f t = r.second b h ∙ ap (λ (c : ℕ). written_rank bonds n m c b) (eqb-true (end2 bonds b) a e)
      go false e true f t = let z : 2 * b + 0 ≡ 2 * b = omega arith in rw z (r.first b h ∙ ap (λ (c : ℕ). written_rank bonds n m c b) (eqb-true (end1 bonds b) a f))
      go false e false f t = absurd (true≢false (sym t))

  turned_same : (atoms : List ℤ) (a : ℕ) → turned_mark (at_end ranks bonds) atoms bonds m a ≡ turned_mark (written_rank bonds n m) atoms bonds m a
  unfolding turned_mark
  turned_same atoms a = rw (turns_same (at_end ranks bonds a) (written_rank bonds n m a) atoms bonds m a (at-end a))

  pub turned-all : (atoms : List ℤ) (old written : List ℕ) → n ≤ length written → written ≡ up_to (turned_mark (at_end ranks bonds) atoms bonds m) 0 n ++ drop n old → Turned atoms bonds n m written
  turned-all atoms old written l e = record {
    long = l;
    marks_at = λ a h. filled_at (turned_mark (at_end ranks bonds) atoms bonds m) n a 0 written (drop n old) e h ∙ turned_same atoms a ∙ sym (written-mark atoms bonds n m a h);
  }

-- of a molecule without marks
pub turned-nothing : (atoms bonds : List ℤ) (n m : ℕ) (written : List ℕ) → n ≤ length written → written ≡ replicate (length written) 0 → each (unmarked atoms) 0 n ≡ true → Turned atoms bonds n m written
turned-nothing atoms bonds n m written l e u = record {
  long = l;
  marks_at = λ a h.
      (let z : mark atoms a ≡ 0 = eqb-true (mark atoms a) 0 (each_at (unmarked atoms) n a u h) in
      ap (λ (s : List ℕ). get_or s a 0) e ∙ get_or-replicate (length written) a 0 0 (omega arith) ∙ sym (written-mark atoms bonds n m a h ∙ turned_none (written_rank bonds n m) bonds m atoms a z));
}
