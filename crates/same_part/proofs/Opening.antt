-- The marks of bonds that can be chosen, in the terms of the molecule. Assumes nothing.
use mathlib.Core.Path.{◌≡◌, refl, sym, ap, ◌∙◌}
use mathlib.Core.Bool.{Bool, true, false, ◌&&◌}
use mathlib.Core.List.{List, ◌++◌}
use Prim.Native.Nat.{ℕ, ◌<◌}
use native.Mathlib.Omega.{arith}
use lib.IntN.{ℤ}
use lib.Dec.{eqb}
use lib.ListN.{length, get_or, take, drop, get_or-append}
use borrow.Author.Tests.{eqb-true, eq-eqb}
use Rattle.loops.specs.Loop.{up_to}
use Rattle.loops.proofs.Loops.{and_left, length-up_to, up_to-at}
use Rattle.kinds.specs.Kind.{elided}
use Rattle.table.specs.Cells.{end1, end2, kind}
use Rattle.matching.specs.Enumeration.{is_row}
use Rattle.matching.specs.Graph.{Bond, flagged, induced}
use Rattle.matching.specs.Model.{free_at, Shape, Ends}
use Rattle.matching.proofs.Sets.{row-pairs}
use Rattle.table_graph.specs.Graph.{flag, elided_flag, delocalized_flags, bond_of, graph_of, matching_of}
use Rattle.table_graph.specs.Built.{Built}
use Rattle.table_graph.proofs.Graph.{length-first}
use Rattle.same_part.specs.Value.{open_flag}
use Rattle.same_part.specs.Part.{Opens}

flag_one : (b : Bool) → eqb (flag b) 1 ≡ b
flag_one true = refl
flag_one false = refl

flag_true : (b : Bool) → flag b ≡ 1 → b ≡ true
flag_true b e = sym (flag_one b) ∙ eq-eqb (flag b) 1 e

-- the same bond with the same flags
same-free : (x y z : ℕ) {e f : ℕ} {c : Bool} {need need' : List ℕ} → need ≡ need' → x ≡ e → y ≡ f → eqb z 1 ≡ c → (eqb z 1 && flagged need x && flagged need y) ≡ (c && flagged need' e && flagged need' f)
same-free x y z p q r s = rw (p, q, r, s)

-- a row that is a matching chooses induced bonds
chosen-induced : (atoms bonds : List ℤ) (n m : ℕ) (s : List ℕ) → is_row m s ≡ true → matching_of atoms bonds n m s ≡ true → (k : ℕ) → k < m → get_or s k 0 ≡ 1 → induced (delocalized_flags atoms bonds n m) (bond_of bonds k) ≡ true
chosen-induced atoms bonds n m s i h k l g =
    let flags = delocalized_flags atoms bonds n m in
    let r : is_row (length (graph_of bonds m)) s ≡ true = ap (λ (j : ℕ). is_row j s) (length-up_to (bond_of bonds) 0 m) ∙ i in
    let d = up_to-at (bond_of bonds) m k (record { end1 = 0; end2 = 0; elided = false }) l in
    sym (ap (λ (b : Bond). induced flags b) d) ∙ (row-pairs flags (graph_of bonds m) s r h).all_induced k (eq-eqb (get_or s k 0) 1 g)

module _ {atoms bonds : List ℤ} {n m : ℕ} {flags ea eb el : List ℕ} (b : Built atoms bonds n m flags ea eb el) where
  -- a bond of the tables can be chosen exactly if it is induced
  free-built : (k : ℕ) → k < m → free_at (take m ea) (take m eb) (take m el) (take n flags) k ≡ induced (delocalized_flags atoms bonds n m) (bond_of bonds k)
  free-built k l =
      same-free (get_or (take m ea) k 0) (get_or (take m eb) k 0) (get_or (take m el) k 0)
      b.delocalized_part
      (ap (λ (t : List ℕ). get_or t k 0) b.bonds_part.first_part ∙ up_to-at (end1 bonds) m k 0 l)
      (ap (λ (t : List ℕ). get_or t k 0) b.bonds_part.second_part ∙ up_to-at (end2 bonds) m k 0 l)
      (ap (λ (t : List ℕ). eqb (get_or t k 0) 1) b.bonds_part.elided_part ∙ ap (λ (z : ℕ). eqb z 1) (up_to-at (elided_flag bonds) m k 0 l) ∙ flag_one (eqb (kind bonds k) elided))

  module _ (o₀ : List ℕ) {o : List ℕ} (e : o ≡ up_to (open_flag (take m ea) (take m eb) (take m el) (take n flags)) 0 (length (take m ea)) ++ drop (length (take m ea)) o₀) where
    marks_at : (k : ℕ) → k < m → get_or o k 0 ≡ flag (induced (delocalized_flags atoms bonds n m) (bond_of bonds k))
    marks_at k l =
        let f = open_flag (take m ea) (take m eb) (take m el) (take n flags) in
        let j = length (take m ea) in
        let i : k < j = omega (arith, length-first b) in
        let i2 : k < length (up_to f 0 j) = omega (arith, length-up_to f 0 j) in
        ap (λ (t : List ℕ). get_or t k 0) e ∙ get_or-append (up_to f 0 j) (drop j o₀) 0 k i2 ∙ up_to-at f j k 0 i ∙ ap flag (free-built k l)

    pub opens : Opens atoms bonds n m o
    opens = record { only = only-elided; all = all-marked }
      where
        only-elided : (k : ℕ) → k < m → get_or o k 0 ≡ 1 → kind bonds k ≡ elided
        only-elided k l h =
            let d = bond_of bonds k in
            let ks = delocalized_flags atoms bonds n m in
            let t : induced ks d ≡ true = flag_true (induced ks d) (sym (marks_at k l) ∙ h) in
            eqb-true (kind bonds k) elided
            (and_left d.elided (flagged ks d.end1) (and_left (d.elided && flagged ks d.end1) (flagged ks d.end2) t))

        all-marked : (s : List ℕ) → is_row m s ≡ true → matching_of atoms bonds n m s ≡ true → (k : ℕ) → k < m → get_or s k 0 ≡ 1 → get_or o k 0 ≡ 1
        all-marked s i h k l g = marks_at k l ∙ ap flag (chosen-induced atoms bonds n m s i h k l g)

-- the ends of a bond of the tables
pub bond-ends : {ea eb el need row : List ℕ} {k : ℕ} → Shape ea eb el need row 0 → k < length ea → Ends ea eb need k × (k < length el)
bond-ends {ea} {eb} {el} {need} {row} {k} w l = (record { first = l; second = omega (arith, w.second); end1 = w.ends1 k l; end2 = w.ends2 k l }, omega (arith, w.third))
