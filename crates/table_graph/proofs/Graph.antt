-- The buffers that `build` fills are what the search takes, and its bonds are the molecule's. Assumes nothing.
use Prim.Native.Nat.{ℕ, zero, suc, ◌+◌, ◌≤◌, ◌<◌}
use native.Mathlib.Omega.{arith}
use mathlib.Core.Path.{◌≡◌, refl, sym, ap, ◌∙◌}
use mathlib.Core.Bool.{Bool, true, false}
use mathlib.Core.List.{List, ◌++◌}
use lib.ListN.{length, take, drop, get_or}
use lib.IntN.{ℤ}
use lib.Dec.{eqb}
use mir.Val.{bool_byte}
use Rattle.loops.specs.Loop.{up_to}
use Rattle.loops.proofs.Loops.{length-up_to, up_to-at, filled-part}
use Rattle.table.specs.Limits.{CHARGE}
use Rattle.table.specs.Cells.{atom_cell, element, selected, hydrogens, end1, end2, kind}
use Rattle.table.specs.Valid.{Valid}
use Rattle.table.proofs.Valid.{bond-row, first-end, second-end}
use Rattle.valence.specs.Valence.{delocalized}
use Rattle.matching.specs.Model.{bonds_of, Shape}
use Rattle.table_graph.specs.Graph.{bond_sum, flag, elided_flag, delocalized_flag, delocalized_flags, bond_of, graph_of}
use Rattle.table_graph.specs.Built.{sum_flag, Wide, Wired, Prepared, Built}
use Rattle.table_graph.proofs.Sums.{sums_to}

-- a flag is the bool as a byte
pub byte_flag : (b : Bool) → bool_byte b ≡ flag b
byte_flag true = refl
byte_flag false = refl

-- the bonds of valid tables have what one pass over them asks
pub wide : {atoms bonds : List ℤ} {n m : ℕ} {ea eb el sums : List ℕ} → Valid atoms bonds n m → m ≤ length ea → m ≤ length eb → m ≤ length el → n ≤ length sums → Wide bonds m ea eb el sums
wide v a b e s =
    record {
      few = v.bonds_few;
      firsts = a;
      seconds = b;
      elided = e;
      order = λ k l. (bond-row v k l).order;
      second_fits = λ k l. omega (arith, second-end v k l, v.atoms_few);
      second_summed = λ k l. omega (arith, second-end v k l, s);
    }

-- lists that agree at each number
pub up_to-ext : {A : Type 0} (f g : ℕ → A) (k n : ℕ) → ((j : ℕ) → j < k + n → f j ≡ g j) → up_to f k n ≡ up_to g k n
unfolding up_to
up_to-ext f g k zero h = refl
up_to-ext f g k (suc n) h = rw (h k (omega arith), up_to-ext f g (suc k) n (λ j l. h j (omega arith)))

-- the flags from the bond sums are the molecule's
sum-flags : (atoms bonds : List ℤ) (n m len : ℕ) {sums : List ℕ} → sums ≡ sums_to bonds m len → n ≤ len → up_to (sum_flag atoms sums) 0 n ≡ delocalized_flags atoms bonds n m
sum-flags atoms bonds n m len {sums} e h =
    up_to-ext (sum_flag atoms sums) (delocalized_flag atoms bonds m) 0 n
    (λ j l. ap (λ (s : ℕ). flag (delocalized (element atoms j) (selected atoms j) (atom_cell atoms j CHARGE) s (hydrogens atoms j))) (ap (λ (t : List ℕ). get_or t j 0) e ∙ up_to-at (bond_sum bonds m) len j 0 (omega arith)))

-- what one pass over the bonds of valid tables leaves, in an array that has a sum for each atom
pub prepared : {atoms bonds : List ℤ} {n m len : ℕ} {sums ea eb el : List ℕ} → Valid atoms bonds n m → Wired bonds m ea eb el → sums ≡ up_to (bond_sum bonds m) 0 len → n ≤ len → Prepared atoms bonds n m sums ea eb el
prepared {atoms} {bonds} {n} {m} {len} {sums} v w e h =
    let l : length sums ≡ len = ap length e ∙ length-up_to (bond_sum bonds m) 0 len in
    record { valid = v; wired = w; summed = e ∙ ap (up_to (bond_sum bonds m) 0) (sym l); room = omega (arith, h, l) }

-- the flags that are filled from the bond sums make the graph whole
pub flags-built : {atoms bonds : List ℤ} {n m : ℕ} (flags₀ : List ℕ) {sums ea eb el flags : List ℕ} → Prepared atoms bonds n m sums ea eb el → flags ≡ up_to (sum_flag atoms sums) 0 n ++ drop n flags₀ → Built atoms bonds n m flags ea eb el
flags-built {atoms} {bonds} {n} {m} flags₀ {sums} p e =
    record {
      delocalized_part = filled-part (sum_flag atoms sums) n flags₀ e ∙ sum-flags atoms bonds n m (length sums) p.summed p.room;
      bonds_part = p.wired;
    }

flag_one : (b : Bool) → eqb (flag b) 1 ≡ b
flag_one true = refl
flag_one false = refl

bonds-from : (bonds : List ℤ) (k m : ℕ) → bonds_of (up_to (end1 bonds) k m) (up_to (end2 bonds) k m) (up_to (elided_flag bonds) k m) ≡ up_to (bond_of bonds) k m
unfolding up_to bonds_of
bonds-from bonds k zero = refl
bonds-from bonds k (suc m) = rw (flag_one (eqb (kind bonds k) 0), bonds-from bonds (suc k) m)

module _ {atoms bonds : List ℤ} {n m : ℕ} {flags ea eb el : List ℕ} (b : Built atoms bonds n m flags ea eb el) where
  pub built-bonds : bonds_of (take m ea) (take m eb) (take m el) ≡ graph_of bonds m
  built-bonds = simp (b.bonds_part.first_part, b.bonds_part.second_part, b.bonds_part.elided_part) (bonds-from bonds 0 m)

  pub length-flags : length (take n flags) ≡ n
  length-flags = ap length b.delocalized_part ∙ length-up_to (delocalized_flag atoms bonds m) 0 n

  pub length-first : length (take m ea) ≡ m
  length-first = ap length b.bonds_part.first_part ∙ length-up_to (end1 bonds) 0 m

  pub length-second : length (take m eb) ≡ m
  length-second = ap length b.bonds_part.second_part ∙ length-up_to (end2 bonds) 0 m

  pub length-elided : length (take m el) ≡ m
  length-elided = ap length b.bonds_part.elided_part ∙ length-up_to (elided_flag bonds) 0 m

  pub built-shape : Valid atoms bonds n m → (row : List ℕ) → m ≤ length row → Shape (take m ea) (take m eb) (take m el) (take n flags) row 0
  built-shape v row r =
      record {
        second = length-second ∙ sym length-first;
        third = length-elided ∙ sym length-first;
        room = omega (arith, length-first);
        upto = omega arith;
        ends1 =
            λ j h.
            let l : j < m = omega (arith, length-first) in
            let e : get_or (take m ea) j 0 ≡ end1 bonds j = ap (λ (t : List ℕ). get_or t j 0) b.bonds_part.first_part ∙ up_to-at (end1 bonds) m j 0 l in
            omega (arith, length-flags, first-end v j l);
        ends2 =
            λ j h.
            let l : j < m = omega (arith, length-first) in
            let e : get_or (take m eb) j 0 ≡ end2 bonds j = ap (λ (t : List ℕ). get_or t j 0) b.bonds_part.second_part ∙ up_to-at (end2 bonds) m j 0 l in
            omega (arith, length-flags, second-end v j l);
      }
