-- What the search says of the buffers that `build` filled, in the terms of the molecule. Assumes nothing.
use Prim.Native.Nat.{ℕ, ◌-◌, ◌≤◌}
use native.Mathlib.Omega.{arith}
use mathlib.Core.Path.{◌≡◌, sym, ap, ◌∙◌}
use mathlib.Core.Bool.{Bool, true, false, not}
use mathlib.Core.List.{List, ◌++◌}
use borrow.Author.Tests.{not-true, not-false, leb-true}
use lib.ListN.{length, take, replicate}
use lib.IntN.{ℤ}
use lib.Dec.{leb}
use Rattle.loops.proofs.Loops.{and_left, and_right}
use Rattle.table.specs.Limits.{max_bonds}
use Rattle.table.specs.Valid.{Valid, enough}
use Rattle.table.specs.Sound.{sound}
use Rattle.table.specs.Marks.{none_crowded}
use Rattle.table.specs.Edits.{doubled_bonds}
use Rattle.table.proofs.Sound.{sound-valid, sound-late, late-none}
use Rattle.table.proofs.Valid.{enough-facts}
use Rattle.table_marks.specs.Chosen.{none_crowded_by}
use Rattle.matching.specs.Enumeration.{Reply, row_first, row_next, row_call}
use Rattle.matching.specs.Graph.{is_matching}
use Rattle.matching.specs.Model.{bonds_of, matching_from, part}
use Rattle.matching.specs.declared.Call.{Call}
use Rattle.matching.specs.declared.Call.TheVariants.{First, Next}
use Rattle.matching_search.proofs.Reply.{matching-all}
use Rattle.table_graph.specs.Graph.{matching_of}
use Rattle.table_graph.specs.Built.{Built}
use Rattle.table_graph.proofs.Graph.{built-bonds, length-first}
use Rattle.kekule.specs.Kekule.{Admits, CallReply, call_reply, call_reply_of, roomy, call_on, is_matching_of, KekulizeReply, kekulize_reply, kekulized, kekulized_of}
use Rattle.kekule.proofs.Crowding.{crowded-by, elides}

module _ {atoms bonds : List ℤ} {n m : ℕ} {flags ea eb el : List ℕ} (b : Built atoms bonds n m flags ea eb el) where
  pub first-built : (c : Call) (row : List ℕ) {g : Reply} → c ≡ First → g ≡ row_first (is_matching (take n flags) (bonds_of (take m ea) (take m eb) (take m el))) (length (take m ea)) (length row)
      → g ≡ row_call (matching_of atoms bonds n m) m c row
  unfolding row_call
  first-built c row e h = h ∙ simp (e, length-first b, built-bonds b, b.delocalized_part)

  pub next_built : (c : Call) (row : List ℕ) {g : Reply} → c ≡ Next
      → g ≡ row_next (is_matching (take n flags) (bonds_of (take m ea) (take m eb) (take m el))) (length (take m ea)) (length row) (take (length (take m ea)) row)
      → g ≡ row_call (matching_of atoms bonds n m) m c row
  unfolding row_call
  next_built c row e h = h ∙ simp (e, length-first b, built-bonds b, b.delocalized_part)

  pub matching-built : (row : List ℕ) → matching_from (take m ea) (take m eb) (take m el) (take n flags) (part (length (take m ea)) row 0) 0 ≡ is_matching_of atoms bonds n m row
  matching-built row = matching-all (take m ea) (take m eb) (take m el) (take n flags) row ∙ simp (length-first b, built-bonds b, b.delocalized_part)

-- a call told a test, and it was gone by
pub held : {r b : Bool} → r ≡ b → not r ≡ false → b ≡ true
held {r} e h = sym e ∙ not-false r h

pub failed : {r b : Bool} → r ≡ b → not r ≡ true → b ≡ false
failed {r} e h = sym e ∙ not-true r h

pub cleared : (row : List ℕ) → take 0 row ++ replicate (length row - 0) 0 ≡ replicate (length row) 0
cleared row = let d : length row - 0 ≡ length row = omega arith in rw d

-- a row that is long enough has a cell for each bond of valid tables
pub row_room : (atoms bonds : List ℤ) (n m len : ℕ) → roomy atoms bonds len ≡ true → Valid atoms bonds n m → m ≤ len
row_room atoms bonds n m len h v = omega (arith, leb-true max_bonds len (and_left (leb max_bonds len) (enough atoms bonds) h), v.bonds_few)

-- the return paths of a call: 1, 13, and the search's answer
module _ (c : Call) (atoms bonds : List ℤ) (n m : ℕ) (row : List ℕ) where
  pub call-short : roomy atoms bonds (length row) ≡ false → call_reply 1 row ≡ call_on c atoms bonds n m row
  unfolding call_on
  call-short e = simp e

  pub call-invalid : {row' : List ℕ} → roomy atoms bonds (length row) ≡ true → sound atoms bonds n m ≡ false → row' ≡ take 0 row ++ replicate (length row - 0) 0 → call_reply 13 row' ≡ call_on c atoms bonds n m row
  unfolding call_on
  call-invalid e f h = simp (e, f, h) (ap (call_reply 13) (cleared row))

  pub call-done : {o : CallReply} → roomy atoms bonds (length row) ≡ true → sound atoms bonds n m ≡ true → o ≡ call_reply_of (row_call (matching_of atoms bonds n m) m c row) → o ≡ call_on c atoms bonds n m row
  unfolding call_on
  call-done e f h = h ∙ simp (e, f)

-- what was admitted is valid and has room, and its search's answer is the call's
module _ {atoms bonds : List ℤ} {n m : ℕ} {row row' : List ℕ} (a : Admits atoms bonds n m row row') where
  pub admits-valid : Valid atoms bonds n m
  admits-valid = sound-valid atoms bonds n m a.is_sound

  pub admits-room : m ≤ length row'
  admits-room = rw a.same (row_room atoms bonds n m (length row) a.long admits-valid)

  pub admits-done : (c : Call) {o : CallReply} → o ≡ call_reply_of (row_call (matching_of atoms bonds n m) m c row') → o ≡ call_on c atoms bonds n m row
  admits-done c h = call-done c atoms bonds n m row a.long a.is_sound (h ∙ ap (λ (r : List ℕ). call_reply_of (row_call (matching_of atoms bonds n m) m c r)) a.same)

-- the return paths of kekulizing: 1, 13, 12, 20, and the tables kekulized
module _ (atoms bonds : List ℤ) (n m : ℕ) (row : List ℕ) where
  pub kekulize-short : roomy atoms bonds (length row) ≡ false → kekulize_reply 1 atoms bonds ≡ kekulized_of atoms bonds n m row
  unfolding kekulized_of
  kekulize-short e = simp e

  pub kekulize-invalid : roomy atoms bonds (length row) ≡ true → sound atoms bonds n m ≡ false → kekulize_reply 13 atoms bonds ≡ kekulized_of atoms bonds n m row
  unfolding kekulized_of
  kekulize-invalid e f = simp (e, f)

  pub kekulize-wrong : roomy atoms bonds (length row) ≡ true → sound atoms bonds n m ≡ true → is_matching_of atoms bonds n m row ≡ false → kekulize_reply 12 atoms bonds ≡ kekulized_of atoms bonds n m row
  unfolding kekulized_of
  kekulize-wrong e f g = simp (e, f, g)

  module _ (e : roomy atoms bonds (length row) ≡ true) (f : sound atoms bonds n m ≡ true) (g : is_matching_of atoms bonds n m row ≡ true) where
    -- what is asked of the ends of the chosen bonds is 20 of the kekulized ones
    chosen_is : none_crowded (doubled_bonds row m bonds) m ≡ none_crowded_by bonds m row
    chosen_is =
        let v = sound-valid atoms bonds n m f in
        let r = enough-facts atoms bonds (and_right (leb max_bonds (length row)) (enough atoms bonds) e) in
        crowded-by bonds m row (λ b l. omega (arith, v.bonds_few, r.bonds_room)) (elides atoms bonds n m row g) (late-none atoms bonds n m (sound-late atoms bonds n m f)).uncrowded

    pub kekulize-crowded : none_crowded_by bonds m row ≡ false → kekulize_reply 20 atoms bonds ≡ kekulized_of atoms bonds n m row
    unfolding kekulized_of
    kekulize-crowded d = sym (rw (e, f, g, chosen_is ∙ d))

    pub kekulize-done : {o : KekulizeReply} → none_crowded_by bonds m row ≡ true → o ≡ kekulized atoms bonds n m row → o ≡ kekulized_of atoms bonds n m row
    unfolding kekulized_of
    kekulize-done d h = h ∙ sym (rw (e, f, g, chosen_is ∙ d))
