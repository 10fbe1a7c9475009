-- What the second engine says of the buffers that `build` filled, in the terms of the molecule, and the ways of its calls. Assumes nothing.
use Prim.Native.Nat.{ℕ, ◌-◌, ◌≤◌}
use native.Mathlib.Omega.{arith}
use mathlib.Core.Path.{◌≡◌, ap, ◌∙◌}
use mathlib.Core.Bool.{true, false}
use mathlib.Core.List.{List, ◌++◌}
use lib.ListN.{length, take, replicate}
use lib.IntN.{ℤ}
use lib.Dec.{leb}
use borrow.Author.Tests.{leb-true}
use Rattle.loops.proofs.Loops.{and_left, and_right, length-up_to}
use Rattle.table.specs.Limits.{max_bonds}
use Rattle.table.specs.Valid.{Valid}
use Rattle.table.specs.Sound.{sound}
use Rattle.matching.specs.Enumeration.{Reply, row_first, row_call}
use Rattle.matching.specs.Model.{bonds_of, reply}
use Rattle.matching.specs.declared.MatchingAnswer.{MatchingAnswer}
use Rattle.matching.specs.declared.Call.TheVariants.{First}
use Rattle.table_graph.specs.Graph.{bond_of, graph_of, matching_of}
use Rattle.table_graph.specs.Built.{Built}
use Rattle.table_graph.proofs.Graph.{built-bonds, length-first, length-flags}
use Rattle.matching_forced.specs.Forced.{forced_list}
use Rattle.matching_forced.specs.Steps.{Roomy, FirstReply}
use Rattle.matching_forced.proofs.Turns.{most}
use Rattle.kekule_answers.specs.Answers.{Found, found_of, found_code}
use Rattle.kekule.specs.Kekule.{out, call_reply_of, roomy}
use Rattle.kekule.proofs.Kekule.{cleared}
use Rattle.kekule_forced.specs.Forced.{forced_of, ForcedCallReply, forced_call_reply, with_list, roomy_list, first_forced_on}

module _ {atoms bonds : List ℤ} {n m : ℕ} {flags ea eb el : List ℕ} (b : Built atoms bonds n m flags ea eb el) where
  graph_long : length (graph_of bonds m) ≡ m
  graph_long = length-up_to (bond_of bonds) 0 m

  bonds_long : length (bonds_of (take m ea) (take m eb) (take m el)) ≡ m
  bonds_long = ap length (built-bonds b) ∙ graph_long

  pub built-roomy : Valid atoms bonds n m → {pairs : List ℕ} → max_bonds ≤ length pairs → Roomy (take m ea) (take m eb) (take m el) (take n flags) pairs
  built-roomy v l = record {
    atoms_few = omega (arith, length-flags b, v.atoms_few);
    bonds_few = omega (arith, length-first b, v.bonds_few);
    room = omega (arith, most (bonds_of (take m ea) (take m eb) (take m el)) (take n flags), bonds_long, v.bonds_few);
  }

  pub first-listed : (row pairs : List ℕ) {a : MatchingAnswer} {k : ℕ} {row' pairs' : List ℕ} → FirstReply (bonds_of (take m ea) (take m eb) (take m el)) (take n flags) row pairs a k row' pairs'
      → forced_call_reply (found_code (found_of a)) row' k pairs' ≡ with_list (row_call (matching_of atoms bonds n m) m First row) (forced_of atoms bonds n m) (length pairs)
  unfolding row_call
  first-listed row pairs {a} {k} {row'} {pairs'} f =
      let g : reply a row' ≡ row_first (matching_of atoms bonds n m) m (length row) = f.replied ∙ simp (built-bonds b, b.delocalized_part, graph_long) in
      let l : forced_list (bonds_of (take m ea) (take m eb) (take m el)) (take n flags) ≡ forced_of atoms bonds n m = simp (built-bonds b, b.delocalized_part) in
      let c : k ≡ length (forced_of atoms bonds n m) = f.counted ∙ ap length l in
      let p : pairs' ≡ forced_of atoms bonds n m ++ replicate (length pairs - length (forced_of atoms bonds n m)) 0 = f.listed ∙ rw (l, c) in
      rw (c, p) (ap (λ (t : Reply). with_list t (forced_of atoms bonds n m) (length pairs)) g)

-- the return paths of the call for the first: 1, 13, and the engine's answer
module _ (atoms bonds : List ℤ) (n m : ℕ) (row pairs : List ℕ) where
  pub first_short : roomy_list atoms bonds (length row) (length pairs) ≡ false → forced_call_reply 1 row 0 pairs ≡ first_forced_on atoms bonds n m row pairs
  unfolding first_forced_on
  first_short e = simp e

  module _ (e : roomy_list atoms bonds (length row) (length pairs) ≡ true) where
    pub row-roomy : roomy atoms bonds (length row) ≡ true
    row-roomy = and_left (roomy atoms bonds (length row)) (leb max_bonds (length pairs)) e

    pub list-roomy : max_bonds ≤ length pairs
    list-roomy = leb-true max_bonds (length pairs) (and_right (roomy atoms bonds (length row)) (leb max_bonds (length pairs)) e)

    pub first-invalid : sound atoms bonds n m ≡ false → {row' pairs' : List ℕ} → row' ≡ take 0 row ++ replicate (length row - 0) 0 → pairs' ≡ take 0 pairs ++ replicate (length pairs - 0) 0
        → forced_call_reply 13 row' 0 pairs' ≡ first_forced_on atoms bonds n m row pairs
    unfolding first_forced_on
    first-invalid f h k = simp (e, f) (rw (h ∙ cleared row, k ∙ cleared pairs))

    pub first_done : sound atoms bonds n m ≡ true → {o : ForcedCallReply} → o ≡ with_list (row_call (matching_of atoms bonds n m) m First row) (forced_of atoms bonds n m) (length pairs) → o ≡ first_forced_on atoms bonds n m row pairs
    unfolding first_forced_on
    first_done f h = h ∙ simp (e, f)

-- the answer of the engine as an answer of the call
pub told-as : (a : MatchingAnswer) (f : Found) {row pairs : List ℕ} {k : ℕ} {o : ForcedCallReply} → f ≡ found_of a → forced_call_reply (found_code (found_of a)) row k pairs ≡ o → forced_call_reply (found_code f) row k pairs ≡ o
told-as a f e h = rw e h

pub next-told : (a : MatchingAnswer) (f : Found) {row : List ℕ} {g : Reply} → f ≡ found_of a → reply a row ≡ g → out f row ≡ call_reply_of g
next-told a f e h = rw e (ap call_reply_of h)
