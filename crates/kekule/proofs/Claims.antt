-- What the calls on a sound molecule mean, from the list theorem and the claims on matchings. Assumes nothing.
use Prim.Native.Nat.{ℕ}
use native.Mathlib.Omega.{arith}
use mathlib.Core.Path.{◌≡◌, refl, sym, ap, ◌∙◌}
use mathlib.Core.Bool.{Bool, true, false}
use mathlib.Core.List.{List, [], ◌∷◌, ◌++◌, map}
use mathlib.Core.Logic.{◌↔◌}
use lib.ListN.{length, replicate}
use lib.IntN.{ℤ}
use Rattle.loops.specs.Loop.{pick}
use Rattle.loops.proofs.Loops.{length-up_to}
use Rattle.table.specs.Sound.{sound}
use Rattle.matching.specs.Enumeration.{Row, matchings, fill, given, zeroed, or_zeroed, row_call}
use Rattle.matching.specs.Graph.{enumeration, after_zero, Pairs}
use Rattle.matching.specs.Model.{some?}
use Rattle.matching.specs.declared.MatchingAnswer.{MatchingAnswer}
use Rattle.matching.specs.declared.MatchingAnswer.TheVariants.{Given as answerGiven, Absent, Refused as answerRefused, Ended}
use Rattle.matching.specs.declared.Call.{Call}
use Rattle.matching.specs.declared.Call.TheVariants.{First, Next}
use Rattle.matching.proofs.Calls.{whole-list, first-none, none_first, next-present}
use Rattle.matching.proofs.Claims.{empty-iff}
use Rattle.table_graph.specs.Graph.{delocalized_flags, bond_of, graph_of, matching_of, matchable}
use Rattle.kekule_answers.specs.Answers.{found_of, found_code}
use Rattle.kekule.specs.Kekule.{CallReply, call_reply, call_reply_of, roomy, call_on}
use Rattle.kekule.specs.Calls.{replies_of}

-- only the answer "absent" is told as 11
absent : (a : MatchingAnswer) → found_code (found_of a) ≡ 11 → a ≡ Absent
absent answerGiven e = absurd (omega arith)
absent Absent e = refl
absent answerRefused e = absurd (omega arith)
absent Ended e = absurd (omega arith)

module _ (atoms bonds : List ℤ) (n m : ℕ) (v : sound atoms bonds n m ≡ true) (row : List ℕ) (h : roomy atoms bonds (length row) ≡ true) where
  -- a call on sound tables is answered by the row machine
  valid-call : (c : Call) → call_on c atoms bonds n m row ≡ call_reply_of (row_call (matching_of atoms bonds n m) m c row)
  unfolding call_on
  valid-call c = simp (h, v)

  valid-code : (c : Call) → (call_on c atoms bonds n m row).code ≡ found_code (found_of (row_call (matching_of atoms bonds n m) m c row).answer)
  valid-code c = ap (λ (o : CallReply). o.code) (valid-call c)

  graph-length : length (graph_of bonds m) ≡ m
  graph-length = length-up_to (bond_of bonds) 0 m

  -- asking for the first gives a matching exactly if the molecule has one, else 11
  pub first-matchable : (call_on First atoms bonds n m row).code ≡ pick (matchable atoms bonds n m) 0 11
  unfolding matchable row_call
  first-matchable = valid-code First ∙ go (matchings (matching_of atoms bonds n m) m)
    where
      go : (es : List Row) → found_code (found_of (or_zeroed (length row) Absent es).answer) ≡ pick (some? es) 0 11
      go [] = refl
      go (r ∷ es) = refl

  -- 11 exactly if no set of induced bonds has each delocalized atom as an end of exactly one
  pub first-none-iff : ((call_on First atoms bonds n m row).code ≡ 11) ↔ ((S : ℕ → Bool) → Pairs (delocalized_flags atoms bonds n m) (graph_of bonds m) S → ⊥)
  first-none-iff =
      let p = matching_of atoms bonds n m in
      let sets = empty-iff (delocalized_flags atoms bonds n m) (graph_of bonds m) in (
        λ e. sets.0 (ap (matchings p) graph-length ∙ first-none p m row (absent (row_call p m First row).answer (sym (valid-code First) ∙ e))),
        λ k. valid-code First ∙ ap (λ a. found_code (found_of a)) (none_first p m row (ap (matchings p) (sym graph-length) ∙ sets.1 k)),
      )

  -- the first and then the next, as often as there are matchings, give each matching in order and then "end"
  pub all-given : (e : Row) (rest : List Row) → matchings (matching_of atoms bonds n m) m ≡ e ∷ rest
      → replies_of (First ∷ replicate (length (e ∷ rest)) Next) atoms bonds n m row ≡ map (λ r. call_reply 0 (fill (length row) r)) (e ∷ rest) ++ (call_reply 255 (replicate (length row) 0) ∷ [])
  unfolding replies_of enumeration
  all-given e rest q =
      let es = matchings (matching_of atoms bonds n m) (length (graph_of bonds m)) in
      let k : es ≡ e ∷ rest = ap (matchings (matching_of atoms bonds n m)) graph-length ∙ q in
      simp (h, v, k) (ap (map call_reply_of) (whole-list (length row) (after_zero (delocalized_flags atoms bonds n m) (e ∷ rest)) e rest _) ∙ outs (length row) (e ∷ rest))
    where
      outs : (len : ℕ) (es : List Row) → map call_reply_of (map (given len) es ++ (zeroed len Ended ∷ [])) ≡ map (λ r. call_reply 0 (fill len r)) es ++ (call_reply 255 (replicate len 0) ∷ [])
      outs len [] = refl
      outs len (r ∷ es) = ap (λ (l : List CallReply). call_reply 0 (fill len r) ∷ l) (outs len es)

-- asking for the next never gives 11, whatever the tables and the row
pub next-never-none : (atoms bonds : List ℤ) (n m : ℕ) (row : List ℕ) → (call_on Next atoms bonds n m row).code ≡ 11 → ⊥
unfolding call_on
next-never-none atoms bonds n m row = go (roomy atoms bonds (length row)) (sound atoms bonds n m)
  where
    go : (x y : Bool) → (pick x (pick y (call_reply_of (row_call (matching_of atoms bonds n m) m Next row)) (call_reply 13 (replicate (length row) 0))) (call_reply 1 row)).code ≡ 11 → ⊥
    go false y e = omega arith
    go true false e = omega arith
    go true true e = let p = matching_of atoms bonds n m in next-present p m row (absent (row_call p m Next row).answer e)
