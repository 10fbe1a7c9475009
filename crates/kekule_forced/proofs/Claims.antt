-- What the calls of the second engine mean: they answer as the plain engine's, and what holds of the forced list. Assumes nothing.
use Prim.Native.Nat.{ℕ, ◌+◌, ◌≤◌, ◌<◌}
use native.Mathlib.Omega.{arith}
use mathlib.Core.Path.{◌≡◌, refl, sym, ap, ◌∙◌}
use mathlib.Core.Bool.{Bool, true, false, ◌&&◌}
use mathlib.Core.List.{List, [], ◌∷◌}
use lib.ListN.{length, get_or, replicate}
use lib.IntN.{ℤ}
use lib.Dec.{leb}
use Rattle.loops.specs.Loop.{pick}
use Rattle.loops.proofs.Loops.{length-up_to, up_to-at}
use Rattle.table.specs.Limits.{max_bonds}
use Rattle.table.specs.Valid.{Valid}
use Rattle.table.specs.Sound.{sound}
use Rattle.table.proofs.Valid.{bond-row}
use Rattle.matching.specs.Enumeration.{Row, matchings, is_row, row_call}
use Rattle.matching.specs.Graph.{Bond, nth_bond, is_matching}
use Rattle.matching.specs.Model.{some?}
use Rattle.matching.specs.declared.Call.{Call}
use Rattle.matching.specs.declared.Call.TheVariants.{First, Next}
use Rattle.table_graph.specs.Graph.{delocalized_flags, bond_of, graph_of, matching_of}
use Rattle.matching_forced.specs.Forced.{forced_from, forced_list, unpaired_count}
use Rattle.matching_forced.proofs.Turns.{Proper, listed-one, list-half, list-absent}
use Rattle.kekule.specs.Kekule.{CallReply, call_reply, call_reply_of, roomy, call_on}
use Rattle.kekule.specs.Calls.{replies_of, turns}
use Rattle.kekule.proofs.Calls.{calls-enumerated}
use Rattle.kekule_forced.specs.Forced.{forced_of, ForcedCallReply, forced_call_reply, with_list, first_forced_on, forced_on}

-- P9: "Its answers and rows are equal to the plain engine's for every sound molecule and row handed in, where nothing lent is too short":
-- both are `call_on`, the definition (01: the book), for any tables, any row and either call, where the list is long enough
pub engines-agree : (pairs : List ℕ) → leb max_bonds (length pairs) ≡ true → (c : Call) (atoms bonds : List ℤ) (n m : ℕ) (row : List ℕ) → forced_on pairs c atoms bonds n m row ≡ call_on c atoms bonds n m row
unfolding forced_on call_on first_forced_on
engines-agree pairs e First atoms bonds n m row = rw e (go (roomy atoms bonds (length row)) (sound atoms bonds n m))
  where
    out_of : ForcedCallReply → CallReply
    out_of o = call_reply o.code o.row

    go : (x y : Bool)
        → out_of (pick (x && true) (pick y (with_list (row_call (matching_of atoms bonds n m) m First row) (forced_of atoms bonds n m) (length pairs)) (forced_call_reply 13 (replicate (length row) 0) 0 (replicate (length pairs) 0))) (forced_call_reply 1 row 0 pairs))
        ≡ pick x (pick y (call_reply_of (row_call (matching_of atoms bonds n m) m First row)) (call_reply 13 (replicate (length row) 0))) (call_reply 1 row)
    go true true = refl
    go true false = refl
    go false y = refl
engines-agree pairs e Next atoms bonds n m row = refl

-- DEMAND 3 of the second engine's two calls: for every list of calls, whatever list is lent at each, they give what the enumeration gives
turns_same : (f g : Call → List ℕ → CallReply) → ((c : Call) (row : List ℕ) → f c row ≡ g c row) → (cs : List Call) (row : List ℕ) → turns f cs row ≡ turns g cs row
unfolding turns
turns_same f g h [] row = refl
turns_same f g h (c ∷ cs) row = ap (λ (o : CallReply). o ∷ turns f cs o.row) (h c row) ∙ ap (λ (os : List CallReply). g c row ∷ os) (turns_same f g h cs (g c row).row)

pub calls-enumerated-forced : (lent : List ℕ → List ℕ) → ((row : List ℕ) → leb max_bonds (length (lent row)) ≡ true) → (cs : List Call) (atoms bonds : List ℤ) (n m : ℕ) (row : List ℕ)
    → turns (λ c r. forced_on (lent r) c atoms bonds n m r) cs row ≡ replies_of cs atoms bonds n m row
calls-enumerated-forced lent h cs atoms bonds n m row =
    turns_same (λ c r. forced_on (lent r) c atoms bonds n m r) (λ c r. call_on c atoms bonds n m r) (λ c r. engines-agree (lent r) (h r) c atoms bonds n m r) cs row
    ∙ calls-enumerated cs atoms bonds n m row

-- THE LIST of a molecule
module _ {atoms bonds : List ℤ} {n m : ℕ} (v : Valid atoms bonds n m) where
  abbrev G : List Bond
  G = graph_of bonds m

  abbrev flags : List ℕ
  flags = delocalized_flags atoms bonds n m

  graph_long : length G ≡ m
  graph_long = length-up_to (bond_of bonds) 0 m

  -- the ends of a bond differ
  proper : Proper G
  proper k l =
      let l' : k < m = omega (arith, graph_long) in
      let e : nth_bond G k ≡ bond_of bonds k = up_to-at (bond_of bonds) m k _ l' in
      λ q. omega (arith, (bond-row v k l').order, sym (ap (λ (b : Bond). b.end1) e) ∙ q ∙ ap (λ (b : Bond). b.end2) e)

  -- P9: "each pair is in every placement"
  pub forced-in-every : (i : ℕ) → i < length (forced_of atoms bonds n m) → (r : Row) → is_row m r ≡ true → matching_of atoms bonds n m r ≡ true → get_or r (get_or (forced_of atoms bonds n m) i 0) 0 ≡ 1
  unfolding forced_list
  forced-in-every i l r h t = go (some? (matchings (is_matching flags G) (length G))) l
    where
      go : (x : Bool) → i < length (pick x (forced_from G flags) []) → get_or r (get_or (pick x (forced_from G flags) []) i 0) 0 ≡ 1
      go true k = listed-one G flags i k r (rw graph_long h) t
      go false k = absurd (omega arith)

  -- P9: "the number is at most half the kept atoms"
  pub forced-half : length (forced_of atoms bonds n m) + length (forced_of atoms bonds n m) ≤ unpaired_count flags
  forced-half = list-half G flags proper

  -- P9: "both zeroed where there is no placement"
  pub forced-absent : matchings (matching_of atoms bonds n m) m ≡ [] → forced_of atoms bonds n m ≡ []
  forced-absent e = list-absent G flags (ap (matchings (matching_of atoms bonds n m)) graph_long ∙ e)
