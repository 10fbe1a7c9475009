-- The last bond at each atom: filling the table, and leaving a branch where an atom without a partner has no bond left. Assumes nothing.
use mathlib.Core.Path.{◌≡◌, refl, sym, ap, subst, ◌∙◌}
use mathlib.Core.Bool.{Bool, true, false, ◌&&◌, ◌||◌}
use mathlib.Core.List.{List, [], ◌∷◌}
use Prim.Native.Nat.{ℕ, zero, suc, ◌+◌, ◌-◌, ◌≤◌, ◌<◌}
use native.Mathlib.Omega.{arith}
use native.Mathlib.Decide.{ℕ_discrete}
use lib.Dec.{eqb}
use lib.ListN.{length, get_or, set, length-set}
use lib.Seq.{get_or-set_same, get_or-set_other}
use borrow.Author.Tests.{eqb-true, eqb-false}
use Rattle.loops.specs.Loop.{pick}
use Rattle.matching.specs.Enumeration.{Row, rows}
use Rattle.matching.specs.Graph.{flagged, touches, none_flagged}
use Rattle.matching.specs.Model.{BondTables, pairs_up, bonds_from, table_bond, free_at, mark_at, all_from}
use Rattle.matching.proofs.Enumeration.{passing-same, passing-none}
use Rattle.matching.proofs.Graph.{never, not-true, all_none, or_cases, pair-other, free-less}
use Rattle.matching_search.proofs.Choice.{bonds-step, bonds-end}
use Rattle.matching_engine.specs.Tried.{Lasts, noted, Stranded}

-- the ends of the bond k have the number x, the other atoms what they had
mark-touched : (ea eb el last : List ℕ) (k x v : ℕ) → v < length last → touches (table_bond ea eb el k) v ≡ true → get_or (mark_at ea eb last k x) v 0 ≡ x
mark-touched ea eb el last k x v l t = go (ℕ_discrete v (get_or eb k 0))
  where
    go : Dec (v ≡ get_or eb k 0) → get_or (mark_at ea eb last k x) v 0 ≡ x
    go (yes e) = rw (← e) (get_or-set_same (set last (get_or ea k 0) x) v x 0 (simp length-set l))
    go (no n) = or_cases (eqb (get_or ea k 0) v) (eqb (get_or eb k 0) v) t
        (λ a. get_or-set_other (set last (get_or ea k 0) x) (get_or eb k 0) v x 0 n ∙ rw (eqb-true (get_or ea k 0) v a) (get_or-set_same last v x 0 l))
        (λ b. absurd (n (sym (eqb-true (get_or eb k 0) v b))))

or-false : (a b : Bool) → (a || b) ≡ false → (a ≡ false) × (b ≡ false)
or-false true b h = (cc, cc)
or-false false b h = (refl, h)

mark-other : (ea eb el last : List ℕ) (k x v : ℕ) → touches (table_bond ea eb el k) v ≡ false → get_or (mark_at ea eb last k x) v 0 ≡ get_or last v 0
mark-other ea eb el last k x v t =
    let q = or-false (eqb (get_or ea k 0) v) (eqb (get_or eb k 0) v) t in
    get_or-set_other (set last (get_or ea k 0) x) (get_or eb k 0) v x 0 (λ e. eqb-false (get_or eb k 0) v q.1 (sym e))
    ∙ get_or-set_other last (get_or ea k 0) v x 0 (λ e. eqb-false (get_or ea k 0) v q.0 (sym e))

-- the table stands at the bond j
pub record Noting (ea eb el need : List ℕ) (j : ℕ) (last : List ℕ) : Type 0 where
  pub upto : j ≤ length ea
  pub none : (v i : ℕ) → v < length last → get_or last v 0 ≤ i → i < j → free_at ea eb el need i ≡ true → touches (table_bond ea eb el i) v ≡ false

pub note-start : {ea eb el need last : List ℕ} → Noting ea eb el need 0 last
note-start = record { upto = omega arith; none = λ v i l h k f. absurd (omega arith) }

pub note_step : {ea eb el need last last' : List ℕ} {j : ℕ} → Noting ea eb el need j last → j < length ea → last' ≡ noted ea eb el need j last → Noting ea eb el need (j + 1) last'
note_step {ea} {eb} {el} {need} {last} {last'} {j} n h e = subst (Noting ea eb el need (j + 1)) (sym e) (go (free_at ea eb el need j) refl)
  where
    at : (i : ℕ) → i < j + 1 → (i ≡ j → ⊥) → i < j
    at i k m = omega (arith, m)

    chosen : (v i : ℕ) → v < length (mark_at ea eb last j (j + 1)) → get_or (mark_at ea eb last j (j + 1)) v 0 ≤ i → i < j + 1 → free_at ea eb el need i ≡ true
        → Dec (i ≡ j) → (t : Bool) → touches (table_bond ea eb el j) v ≡ t → touches (table_bond ea eb el i) v ≡ false
    chosen v i l g k f d true t =
        let s : v < length last = simp (length-set, length-set) at l in
        let w = mark-touched ea eb el last j (j + 1) v s t in
        absurd (omega arith)
    chosen v i l g k f (yes q) false t = rw q t
    chosen v i l g k f (no q) false t =
        let s : v < length last = simp (length-set, length-set) at l in
        let w = mark-other ea eb el last j (j + 1) v t in
        n.none v i s (omega arith) (omega (arith, q)) f

    left : free_at ea eb el need j ≡ false → (v i : ℕ) → v < length last → get_or last v 0 ≤ i → i < j + 1 → free_at ea eb el need i ≡ true → Dec (i ≡ j) → touches (table_bond ea eb el i) v ≡ false
    left u v i l g k f (yes q) = absurd (never (free_at ea eb el need j) (ap (free_at ea eb el need) (sym q) ∙ f) u)
    left u v i l g k f (no q) = n.none v i l g (omega (arith, q)) f

    go : (b : Bool) → free_at ea eb el need j ≡ b → Noting ea eb el need (j + 1) (pick b (mark_at ea eb last j (j + 1)) last)
    go true u = record { upto = omega arith; none = λ v i l g k f. chosen v i l g k f (ℕ_discrete i j) (touches (table_bond ea eb el j) v) refl }
    go false u = record { upto = omega arith; none = λ v i l g k f. left u v i l g k f (ℕ_discrete i j) }

pub note-end : {ea eb el need last : List ℕ} {j : ℕ} → Noting ea eb el need j last → length ea ≤ j → Lasts ea eb el need last
note-end n h = record { none = λ v i l g k f. n.none v i l g (omega arith) f }

-- the table serves while atoms find partners
pub lasts-marked : {ea eb el need last mid : List ℕ} (k : ℕ) → Lasts ea eb el need last → mid ≡ mark_at ea eb need k 0 → Lasts ea eb el mid last
lasts-marked {ea} {eb} {el} {need} {last} k s e = subst (λ (l : List ℕ). Lasts ea eb el l last) (sym e)
    (record { none = λ v j l g h f. s.none v j l g h (free-less (table_bond ea eb el k) (table_bond ea eb el j) need f) })

pub lasts-at : {ea eb el need last need' : List ℕ} → Lasts ea eb el need last → need' ≡ need → Lasts ea eb el need' last
lasts-at {ea} {eb} {el} {last = last} s e = subst (λ (l : List ℕ). Lasts ea eb el l last) (sym e) s

-- an atom without a partner that no free bond from k on touches: there is no matching
module _ (ea eb el : List ℕ) (v : ℕ) (second : length eb ≡ length ea) (third : length el ≡ length ea) where
  abbrev Apart : List ℕ → ℕ → Type 0
  Apart need k = (j : ℕ) → k ≤ j → j < length ea → free_at ea eb el need j ≡ true → touches (table_bond ea eb el j) v ≡ false

  wanting : (need : List ℕ) → flagged need v ≡ true → none_flagged need ≡ false
  wanting need f = not-true (none_flagged need) (λ e. never (flagged need v) f (all_none need e v))

  lonely : (n k : ℕ) (need : List ℕ) → length ea - k ≡ n → flagged need v ≡ true → Apart need k → (r : Row) → pairs_up (bonds_from ea eb el k) need r ≡ false
  unfolding pairs_up
  lonely zero k need d f a r = rw (bonds-end ea eb el k (omega arith)) (wanting need f)
  lonely (suc n) k need d f a [] = rw (bonds-step ea eb el k (omega arith) (omega arith) (omega arith)) (wanting need f)
  lonely (suc n) k need d f a (x ∷ r) =
      rw (bonds-step ea eb el k (omega arith) (omega arith) (omega arith))
      (go (eqb x 0) (free_at ea eb el need k) refl
      (lonely n (k + 1) need (omega arith) f (λ j l. a j (omega arith)) r)
      (λ u. lonely n (k + 1) (mark_at ea eb need k 0) (omega arith)
      (pair-other (table_bond ea eb el k) need v (a k (omega arith) (omega arith) u) ∙ f)
      (λ j l h w. a j (omega arith) h (free-less (table_bond ea eb el k) (table_bond ea eb el j) need w)) r))
    where
      go : (z u : Bool) → free_at ea eb el need k ≡ u → pairs_up (bonds_from ea eb el (k + 1)) need r ≡ false
          → (free_at ea eb el need k ≡ true → pairs_up (bonds_from ea eb el (k + 1)) (mark_at ea eb need k 0) r ≡ false)
          → pick z (pairs_up (bonds_from ea eb el (k + 1)) need r) (u && pairs_up (bonds_from ea eb el (k + 1)) (mark_at ea eb need k 0) r) ≡ false
      go true u e p q = p
      go false true e p q = q e
      go false false e p q = refl

-- nothing is left behind a stranded atom
pub stranded-none : {ea eb el need last : List ℕ} {k v from : ℕ} → BondTables ea eb el need k → Lasts ea eb el need last → Stranded need last v from → all_from ea eb el need from ≡ []
stranded-none {ea} {eb} {el} {need} {v = v} {from = from} t s d =
    passing-same (pairs_up (bonds_from ea eb el from) need) (λ r. false)
    (lonely ea eb el v t.second t.third (length ea - from) from need refl d.wants (λ j l h f. s.none v j d.there (omega (arith, d.late)) h f))
    (rows (length ea - from)) ∙ passing-none (rows (length ea - from))
