-- The keys that are filled in are the molecule's. Assumes nothing.
use mathlib.Core.Path.{◌≡◌, sym, ap, ◌∙◌}
use mathlib.Core.List.{List, ◌++◌}
use Prim.Native.Nat.{ℕ, ◌+◌, ◌<◌, ◌≤◌}
use native.Mathlib.Omega.{arith}
use native.Mathlib.Nat.{div-add-mod'}
use lib.IntN.{ℤ}
use lib.ListN.{length, get_or, drop, replicate, length-replicate}
use lib.Seq.{get_or-take}
use Rattle.loops.specs.Loop.{up_to}
use Rattle.loops.proofs.Loops.{up_to-at, filled_at}
use Rattle.table.specs.Limits.{CHARGE}
use Rattle.table.specs.Cells.{atom_cell, element, selected, hydrogens, end1, end2}
use Rattle.table.specs.Valid.{Valid}
use Rattle.table.proofs.Valid.{first-end, second-end}
use Rattle.valence.specs.Valence.{delocalized}
use Rattle.table_graph.specs.Graph.{bond_sum, flag, delocalized_flag}
use Rattle.table_graph.specs.Built.{sum_flag, Wired}
use Rattle.table_graph.proofs.Graph.{up_to-ext}
use Rattle.same_model.specs.Same.{max_same, molecule}
use Rattle.same_model.specs.Redrawing.{settled_sum}
use Rattle.same_keys.specs.Keys.{prime, first_key, sum_key, at, filled_to, mixed_at, join_keys, spread, next_keys, rounds, refined, keys_of, Low, Inside}
use Rattle.same_keys.proofs.Low.{low_same, low-filled}
use Rattle.same_keys.proofs.Mixing.{first-key-low}
use Rattle.same_keys.proofs.Spreading.{run_agree}

pub half-small : (n : ℕ) → n ≤ max_same → rounds n ≤ 40
half-small n l = let h = div-add-mod' n 2 in omega arith

module _ (e f e' f' : ℕ → ℕ) (m n : ℕ) (h : (k : ℕ) → k < m → e k ≡ e' k) (g : (k : ℕ) → k < m → f k ≡ f' k) where
  next_agree : (keys : List ℕ) → next_keys e f m n keys ≡ next_keys e' f' m n keys
  unfolding next_keys
  next_agree keys =
      let mx = up_to (mixed_at keys) 0 n in
      run_agree (spread e f mx) (spread e' f' mx) 0 m keys (λ k s l. λ i. join_keys mx (h k (omega arith) i) (g k (omega arith) i) s)

  pub refined-agree : (r : ℕ) (keys : List ℕ) → refined e f m n r keys ≡ refined e' f' m n r keys
  unfolding refined
  refined-agree r keys = run_agree (λ (i : ℕ) (s : List ℕ). next_keys e f m n s) (λ (i : ℕ) (s : List ℕ). next_keys e' f' m n s) 0 r keys (λ k s l. next_agree s)

-- the ends that were filled in are the bonds'
module _ {bonds : List ℤ} {m : ℕ} {ea eb el : List ℕ} (w : Wired bonds m ea eb el) where
  pub first-at : (k : ℕ) → k < m → at ea k ≡ end1 bonds k
  first-at k l = sym (get_or-take m ea k 0 l) ∙ ap (λ (t : List ℕ). get_or t k 0) w.first_part ∙ up_to-at (end1 bonds) m k 0 l

  pub second_at : (k : ℕ) → k < m → at eb k ≡ end2 bonds k
  second_at k l = sym (get_or-take m eb k 0 l) ∙ ap (λ (t : List ℕ). get_or t k 0) w.second_part ∙ up_to-at (end2 bonds) m k 0 l

pub inside : {atoms bonds : List ℤ} {n m : ℕ} → Valid atoms bonds n m → {ea eb el : List ℕ} → Wired bonds m ea eb el → m ≤ length ea → m ≤ length eb → Inside ea eb m n
inside v w r s =
    record {
      few = v.bonds_few;
      firsts = r;
      seconds = s;
      first = λ k l. omega (arith, first-at w k l, first-end v k l);
      second = λ k l. omega (arith, second_at w k l, second-end v k l);
    }

pub inside-more : {ea eb : List ℕ} {m h k : ℕ} → Inside ea eb m h → h ≤ k → Inside ea eb m k
inside-more w l =
    record {
      few = w.few;
      firsts = w.firsts;
      seconds = w.seconds;
      first = λ j i. omega (arith, w.first j i);
      second = λ j i. omega (arith, w.second j i);
    }

-- the settled sums, from the bond sums and the flags
module _ (atoms bonds : List ℤ) (n m h : ℕ) {sums flags : List ℕ} (flags₀ : List ℕ) (s : sums ≡ up_to (bond_sum bonds m) 0 h) (g : flags ≡ up_to (sum_flag atoms sums) 0 n ++ drop n flags₀) (u : n ≤ h) where
  sum-at : (a : ℕ) → a < n → get_or sums a 0 ≡ bond_sum bonds m a
  sum-at a l = ap (λ (t : List ℕ). get_or t a 0) s ∙ up_to-at (bond_sum bonds m) h a 0 (omega arith)

  flag_at : (a : ℕ) → a < n → get_or flags a 0 ≡ delocalized_flag atoms bonds m a
  flag_at a l =
      filled_at (sum_flag atoms sums) n a 0 flags (drop n flags₀) g l
      ∙ ap (λ (u : ℕ). flag (delocalized (element atoms a) (selected atoms a) (atom_cell atoms a CHARGE) u (hydrogens atoms a))) (sum-at a l)

  pub settled_at : (a : ℕ) → a < n → get_or sums a 0 + get_or flags a 0 ≡ settled_sum (molecule atoms bonds n m) a
  settled_at a l = λ i. sum-at a l i + flag_at a l i

module _ {atoms bonds : List ℤ} {n m : ℕ} (v : Valid atoms bonds n m) (few : n ≤ max_same) {ea eb el : List ℕ} (w : Wired bonds m ea eb el) where
  module _ {sums flags keys₀ keys₁ : List ℕ} (flags₀ : List ℕ) (s : sums ≡ up_to (bond_sum bonds m) 0 (length (replicate {A = ℕ} max_same 0))) (g : flags ≡ up_to (sum_flag atoms sums) 0 n ++ drop n flags₀) (z : keys₀ ≡ replicate max_same 0)
      (k : keys₁ ≡ up_to (sum_key atoms sums flags) 0 n ++ drop n keys₀) where
    first-keys : keys₁ ≡ filled_to (sum_key atoms sums flags) n
    first-keys = k ∙ ap (λ (t : List ℕ). up_to (sum_key atoms sums flags) 0 n ++ drop n t) z

    pub first-low : Low keys₁ prime
    first-low = low_same first-keys (low-filled (sum_key atoms sums flags) n prime (λ a. omega (arith, first-key-low atoms a (get_or sums a 0 + get_or flags a 0))))

    key-at : (a : ℕ) → a < n → sum_key atoms sums flags a ≡ first_key atoms a (settled_sum (molecule atoms bonds n m) a)
    key-at a l = ap (first_key atoms a) (settled_at atoms bonds n m (length (replicate {A = ℕ} max_same 0)) flags₀ s g (omega (arith, length-replicate {A = ℕ} max_same 0)) a l)

    pub keys_filled : {keys₂ : List ℕ} → keys₂ ≡ refined (at ea) (at eb) m n (rounds n) keys₁ → keys₂ ≡ keys_of (molecule atoms bonds n m)
    unfolding keys_of
    keys_filled r =
        r ∙ ap (refined (at ea) (at eb) m n (rounds n)) (first-keys ∙ ap (λ (t : List ℕ). t ++ drop n (replicate max_same 0)) (up_to-ext (sum_key atoms sums flags) (λ a. first_key atoms a (settled_sum (molecule atoms bonds n m) a)) 0 n (λ j l. key-at j (omega arith))))
        ∙ refined-agree (at ea) (at eb) (end1 bonds) (end2 bonds) m n (first-at w) (second_at w) (rounds n) (filled_to (λ a. first_key atoms a (settled_sum (molecule atoms bonds n m) a)) n)
