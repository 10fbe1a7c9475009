-- A round over the bonds: how high keys get, and what an atom's key becomes. Assumes nothing.
use mathlib.Core.Path.{◌≡◌, refl, sym, ap, ◌∙◌}
use mathlib.Core.List.{List, ◌++◌}
use Prim.Native.Nat.{ℕ, zero, suc, ◌+◌, ◌*◌, ◌<◌, ◌≤◌}
use native.Mathlib.Omega.{arith}
use lib.ListN.{length, drop, length-set}
use Rattle.loops.specs.Loop.{run, up_to}
use Rattle.loops.proofs.Loops.{Ran, ran-start, ran-step, ran-end, up_to-at, filled_at}
use Rattle.table.specs.Limits.{max_bonds}
use Rattle.table_graph.specs.Built.{bump}
use Rattle.same_keys.specs.Keys.{prime, at, mixed_at, join_keys, spread, next_keys, refined, Low, highest}
use Rattle.same_keys.proofs.Low.{bump-low, low-more, low_same, low-append, low-drop, low-up_to}
use Rattle.same_keys.proofs.Mixing.{mixed-low}

pub join-length : (mx : List ℕ) (a b : ℕ) (keys : List ℕ) → length (join_keys mx a b keys) ≡ length keys
unfolding join_keys
join-length mx a b keys = simp length-set

pub join-low : (mx : List ℕ) (a b h : ℕ) {keys : List ℕ} → Low mx prime → Low keys h → Low (join_keys mx a b keys) (h + 2 * prime)
unfolding join_keys
join-low mx a b h {keys} u w = low-more (bump-low (bump keys a (at mx b)) b (at mx a) (h + at mx b) (bump-low keys a (at mx b) h w)) (omega (arith, u.at a, u.at b))

-- after the first of the two, the second still fits
pub half-low : (mx : List ℕ) (a b h : ℕ) {keys : List ℕ} → Low mx prime → Low keys h → Low (bump keys a (at mx b)) (h + prime)
half-low mx a b h {keys} u w = low-more (bump-low keys a (at mx b) h w) (omega (arith, u.at b))

-- the loop over the bonds stands at k
pub record Spreading (e f : ℕ → ℕ) (mx keys₀ : List ℕ) (m h k : ℕ) (keys : List ℕ) : Type 0 where
  pub ran : Ran (spread e f mx) keys₀ m k keys
  pub low : Low keys (h + 2 * prime * k)
  pub room : length keys ≡ length keys₀

pub spreading-start : {e f : ℕ → ℕ} {mx keys : List ℕ} {m h : ℕ} → Low keys h → Spreading e f mx keys m h 0 keys
spreading-start w = record { ran = ran-start; low = low-more w (omega arith); room = refl }

module _ {e f : ℕ → ℕ} {mx keys₀ : List ℕ} {m h k : ℕ} {keys : List ℕ} (w : Spreading e f mx keys₀ m h k keys) where
  pub spreading-step : Low mx prime → k < m → {a b : ℕ} → a ≡ e k → b ≡ f k → {keys' : List ℕ} → keys' ≡ join_keys mx a b keys → Spreading e f mx keys₀ m h (k + 1) keys'
  spreading-step u l {a} {b} p q {keys'} r =
      record {
        ran = ran-step w.ran keys' l (r ∙ (λ i. join_keys mx (p i) (q i) keys));
        low = rw r (low-more (join-low mx a b (h + 2 * prime * k) u w.low) (omega arith));
        room = ap length r ∙ join-length mx a b keys ∙ w.room;
      }

  pub spreading-end : m ≤ k → keys ≡ run (spread e f mx) 0 m keys₀
  spreading-end h = ran-end w.ran h

-- keys stay low
pub run-low : (e f : ℕ → ℕ) (mx : List ℕ) → Low mx prime → (k j h : ℕ) (keys : List ℕ) → Low keys h → Low (run (spread e f mx) k j keys) (h + 2 * prime * j)
unfolding run
run-low e f mx u k zero h keys w = low-more w (omega arith)
run-low e f mx u k (suc j) h keys w = low-more (run-low e f mx u (suc k) j (h + 2 * prime) (join_keys mx (e k) (f k) keys) (join-low mx (e k) (f k) h u w)) (omega arith)

pub run_length : (e f : ℕ → ℕ) (mx : List ℕ) (k j : ℕ) (keys : List ℕ) → length (run (spread e f mx) k j keys) ≡ length keys
unfolding run
run_length e f mx k zero keys = refl
run_length e f mx k (suc j) keys = run_length e f mx (suc k) j (join_keys mx (e k) (f k) keys) ∙ join-length mx (e k) (f k) keys

mixed-all-low : (keys : List ℕ) (n : ℕ) → Low (up_to (mixed_at keys) 0 n) prime
mixed-all-low keys n = low-up_to (mixed_at keys) n prime (λ a. omega (arith, mixed-low (at keys a)))

-- the mixed keys of n atoms, in a list of low numbers
pub mixed-low-to : (keys : List ℕ) (n : ℕ) {mx₀ mx : List ℕ} → Low mx₀ prime → mx ≡ up_to (mixed_at keys) 0 n ++ drop n mx₀ → Low mx prime
mixed-low-to keys n {mx₀} w e = low_same e (low-append (up_to (mixed_at keys) 0 n) (drop n mx₀) prime (mixed-all-low keys n) (low-drop n mx₀ prime w))

pub next_low : (e f : ℕ → ℕ) (m n r : ℕ) (keys : List ℕ) → m ≤ max_bonds → Low keys (highest r) → Low (next_keys e f m n keys) (highest (r + 1))
unfolding next_keys
next_low e f m n r keys l w = low-more (run-low e f (up_to (mixed_at keys) 0 n) (mixed-all-low keys n) 0 m (highest r) keys w) (omega arith)

pub next-length : (e f : ℕ → ℕ) (m n : ℕ) (keys : List ℕ) → length (next_keys e f m n keys) ≡ length keys
unfolding next_keys
next-length e f m n keys = run_length e f (up_to (mixed_at keys) 0 n) 0 m keys

-- loops whose steps agree
pub run_agree : {S : Type 0} (p q : ℕ → S → S) (k m : ℕ) (s : S) → ((j : ℕ) (s : S) → j < k + m → p j s ≡ q j s) → run p k m s ≡ run q k m s
unfolding run
run_agree p q k zero s h = refl
run_agree p q k (suc m) s h = rw (h k s (omega arith)) (run_agree p q (suc k) m (q k s) (λ j s l. h j s (omega arith)))

-- what stands past the mixed keys does not count
pub as-next : (e f : ℕ → ℕ) (m n : ℕ) (keys mx₀ : List ℕ) {mx keys' : List ℕ} → ((k : ℕ) → k < m → e k < n) → ((k : ℕ) → k < m → f k < n) → mx ≡ up_to (mixed_at keys) 0 n ++ drop n mx₀
    → keys' ≡ run (spread e f mx) 0 m keys → keys' ≡ next_keys e f m n keys
unfolding next_keys join_keys
as-next e f m n keys mx₀ {mx} u w p q =
    q
    ∙ run_agree (spread e f mx) (spread e f (up_to (mixed_at keys) 0 n)) 0 m keys
    (λ k s l. λ i. bump (bump s (e k) (same (f k) (w k (omega arith)) i)) (f k) (same (e k) (u k (omega arith)) i))
  where
    same : (a : ℕ) → a < n → at mx a ≡ at (up_to (mixed_at keys) 0 n) a
    same a l = filled_at (mixed_at keys) n a 0 mx (drop n mx₀) p l ∙ sym (up_to-at (mixed_at keys) n a 0 l)

pub refined-low : (e f : ℕ → ℕ) (m n r s : ℕ) (keys : List ℕ) → m ≤ max_bonds → Low keys (highest s) → Low (refined e f m n r keys) (highest (s + r))
unfolding refined run
refined-low e f m n r s keys l w = go 0 r s keys w
  where
    go : (k r s : ℕ) (keys : List ℕ) → Low keys (highest s) → Low (run (λ (i : ℕ) (u : List ℕ). next_keys e f m n u) k r keys) (highest (s + r))
    go k zero s keys w = low-more w (omega arith)
    go k (suc r) s keys w = low-more (go (suc k) r (s + 1) (next_keys e f m n keys) (next_low e f m n s keys l w)) (omega arith)

-- the loop over the rounds stands at i
pub record Refining (e f : ℕ → ℕ) (m n r : ℕ) (mx₀ keys₀ : List ℕ) (i : ℕ) (mx keys : List ℕ) : Type 0 where
  pub ran : Ran (λ (i : ℕ) (s : List ℕ). next_keys e f m n s) keys₀ r i keys
  pub low : Low keys (highest (34 + i))
  pub room : length keys ≡ length keys₀
  pub mixed-low : Low mx prime
  pub mixed-room : length mx ≡ length mx₀

pub refining-start : {e f : ℕ → ℕ} {m n r : ℕ} {mx keys : List ℕ} → Low mx prime → Low keys (highest 34) → Refining e f m n r mx keys 0 mx keys
refining-start u w = record { ran = ran-start; low = low-more w (omega arith); room = refl; mixed-low = u; mixed-room = refl }

module _ {e f : ℕ → ℕ} {m n r i : ℕ} {mx₀ keys₀ mx keys : List ℕ} (w : Refining e f m n r mx₀ keys₀ i mx keys) where
  pub refining-step : m ≤ max_bonds → i < r → {mx' keys' : List ℕ} → keys' ≡ next_keys e f m n keys → Low mx' prime → length mx' ≡ length mx → Refining e f m n r mx₀ keys₀ (i + 1) mx' keys'
  refining-step l h {keys' = keys'} q u z =
      record {
        ran = ran-step w.ran keys' h q;
        low = rw q (low-more (next_low e f m n (34 + i) keys l w.low) (omega arith));
        room = ap length q ∙ next-length e f m n keys ∙ w.room;
        mixed-low = u;
        mixed-room = z ∙ w.mixed-room;
      }

  pub refining-end : r ≤ i → keys ≡ refined e f m n r keys₀
  unfolding refined
  refining-end h = ran-end w.ran h
