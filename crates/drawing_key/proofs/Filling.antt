-- The keys that are filled in are the molecule's, and so is what their sums give. Assumes nothing.
use mathlib.Core.Path.{◌≡◌, refl, sym, ap, ◌∙◌}
use mathlib.Core.List.{List, ◌++◌}
use Prim.Native.Nat.{ℕ, zero, suc, ◌+◌, ◌*◌, ◌<◌, ◌≤◌, ◌%◌}
use native.Mathlib.Omega.{arith}
use lib.IntN.{ℤ}
use lib.ListN.{length, get_or, take, drop, replicate, get_or-replicate, length-replicate}
use lib.Seq.{length-take-le, get_or-take, ext_get_or}
use Rattle.loops.specs.Loop.{pick, run, up_to}
use Rattle.loops.proofs.Loops.{length-up_to, up_to-at, filled-part}
use Rattle.table.specs.Cells.{end1, end2}
use Rattle.table.specs.Valid.{Valid}
use Rattle.table_graph.specs.Graph.{bond_sum}
use Rattle.table_graph.specs.Built.{sum_flag, Wired}
use Rattle.table_graph.proofs.Graph.{up_to-ext}
use Rattle.same_model.specs.Same.{Molecule, molecule}
use Rattle.same_model.specs.Redrawing.{joined}
use Rattle.same_model.proofs.Totals.{run-total, total-same}
use Rattle.same_keys.specs.Keys.{prime, mixed, at, mixed_at, join_keys, spread, next_keys, refined, Low, highest}
use Rattle.same_keys.proofs.Low.{low-more, low_same, alike-low, low-append, low-drop, low-up_to}
use Rattle.same_keys.proofs.Mixing.{mixed-low}
use Rattle.same_keys.proofs.Spreading.{run-low, run_length, next-length, run_agree}
use Rattle.same_keys.proofs.Filling.{first-at, second_at, refined-agree, settled_at}
use Rattle.same_keys.proofs.Kept.{spread_at, next-at}
use Rattle.drawing_key.specs.Key.{cells_number, joined_sum, degree, hashed, first_key, next_round, key_rounds, atom_keys, word, half, mixed_again, summed, key_of}
use Rattle.drawing_key.specs.Filled.{sum_key, Even}
use Rattle.drawing_key.proofs.Joined.{joined-sum, joined-agree}

-- a new list is even
pub filled-even : (v n size : ℕ) → n ≤ size → Even v n (replicate size v)
filled-even v n size l = record { even = simp length-replicate; room = omega (arith, length-replicate {A = ℕ}) }

-- a cell of a list that is even
even-at : {v n : ℕ} {l : List ℕ} → Even v n l → (a : ℕ) → a < n → at l a ≡ v
even-at {v} {n} {l} w a i = ap (λ (t : List ℕ). get_or t a 0) w.even ∙ get_or-replicate (length l) a v 0 (omega (arith, w.room))

pub even-low : {v n : ℕ} {l : List ℕ} → Even v n l → (h : ℕ) → v ≤ h → Low l h
even-low {v} {l = l} w h u = low_same w.even (alike-low (length l) v h u)

-- rounds over the bonds are rounds over the atoms that are joined
module _ (x : Molecule) (v : Valid x.atoms x.bonds x.n x.m) where
  abbrev next : List ℕ → List ℕ
  next keys = next_keys (end1 x.bonds) (end2 x.bonds) x.m x.n keys

  next-taken : (keys : List ℕ) → x.n ≤ length keys → take x.n (next keys) ≡ next_round x (take x.n keys)
  unfolding next_round
  next-taken keys u =
      ext_get_or 0 (take x.n (next keys)) (up_to gains 0 x.n) (size ∙ sym (length-up_to gains 0 x.n))
      (λ a l. let i : a < x.n = omega (arith, size) in
      get_or-take x.n (next keys) a 0 i
      ∙ next-at x v keys a (omega arith)
      ∙ (λ j. sym (get_or-take x.n keys a 0 i) j + (sym (joined-sum x (mixed_at keys) a) ∙ joined-agree x (mixed_at keys) (mixed_at (take x.n keys)) (λ b h. ap mixed (sym (get_or-take x.n keys b 0 h))) a) j)
      ∙ sym (up_to-at gains x.n a 0 i))
    where
      gains : ℕ → ℕ
      gains a = at (take x.n keys) a + joined_sum x (mixed_at (take x.n keys)) a

      size : length (take x.n (next keys)) ≡ x.n
      size = length-take-le x.n (next keys) (omega (arith, next-length (end1 x.bonds) (end2 x.bonds) x.m x.n keys))

  rounds-taken : (k r : ℕ) (keys : List ℕ) → x.n ≤ length keys
      → take x.n (run (λ (i : ℕ) (s : List ℕ). next s) k r keys) ≡ run (λ (i : ℕ) (s : List ℕ). next_round x s) k r (take x.n keys)
  unfolding run
  rounds-taken k zero keys u = refl
  rounds-taken k (suc r) keys u =
      rounds-taken (suc k) r (next keys) (omega (arith, next-length (end1 x.bonds) (end2 x.bonds) x.m x.n keys))
      ∙ ap (run (λ (i : ℕ) (s : List ℕ). next_round x s) (suc k) r) (next-taken keys u)

hashed-low : (cells sum degree : ℕ) → hashed cells sum degree < prime
unfolding hashed
hashed-low cells sum degree = mixed-low (mixed cells + sum * 1000 + degree)

-- the keys of valid tables
module _ {atoms bonds : List ℤ} {n m : ℕ} (v : Valid atoms bonds n m) {ea eb el : List ℕ} (w : Wired bonds m ea eb el) where
  abbrev mol : Molecule
  mol = molecule atoms bonds n m

  module _ {ones keys₀ keys₁ : List ℕ} (o : Even 1 n ones) (z : Even 0 n keys₀) (p : keys₁ ≡ run (spread (at ea) (at eb) ones) 0 m keys₀) where
    pub degrees-low : Low keys₁ (highest 1)
    degrees-low = low_same p (low-more (run-low (at ea) (at eb) ones (even-low o prime (omega arith)) 0 m 0 keys₀ (even-low z 0 (omega arith))) (omega (arith, v.bonds_few)))

    pub degrees-room : n ≤ length keys₁
    degrees-room = omega (arith, ap length p, run_length (at ea) (at eb) ones 0 m keys₀, z.room)

    degree-at : (a : ℕ) → a < n → at keys₁ a ≡ degree mol a
    unfolding join_keys
    degree-at a l =
        ap (λ (s : List ℕ). at s a)
        (p ∙ run_agree (spread (at ea) (at eb) ones) (spread (end1 bonds) (end2 bonds) ones) 0 m keys₀ (λ k s i. λ j. join_keys ones (first-at w k (omega arith) j) (second_at w k (omega arith) j) s))
        ∙ spread_at mol v ones keys₀ a (omega (arith, z.room))
        ∙ omega (arith, even-at z a l)
        ∙ total-same (λ b. pick (joined mol a b) (at ones b) 0) (λ b. pick (joined mol a b) 1 0) n (λ b i. ap (λ (s : ℕ). pick (joined mol a b) s 0) (even-at o b i))
        ∙ sym (joined-sum mol (λ b. 1) a)

    -- the keys that atoms begin with are low
    pub first-low : (sums flags : List ℕ) {keys₂ : List ℕ} → keys₂ ≡ up_to (sum_key atoms sums flags keys₁) 0 n ++ drop n keys₁ → Low keys₂ (highest 1)
    first-low sums flags q =
        low_same q
        (low-append (up_to (sum_key atoms sums flags keys₁) 0 n) (drop n keys₁) (highest 1)
        (low-up_to (sum_key atoms sums flags keys₁) n (highest 1) (λ a. omega (arith, hashed-low (cells_number atoms a) (at sums a + at flags a) (at keys₁ a))))
        (low-drop n keys₁ (highest 1) degrees-low))

    module _ {sums flags : List ℕ} (flags₀ : List ℕ) (h : ℕ) (s : sums ≡ up_to (bond_sum bonds m) 0 h) (u : n ≤ h) (g : flags ≡ up_to (sum_flag atoms sums) 0 n ++ drop n flags₀) {keys₂ : List ℕ} (q : keys₂ ≡ up_to (sum_key atoms sums flags keys₁) 0 n ++ drop n keys₁) where
      first-at-all : (a : ℕ) → a < n → sum_key atoms sums flags keys₁ a ≡ first_key mol a
      first-at-all a l = λ i. hashed (cells_number atoms a) (settled_at atoms bonds n m h flags₀ s g u a l i) (degree-at a l i)

      pub keys_filled : n ≤ length keys₂ → {keys₃ : List ℕ} → keys₃ ≡ refined (at ea) (at eb) m n key_rounds keys₂ → take n keys₃ ≡ atom_keys mol
      unfolding atom_keys refined
      keys_filled room r =
          ap (take n) (r ∙ refined-agree (at ea) (at eb) (end1 bonds) (end2 bonds) m n (first-at w) (second_at w) key_rounds keys₂)
          ∙ rounds-taken mol v 0 key_rounds keys₂ room
          ∙ ap (run (λ (i : ℕ) (s : List ℕ). next_round mol s) 0 key_rounds)
          (filled-part (sum_key atoms sums flags keys₁) n keys₁ q ∙ up_to-ext (sum_key atoms sums flags keys₁) (first_key mol) 0 n (λ j l. first-at-all j (omega arith)))

-- only the first keys count in the sums
half-taken : (f : ℕ → ℕ) (keys : List ℕ) (n : ℕ) → half f keys n ≡ half f (take n keys) n
half-taken f keys n =
    ap (λ (s : ℕ). s % word)
    (run-total (λ a. f (at keys a)) n
    ∙ total-same (λ a. f (at keys a)) (λ a. f (at (take n keys) a)) n (λ a l. ap f (sym (get_or-take n keys a 0 l)))
    ∙ sym (run-total (λ a. f (at (take n keys) a)) n))

pub key-summed : (x : Molecule) (keys : List ℕ) → take x.n keys ≡ atom_keys x → summed keys x.n ≡ key_of x
unfolding summed
key-summed x keys e = (λ i. half-taken mixed_again keys x.n i * word + half-taken mixed keys x.n i) ∙ ap (λ (k : List ℕ). half mixed_again k x.n * word + half mixed k x.n) e
