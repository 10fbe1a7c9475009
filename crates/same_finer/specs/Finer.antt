-- auxiliary: keys of atoms that see the orders of two matrices and the atoms that were placed; no claim rests on how well they tell atoms apart
use Rattle.std.specs.Prelude.{ℕ, ◌*◌, ◌+◌, ◌^◌, ◌<◌, ◌≤◌, ◌/◌, ◌%◌, ◌≡◌, Bool, true, List, [], ◌∷◌, ◌++◌, length, get_or, set, drop, eqb}
use Rattle.loops.specs.Loop.{pick, run, up_to}
use Rattle.matching.specs.Enumeration.{passing}
use Rattle.same_model.specs.Same.{max_same, image, words}
use Rattle.same_place.specs.Place.{entry, good_from}
use Rattle.same_keys.specs.Keys.{prime, mixed, at}
use Rattle.same_open.specs.Open.{bit}

-- what a bond weighs, by its order: a cell's remainder by four
abbrev pub weight_of : ℕ → ℕ
weight_of y = pick (eqb y 0) 0 (pick (eqb y 1) 1 (pick (eqb y 2) 256 6561))

unfoldable pub weight : ℕ → ℕ
weight x = weight_of (x % 4)

-- the weights of a matrix, by place: none between an atom and itself
abbrev pub weight_cell : List ℕ → ℕ → ℕ
weight_cell o i = pick (eqb (i / max_same) (i % max_same)) 0 (weight (get_or o i 0))

-- a cell is that on the other side
abbrev pub mirror : List ℕ → ℕ → Bool
mirror w i = eqb (at w i) (at w (max_same * (i % max_same) + i / max_same))

-- a weight times a mixed key, both cut so that sums are low
unfoldable pub times_low : ℕ → ℕ → ℕ
times_low x y = (x % 8192) * (y % 2147483648)

abbrev pub add_weighed : List ℕ → List ℕ → ℕ → ℕ → ℕ → ℕ
add_weighed w mx a b s = s + times_low (entry w a b) (at mx b)

-- a set of atoms below n, in bits, with each to which a has a bond that weighs
pub record Near (w : List ℕ) (n a mask : ℕ) : Type 0 where
  pub low : mask < 2 ^ n
  pub held : (b : ℕ) → b < n → (entry w a b ≡ 0 → ⊥) → bit mask b ≡ 1

-- such a set for each of n atoms
abbrev pub Nears : List ℕ → ℕ → List ℕ → Type 0
Nears w n near = (a : ℕ) → a < n → Near w n a (get_or near a 0)

-- one round: each of n atoms adds the mixed keys of all, by their weights
unfoldable pub next_key : List ℕ → ℕ → List ℕ → ℕ → ℕ
next_key w n keys a = run (λ (b s : ℕ). s + times_low (entry w a b) (mixed (at keys b))) 0 n (at keys a % prime)

unfoldable pub rounded : List ℕ → ℕ → List ℕ → List ℕ
rounded w n keys = up_to (next_key w n keys) 0 n ++ drop n keys

abbrev pub rounded_again : List ℕ → ℕ → ℕ → List ℕ → List ℕ
rounded_again w n i keys = rounded w n keys

-- r rounds
unfoldable pub finer : List ℕ → ℕ → ℕ → List ℕ → List ℕ
finer w n r keys = run (rounded_again w n) 0 r keys

-- an atom told apart
abbrev pub told : List ℕ → ℕ → List ℕ
told keys v = set keys v (at keys v % prime + 1000003)

abbrev pub told_rounds : ℕ
told_rounds = 3

unfoldable pub finer_told : List ℕ → ℕ → List ℕ → ℕ → List ℕ
finer_told w n keys v = finer w n told_rounds (told keys v)

-- n numbers below n to which the search goes
pub record Whole (o1 o2 ok : List ℕ) (n : ℕ) (t : List ℕ) : Type 0 where
  pub size : length t ≡ n
  pub below : (a : ℕ) → a < n → image t a < n
  pub good : good_from o1 o2 ok [] t ≡ true

-- the weights of n atoms
pub record Weighed (o : List ℕ) (n : ℕ) (w : List ℕ) : Type 0 where
  pub at : (a b : ℕ) → a < n → b < n → entry w a b ≡ pick (eqb a b) 0 (weight (entry o a b))
  pub turned : (a b : ℕ) → a < n → b < n → entry w a b ≡ entry w b a

-- every such list that sends the atoms before `from` as ren says keeps the keys
pub record Keeps (o1 o2 ok : List ℕ) (n : ℕ) (ren : List ℕ) (from : ℕ) (k1 k2 : List ℕ) : Type 0 where
  pub long1 : n ≤ length k1
  pub long2 : n ≤ length k2
  pub kept : (t : List ℕ) → Whole o1 o2 ok n t → ((b : ℕ) → b < from → image t b ≡ image ren b) → (a : ℕ) → a < n → at k1 a ≡ at k2 (image t a)

-- the ways on after p with x next, and then k more
unfoldable pub ways_by : List ℕ → List ℕ → List ℕ → ℕ → List ℕ → ℕ → ℕ → List (List ℕ)
ways_by o1 o2 ok n p k x = passing (λ s. good_from o1 o2 ok p (x ∷ s)) (words n k)

-- atoms that are marked cannot come next
pub record Hopeless (o1 o2 ok : List ℕ) (n : ℕ) (p : List ℕ) (k : ℕ) (dead : List ℕ) : Type 0 where
  pub at : (x : ℕ) → x < n → get_or dead x 0 ≡ 1 → ways_by o1 o2 ok n p k x ≡ []
