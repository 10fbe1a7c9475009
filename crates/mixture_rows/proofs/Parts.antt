-- Loops over m + n numbers: what the first m give, and then what the other n give. Assumes nothing.
use Prim.Native.Nat.{ℕ, zero, suc, ◌+◌, ◌<◌}
use native.Mathlib.Nat.{zero-add, add-zero, suc-add}
use native.Mathlib.Omega.{arith}
use mathlib.Core.Path.{◌≡◌, refl, sym, ap, ◌∙◌}
use mathlib.Core.Bool.{Bool, true, false, ◌&&◌}
use mathlib.Core.List.{List, ◌∷◌, ◌++◌}
use Rattle.loops.specs.Loop.{pick, each, how_many, run, up_to}

pub next : (x j : ℕ) → suc x + j ≡ x + suc j
next x j = omega arith

-- ---- a loop from k on, and one from l on that does the same
each-alike : (p q : ℕ → Bool) (k l m : ℕ) → ((j : ℕ) → j < m → p (k + j) ≡ q (l + j)) → each p k m ≡ each q l m
unfolding each
each-alike p q k l zero h = refl
each-alike p q k l (suc m) h =
    let e : p k ≡ q l = ap p (sym (add-zero k)) ∙ h 0 (omega arith) ∙ ap q (add-zero l) in
    λ i. e i && each-alike p q (suc k) (suc l) m (λ j s. ap p (next k j) ∙ h (suc j) (omega arith) ∙ ap q (sym (next l j))) i

many-alike : (p q : ℕ → Bool) (k l m : ℕ) → ((j : ℕ) → j < m → p (k + j) ≡ q (l + j)) → how_many p k m ≡ how_many q l m
unfolding how_many
many-alike p q k l zero h = refl
many-alike p q k l (suc m) h =
    let e : p k ≡ q l = ap p (sym (add-zero k)) ∙ h 0 (omega arith) ∙ ap q (add-zero l) in
    λ i. pick (e i) 1 0 + many-alike p q (suc k) (suc l) m (λ j s. ap p (next k j) ∙ h (suc j) (omega arith) ∙ ap q (sym (next l j))) i

up_to-alike : {A : Type 0} (f g : ℕ → A) (k l m : ℕ) → ((j : ℕ) → j < m → f (k + j) ≡ g (l + j)) → up_to f k m ≡ up_to g l m
unfolding up_to
up_to-alike f g k l zero h = refl
up_to-alike {A = A} f g k l (suc m) h =
    let e : f k ≡ g l = ap f (sym (add-zero k)) ∙ h 0 (omega arith) ∙ ap g (add-zero l) in
    λ i. e i ∷ up_to-alike f g (suc k) (suc l) m (λ j s. ap f (next k j) ∙ h (suc j) (omega arith) ∙ ap g (sym (next l j))) i

-- a loop that adds what f gives
abbrev pub adds : (ℕ → ℕ) → ℕ → ℕ → ℕ
adds f j s = s + f j

sum_alike : (f g : ℕ → ℕ) (k l m s : ℕ) → ((j : ℕ) → j < m → f (k + j) ≡ g (l + j)) → run (adds f) k m s ≡ run (adds g) l m s
unfolding run
sum_alike f g k l zero s h = refl
sum_alike f g k l (suc m) s h =
    let e : f k ≡ g l = ap f (sym (add-zero k)) ∙ h 0 (omega arith) ∙ ap g (add-zero l) in
    ap (λ (x : ℕ). run (adds f) (suc k) m (s + x)) e ∙ sum_alike f g (suc k) (suc l) m (s + g l) (λ j t. ap f (next k j) ∙ h (suc j) (omega arith) ∙ ap g (sym (next l j)))

sum-start : (f : ℕ → ℕ) (k m s : ℕ) → run (adds f) k m s ≡ s + run (adds f) k m 0
unfolding run
sum-start f k zero s = sym (add-zero s)
sum-start f k (suc m) s = omega (arith, sum-start f (suc k) m (s + f k), sum-start f (suc k) m (0 + f k))

-- ---- a loop over m + n numbers
pub and_assoc : (a b c : Bool) → (a && (b && c)) ≡ ((a && b) && c)
and_assoc true b c = refl
and_assoc false b c = refl

each_append : (p : ℕ → Bool) (k m n : ℕ) → each p k (m + n) ≡ (each p k m && each p (k + m) n)
unfolding each
each_append p k zero n = rw (zero-add n, add-zero k)
each_append p k (suc m) n =
    let e : k + suc m ≡ suc k + m = omega arith in
    rw (suc-add m n, e) (ap (λ (b : Bool). p k && b) (each_append p (suc k) m n) ∙ and_assoc (p k) (each p (suc k) m) (each p (suc k + m) n))

many-append : (p : ℕ → Bool) (k m n : ℕ) → how_many p k (m + n) ≡ how_many p k m + how_many p (k + m) n
unfolding how_many
many-append p k zero n = rw (zero-add n, add-zero k) (sym (zero-add (how_many p k n)))
many-append p k (suc m) n =
    let e : k + suc m ≡ suc k + m = omega arith in
    rw (suc-add m n, e) (omega (arith, many-append p (suc k) m n))

up_to-append : {A : Type 0} (f : ℕ → A) (k m n : ℕ) → up_to f k (m + n) ≡ up_to f k m ++ up_to f (k + m) n
unfolding up_to
up_to-append f k zero n = rw (zero-add n, add-zero k)
up_to-append {A = A} f k (suc m) n =
    let e : k + suc m ≡ suc k + m = omega arith in
    rw (suc-add m n, e) (ap {B = List A} (λ l. f k ∷ l) (up_to-append f (suc k) m n))

run-append : {S : Type 0} (step : ℕ → S → S) (k m n : ℕ) (s : S) → run step k (m + n) s ≡ run step (k + m) n (run step k m s)
unfolding run
run-append step k zero n s = rw (zero-add n, add-zero k)
run-append step k (suc m) n s =
    let e : k + suc m ≡ suc k + m = omega arith in
    rw (suc-add m n, e) (run-append step (suc k) m n (step k s))

-- ---- a loop over m + n numbers, by its two parts
later : {A : Type 0} (f g : ℕ → A) (m j : ℕ) → f (m + j) ≡ g j → f (0 + m + j) ≡ g (0 + j)
later f g m j e = ap f (ap (λ (x : ℕ). x + j) (zero-add m)) ∙ e ∙ ap g (sym (zero-add j))

same : {A : Type 0} (f g : ℕ → A) (j : ℕ) → f j ≡ g j → f (0 + j) ≡ g (0 + j)
same f g j e = ap f (zero-add j) ∙ e ∙ ap g (sym (zero-add j))

pub each-parts : (p q r : ℕ → Bool) (m n : ℕ) → ((j : ℕ) → j < m → p j ≡ q j) → ((j : ℕ) → j < n → p (m + j) ≡ r j) → each p 0 (m + n) ≡ (each q 0 m && each r 0 n)
each-parts p q r m n h k = each_append p 0 m n ∙ (λ i. each-alike p q 0 0 m (λ j l. same p q j (h j l)) i && each-alike p r (0 + m) 0 n (λ j l. later p r m j (k j l)) i)

pub many-parts : (p q r : ℕ → Bool) (m n : ℕ) → ((j : ℕ) → j < m → p j ≡ q j) → ((j : ℕ) → j < n → p (m + j) ≡ r j) → how_many p 0 (m + n) ≡ how_many q 0 m + how_many r 0 n
many-parts p q r m n h k = many-append p 0 m n ∙ (λ i. many-alike p q 0 0 m (λ j l. same p q j (h j l)) i + many-alike p r (0 + m) 0 n (λ j l. later p r m j (k j l)) i)

pub up_to-parts : {A : Type 0} (f g h : ℕ → A) (m n : ℕ) → ((j : ℕ) → j < m → f j ≡ g j) → ((j : ℕ) → j < n → f (m + j) ≡ h j) → up_to f 0 (m + n) ≡ up_to g 0 m ++ up_to h 0 n
up_to-parts f g h m n x y = up_to-append f 0 m n ∙ (λ i. up_to-alike f g 0 0 m (λ j l. same f g j (x j l)) i ++ up_to-alike f h (0 + m) 0 n (λ j l. later f h m j (y j l)) i)

pub sum-parts : (f g h : ℕ → ℕ) (m n : ℕ) → ((j : ℕ) → j < m → f j ≡ g j) → ((j : ℕ) → j < n → f (m + j) ≡ h j) → run (adds f) 0 (m + n) 0 ≡ run (adds g) 0 m 0 + run (adds h) 0 n 0
sum-parts f g h m n x y =
    run-append (adds f) 0 m n 0
    ∙ sum-start f (0 + m) n (run (adds f) 0 m 0)
    ∙ (λ i. sum_alike f g 0 0 m 0 (λ j l. same f g j (x j l)) i + sum_alike f h (0 + m) 0 n 0 (λ j l. later f h m j (y j l)) i)

-- nothing is added by a part in which f gives 0
pub sum-none : (m k : ℕ) → run (adds (λ j. 0)) k m 0 ≡ 0
unfolding run
sum-none zero k = refl
sum-none (suc m) k = sum-none m (suc k)
