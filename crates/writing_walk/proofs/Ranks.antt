-- The ranks of an atom's bonds, by numbers alone. Assumes nothing.
use mathlib.Core.Path.{◌≡◌, refl, sym, ap, ◌∙◌}
use mathlib.Core.Bool.{Bool, true, false, cond}
use mathlib.Core.List.{List, [], ◌∷◌, ◌++◌}
use Prim.Native.Nat.{ℕ, zero, suc, ◌+◌, ◌≤◌, ◌<◌}
use native.Mathlib.Omega.{arith}
use lib.Dec.{eqb, ltb}
use lib.ListN.{length, get_or, length-append, get_or-append}
use lib.Seq.{get_or-append_seam}
use borrow.Author.Tests.{eq-eqb, ne_eqb, eqb-true, eqb-false, lt-ltb, le-ltb, ltb-true, ltb-false}
use Rattle.writing_walk.specs.Ranks.{walk_rank, text_rank, Clock, offset_clock, Ascending}
use Rattle.writing_walk.proofs.Count.{eqb_same, All, all-at}
use Rattle.writing_walk.proofs.Read.{Tri, below, same, above, tri}

-- the ranks by cases
pub text-parent : (big x : ℕ) → text_rank big x 0 x ≡ 0
unfolding text_rank
text-parent big x = rw (eqb_same x)

pub text-child : (big x h : ℕ) → x < h → text_rank big x 0 h ≡ big + 2 + h
unfolding text_rank
text-child big x h g = rw (ne_eqb h x (omega arith))

pub text-bridge : (big x p h : ℕ) → text_rank big x (suc p) h ≡ suc (suc p)
unfolding text_rank
text-bridge big x p h = rw (ne_eqb (suc p) 0 (omega arith))

module _ (n : ℕ) (us : List ℕ) (x y : ℕ) where
  pub walk-parent : get_or us x 0 ≡ suc y → walk_rank n us x y ≡ 0
  unfolding walk_rank
  walk-parent e = rw (eq-eqb (get_or us x 0) (suc y) e)

  pub walk-child : (get_or us x 0 ≡ suc y → ⊥) → get_or us y 0 ≡ suc x → walk_rank n us x y ≡ n + 2 + y
  unfolding walk_rank
  walk-child h e = rw (ne_eqb (get_or us x 0) (suc y) h, eq-eqb (get_or us y 0) (suc x) e)

  pub walk-bridge : (get_or us x 0 ≡ suc y → ⊥) → (get_or us y 0 ≡ suc x → ⊥) → walk_rank n us x y ≡ y + 2
  unfolding walk_rank
  walk-bridge h e = rw (ne_eqb (get_or us x 0) (suc y) h, ne_eqb (get_or us y 0) (suc x) e)

-- the ranks that walk numbers give, for any list of parents
data Walked (n : ℕ) (us : List ℕ) (x y : ℕ) : Type 0 where
  upward : get_or us x 0 ≡ suc y → walk_rank n us x y ≡ 0 → Walked n us x y
  downward : walk_rank n us x y ≡ n + 2 + y → Walked n us x y
  across : walk_rank n us x y ≡ y + 2 → Walked n us x y

walked : (n : ℕ) (us : List ℕ) (x y : ℕ) → Walked n us x y
walked n us x y = go (eqb (get_or us x 0) (suc y)) refl (eqb (get_or us y 0) (suc x)) refl
  where
    go : (a : Bool) → eqb (get_or us x 0) (suc y) ≡ a → (b : Bool) → eqb (get_or us y 0) (suc x) ≡ b → Walked n us x y
    go true e b f = let q = eqb-true (get_or us x 0) (suc y) e in upward q (walk-parent n us x y q)
    go false e true f = downward (walk-child n us x y (eqb-false (get_or us x 0) (suc y) e) (eqb-true (get_or us y 0) (suc x) f))
    go false e false f = across (walk-bridge n us x y (eqb-false (get_or us x 0) (suc y) e) (eqb-false (get_or us y 0) (suc x) f))

-- THE STATEMENTS: different other ends have different ranks; none is 1, the hydrogen's
pub walk-apart : (n : ℕ) (us : List ℕ) (x y y' : ℕ) → y < n → y' < n → walk_rank n us x y ≡ walk_rank n us x y' → y ≡ y'
walk-apart n us x y y' h g e = go (walked n us x y) (walked n us x y')
  where
    go : Walked n us x y → Walked n us x y' → y ≡ y'
    go (upward q r) (upward q' r') = omega arith
    go (upward q r) (downward r') = absurd (omega arith)
    go (upward q r) (across r') = absurd (omega arith)
    go (downward r) (upward q' r') = absurd (omega arith)
    go (downward r) (downward r') = omega arith
    go (downward r) (across r') = absurd (omega arith)
    go (across r) (upward q' r') = absurd (omega arith)
    go (across r) (downward r') = absurd (omega arith)
    go (across r) (across r') = omega arith

pub walk-not-one : (n : ℕ) (us : List ℕ) (x y : ℕ) → walk_rank n us x y ≡ 1 → ⊥
walk-not-one n us x y e = go (walked n us x y)
  where
    go : Walked n us x y → ⊥
    go (upward q r) = omega arith
    go (downward r) = omega arith
    go (across r) = omega arith

pub text-not-one : (big x p h : ℕ) → text_rank big x p h ≡ 1 → ⊥
unfolding text_rank
text-not-one big x zero h e = go (eqb h x) e
  where
    go : (a : Bool) → cond a 0 (big + 2 + h) ≡ 1 → ⊥
    go true e = omega arith
    go false e = omega arith
text-not-one big x (suc p) h e = let q = text-bridge big x p h in omega arith

ltb-alike : (a b c e : ℕ) → (a < b → c < e) → (b ≤ a → e ≤ c) → ltb a b ≡ ltb c e
ltb-alike a b c e f g = go (ltb a b) refl
  where
    go : (x : Bool) → ltb a b ≡ x → x ≡ ltb c e
    go true p = sym (lt-ltb c e (f (ltb-true a b p)))
    go false p = sym (le-ltb c e (g (ltb-false a b p)))

suc-ltb : (a b : ℕ) → ltb (suc a) (suc b) ≡ ltb a b
suc-ltb a b = ltb-alike (suc a) (suc b) a b (λ u. omega arith) (λ u. omega arith)

-- the same order under every clock
data Told (x p h : ℕ) : Type 0 where
  ahead : p ≡ 0 → h ≡ x → Told x p h
  digit : 0 < p → Told x p h
  behind : p ≡ 0 → (h ≡ x → ⊥) → Told x p h

told : (x p h : ℕ) → Told x p h
told x zero h = go (eqb h x) refl
  where
    go : (e : Bool) → eqb h x ≡ e → Told x 0 h
    go true e = ahead refl (eqb-true h x e)
    go false e = behind refl (eqb-false h x e)
told x (suc p) h = digit (omega arith)

told-ahead : (big x p h : ℕ) → p ≡ 0 → h ≡ x → text_rank big x p h ≡ 0
unfolding text_rank
told-ahead big x p h e q = rw (eq-eqb p 0 e, eq-eqb h x q)

told-digit : (big x p h : ℕ) → 0 < p → text_rank big x p h ≡ suc p
unfolding text_rank
told-digit big x p h e = rw (ne_eqb p 0 (omega arith))

told-behind : (big x p h : ℕ) → p ≡ 0 → (h ≡ x → ⊥) → text_rank big x p h ≡ big + 2 + h
unfolding text_rank
told-behind big x p h e q = rw (eq-eqb p 0 e, ne_eqb h x q)

module _ (clock : ℕ → ℕ) (z : ℕ) (c : Clock clock z) (big big' : ℕ) (large : z ≤ big) (large' : clock z ≤ big') (x : ℕ) where
  positive : (p : ℕ) → 0 < p → p ≤ z → 0 < clock p
  positive p h l = let q = c.rises 0 p h l in let e = c.zeroth in omega arith

  at_most : (p : ℕ) → p ≤ z → clock p ≤ big'
  at_most p l = go (tri p z)
    where
      go : Tri p z → clock p ≤ big'
      go (below h) = let q = c.rises p z h (omega arith) in omega arith
      go (same h) = let q = ap clock h in omega arith
      go (above h) = absurd (omega arith)

  kept : (p q : ℕ) → p ≤ z → q ≤ z → ltb (clock p) (clock q) ≡ ltb p q
  kept p q l m = go (tri p q)
    where
      go : Tri p q → ltb (clock p) (clock q) ≡ ltb p q
      go (below h) = lt-ltb (clock p) (clock q) (c.rises p q h m) ∙ sym (lt-ltb p q h)
      go (same h) = le-ltb (clock p) (clock q) (let e = ap clock h in omega arith) ∙ sym (le-ltb p q (omega arith))
      go (above h) = le-ltb (clock p) (clock q) (let e = c.rises q p h l in omega arith) ∙ sym (le-ltb p q (omega arith))

  -- THE LAW: ranks by times and ranks by another measure of the same times are ordered alike
  pub text-retold : (p h q g : ℕ) → p ≤ z → q ≤ z → ltb (text_rank big' x (clock p) h) (text_rank big' x (clock q) g) ≡ ltb (text_rank big x p h) (text_rank big x q g)
  text-retold p h q g l m = go (told x p h) (told x q g)
    where
      zero-stays : (p : ℕ) → p ≡ 0 → clock p ≡ 0
      zero-stays p e = ap clock e ∙ c.zeroth

      go : Told x p h → Told x q g → ltb (text_rank big' x (clock p) h) (text_rank big' x (clock q) g) ≡ ltb (text_rank big x p h) (text_rank big x q g)
      go (ahead a e) (ahead b f) = rw (told-ahead big' x (clock p) h (zero-stays p a) e, told-ahead big' x (clock q) g (zero-stays q b) f, told-ahead big x p h a e, told-ahead big x q g b f)
      go (ahead a e) (digit b) = rw (told-ahead big' x (clock p) h (zero-stays p a) e, told-digit big' x (clock q) g (positive q b m), told-ahead big x p h a e, told-digit big x q g b) (ltb-alike 0 (suc (clock q)) 0 (suc q) (λ u. omega arith) (λ u. omega arith))
      go (ahead a e) (behind b f) = rw (told-ahead big' x (clock p) h (zero-stays p a) e, told-behind big' x (clock q) g (zero-stays q b) f, told-ahead big x p h a e, told-behind big x q g b f) (ltb-alike 0 (big' + 2 + g) 0 (big + 2 + g) (λ u. omega arith) (λ u. omega arith))
      go (digit a) (ahead b f) = rw (told-digit big' x (clock p) h (positive p a l), told-ahead big' x (clock q) g (zero-stays q b) f, told-digit big x p h a, told-ahead big x q g b f) (ltb-alike (suc (clock p)) 0 (suc p) 0 (λ u. omega arith) (λ u. omega arith))
      go (digit a) (digit b) = rw (told-digit big' x (clock p) h (positive p a l), told-digit big' x (clock q) g (positive q b m), told-digit big x p h a, told-digit big x q g b) (suc-ltb (clock p) (clock q) ∙ kept p q l m ∙ sym (suc-ltb p q))
      go (digit a) (behind b f) = rw (told-digit big' x (clock p) h (positive p a l), told-behind big' x (clock q) g (zero-stays q b) f, told-digit big x p h a, told-behind big x q g b f) (let y = at_most p l in ltb-alike (suc (clock p)) (big' + 2 + g) (suc p) (big + 2 + g) (λ u. omega arith) (λ u. omega arith))
      go (behind a e) (ahead b f) = rw (told-behind big' x (clock p) h (zero-stays p a) e, told-ahead big' x (clock q) g (zero-stays q b) f, told-behind big x p h a e, told-ahead big x q g b f) (ltb-alike (big' + 2 + h) 0 (big + 2 + h) 0 (λ u. omega arith) (λ u. omega arith))
      go (behind a e) (digit b) = rw (told-behind big' x (clock p) h (zero-stays p a) e, told-digit big' x (clock q) g (positive q b m), told-behind big x p h a e, told-digit big x q g b) (let y = at_most q m in ltb-alike (big' + 2 + h) (suc (clock q)) (big + 2 + h) (suc q) (λ u. omega arith) (λ u. omega arith))
      go (behind a e) (behind b f) = rw (told-behind big' x (clock p) h (zero-stays p a) e, told-behind big' x (clock q) g (zero-stays q b) f, told-behind big x p h a e, told-behind big x q g b f) (ltb-alike (big' + 2 + h) (big' + 2 + g) (big + 2 + h) (big + 2 + g) (λ u. omega arith) (λ u. omega arith))

  pub first-retold : (p h : ℕ) → p ≤ z → ltb (text_rank big' x (clock p) h) 1 ≡ ltb (text_rank big x p h) 1
  first-retold p h l = go (told x p h)
    where
      go : Told x p h → ltb (text_rank big' x (clock p) h) 1 ≡ ltb (text_rank big x p h) 1
      go (ahead a e) = rw (told-ahead big' x (clock p) h (ap clock a ∙ c.zeroth) e, told-ahead big x p h a e)
      go (digit a) = rw (told-digit big' x (clock p) h (positive p a l), told-digit big x p h a) (let y = positive p a l in ltb-alike (suc (clock p)) 1 (suc p) 1 (λ u. omega arith) (λ u. omega arith))
      go (behind a e) = rw (told-behind big' x (clock p) h (ap clock a ∙ c.zeroth) e, told-behind big x p h a e) (ltb-alike (big' + 2 + h) 1 (big + 2 + h) 1 (λ u. omega arith) (λ u. omega arith))

-- offsets that ascend are a clock
pub offset-clock : (l : List ℕ) → Ascending l → Clock (offset_clock l) (length l)
offset-clock l s = record { zeroth = refl; rises = rises }
  where
    rises : (a b : ℕ) → a < b → b ≤ length l → offset_clock l a < offset_clock l b
    rises zero zero h g = absurd (omega arith)
    rises zero (suc b) h g = omega arith
    rises (suc a) zero h g = absurd (omega arith)
    rises (suc a) (suc b) h g = let q = s a b (omega arith) (omega arith) in omega arith

-- an offset above all before it is added at the end
pub ascending-more : (l : List ℕ) (p : ℕ) → Ascending l → All (λ y. y < p) l → Ascending (l ++ (p ∷ []))
ascending-more l p s a i j h g = go (tri j (length l))
  where
    go : Tri j (length l) → get_or (l ++ (p ∷ [])) i 0 < get_or (l ++ (p ∷ [])) j 0
    go (below k) = rw (get_or-append l (p ∷ []) 0 i (omega arith), get_or-append l (p ∷ []) 0 j k) (s i j h k)
    go (same k) = rw (get_or-append l (p ∷ []) 0 i (omega arith), k, get_or-append_seam l p [] 0) (all-at (λ y. y < p) 0 l i a (omega arith))
    go (above k) = absurd (let q = length-append l (p ∷ []) in omega arith)

-- the times so far keep their offsets, and the next has the new one
pub offset-kept : (l : List ℕ) (p d : ℕ) → d ≤ length l → offset_clock (l ++ (p ∷ [])) d ≡ offset_clock l d
offset-kept l p zero h = refl
offset-kept l p (suc d) h = ap suc (get_or-append l (p ∷ []) 0 d (omega arith))

pub offset-last : (l : List ℕ) (p : ℕ) → offset_clock (l ++ (p ∷ [])) (suc (length l)) ≡ suc p
offset-last l p = ap suc (get_or-append_seam l p [] 0)

pub offset-bound : (l : List ℕ) (big : ℕ) → All (λ p. p < big) l → (d : ℕ) → d ≤ length l → offset_clock l d ≤ big
offset-bound l big a zero h = omega arith
offset-bound l big a (suc d) h = let q = all-at (λ p. p < big) 0 l d a (omega arith) in omega arith
