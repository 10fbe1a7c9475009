-- The row machine and the enumeration give the same replies to every list of calls. Assumes nothing.
use mathlib.Core.Path.{◌≡◌, refl, sym, ap, ◌∙◌, fun_ext}
use mathlib.Core.Bool.{Bool, true, false, ◌&&◌}
use mathlib.Core.List.{List, [], ◌∷◌, ◌++◌, map, append-nil}
use Prim.Native.Nat.{ℕ, zero, suc, ◌-◌, ◌≤◌, ◌<◌}
use native.Mathlib.Omega.{arith}
use lib.Dec.{eqb, leb, ltb, eqb-suc-suc, eqb-suc-zero, leb-suc-suc, leb-suc-zero}
use lib.ListN.{length, take, replicate, length-append, length-replicate}
use lib.Seq.{take_at}
use borrow.Author.Tests.{eq-eqb, ne_eqb, eqb-true, lt-ltb, ltb-true}
use Rattle.loops.specs.Loop.{pick}
use Rattle.loops.proofs.Loops.{and_left, and_right}
use Rattle.matching.specs.Enumeration.{Row, rows, cons_if, passing, matchings, eq_row, cursor_at, Reply, zeroed, given, Turn, enum_first, enum_next, enum_turn, enum_replies, is_row, before, or_zeroed, row_call, row_replies}
use Rattle.matching.specs.declared.MatchingAnswer.{MatchingAnswer}
use Rattle.matching.specs.declared.MatchingAnswer.TheVariants.{Absent, Refused, Ended}
use Rattle.matching.specs.declared.Call.{Call}
use Rattle.matching.specs.declared.Call.TheVariants.{First, Next}

cons_if-append : (b : Bool) (r : Row) (xs ys : List Row) → cons_if b r (xs ++ ys) ≡ cons_if b r xs ++ ys
cons_if-append true r xs ys = refl
cons_if-append false r xs ys = refl

pub passing-append : (p : Row → Bool) (xs ys : List Row) → passing p (xs ++ ys) ≡ passing p xs ++ passing p ys
unfolding passing
passing-append p [] ys = refl
passing-append p (r ∷ xs) ys = ap (cons_if (p r) r) (passing-append p xs ys) ∙ cons_if-append (p r) r (passing p xs) (passing p ys)

cons_if-map : (b : Bool) (x : ℕ) (r : Row) (xs : List Row) → cons_if b (x ∷ r) (map (λ s. x ∷ s) xs) ≡ map (λ s. x ∷ s) (cons_if b r xs)
cons_if-map true x r xs = refl
cons_if-map false x r xs = refl

pub passing-map : (p : Row → Bool) (x : ℕ) (xs : List Row) → passing p (map (λ s. x ∷ s) xs) ≡ map (λ s. x ∷ s) (passing (λ s. p (x ∷ s)) xs)
unfolding passing
passing-map p x [] = refl
passing-map p x (r ∷ xs) = ap (cons_if (p (x ∷ r)) (x ∷ r)) (passing-map p x xs) ∙ cons_if-map (p (x ∷ r)) x r (passing (λ s. p (x ∷ s)) xs)

pub passing-none : (xs : List Row) → passing (λ s. false) xs ≡ []
unfolding passing
passing-none [] = refl
passing-none (r ∷ xs) = passing-none xs

pub passing-same : (p q : Row → Bool) → ((s : Row) → p s ≡ q s) → (xs : List Row) → passing p xs ≡ passing q xs
passing-same p q h xs = ap (λ (t : Row → Bool). passing t xs) (fun_ext h)

-- the matchings part by their first number
pub matchings-suc : (p : Row → Bool) (m : ℕ) → matchings p (suc m) ≡ map (λ s. 1 ∷ s) (matchings (λ s. p (1 ∷ s)) m) ++ map (λ s. 0 ∷ s) (matchings (λ s. p (0 ∷ s)) m)
unfolding rows
matchings-suc p m = rw (passing-append, passing-map p 1, passing-map p 0)

pub and-true : (b : Bool) → (b && true) ≡ b
and-true true = refl
and-true false = refl

and-false : (b : Bool) → (b && false) ≡ false
and-false true = refl
and-false false = refl

-- the cursor in a list whose rows begin with x, followed by Z
joined : List Row → ℕ → List Row → List Row → List Row
joined [] x Z later = later
joined (e ∷ es) x Z later = map (λ s. x ∷ s) (e ∷ es) ++ Z

eqb_same : (n : ℕ) → eqb n n ≡ true
eqb_same n = eq-eqb n n refl

cursor-skip : (x y : ℕ) (r : Row) (X Z : List Row) → eqb x y ≡ false → cursor_at (x ∷ r) (map (λ s. y ∷ s) X ++ Z) ≡ cursor_at (x ∷ r) Z
unfolding cursor_at eq_row
cursor-skip x y r [] Z h = refl
cursor-skip x y r (e ∷ X) Z h = rw h (cursor-skip x y r X Z h)

cursor-nil : (y : ℕ) (X Z : List Row) → cursor_at [] (map (λ s. y ∷ s) X ++ Z) ≡ cursor_at [] Z
unfolding cursor_at eq_row
cursor-nil y [] Z = refl
cursor-nil y (e ∷ X) Z = cursor-nil y X Z

cursor-in : (x : ℕ) (r : Row) (X Z : List Row) → cursor_at (x ∷ r) (map (λ s. x ∷ s) X ++ Z) ≡ joined (cursor_at r X) x Z (cursor_at (x ∷ r) Z)
unfolding cursor_at eq_row joined
cursor-in x r [] Z = refl
cursor-in x r (e ∷ X) Z = rw (eqb_same x) (go (eq_row r e) (cursor-in x r X Z))
  where
    go : (b : Bool) → cursor_at (x ∷ r) (map (λ s. x ∷ s) X ++ Z) ≡ joined (cursor_at r X) x Z (cursor_at (x ∷ r) Z)
        → pick b ((x ∷ e) ∷ (map (λ s. x ∷ s) X ++ Z)) (cursor_at (x ∷ r) (map (λ s. x ∷ s) X ++ Z)) ≡ joined (pick b (e ∷ X) (cursor_at r X)) x Z (cursor_at (x ∷ r) Z)
    go true h = refl
    go false h = h

abbrev pub after : (Row → Bool) → Row → Row → Bool
after p r s = p s && before r s

-- the cursor at r: r with the matchings that come after it; or at none
abbrev pub found : Bool → List Row → List Row
found b l = pick b l []

joined-found : (b : Bool) (e : Row) (x : ℕ) (es Z : List Row) → joined (found b (e ∷ es)) x Z [] ≡ found b ((x ∷ e) ∷ (map (λ s. x ∷ s) es ++ Z))
unfolding joined
joined-found true e x es Z = refl
joined-found false e x es Z = refl

pub after_one : (p : Row → Bool) (m : ℕ) (r : Row) → matchings (after p (1 ∷ r)) (suc m) ≡ map (λ s. 1 ∷ s) (matchings (after (λ s. p (1 ∷ s)) r) m) ++ map (λ s. 0 ∷ s) (matchings (λ s. p (0 ∷ s)) m)
unfolding before
after_one p m r = matchings-suc (after p (1 ∷ r)) m
    ∙ ap (λ (l : List Row). map (λ s. 1 ∷ s) (matchings (after (λ s. p (1 ∷ s)) r) m) ++ map (λ s. 0 ∷ s) l)
    (passing-same (λ s. p (0 ∷ s) && true) (λ s. p (0 ∷ s)) (λ s. and-true (p (0 ∷ s))) (rows m))

pub after-zero : (p : Row → Bool) (m : ℕ) (r : Row) → matchings (after p (0 ∷ r)) (suc m) ≡ map (λ s. 0 ∷ s) (matchings (after (λ s. p (0 ∷ s)) r) m)
unfolding before
after-zero p m r = matchings-suc (after p (0 ∷ r)) m
    ∙ ap (λ (l : List Row). map (λ s. 1 ∷ s) l ++ map (λ s. 0 ∷ s) (matchings (after (λ s. p (0 ∷ s)) r) m))
    (passing-same (λ s. p (1 ∷ s) && false) (λ s. false) (λ s. and-false (p (1 ∷ s))) (rows m) ∙ passing-none (rows m))

leb-two : (k : ℕ) → leb (suc (suc k)) 1 ≡ false
leb-two k = leb-suc-suc (suc k) 0 ∙ leb-suc-zero k

eqb-two-one : (k : ℕ) → eqb (suc (suc k)) 1 ≡ false
eqb-two-one k = eqb-suc-suc (suc k) 0 ∙ eqb-suc-zero k

eqb-two-zero : (k : ℕ) → eqb (suc (suc k)) 0 ≡ false
eqb-two-zero k = eqb-suc-zero (suc k)

cursor-base-nil : (b : Bool) → cursor_at [] (cons_if b [] []) ≡ found b ([] ∷ cons_if (b && before [] []) [] [])
unfolding cursor_at eq_row before
cursor-base-nil true = refl
cursor-base-nil false = refl

cursor-base-cons : (x : ℕ) (r : Row) (b : Bool) → cursor_at (x ∷ r) (cons_if b [] []) ≡ []
unfolding cursor_at eq_row
cursor-base-cons x r true = refl
cursor-base-cons x r false = refl

cursor-none : (r : Row) → cursor_at r [] ≡ []
unfolding cursor_at
cursor-none r = refl

-- a row that begins with neither
cursor-skips : (x : ℕ) (r : Row) (X Y : List Row) → eqb x 1 ≡ false → eqb x 0 ≡ false → cursor_at (x ∷ r) (map (λ s. 1 ∷ s) X ++ map (λ s. 0 ∷ s) Y) ≡ []
cursor-skips x r X Y h1 h0 =
    cursor-skip x 1 r X (map (λ s. 0 ∷ s) Y) h1 ∙ ap (cursor_at (x ∷ r)) (sym (append-nil (map (λ s. 0 ∷ s) Y))) ∙ cursor-skip x 0 r Y [] h0 ∙ cursor-none (x ∷ r)

cursor_one : (r : Row) (X Y : List Row) (b : Bool) (es : List Row) → cursor_at r X ≡ found b (r ∷ es)
    → cursor_at (1 ∷ r) (map (λ s. 1 ∷ s) X ++ map (λ s. 0 ∷ s) Y) ≡ found b ((1 ∷ r) ∷ (map (λ s. 1 ∷ s) es ++ map (λ s. 0 ∷ s) Y))
cursor_one r X Y b es h =
    cursor-in 1 r X (map (λ s. 0 ∷ s) Y)
    ∙ ap (joined (cursor_at r X) 1 (map (λ s. 0 ∷ s) Y)) (ap (cursor_at (1 ∷ r)) (sym (append-nil (map (λ s. 0 ∷ s) Y))) ∙ cursor-skip 1 0 r Y [] refl ∙ cursor-none (1 ∷ r))
    ∙ ap (λ (l : List Row). joined l 1 (map (λ s. 0 ∷ s) Y) []) h
    ∙ joined-found b r 1 es (map (λ s. 0 ∷ s) Y)

cursor-zero : (r : Row) (X Y : List Row) (b : Bool) (es : List Row) → cursor_at r Y ≡ found b (r ∷ es)
    → cursor_at (0 ∷ r) (map (λ s. 1 ∷ s) X ++ map (λ s. 0 ∷ s) Y) ≡ found b ((0 ∷ r) ∷ map (λ s. 0 ∷ s) es)
cursor-zero r X Y b es h =
    cursor-skip 0 1 r X (map (λ s. 0 ∷ s) Y) refl
    ∙ ap (cursor_at (0 ∷ r)) (sym (append-nil (map (λ s. 0 ∷ s) Y)))
    ∙ cursor-in 0 r Y []
    ∙ ap (joined (cursor_at r Y) 0 []) (cursor-none (0 ∷ r))
    ∙ ap (λ (l : List Row). joined l 0 [] []) h
    ∙ joined-found b r 0 es []
    ∙ ap (λ (l : List Row). found b ((0 ∷ r) ∷ l)) (append-nil (map (λ s. 0 ∷ s) es))

matchings-zero : (p : Row → Bool) → matchings p zero ≡ cons_if (p []) [] []
unfolding rows passing
matchings-zero p = refl

cursor-nils : (X Y : List Row) → cursor_at [] (map (λ s. 1 ∷ s) X ++ map (λ s. 0 ∷ s) Y) ≡ []
cursor-nils X Y = cursor-nil 1 X (map (λ s. 0 ∷ s) Y) ∙ ap (cursor_at []) (sym (append-nil (map (λ s. 0 ∷ s) Y))) ∙ cursor-nil 0 Y [] ∙ cursor-none []

pub cursor-found : (p : Row → Bool) (m : ℕ) (r : Row) → cursor_at r (matchings p m) ≡ found (is_row m r && p r) (r ∷ matchings (after p r) m)
unfolding is_row
cursor-found p zero [] = rw (matchings-zero p, matchings-zero (after p [])) (cursor-base-nil (p []))
cursor-found p zero (x ∷ r) = rw (matchings-zero p) (cursor-base-cons x r (p []))
cursor-found p (suc m) [] = rw (matchings-suc p m) (cursor-nils (matchings (λ s. p (1 ∷ s)) m) (matchings (λ s. p (0 ∷ s)) m))
cursor-found p (suc m) (zero ∷ r) = rw (matchings-suc p m, after-zero p m r) (cursor-zero r (matchings (λ s. p (1 ∷ s)) m) (matchings (λ s. p (0 ∷ s)) m) (is_row m r && p (0 ∷ r)) (matchings (after (λ s. p (0 ∷ s)) r) m) (cursor-found (λ s. p (0 ∷ s)) m r))
cursor-found p (suc m) (suc zero ∷ r) = rw (matchings-suc p m, after_one p m r) (cursor_one r (matchings (λ s. p (1 ∷ s)) m) (matchings (λ s. p (0 ∷ s)) m) (is_row m r && p (1 ∷ r)) (matchings (after (λ s. p (1 ∷ s)) r) m) (cursor-found (λ s. p (1 ∷ s)) m r))
cursor-found p (suc m) (suc (suc k) ∷ r) = rw (matchings-suc p m, leb-two k) (cursor-skips (suc (suc k)) r (matchings (λ s. p (1 ∷ s)) m) (matchings (λ s. p (0 ∷ s)) m) (eqb-two-one k) (eqb-two-zero k))

-- the order
less : (x z : ℕ) (rest : Bool) → z < x → pick (eqb x z) rest (ltb z x) ≡ true
less x z rest h = rw (ne_eqb x z (λ (e : x ≡ z). omega arith)) (lt-ltb z x h)

before-step : (x y z : ℕ) (rs st rt : Bool) (b c : Bool) → eqb x y ≡ b → eqb y z ≡ c → pick b rs (ltb y x) ≡ true → pick c st (ltb z y) ≡ true
    → (rs ≡ true → st ≡ true → rt ≡ true) → pick (eqb x z) rt (ltb z x) ≡ true
before-step x y z rs st rt true true e f h k ih = rw (eq-eqb x z (eqb-true x y e ∙ eqb-true y z f)) (ih h k)
before-step x y z rs st rt true false e f h k ih = less x z rt (omega (arith, eqb-true x y e, ltb-true z y k))
before-step x y z rs st rt false true e f h k ih = less x z rt (omega (arith, eqb-true y z f, ltb-true y x h))
before-step x y z rs st rt false false e f h k ih = less x z rt (omega (arith, ltb-true z y k, ltb-true y x h))

before-trans : (r s t : Row) → before r s ≡ true → before s t ≡ true → before r t ≡ true
unfolding before
before-trans [] s t h k = h
before-trans (x ∷ r) [] t h k = cc
before-trans (x ∷ r) (y ∷ s) [] h k = cc
before-trans (x ∷ r) (y ∷ s) (z ∷ t) h k = before-step x y z (before r s) (before s t) (before r t) (eqb x y) (eqb y z) refl refl h k (before-trans r s t)

pub eq_row-same : (r : Row) → eq_row r r ≡ true
unfolding eq_row
eq_row-same [] = refl
eq_row-same (x ∷ r) = rw (eqb_same x) (eq_row-same r)

pub row-length : (m : ℕ) (r : Row) → is_row m r ≡ true → length r ≡ m
unfolding is_row
row-length zero [] h = refl
row-length zero (x ∷ r) h = cc
row-length (suc m) [] h = cc
row-length (suc m) (x ∷ r) h = ap suc (row-length m r (and_right (leb x 1) (is_row m r) h))

found-cons : (b : Bool) (l : List Row) (e : Row) (es : List Row) → found b l ≡ e ∷ es → (b ≡ true) × (l ≡ e ∷ es)
found-cons true l e es h = (refl, h)
found-cons false l e es h = (cc, cc)

-- what comes after f comes after r, where f does
after-after : (p : Row → Bool) (r f : Row) → before r f ≡ true → (s : Row) → after (after p r) f s ≡ after p f s
after-after p r f h s = go (p s) (before r s) (before f s) (before-trans r f s h)
  where
    go : (a b c : Bool) → (c ≡ true → b ≡ true) → ((a && b) && c) ≡ (a && c)
    go true true c i = refl
    go true false true i = i refl
    go true false false i = refl
    go false b c i = refl

cursor-head : (e : Row) (es : List Row) → cursor_at e (e ∷ es) ≡ e ∷ es
unfolding cursor_at
cursor-head e es = rw (eq_row-same e)

-- what is true of a first matching
pub first-matching : (p : Row → Bool) (m : ℕ) (e : Row) (es : List Row) → matchings p m ≡ e ∷ es → ((is_row m e && p e) ≡ true) × (es ≡ matchings (after p e) m)
first-matching p m e es h =
    let k = found-cons (is_row m e && p e) (e ∷ matchings (after p e) m) e es (sym (cursor-found p m e) ∙ ap (cursor_at e) h ∙ cursor-head e es) in
    (k.0, cc k.1)

-- the matching after the cursor is the next cursor
advance : (p : Row → Bool) (m : ℕ) (r e f : Row) (es : List Row) → cursor_at r (matchings p m) ≡ e ∷ f ∷ es → ((is_row m f && p f) ≡ true) × (cursor_at f (matchings p m) ≡ f ∷ es)
advance p m r e f es h =
    let k = found-cons (is_row m r && p r) (r ∷ matchings (after p r) m) e (f ∷ es) (sym (cursor-found p m r) ∙ h) in
    let u : matchings (after p r) m ≡ f ∷ es = cc k.1 in
    let v = first-matching (after p r) m f es u in
    let row : is_row m f ≡ true = and_left (is_row m f) (after p r f) v.0 in
    let good : p f ≡ true = and_left (p f) (before r f) (and_right (is_row m f) (after p r f) v.0) in
    let bef : before r f ≡ true = and_right (p f) (before r f) (and_right (is_row m f) (after p r f) v.0) in
    let yes' : (is_row m f && p f) ≡ true = rw row good in (
      yes',
      cursor-found p m f ∙ ap (λ (b : Bool). found b (f ∷ matchings (after p f) m)) yes'
          ∙ ap (λ (l : List Row). f ∷ l) (sym (v.1 ∙ passing-same (after (after p r) f) (after p f) (after-after p r f bef) (rows m))),
    )

take-replicate : (m n : ℕ) → m ≤ n → take {A = ℕ} m (replicate n 0) ≡ replicate m 0
take-replicate zero n h = refl
take-replicate (suc m) zero h = absurd (omega arith)
take-replicate (suc m) (suc n) h = ap (λ (l : Row). 0 ∷ l) (take-replicate m n (omega arith))

-- the enumeration and the row machine, where the cursor stands at what the row says
module _ (p : Row → Bool) (m n : ℕ) (z : List Row) (fits : m ≤ n) (hz : cursor_at (replicate m 0) (matchings p m) ≡ z) where
  Agree : Reply → Turn → Type 0
  Agree g t = (g ≡ t.reply) × (cursor_at (take m t.reply.row) (matchings p m) ≡ t.cursor) × (length t.reply.row ≡ n)

  zero-agrees : (a : MatchingAnswer) → Agree (zeroed n a) (record { reply = zeroed n a; cursor = z })
  unfolding Agree
  zero-agrees a = (refl, rw (take-replicate m n fits) hz, length-replicate n 0)

  given-agrees : (e : Row) (es : List Row) → is_row m e ≡ true → cursor_at e (matchings p m) ≡ e ∷ es → Agree (given n e) (record { reply = given n e; cursor = e ∷ es })
  unfolding Agree
  given-agrees e es h k =
      let l : length e ≡ m = row-length m e h in
      (refl, rw (take_at e (replicate (n - length e) 0) m l) k, length-append e (replicate (n - length e) 0) ∙ rw (length-replicate) (omega arith))

  first-agrees : (es : List Row) → matchings p m ≡ es → Agree (or_zeroed n Absent es) (enum_first n z es)
  unfolding enum_first
  first-agrees [] h = zero-agrees Absent
  first-agrees (e ∷ es) h =
      let k = first-matching p m e es h in
      given-agrees e es (and_left (is_row m e) (p e) k.0) (ap (cursor_at e) h ∙ cursor-head e es)

  next-agrees : (r : Row) (b : Bool) (es at : List Row) → matchings (after p r) m ≡ es → (is_row m r && p r) ≡ b → cursor_at r (matchings p m) ≡ at
      → at ≡ found b (r ∷ es) → Agree (pick b (or_zeroed n Ended es) (zeroed n Refused)) (enum_next n z at)
  unfolding enum_next
  next-agrees r true [] at h k l e = rw e (zero-agrees Ended)
  next-agrees r true (f ∷ es) at h k l e = rw e (let v = advance p m r r f es (l ∙ e) in given-agrees f es (and_left (is_row m f) (p f) v.0) v.1)
  next-agrees r false es at h k l e = rw e (zero-agrees Refused)

  call-agrees : (c : Call) (row : Row) → length row ≡ n → Agree (row_call p m c row) (enum_turn n z (matchings p m) c (cursor_at (take m row) (matchings p m)))
  unfolding row_call enum_turn
  call-agrees First row h = rw h (first-agrees (matchings p m) refl)
  call-agrees Next row h = rw h (next-agrees (take m row) (is_row m (take m row) && p (take m row)) (matchings (after p (take m row)) m) (cursor_at (take m row) (matchings p m)) refl refl refl (cursor-found p m (take m row)))

  pub replies-agree : (cs : List Call) (row : Row) → length row ≡ n → row_replies p m cs row ≡ enum_replies n z (matchings p m) cs (cursor_at (take m row) (matchings p m))
  unfolding row_replies enum_replies Agree
  replies-agree [] row h = refl
  replies-agree (c ∷ cs) row h =
      let t = enum_turn n z (matchings p m) c (cursor_at (take m row) (matchings p m)) in
      let a = call-agrees c row h in
      ap (λ (g : Reply). g ∷ row_replies p m cs g.row) a.0
      ∙ ap (λ (l : List Reply). t.reply ∷ l) (replies-agree cs t.reply.row a.2 ∙ ap (enum_replies n z (matchings p m) cs) a.1)

-- no row comes before itself, so each matching is enumerated once
pub before_self : (r : Row) → before r r ≡ false
unfolding before
before_self [] = refl
before_self (x ∷ r) = rw (eqb_same x) (before_self r)

pub once : (p : Row → Bool) (m : ℕ) (r e : Row) (es : List Row) → cursor_at r (matchings p m) ≡ e ∷ es → cursor_at r es ≡ []
once p m r e es h =
    let k = found-cons (is_row m r && p r) (r ∷ matchings (after p r) m) e es (sym (cursor-found p m r) ∙ h) in
    let u : matchings (after p r) m ≡ es = cc k.1 in
    ap (cursor_at r) (sym u) ∙ cursor-found (after p r) m r ∙ rw (before_self r) (none (is_row m r) (p r) (r ∷ matchings (after (after p r) r) m))
  where
    none : (a b : Bool) (l : List Row) → found (a && (b && false)) l ≡ []
    none true true l = refl
    none true false l = refl
    none false b l = refl
