-- One law for each way through the code. Assumes nothing.
use Prim.Native.Nat.{ℕ, zero, suc, ◌+◌, ◌-◌, ◌≤◌, ◌<◌}
use native.Mathlib.Omega.{arith}
use native.Mathlib.Numerals.{add-one}
use mathlib.Core.Path.{◌≡◌, refl, sym, ap, ◌∙◌}
use mathlib.Core.Bool.{Bool, true, false}
use mathlib.Core.Logic.{⊎_elim}
use mathlib.Core.List.{List, [], ◌∷◌}
use lib.ListN.{length, get_or, set, take, drop}
use lib.Dec.{leb, ltb}
use borrow.Author.Tests.{ne_eqb, eq-eqb, le-leb, lt-leb, lt-ltb, le-ltb, ltb-true, ltb-false}
use Rattle.loops.specs.Loop.{pick, each}
use Rattle.register.specs.Layout.{size, max_entries, max_body, first_body, count, entry_at, start_of, length_of, end_before, valid_entry, valid, used, body_of}
use Rattle.register.specs.Adding.{fits, low, high, entry_bytes, steps, step_with, step_of, after_with, added_after}
use Rattle.std.specs.Prelude.{Ok, Err}
use Rattle.register.specs.declared.RegisterError.{RegisterError}
use Rattle.register.specs.declared.RegisterError.TheVariants.{Short, Invalid, Full}
use Rattle.register.specs.Answers.{refusing, ready_of, room_of, out, adding_of, FoundOut, found_of, body_at}
use Rattle.register.proofs.Rules.{valid-is}
use Rattle.register.proofs.Stores.{lt-or-le, step_in, step-out, place-body, place-entry, place-last, value-body, value-entry, value-last}

-- where the bodies before an entry end
pub end-first : (r : List ℕ) (j : ℕ) → j ≡ 0 → first_body ≡ end_before r j
unfolding end_before
end-first r j e = rw e

pub end-next : (r : List ℕ) (j s n : ℕ) → 0 < j → s ≡ start_of r (j - 1) → n ≡ length_of r (j - 1) → s + n ≡ end_before r j
unfolding end_before
end-next r zero s n h x y = absurd (omega arith)
end-next r (suc j) s n h x y = let d : suc j - 1 ≡ j = omega arith in rw (x, y, d)

-- the rules, one after the other
pub valid-not-first : (r : List ℕ) → (get_or r 0 0 ≡ 1 → ⊥) → false ≡ valid r
unfolding valid
valid-not-first r h = simp (ne_eqb _ _ h)

pub valid-many : (r : List ℕ) → get_or r 0 0 ≡ 1 → max_entries < count r → false ≡ valid r
unfolding valid
valid-many r e h = simp (eq-eqb _ _ e, lt-leb _ _ h)

pub valid-each : (r : List ℕ) (b : Bool) → get_or r 0 0 ≡ 1 → count r ≤ max_entries → each (valid_entry r) 0 (count r) ≡ b → b ≡ valid r
unfolding valid
valid-each r b e h x = simp (eq-eqb _ _ e, le-leb _ _ h, x)

-- room
pub fits-many : (r : List ℕ) (m : ℕ) → max_entries ≤ count r → false ≡ fits r m
unfolding fits
fits-many r m h = simp (le-ltb _ _ h)

pub fits-long : (r : List ℕ) (m : ℕ) → count r < max_entries → max_body < m → false ≡ fits r m
unfolding fits
fits-long r m h l = simp (lt-ltb _ _ h, lt-leb _ _ l)

pub fits-room : (r : List ℕ) (m n e : ℕ) → n ≡ count r → n < max_entries → m ≤ max_body → e ≡ end_before r n → leb (e + m) size ≡ fits r m
unfolding fits
fits-room r m n e c h l x =
    let h' : count r < max_entries = omega arith in
    let y : e ≡ end_before r (count r) = x ∙ ap (end_before r) c in
    simp (lt-ltb _ _ h', le-leb _ _ l, y)

-- the bytes of an entry
pub entry-bytes : (s m t a b c d e f i : ℕ) → a ≡ low s → b ≡ high s → c ≡ low m → d ≡ high m → e ≡ low t → f ≡ high t → get_or (a ∷ b ∷ c ∷ d ∷ e ∷ f ∷ []) i 0 ≡ get_or (entry_bytes s m t) i 0
unfolding entry_bytes
entry-bytes s m t a b c d e f i p q u v w x = rw (p, q, u, v, w, x)

-- the stores
module _ (n e t : ℕ) (b : List ℕ) (k : ℕ) (r : List ℕ) where
  pub store-body : k < length b → set r (e + k) (get_or b k 0) ≡ step_with n e t b k r
  store-body h = sym (step_in n e t b k r (omega arith) ∙ rw (place-body n e (length b) k h, value-body n e t b k h))

  pub store_entry : (v : ℕ) → length b ≤ k → k < length b + 6 → v ≡ get_or (entry_bytes e (length b) t) (k - length b) 0 → set r (entry_at n + (k - length b)) v ≡ step_with n e t b k r
  store_entry v h l x = sym (step_in n e t b k r (omega arith) ∙ rw (place-entry n e (length b) k h l, value-entry n e t b k h l, x))

  pub store-last : k ≡ length b + 6 → set r 1 (n + 1) ≡ step_with n e t b k r
  store-last h =
      let l : length b + 6 ≤ k = omega arith in
      sym (step_in n e t b k r (omega arith) ∙ rw (place-last n e (length b) k l, value-last n e t b k l))

  pub store-none : (k ≡ length b + 6 → ⊥) → length b + 6 ≤ k → r ≡ step_with n e t b k r
  store-none h l = sym (step-out n e t b k r (omega (arith, h)))

-- the refusals
module _ {A : Type 0} (r : List ℕ) (x y z : A) where
  pub is-short : length r < size → x ≡ refusing r x y z
  unfolding refusing
  is-short h = simp (lt-ltb _ _ h)

  pub is-invalid : size ≤ length r → valid r ≡ false → y ≡ refusing r x y z
  unfolding refusing
  is-invalid h e = simp (le-ltb _ _ h, e)

  pub is-valid : size ≤ length r → valid r ≡ true → z ≡ refusing r x y z
  unfolding refusing
  is-valid h e = simp (le-ltb _ _ h, e)

refusing-of-by : {A B : Type 0} (f : A → B) (r : List ℕ) (x y z : A) (s v : Bool) → ltb (length r) size ≡ s → valid r ≡ v → f (refusing r x y z) ≡ refusing r (f x) (f y) (f z)
unfolding refusing
refusing-of-by f r x y z true v h e = simp h
refusing-of-by f r x y z false false h e = simp (h, e)
refusing-of-by f r x y z false true h e = simp (h, e)

-- what is made of the answer, made of each of the three
pub refusing-of : {A B : Type 0} (f : A → B) (r : List ℕ) (x y z : A) → f (refusing r x y z) ≡ refusing r (f x) (f y) (f z)
refusing-of f r x y z = refusing-of-by f r x y z _ _ refl refl

-- a refusal of the check is that of a call that goes on with a
module _ {A : Type 0} (r : List ℕ) (f : RegisterError → A) (a : A) (e : RegisterError) where
  refused-by : (s v : Bool) → ltb (length r) size ≡ s → valid r ≡ v → Err e ≡ ready_of r → f e ≡ refusing r (f Short) (f Invalid) a
  unfolding refusing
  refused-by true v x y h = let z : e ≡ Short = let w = simp x at h in cc in simp x (ap f z)
  refused-by false false x y h = let z : e ≡ Invalid = let w = simp (x, y) at h in cc in simp (x, y) (ap f z)
  refused-by false true x y h = let w = simp (x, y) at h in cc

  pub refused : Err e ≡ ready_of r → f e ≡ refusing r (f Short) (f Invalid) a
  refused h = refused-by _ _ refl refl h

-- what the answer of reading an entry says of the register, and of the body
module _ (r : List ℕ) (p : ℕ) where
  found-by : (s v n : Bool) → ltb (length r) size ≡ s → valid r ≡ v → ltb p (count r) ≡ n → (found_of r p).found ≡ 1 → (size ≤ length r) × (valid r ≡ true) × (p < count r)
  unfolding found_of refusing
  found-by true v n x y z h = absurd (omega (arith, simp x at h))
  found-by false false n x y z h = absurd (omega (arith, simp (x, y) at h))
  found-by false true false x y z h = absurd (omega (arith, simp (x, y, z) at h))
  found-by false true true x y z h = (ltb-false _ _ x, y, ltb-true _ _ z)

  pub found-is : (f : FoundOut) → f ≡ found_of r p → f.found ≡ 1 → (size ≤ length r) × (valid r ≡ true) × (p < count r)
  found-is f e h = found-by _ _ _ refl refl refl (sym (ap (λ o. o.found) e) ∙ h)

  none-by : (s v n : Bool) → ltb (length r) size ≡ s → valid r ≡ v → ltb p (count r) ≡ n → (found_of r p).found ≡ 0 → [] ≡ body_at r p
  unfolding found_of body_at refusing
  none-by true v n x y z h = simp x
  none-by false false n x y z h = simp (x, y)
  none-by false true false x y z h = simp (x, y, z)
  none-by false true true x y z h = absurd (omega (arith, simp (x, y, z) at h))

  pub none-is : (f : FoundOut) → f ≡ found_of r p → f.found ≡ 0 → [] ≡ body_at r p
  none-is f e h = none-by _ _ _ refl refl refl (sym (ap (λ o. o.found) e) ∙ h)

-- adding as a loop of steps
pub used-at : (r : List ℕ) (n e : ℕ) → n ≡ count r → e ≡ end_before r n → e ≡ used r
used-at r n e c x = x ∙ ap (end_before r) c

module _ (n e t : ℕ) (b : List ℕ) (r q : List ℕ) (k : ℕ) (h : q ≡ after_with n e t b k r) where
  pub after_next : step_with n e t b k q ≡ after_with n e t b (k + 1) r
  unfolding after_with
  after_next = rw (add-one k) (ap (step_with n e t b k) h)

  pub after-end : k ≡ steps (length b) → n ≡ count r → e ≡ end_before r n → q ≡ added_after r t b (steps (length b))
  after-end x y z =
      h ∙ ap (λ i. after_with n e t b i r) x
      ∙ ap (λ i. after_with n i t b (steps (length b)) r) (used-at r n e y z)
      ∙ ap (λ i. after_with i (used r) t b (steps (length b)) r) y

-- the ways of a valid register, by a test
module _ {A : Type 0} (r : List ℕ) (x y : A) (t : Bool) (a b : A) (h : size ≤ length r) (e : valid r ≡ true) where
  pub picks-yes : t ≡ true → a ≡ refusing r x y (pick t a b)
  picks-yes i = let p : a ≡ pick t a b = rw i in p ∙ is-valid r x y (pick t a b) h e

  pub picks-no : t ≡ false → b ≡ refusing r x y (pick t a b)
  picks-no i = let p : b ≡ pick t a b = rw i in p ∙ is-valid r x y (pick t a b) h e

-- adding a body of m bytes that leaves q
module _ (r : List ℕ) (m : ℕ) (q : List ℕ) where
  pub adding-short : length r < size → out (Err Short) r ≡ adding_of r m q
  unfolding adding_of
  adding-short h = is-short r _ _ _ h

  pub adding-invalid : size ≤ length r → valid r ≡ false → out (Err Invalid) r ≡ adding_of r m q
  unfolding adding_of
  adding-invalid h e = is-invalid r _ _ _ h e

  pub adding-full : size ≤ length r → valid r ≡ true → fits r m ≡ false → out (Err Full) r ≡ adding_of r m q
  unfolding adding_of
  adding-full h e f = picks-no r _ _ _ _ _ h e f

  pub adding-done : size ≤ length r → valid r ≡ true → fits r m ≡ true → out (Ok tt) q ≡ adding_of r m q
  unfolding adding_of
  adding-done h e f = picks-yes r _ _ _ _ _ h e f

-- a refusal of the check, where room is asked for
pub no-room-first : (r : List ℕ) (m : ℕ) (e : RegisterError) → Err e ≡ ready_of r → Err e ≡ room_of r m
no-room-first r m e h = refused r (λ i. Err i) _ e h

-- a refusal where room is asked for is that of adding
module _ (r : List ℕ) (m : ℕ) (q : List ℕ) (e : RegisterError) where
  no-room-by : (s v f : Bool) → ltb (length r) size ≡ s → valid r ≡ v → fits r m ≡ f → Err e ≡ room_of r m → out (Err e) r ≡ adding_of r m q
  unfolding refusing adding_of
  no-room-by true v f x y z h = let w : e ≡ Short = let u = simp x at h in cc in simp x (ap (λ i. out (Err i) r) w)
  no-room-by false false f x y z h = let w : e ≡ Invalid = let u = simp (x, y) at h in cc in simp (x, y) (ap (λ i. out (Err i) r) w)
  no-room-by false true false x y z h = let w : e ≡ Full = let u = simp (x, y, z) at h in cc in simp (x, y, z) (ap (λ i. out (Err i) r) w)
  no-room-by false true true x y z h = let u = simp (x, y, z) at h in cc

  pub no-room : Err e ≡ room_of r m → out (Err e) r ≡ adding_of r m q
  no-room h = no-room-by _ _ _ refl refl refl h

-- the ways of adding a body of m bytes
pub data Way (r : List ℕ) (m : ℕ) : Type 0 where
  way-short : length r < size → Way r m
  way-invalid : size ≤ length r → valid r ≡ false → Way r m
  way-full : size ≤ length r → valid r ≡ true → fits r m ≡ false → Way r m
  way-done : size ≤ length r → valid r ≡ true → fits r m ≡ true → Way r m

way_by : (r : List ℕ) (m : ℕ) (a b : Bool) → size ≤ length r → valid r ≡ a → fits r m ≡ b → Way r m
way_by r m false b h e f = way-invalid h e
way_by r m true false h e f = way-full h e f
way_by r m true true h e f = way-done h e f

pub way : (r : List ℕ) (m : ℕ) → Way r m
way r m = ⊎_elim (λ h. way-short h) (λ h. way_by r m _ _ h refl refl) (lt-or-le (length r) size)

-- the step, with the number and the end as they were read
pub step-as : (r : List ℕ) (n e t : ℕ) (b : List ℕ) (k : ℕ) → n ≡ count r → e ≡ end_before r n → step_with n e t b k r ≡ step_of t b k r
step-as r n e t b k y z = ap (λ i. step_with n i t b k r) (used-at r n e y z) ∙ ap (λ i. step_with i (used r) t b k r) y

-- the entry at a place p, where n entries were counted
module _ {A : Type 0} (r : List ℕ) (x y a b : A) (p n : ℕ) (h : size ≤ length r) (e : valid r ≡ true) (c : n ≡ count r) where
  pub at-missing : n ≤ p → b ≡ refusing r x y (pick (ltb p (count r)) a b)
  at-missing l = picks-no r x y _ a b h e (le-ltb p (count r) (omega arith))

  pub at-found : p < n → a ≡ refusing r x y (pick (ltb p (count r)) a b)
  at-found l = picks-yes r x y _ a b h e (lt-ltb p (count r) (omega arith))

pub part-is : (r : List ℕ) (p s n : ℕ) → s ≡ start_of r p → n ≡ length_of r p → take (s + n - s) (drop s r) ≡ body_of r p
part-is r p s n x y = let d : s + n - s ≡ n = omega arith in rw (d, x, y)

pub inside_is : (r : List ℕ) (p n s m : ℕ) → size ≤ length r → valid r ≡ true → n ≡ count r → p < n → s ≡ start_of r p → m ≡ length_of r p → s + m ≤ length r
inside_is r p n s m h e c l x y = omega (arith, ((valid-is r e).entries p (omega arith)).inside)
