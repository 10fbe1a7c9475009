-- Laws of the last children and of the nesting. Assumes nothing.
use Prim.Native.Nat.{ℕ, zero, suc, ◌+◌, ◌-◌, ◌<◌, ◌≤◌}
use native.Mathlib.Omega.{arith}
use native.Mathlib.Numerals.{add-one}
use mathlib.Core.Path.{◌≡◌, refl, sym, ap, ◌∙◌, subst}
use mathlib.Core.Bool.{Bool, true, false, not, ◌||◌}
use mathlib.Core.List.{List, [], ◌∷◌}
use lib.ListN.{length, get_or, set, drop, length-set, drop_of_length-le}
use lib.Seq.{drop-cons, get_or-set_same, get_or-set_other}
use lib.Dec.{eqb}
use borrow.Author.Tests.{eq-eqb, ne_eqb, eqb-true, eqb-false, le-leb, lt-leb}
use Rattle.loops.specs.Loop.{pick, run}
use Rattle.ids.specs.Limits.{max_depth}
use Rattle.writing_walk.specs.Walk.{member}
use Rattle.writer.specs.Emit.{more_at}
use Rattle.writer.specs.Nest.{depth_left, depth_after, nest_from}

-- ---- the last child of each parent
-- the parents from the place k on are gone through
abbrev lasts : List ℕ → ℕ → List ℕ → List ℕ
lasts [] k l = l
lasts (u ∷ us) k l = lasts us (suc k) (set l u k)

-- a parent that does not come again keeps its child; one that does gets a later one
kept-child : (us : List ℕ) (k : ℕ) (l : List ℕ) (v : ℕ) → member v us ≡ false → get_or (lasts us k l) v 0 ≡ get_or l v 0
kept-child [] k l v h = refl
kept-child (u ∷ us) k l v h = go (eqb v u) refl h (kept-child us (suc k) (set l u k) v)
  where
    go : (t : Bool) → eqb v u ≡ t → (t || member v us) ≡ false → (member v us ≡ false → get_or (lasts us (suc k) (set l u k)) v 0 ≡ get_or (set l u k) v 0) → get_or (lasts us (suc k) (set l u k)) v 0 ≡ get_or l v 0
    go true e h r = absurd (let z : ◌≡◌ {A = ℕ} 0 1 = cc in omega arith)
    go false e h r = r h ∙ get_or-set_other l u v k 0 (eqb-false v u e)

later-child : (us : List ℕ) (k : ℕ) (l : List ℕ) (v : ℕ) → v < length l → member v us ≡ true → k ≤ get_or (lasts us k l) v 0
later-child [] k l v b h = absurd (let z : ◌≡◌ {A = ℕ} 0 1 = cc in omega arith)
later-child (u ∷ us) k l v b h = go (member v us) refl (eqb v u) refl h (later-child us (suc k) (set l u k) v (simp length-set b))
  where
    go : (m : Bool) → member v us ≡ m → (t : Bool) → eqb v u ≡ t → (t || m) ≡ true → (m ≡ true → suc k ≤ get_or (lasts us (suc k) (set l u k)) v 0) → k ≤ get_or (lasts us (suc k) (set l u k)) v 0
    go true f t e h r = let q = r refl in omega arith
    go false f true e h r =
        let z : v ≡ u = eqb-true v u e in
        let w : get_or (set l u k) v 0 ≡ k = subst (λ (y : ℕ). get_or (set l y k) v 0 ≡ k) z (get_or-set_same l v k 0 b) in
        let q = kept-child us (suc k) (set l u k) v f in
        omega arith
    go false f false e h r = absurd (let z : ◌≡◌ {A = ℕ} 0 1 = cc in omega arith)

-- the loop goes through the parents
pub run-lasts : (up us : List ℕ) (n : ℕ) → length us ≡ n → ((x : ℕ) → x < n → get_or up x 0 ≡ get_or us x 0) → (d x : ℕ) (l : List ℕ) → x + d ≡ n → run (λ x l. set l (get_or up x 0) x) x d l ≡ lasts (drop x us) x l
unfolding run
run-lasts up us n lu h zero x l e = sym (ap (λ (m : List ℕ). lasts m x l) (drop_of_length-le us (let z : length us ≤ x = omega arith in z)))
run-lasts up us n lu h (suc d) x l e =
    let b : x < length us = omega arith in
    run-lasts up us n lu h d (suc x) (set l (get_or up x 0) x) (omega arith)
    ∙ ap (λ (y : ℕ). lasts (drop (suc x) us) (suc x) (set l y x)) (h x (omega arith))
    ∙ sym (ap (λ (m : List ℕ). lasts m x l) (drop-cons us x 0 b))

pub more-is : (us : List ℕ) (k : ℕ) (l : List ℕ) (x : ℕ) → x < length us → ((j : ℕ) → j < length us → get_or us j 0 < length l)
    → not (eqb (get_or (lasts us k l) (get_or us x 0) 0) (k + x)) ≡ member (get_or us x 0) (drop (suc x) us)
more-is [] k l x h b = absurd (omega arith)
more-is (u ∷ us) k l zero h b = go (member u us) refl
  where
    go : (t : Bool) → member u us ≡ t → not (eqb (get_or (lasts us (suc k) (set l u k)) u 0) (k + 0)) ≡ t
    go true e =
        let w = later-child us (suc k) (set l u k) u (simp length-set (b 0 (omega arith))) e in
        rw (ne_eqb (get_or (lasts us (suc k) (set l u k)) u 0) (k + 0) (omega arith))
    go false e =
        let w : get_or (lasts us (suc k) (set l u k)) u 0 ≡ k = kept-child us (suc k) (set l u k) u e ∙ get_or-set_same l u k 0 (b 0 (omega arith)) in
        rw (eq-eqb (get_or (lasts us (suc k) (set l u k)) u 0) (k + 0) (omega arith))
more-is (u ∷ us) k l (suc x) h b =
    let z : k + suc x ≡ suc k + x = omega arith in
    rw z (more-is us (suc k) (set l u k) x (omega arith) (λ j g. simp length-set (b (suc j) (omega arith))))

-- THE STATEMENT: an atom is not its parent's last child exactly if a later one has the same parent
pub more-at : (up us last : List ℕ) (n : ℕ) (l : List ℕ) → length us ≡ n → ((x : ℕ) → x < n → get_or up x 0 ≡ get_or us x 0) → ((x : ℕ) → x < n → get_or up x 0 < length l)
    → last ≡ run (λ x l. set l (get_or up x 0) x) 0 n l → (x : ℕ) → x < n → more_at up last x ≡ member (get_or us x 0) (drop (suc x) us)
more-at up us last n l lu h b e x g =
    let q : last ≡ lasts us 0 l = e ∙ run-lasts up us n lu h n 0 l (omega arith) in
    let z : 0 + x ≡ x = omega arith in
    (λ i. not (eqb (get_or (q i) (h x g i) 0) x)) ∙ ap (λ (y : ℕ). not (eqb (get_or (lasts us 0 l) (get_or us x 0) 0) y)) (sym z)
    ∙ more-is us 0 l x (omega arith) (λ j i. (let w = h j (omega arith) in let v = b j (omega arith) in omega arith))

-- ---- the depth
pub left-root : (d u x : ℕ) → u ≡ 0 → d ≡ depth_left d u x
unfolding depth_left
left-root d u x e = sym (rw (eq-eqb u 0 e))

pub left-first : (d u x : ℕ) → (u ≡ 0 → ⊥) → u ≡ x → d ≡ depth_left d u x
unfolding depth_left
left-first d u x e f = sym (rw (ne_eqb u 0 e, eq-eqb u x f))

pub left-later : (d u x r : ℕ) → (u ≡ 0 → ⊥) → (u ≡ x → ⊥) → r ≡ d - 1 → r ≡ depth_left d u x
unfolding depth_left
left-later d u x r e f g = g ∙ sym (rw (ne_eqb u 0 e, ne_eqb u x f))

pub after-root : (d u x l : ℕ) (m : Bool) → l ≡ depth_left d u x → u ≡ 0 → l ≡ depth_after d u m x
unfolding depth_after depth_left
after-root d u x l m e h = e ∙ rw (eq-eqb u 0 h)

pub after_last : (d u x l : ℕ) (m : Bool) → l ≡ depth_left d u x → (u ≡ 0 → ⊥) → m ≡ false → l ≡ depth_after d u m x
unfolding depth_after
after_last d u x l m e h f = e ∙ sym (rw (ne_eqb u 0 h, f))

pub after-deep : (d u x l : ℕ) (m : Bool) → l ≡ depth_left d u x → (u ≡ 0 → ⊥) → m ≡ true → max_depth ≤ l → max_depth + 1 ≡ depth_after d u m x
unfolding depth_after
after-deep d u x l m e h f g = sym (rw (ne_eqb u 0 h, f, ← e, le-leb max_depth l g))

pub after-branch : (d u x l : ℕ) (m : Bool) → l ≡ depth_left d u x → (u ≡ 0 → ⊥) → m ≡ true → l < max_depth → l + 1 ≡ depth_after d u m x
unfolding depth_after
after-branch d u x l m e h f g = sym (rw (ne_eqb u 0 h, f, ← e, lt-leb max_depth l g))

-- the loop stands before the atom x
pub record Nests (up : List ℕ) (more : ℕ → Bool) (n x depth : ℕ) : Type 0 where
  pub within : x ≤ n
  pub same : nest_from up more 0 n 0 ≡ nest_from up more x (n - x) depth

pub nests-start : {up : List ℕ} {more : ℕ → Bool} {n : ℕ} → Nests up more n 0 0
nests-start {n = n} = record { within = omega arith; same = let z : n - 0 ≡ n = omega arith in rw z }

module _ {up : List ℕ} {more : ℕ → Bool} {n x depth e : ℕ} (s : Nests up more n x depth) (h : x < n) (q : e ≡ depth_after depth (get_or up x 0) (more x) x) where
  pub nests-deep : max_depth < e → false ≡ nest_from up more 0 n 0
  unfolding nest_from
  nests-deep g = let d : n - x ≡ suc (n - (x + 1)) = omega arith in sym (s.same ∙ rw (d, ← q, lt-leb e max_depth g))

  pub nests-step : e ≤ max_depth → Nests up more n (x + 1) e
  unfolding nest_from
  nests-step g = let d : n - x ≡ suc (n - (x + 1)) = omega arith in record { within = omega arith; same = s.same ∙ rw (d, ← q, le-leb e max_depth g, add-one x) }

pub nests-end : {up : List ℕ} {more : ℕ → Bool} {n x depth : ℕ} → Nests up more n x depth → n ≤ x → true ≡ nest_from up more 0 n 0
unfolding nest_from
nests-end {n = n} {x = x} s h = let d : n - x ≡ 0 = omega arith in sym (s.same ∙ rw d)

-- ---- as many atoms as the limit cannot nest deeper
left-low : (d u x : ℕ) → depth_left d u x ≤ d
unfolding depth_left
left-low d u x = go (eqb u 0) (eqb u x)
  where
    go : (s t : Bool) → pick s d (pick t d (d - 1)) ≤ d
    go true t = omega arith
    go false true = omega arith
    go false false = omega arith

after-low : (d u x : ℕ) (m : Bool) → d < max_depth → depth_after d u m x ≤ d + 1
unfolding depth_after
after-low d u x m h =
    let l = left-low d u x in
    rw (lt-leb max_depth (depth_left d u x) (omega arith)) (go (eqb u 0) m)
  where
    go : (s t : Bool) → pick s d (pick t (depth_left d u x + 1) (depth_left d u x)) ≤ d + 1
    go true t = omega arith
    go false true = omega (arith, left-low d u x)
    go false false = omega (arith, left-low d u x)

pub few-nest : (up : List ℕ) (more : ℕ → Bool) (x k d : ℕ) → d + k ≤ max_depth → true ≡ nest_from up more x k d
unfolding nest_from
few-nest up more x zero d h = refl
few-nest up more x (suc k) d h =
    let l = after-low d (get_or up x 0) x (more x) (omega arith) in
    rw (le-leb (depth_after d (get_or up x 0) (more x) x) max_depth (omega arith)) (few-nest up more (suc x) k (depth_after d (get_or up x 0) (more x) x) (omega arith))
