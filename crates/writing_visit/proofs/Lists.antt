-- The bonds at each atom as lists, put in front one by one from the last bond on. Assumes nothing.
use Prim.Native.Nat.{ℕ, zero, suc, ◌-◌, ◌<◌, ◌≤◌}
use native.Mathlib.Omega.{arith}
use mathlib.Core.Path.{◌≡◌, refl, sym, ap, ◌∙◌, subst}
use mathlib.Core.Bool.{Bool, true, false, ◌||◌}
use mathlib.Core.List.{List}
use lib.ListN.{length, get_or, set, replicate, length-set}
use lib.Seq.{get_or-set_same, get_or-set_other}
use lib.Dec.{eqb}
use borrow.Author.Tests.{eqb-true, eqb-false}
use Rattle.loops.specs.Loop.{pick}
use Rattle.table.specs.Limits.{max_atoms}
use Rattle.writing_walk.specs.Token.{Bond}
use Rattle.writing_visit.specs.Visit.{touching, first_from, next_after, BondsFit, Linked}
use Rattle.writing_visit.proofs.Ways.{next-is}

all_same : (k m v : ℕ) → v < k → get_or (replicate k m) v 0 ≡ m
all_same zero m v h = absurd (omega arith)
all_same (suc k) m zero h = refl
all_same (suc k) m (suc v) h = all_same k m v (omega arith)

-- bonds that fit n atoms fit the most atoms that there may be
pub fit_wide : {bonds : ℕ → Bond} {n m : ℕ} → BondsFit bonds n m → BondsFit bonds max_atoms m
fit_wide fit =
    record {
      atoms_few = omega arith;
      bonds_few = fit.bonds_few;
      ends = λ b h. ((fit.ends b h).0, omega (arith, (fit.ends b h).1, fit.atoms_few));
      kinds = fit.kinds;
    }

-- no bond is there yet
pub linked-start : {bonds : ℕ → Bond} {m : ℕ} (head after behind : List ℕ) → head ≡ replicate (length head) m → Linked bonds m m head after behind
unfolding first_from
linked-start {bonds} {m} head after behind e =
    let z : m - m ≡ 0 = omega arith in
    record {
      heads = λ v i. ap (λ (l : List ℕ). get_or l v 0) e ∙ all_same (length head) m v i ∙ simp z;
      afters = λ c g i. absurd (omega arith);
      behinds = λ c g i. absurd (omega arith);
    }

pub linked-cast : {bonds : ℕ → Bond} {m : ℕ} (b k : ℕ) (head after behind : List ℕ) → b ≡ k → Linked bonds m b head after behind → Linked bonds m k head after behind
linked-cast {bonds} {m} b k head after behind e l = subst (λ (j : ℕ). Linked bonds m j head after behind) e l

module _ {bonds : ℕ → Bond} {m : ℕ} (fit : BondsFit bonds max_atoms m) (k : ℕ) (h : k < m) (head after behind : List ℕ) (l : Linked bonds m (suc k) head after behind) where
  -- what was the head stands behind the new bond
  behind-step : (end : ℕ → ℕ) (t : List ℕ) → end k < length head → k < length t
      → ((c : ℕ) → suc k ≤ c → c < m → get_or t c 0 ≡ first_from (touching bonds (end c)) (suc c) (m - suc c))
      → (c : ℕ) → k ≤ c → c < m → get_or (set t k (get_or head (end k) 0)) c 0 ≡ first_from (touching bonds (end c)) (suc c) (m - suc c)
  behind-step end t g room old c i j = go (eqb c k) refl
    where
      go : (b : Bool) → eqb c k ≡ b → get_or (set t k (get_or head (end k) 0)) c 0 ≡ first_from (touching bonds (end c)) (suc c) (m - suc c)
      go true e = let q : c ≡ k = eqb-true c k e in rw (q, get_or-set_same t k (get_or head (end k) 0) 0 room) (l.heads (end k) g)
      go false e = let q = eqb-false c k e in get_or-set_other t k c (get_or head (end k) 0) 0 q ∙ old c (omega arith) j

  head_step : (e f : ℕ) → e ≡ (bonds k).lo → f ≡ (bonds k).hi → e < length head → f < length head
      → (v : ℕ) → v < length head → get_or (set (set head e k) f k) v 0 ≡ first_from (touching bonds v) k (m - k)
  unfolding first_from touching
  head_step e f ee ef he hf v i =
      let d : m - k ≡ suc (m - suc k) = omega arith in
      rw (d, ← ee, ← ef) (go (eqb e v) (eqb f v) refl refl)
    where
      long : f < length (set head e k)
      long = rw (length-set head e k) hf

      go : (a b : Bool) → eqb e v ≡ a → eqb f v ≡ b → get_or (set (set head e k) f k) v 0 ≡ pick (a || b) k (first_from (touching bonds v) (suc k) (m - suc k))
      go true true p q = rw (← eqb-true f v q) (get_or-set_same (set head e k) f k 0 long)
      go false true p q = rw (← eqb-true f v q) (get_or-set_same (set head e k) f k 0 long)
      go true false p q = get_or-set_other (set head e k) f v k 0 (λ x. eqb-false f v q (sym x)) ∙ rw (← eqb-true e v p) (get_or-set_same head e k 0 he)
      go false false p q = get_or-set_other (set head e k) f v k 0 (λ x. eqb-false f v q (sym x)) ∙ get_or-set_other head e v k 0 (λ x. eqb-false e v p (sym x)) ∙ l.heads v i

  -- the bond k is put in front
  pub linked-step : (bonds k).hi < length head → m ≤ length after → m ≤ length behind → (head2 after2 behind2 : List ℕ)
      → head2 ≡ set (set head (bonds k).lo k) (bonds k).hi k → after2 ≡ set after k (get_or head (bonds k).lo 0) → behind2 ≡ set behind k (get_or head (bonds k).hi 0)
      → Linked bonds m k head2 after2 behind2
  linked-step rh ra rb head2 after2 behind2 eh ea eb =
      let q = fit.ends k h in
      let long : (v : ℕ) → v < length head2 → v < length head = λ v i. omega (arith, ap length eh, length-set (set head (bonds k).lo k) (bonds k).hi k, length-set head (bonds k).lo k) in
      record {
        heads = λ v i. ap (λ (t : List ℕ). get_or t v 0) eh ∙ head_step (bonds k).lo (bonds k).hi refl refl (omega arith) (omega arith) v (long v i);
        afters = λ c i j. ap (λ (t : List ℕ). get_or t c 0) ea ∙ behind-step (λ c. (bonds c).lo) after (omega arith) (omega arith) l.afters c i j;
        behinds = λ c i j. ap (λ (t : List ℕ). get_or t c 0) eb ∙ behind-step (λ c. (bonds c).hi) behind (omega arith) (omega arith) l.behinds c i j;
      }

module _ {bonds : ℕ → Bond} {m : ℕ} {head after behind : List ℕ} (l : Linked bonds m 0 head after behind) where
  first-within : (v from : ℕ) → from ≤ m → first_from (touching bonds v) from (m - from) ≤ m
  first-within v from h = (next-is bonds v m from (first_from (touching bonds v) from (m - from)) h refl).high

  pub head-within : (v : ℕ) → v < length head → get_or head v 0 ≤ m
  head-within v h = rw (l.heads v h) (first-within v 0 (omega arith))

  pub head-here : (v : ℕ) → v < length head → get_or head v 0 < m → touching bonds v (get_or head v 0) ≡ true
  head-here v h = (next-is bonds v m 0 (get_or head v 0) (omega arith) (l.heads v h)).here

  pub after-within : (b : ℕ) → b < m → (get_or after b 0 ≤ m) × (get_or behind b 0 ≤ m)
  after-within b h = (rw (l.afters b (omega arith) h) (first-within (bonds b).lo (suc b) (omega arith)), rw (l.behinds b (omega arith) h) (first-within (bonds b).hi (suc b) (omega arith)))

  -- behind a bond at v stands the next bond at v
  pub next-after-is : (b v r : ℕ) → b < m → touching bonds v b ≡ true → r ≡ next_after bonds after behind b v → r ≡ first_from (touching bonds v) (suc b) (m - suc b)
  unfolding touching
  next-after-is b v r h here e = e ∙ go (eqb (bonds b).lo v) (eqb (bonds b).hi v) refl refl here
    where
      go : (x y : Bool) → eqb (bonds b).lo v ≡ x → eqb (bonds b).hi v ≡ y → (x || y) ≡ true → pick x (get_or after b 0) (get_or behind b 0) ≡ first_from (touching bonds v) (suc b) (m - suc b)
      go true y p q t = l.afters b (omega arith) h ∙ ap (λ (a : ℕ). first_from (touching bonds a) (suc b) (m - suc b)) (eqb-true (bonds b).lo v p)
      go false true p q t = l.behinds b (omega arith) h ∙ ap (λ (a : ℕ). first_from (touching bonds a) (suc b) (m - suc b)) (eqb-true (bonds b).hi v q)
      go false false p q t = absurd (let z : ◌≡◌ {A = ℕ} 0 1 = cc in omega arith)

  pub next-after-later : (b v r : ℕ) → b < m → r ≡ first_from (touching bonds v) (suc b) (m - suc b) → b < r
  next-after-later b v r h e = (next-is bonds v m (suc b) r (omega arith) e).low
