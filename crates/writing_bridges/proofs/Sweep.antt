-- A sweep by keys, from the number with the nearest key. Assumes nothing.
use Prim.Native.Nat.{ℕ, zero, suc, ◌+◌, ◌-◌, ◌<◌, ◌≤◌}
use native.Mathlib.Omega.{arith}
use native.Mathlib.Numerals.{add-one}
use mathlib.Core.Path.{◌≡◌, refl, sym, ap, ◌∙◌}
use mathlib.Core.Bool.{Bool, true, false, ◌&&◌}
use mathlib.Core.List.{List, [], ◌∷◌}
use lib.ListN.{get_or}
use lib.Dec.{eqb}
use borrow.Author.Tests.{eq-eqb, eqb-true, eqb-false}
use Rattle.loops.specs.Loop.{up_to}
use Rattle.writing_walk.specs.Token.{Bond}
use Rattle.writing_walk.specs.Walk.{keep_if, keep, sweep}
use Rattle.writing_walk.proofs.Count.{and_left, and_right}
use Rattle.writing_bridges.specs.Slots.{Near}

-- keeping twice
keep-both : (p q : Bond → Bool) (l : List Bond) → keep p (keep q l) ≡ keep (λ b. q b && p b) l
keep-both p q [] = refl
keep-both p q (b ∷ l) = go (q b) (keep-both p q l)
  where
    go : (t : Bool) → keep p (keep q l) ≡ keep (λ b. q b && p b) l → keep p (keep_if t b (keep q l)) ≡ keep_if (t && p b) b (keep (λ b. q b && p b) l)
    go true h = ap (keep_if (p b) b) h
    go false h = h

module _ (f : ℕ → Bond) (p : Bond → Bool) where
  keep-none : (j d : ℕ) → ((i : ℕ) → j ≤ i → i < j + d → p (f i) ≡ false) → keep p (up_to f j d) ≡ []
  unfolding up_to
  keep-none j zero h = refl
  keep-none j (suc d) h = rw (h j (omega arith) (omega arith)) (keep-none (suc j) d (λ i g l. h i (omega arith) (omega arith)))

  keep_one : (r j d : ℕ) → j ≤ r → r < j + d → p (f r) ≡ true → ((i : ℕ) → i < j + d → p (f i) ≡ true → i ≡ r) → keep p (up_to f j d) ≡ f r ∷ []
  unfolding up_to
  keep_one r j zero h g e u = absurd (omega arith)
  keep_one r j (suc d) h g e u = go (eqb j r) refl (keep_one r (suc j) d)
    where
      off : (i : ℕ) → i < j + suc d → (i ≡ r → ⊥) → (t : Bool) → p (f i) ≡ t → t ≡ false
      off i l n true q = absurd (n (u i l q))
      off i l n false q = refl

      go : (t : Bool) → eqb j r ≡ t → (suc j ≤ r → r < suc j + d → p (f r) ≡ true → ((i : ℕ) → i < suc j + d → p (f i) ≡ true → i ≡ r) → keep p (up_to f (suc j) d) ≡ f r ∷ [])
          → keep_if (p (f j)) (f j) (keep p (up_to f (suc j) d)) ≡ f r ∷ []
      go true q k =
          let z : j ≡ r = eqb-true j r q in
          let x : keep p (up_to f (suc j) d) ≡ [] = keep-none (suc j) d (λ i l m. off i (omega arith) (omega arith) (p (f i)) refl) in
          let y : p (f j) ≡ true = ap (λ (i : ℕ). p (f i)) z ∙ e in
          rw (x, y) (ap (λ (i : ℕ). f i ∷ []) z)
      go false q k =
          let z = eqb-false j r q in
          rw (off j (omega arith) z (p (f j)) refl) (k (omega arith) (omega arith) e (λ i l m. u i (omega arith) m))

-- keys that nobody has are passed over
sweep-skip : (key : Bond → ℕ) (l : List Bond) (a d e : ℕ) → ((y : ℕ) → a ≤ y → y < a + d → keep (λ b. eqb (key b) y) l ≡ []) → sweep key l a (d + e) ≡ sweep key l (a + d) e
sweep-skip key l a zero e h =
    let x : 0 + e ≡ e = omega arith in
    let y : a + 0 ≡ a = omega arith in
    rw (x, y)
sweep-skip key l a (suc d) e h =
    let x : suc d + e ≡ suc (d + e) = omega arith in
    let y : a + suc d ≡ suc a + d = omega arith in
    rw (x, y, h a (omega arith) (omega arith)) (sweep-skip key l (suc a) d e (λ z g i. h z (omega arith) (omega arith)))

module _ (key side : Bond → ℕ) (f : ℕ → Bond) (n k x y r : ℕ) (ends keys : List ℕ)
    (ke : (i : ℕ) → i < k → key (f i) ≡ get_or keys i 0) (se : (i : ℕ) → i < k → side (f i) ≡ get_or ends i 0) (near : Near ends keys x y k k r) where
  abbrev C : List Bond
  C = keep (λ b. eqb (side b) x) (up_to f 0 k)

  none-at : (z : ℕ) → y ≤ z → (r < k → z < key (f r)) → keep (λ b. eqb (key b) z) C ≡ []
  none-at z h g =
      keep-both (λ b. eqb (key b) z) (λ b. eqb (side b) x) (up_to f 0 k)
      ∙ keep-none f (λ b. eqb (side b) x && eqb (key b) z) 0 k (λ i l m. go i (omega arith) (eqb (side (f i)) x) refl (eqb (key (f i)) z) refl)
    where
      go : (i : ℕ) → i < k → (s : Bool) → eqb (side (f i)) x ≡ s → (t : Bool) → eqb (key (f i)) z ≡ t → (s && t) ≡ false
      go i l false p t q = refl
      go i l true p false q = refl
      go i l true p true q =
          let a : side (f i) ≡ x = eqb-true (side (f i)) x p in
          let b : key (f i) ≡ z = eqb-true (key (f i)) z q in
          let e1 = ke i l in
          let w = near.least i l (sym (se i l) ∙ a) (omega arith) in
          let e2 = ke r w.0 in
          absurd (let m = g w.0 in omega arith)

  -- nobody is left
  pub sweep-none : k ≤ r → (d : ℕ) → sweep key C y d ≡ []
  sweep-none h d =
      let e : d + 0 ≡ d = omega arith in
      rw e at (sweep-skip key C y d 0 (λ z g i. none-at z g (λ l. absurd (omega arith))))

  -- the nearest comes first
  pub sweep-first : r < k → key (f r) < n → ((i : ℕ) → i < k → side (f i) ≡ side (f r) → key (f i) ≡ key (f r) → i ≡ r)
      → sweep key C y (n - y) ≡ f r ∷ sweep key C (key (f r) + 1) (n - (key (f r) + 1))
  sweep-first h b u =
      let v = key (f r) in
      let w = near.here h in
      let e1 = ke r h in
      let l : y ≤ v = omega (arith, w.1) in
      let d : n - y ≡ (v - y) + suc (n - (v + 1)) = omega arith in
      let q : y + (v - y) ≡ v = omega arith in
      let s : side (f r) ≡ x = se r h ∙ w.0 in
      let o : keep (λ b. eqb (key b) v) C ≡ f r ∷ [] =
      keep-both (λ b. eqb (key b) v) (λ b. eqb (side b) x) (up_to f 0 k)
      ∙ keep_one f (λ b. eqb (side b) x && eqb (key b) v) r 0 k (omega arith) (omega arith) (rw (eq-eqb (side (f r)) x s, eq-eqb v v refl))
      (λ i g t. u i (omega arith) (eqb-true (side (f i)) x (and_left (eqb (side (f i)) x) (eqb (key (f i)) v) t) ∙ sym s) (eqb-true (key (f i)) v (and_right (eqb (side (f i)) x) (eqb (key (f i)) v) t))) in
      ap (sweep key C y) d ∙ sweep-skip key C y (v - y) (suc (n - (v + 1))) (λ z g i. none-at z g (λ m. omega arith)) ∙ ap (λ (a : ℕ). sweep key C a (suc (n - (v + 1)))) q ∙ rw (o, add-one v)
