-- The keys of bonds, written in two lists, in the second at a place moved up and with offsets moved up. Assumes nothing.
use Prim.Native.Nat.{ℕ, zero, suc, ◌+◌, ◌-◌, ◌*◌, ◌<◌}
use native.Mathlib.Omega.{arith}
use native.Mathlib.Numerals.{add-one}
use native.Mathlib.Decide.{ℕ_discrete, dec_lt}
use mathlib.Core.Path.{◌≡◌, refl, sym, ap, ◌∙◌}
use mathlib.Core.List.{List}
use lib.ListN.{length, get_or, set, length-set, get_or-eq_default}
use lib.Seq.{get_or-set_same, get_or-set_other}
use lib.Dec.{ltb}
use Rattle.reading_state.specs.State.{Steering, keyed, keys_after}
use Rattle.reading.proofs.Cases.{by-test}
use Rattle.mixture.proofs.Behind.{raised}

-- ---- numbers moved up
pub raised-more : (n x : ℕ) → raised n (x + 1) ≡ n + x + 1
raised-more n x = ap (raised n) (add-one x) ∙ sym (add-one (n + x))

pub unmoved : (x : ℕ) → raised 0 x ≡ x
unmoved zero = refl
unmoved (suc x) = omega arith

-- ---- one cell
-- a cell with 0 is 0, also past the end
pub set-zero : (l : List ℕ) (r : ℕ) → get_or (set l r 0) r 0 ≡ 0
set-zero l r = split (dec_lt r (length l))
  where
    split : Dec (r < length l) → get_or (set l r 0) r 0 ≡ 0
    split (yes h) = get_or-set_same l r 0 0 h
    split (no h) = get_or-eq_default (set l r 0) 0 (rw length-set (omega arith))

set-raised : (δ m : ℕ) (l k : List ℕ) (i j x y : ℕ) → i < length l → j < length k → j ≡ m + i → y ≡ raised δ x → ((c : ℕ) → get_or k (m + c) 0 ≡ raised δ (get_or l c 0)) → (c : ℕ) → get_or (set k j y) (m + c) 0 ≡ raised δ (get_or (set l i x) c 0)
set-raised δ m l k i j x y h g e q w c = split (ℕ_discrete c i)
  where
    split : Dec (c ≡ i) → get_or (set k j y) (m + c) 0 ≡ raised δ (get_or (set l i x) c 0)
    split (yes f) =
        let f' : m + c ≡ j = omega arith in
        ap (λ (v : ℕ). get_or (set k j y) v 0) f' ∙ get_or-set_same k j y 0 g ∙ q ∙ ap (raised δ) (sym (get_or-set_same l i x 0 h) ∙ ap (λ (v : ℕ). get_or (set l i x) v 0) (sym f))
    split (no f) = get_or-set_other k j (m + c) y 0 (λ z. f (omega arith)) ∙ w c ∙ ap (raised δ) (sym (get_or-set_other l i c x 0 f))

-- ---- the two keys of a bond
pub keyed-raised : (δ m : ℕ) (l k : List ℕ) (b e p q p' q' : ℕ) → 2 * b + 1 < length l → 2 * e + 1 < length k → e ≡ m + b → p' ≡ δ + p → q' ≡ δ + q → ((c : ℕ) → get_or k (2 * m + c) 0 ≡ raised δ (get_or l c 0))
    → (c : ℕ) → get_or (keyed k e p' q') (2 * m + c) 0 ≡ raised δ (get_or (keyed l b p q) c 0)
keyed-raised δ m l k b e p q p' q' h g z x y w =
    set-raised δ (2 * m) (set l (2 * b) (p + 1)) (set k (2 * e) (p' + 1)) (2 * b + 1) (2 * e + 1) (q + 1) (q' + 1) (rw length-set h) (rw length-set g) (omega arith) (ap (λ (v : ℕ). v + 1) y ∙ sym (raised-more δ q))
    (set-raised δ (2 * m) l k (2 * b) (2 * e) (p + 1) (p' + 1) (omega arith) (omega arith) (omega arith) (ap (λ (v : ℕ). v + 1) x ∙ sym (raised-more δ p)) w)

keyed-other : (l : List ℕ) (b p q c : ℕ) → (c ≡ 2 * b → ⊥) → (c ≡ 2 * b + 1 → ⊥) → get_or (keyed l b p q) c 0 ≡ get_or l c 0
keyed-other l b p q c f g = get_or-set_other (set l (2 * b) (p + 1)) (2 * b + 1) c (q + 1) 0 g ∙ get_or-set_other l (2 * b) c (p + 1) 0 f

-- every other key stays
pub after-other : (s : Steering) (r p c : ℕ) → (c ≡ 2 * s.bonds → ⊥) → (c ≡ 2 * s.bonds + 1 → ⊥) → get_or (keys_after s r p) c 0 ≡ get_or s.keys c 0
after-other s r p c f g =
    by-test (λ (y : List ℕ). get_or y c 0 ≡ get_or s.keys c 0) (ltb (get_or s.opener r 0 - 1) s.hub.0) _ _
    (λ e. keyed-other s.keys s.bonds (get_or s.offset r 0) p c f g)
    (λ e. keyed-other s.keys s.bonds p (get_or s.offset r 0) c f g)
