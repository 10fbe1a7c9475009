-- Where the digits of bridges stand: each is the key of one end of one bond, and a bond without keys leads to a later atom than all bonds before it. Assumes nothing.
use Prim.Native.Nat.{ℕ, suc, ◌+◌, ◌*◌, ◌-◌, ◌≤◌, ◌<◌}
use native.Mathlib.Omega.{arith}
use native.Mathlib.Decide.{ℕ_discrete, dec_lt}
use mathlib.Core.Path.{◌≡◌, sym, ap, subst, ◌∙◌}
use mathlib.Core.Bool.{Bool, true, false}
use mathlib.Core.Logic.{inl}
use mathlib.Core.List.{List}
use lib.ListN.{length, get_or, set, length-set}
use lib.Seq.{get_or-set_same, get_or-set_other}
use lib.IntN.{ℤ}
use lib.Dec.{ltb}
use Rattle.loops.specs.Loop.{pick}
use Rattle.table.specs.declared.Bond.{Bond}
use Rattle.table.specs.Limits.{bond_cells, max_bonds, SECOND}
use Rattle.table.specs.Cells.{number, bond_place, end2}
use Rattle.table.specs.Rows.{with_bond}
use Rattle.table.proofs.Rows.{with-bond-other, with-bond-row}
use Rattle.ids.specs.Limits.{bridges}
use Rattle.reading_state.specs.State.{Steering, keyed, keys_after, bridged}
use Rattle.reading.proofs.Cases.{by-test}
use Rattle.reading.proofs.Sane.{Steers}

-- no number but 0 stands twice in a list
abbrev Once : List ℕ → Type 0
Once l = (j k : ℕ) → (j ≡ k → ⊥) → 0 < get_or l j 0 → get_or l j 0 ≡ get_or l k 0 → ⊥

-- the digits before f: those of bonds and those of open bridges, all at different places; no keys but those of bonds
pub record Digits (f : ℕ) (s : Steering) : Type 0 where
  pub behind : (k : ℕ) → get_or s.keys k 0 ≤ f
  pub opened : (r : ℕ) → 0 < get_or s.opener r 0 → get_or s.offset r 0 < f
  pub once : Once s.keys
  pub waiting : (r k : ℕ) → 0 < get_or s.opener r 0 → get_or s.keys k 0 ≡ get_or s.offset r 0 + 1 → ⊥
  pub others : (r c : ℕ) → (r ≡ c → ⊥) → 0 < get_or s.opener r 0 → 0 < get_or s.opener c 0 → get_or s.offset r 0 ≡ get_or s.offset c 0 → ⊥
  pub unwritten : (k : ℕ) → 2 * s.bonds ≤ k → get_or s.keys k 0 ≡ 0

-- a bond with no key at an end leads to a later atom than the bonds before it
abbrev pub Chains : List ℕ → List ℤ → ℕ → Type 0
Chains keys bonds m = (b c : ℕ) (x : Bool) → b < c → c < m → get_or keys (2 * c + pick x 1 0) 0 ≡ 0 → end2 bonds b < end2 bonds c

-- ---- one cell written
set-each : (P : ℕ → Type 0) (l : List ℕ) (i v : ℕ) → i < length l → P v → ((k : ℕ) → P (get_or l k 0)) → (k : ℕ) → P (get_or (set l i v) k 0)
set-each P l i v h pv pl k = split (ℕ_discrete k i)
  where
    split : Dec (k ≡ i) → P (get_or (set l i v) k 0)
    split (yes e) = rw (e, get_or-set_same l i v 0 h) pv
    split (no n) = rw (get_or-set_other l i k v 0 n) (pl k)

set-once : (l : List ℕ) (i v : ℕ) → i < length l → ((k : ℕ) → get_or l k 0 ≡ v → ⊥) → Once l → Once (set l i v)
set-once l i v h fresh o j k n p e = split (ℕ_discrete j i) (ℕ_discrete k i)
  where
    new : (c : ℕ) → c ≡ i → get_or (set l i v) c 0 ≡ v
    new c q = ap (λ (x : ℕ). get_or (set l i v) x 0) q ∙ get_or-set_same l i v 0 h

    old : (c : ℕ) → (c ≡ i → ⊥) → get_or (set l i v) c 0 ≡ get_or l c 0
    old c q = get_or-set_other l i c v 0 q

    split : Dec (j ≡ i) → Dec (k ≡ i) → ⊥
    split (yes a) (yes b) = n (a ∙ sym b)
    split (yes a) (no b) = fresh k (sym (old k b) ∙ sym e ∙ new j a)
    split (no a) (yes b) = fresh j (sym (old j a) ∙ e ∙ new k b)
    split (no a) (no b) = o j k n (subst (λ (x : ℕ). 0 < x) (old j a) p) (sym (old j a) ∙ e ∙ old k b)

-- ---- the steering
module _ {f : ℕ} {s : Steering} (w : Digits f s) where
  pub digits-later : (g : ℕ) → f ≤ g → Digits g s
  digits-later g h =
      record {
        behind = λ k. omega (arith, w.behind k);
        opened = λ r l. omega (arith, w.opened r l);
        once = w.once;
        waiting = w.waiting;
        others = w.others;
        unwritten = w.unwritten;
      }

  module _ {i : ℕ} (v : Steers i s) (r o : ℕ) (h : r < bridges) (before : f ≤ o) where
    -- an opener that is not the one written
    still : (a c : ℕ) → (c ≡ r → ⊥) → 0 < get_or (set s.opener r a) c 0 → 0 < get_or s.opener c 0
    still a c n l = subst (λ (x : ℕ). 0 < x) (get_or-set_other s.opener r c a 0 n) l

    other_offset : (p c : ℕ) → (c ≡ r → ⊥) → get_or (set s.offset r p) c 0 ≡ get_or s.offset c 0
    other_offset p c n = get_or-set_other s.offset r c p 0 n

    -- a bridge opens at o
    pub digits-opened : (a k : ℕ) → Digits (suc o) (bridged s r a k o s.bonds s.keys)
    digits-opened a k =
        record {
          behind = λ c. omega (arith, w.behind c);
          opened = λ c l. opens c l (ℕ_discrete c r);
          once = w.once;
          waiting = λ c j l e. waits c j l e (ℕ_discrete c r);
          others = λ b c n l g e. differ b c n l g e (ℕ_discrete b r) (ℕ_discrete c r);
          unwritten = w.unwritten;
        }
      where
        here : (c : ℕ) → c ≡ r → get_or (set s.offset r o) c 0 ≡ o
        here c e = ap (λ (x : ℕ). get_or (set s.offset r o) x 0) e ∙ get_or-set_same s.offset r o 0 (omega (arith, v.offset-length))

        opens : (c : ℕ) → 0 < get_or (set s.opener r a) c 0 → Dec (c ≡ r) → get_or (set s.offset r o) c 0 < suc o
        opens c l (yes e) = let q = here c e in omega arith
        opens c l (no n) = let q = other_offset o c n in omega (arith, w.opened c (still a c n l))

        waits : (c j : ℕ) → 0 < get_or (set s.opener r a) c 0 → get_or s.keys j 0 ≡ get_or (set s.offset r o) c 0 + 1 → Dec (c ≡ r) → ⊥
        waits c j l e (yes q) = let p = here c q in omega (arith, w.behind j)
        waits c j l e (no n) = w.waiting c j (still a c n l) (e ∙ ap (λ (x : ℕ). x + 1) (other_offset o c n))

        differ : (b c : ℕ) → (b ≡ c → ⊥) → 0 < get_or (set s.opener r a) b 0 → 0 < get_or (set s.opener r a) c 0 → get_or (set s.offset r o) b 0 ≡ get_or (set s.offset r o) c 0 → Dec (b ≡ r) → Dec (c ≡ r) → ⊥
        differ b c n l g e (yes x) (yes y) = n (x ∙ sym y)
        differ b c n l g e (yes x) (no y) = let p = here b x in let q = other_offset o c y in omega (arith, w.opened c (still a c y g))
        differ b c n l g e (no x) (yes y) = let p = here c y in let q = other_offset o b x in omega (arith, w.opened b (still a b x l))
        differ b c n l g e (no x) (no y) = w.others b c n (still a b x l) (still a c y g) (sym (other_offset o b x) ∙ e ∙ other_offset o c y)

    -- a bridge closes: its bond gets the keys x and y, where no other digit stands
    module _ (room : s.bonds < max_bonds) where
      closed-with : (x y : ℕ) → x ≤ o → y ≤ o → (x ≡ y → ⊥) → ((k : ℕ) → get_or s.keys k 0 ≡ x + 1 → ⊥) → ((k : ℕ) → get_or s.keys k 0 ≡ y + 1 → ⊥)
          → ((c : ℕ) → (c ≡ r → ⊥) → 0 < get_or s.opener c 0 → x ≡ get_or s.offset c 0 → ⊥) → ((c : ℕ) → (c ≡ r → ⊥) → 0 < get_or s.opener c 0 → y ≡ get_or s.offset c 0 → ⊥)
          → Digits (suc o) (bridged s r 0 0 0 (s.bonds + 1) (keyed s.keys s.bonds x y))
      closed-with x y hx hy xy fx fy ox oy =
          record {
            behind = keys-each (λ u. u ≤ suc o) (omega arith) (omega arith) (λ k. omega (arith, w.behind k));
            opened = λ c l. let n = other c l in let q = other_offset 0 c n in omega (arith, w.opened c (still 0 c n l));
            once = set-once first (2 * s.bonds + 1) (y + 1) room2 (set-each (λ u. u ≡ y + 1 → ⊥) s.keys (2 * s.bonds) (x + 1) room1 (λ e. xy (omega arith)) fy) (set-once s.keys (2 * s.bonds) (x + 1) room1 fx w.once);
            waiting = λ c k l e.
                let n = other c l in
                keys-each (λ u. u ≡ get_or s.offset c 0 + 1 → ⊥) (λ q. ox c n (still 0 c n l) (omega arith)) (λ q. oy c n (still 0 c n l) (omega arith)) (λ j. w.waiting c j (still 0 c n l)) k
                (e ∙ ap (λ (z : ℕ). z + 1) (other_offset 0 c n));
            others = λ b c n l g e.
                let p = other b l in
                let q = other c g in
                w.others b c n (still 0 b p l) (still 0 c q g) (sym (other_offset 0 b p) ∙ e ∙ other_offset 0 c q);
            unwritten = λ k l. get_or-set_other first (2 * s.bonds + 1) k (y + 1) 0 (λ e. omega arith) ∙ get_or-set_other s.keys (2 * s.bonds) k (x + 1) 0 (λ e. omega arith) ∙ w.unwritten k (omega arith);
          }
        where
          first : List ℕ
          first = set s.keys (2 * s.bonds) (x + 1)

          room1 : 2 * s.bonds < length s.keys
          room1 = omega (arith, v.keys_length)

          room2 : 2 * s.bonds + 1 < length first
          room2 = rw length-set (omega (arith, v.keys_length))

          keys-each : (P : ℕ → Type 0) → P (x + 1) → P (y + 1) → ((k : ℕ) → P (get_or s.keys k 0)) → (k : ℕ) → P (get_or (keyed s.keys s.bonds x y) k 0)
          keys-each P px py pl = set-each P first (2 * s.bonds + 1) (y + 1) room2 py (set-each P s.keys (2 * s.bonds) (x + 1) room1 px pl)

          other : (c : ℕ) → 0 < get_or (set s.opener r 0) c 0 → c ≡ r → ⊥
          other c l e = let z : get_or (set s.opener r 0) c 0 ≡ 0 = ap (λ (j : ℕ). get_or (set s.opener r 0) j 0) e ∙ get_or-set_same s.opener r 0 0 (omega (arith, v.opener-length)) in omega arith

      pub digits-closed : 0 < get_or s.opener r 0 → Digits (suc o) (bridged s r 0 0 0 (s.bonds + 1) (keys_after s r o))
      digits-closed l =
          let p : ℕ = get_or s.offset r 0 in
          let early = w.opened r l in
          let fresh : (k : ℕ) → get_or s.keys k 0 ≡ o + 1 → ⊥ = λ k e. omega (arith, w.behind k) in
          let ours : (c : ℕ) → (c ≡ r → ⊥) → 0 < get_or s.opener c 0 → p ≡ get_or s.offset c 0 → ⊥ = λ c n g. w.others r c (λ e. n (sym e)) l g in
          let new : (c : ℕ) → (c ≡ r → ⊥) → 0 < get_or s.opener c 0 → o ≡ get_or s.offset c 0 → ⊥ = λ c n g e. omega (arith, w.opened c g) in
          by-test (λ (y : List ℕ). Digits (suc o) (bridged s r 0 0 0 (s.bonds + 1) y)) (ltb (get_or s.opener r 0 - 1) s.hub.0) _ _
          (λ e. closed-with p o (omega arith) (omega arith) (λ q. omega arith) (λ k. w.waiting r k l) fresh ours new)
          (λ e. closed-with o p (omega arith) (omega arith) (λ q. omega arith) fresh (λ k. w.waiting r k l) new ours)

-- ---- the bonds
end_before : (t : List ℤ) (m : ℕ) (x : Bond) (c : ℕ) → c < m → end2 (with_bond t m x) c ≡ end2 t c
end_before t m x c l = ap number (with-bond-other t m x (bond_place c SECOND) (inl (omega arith)))

module _ (keys : List ℕ) (t : List ℤ) (m : ℕ) (w : Chains keys t m) where
  -- an atom more, joined to one before it
  pub chain_more : (x : Bond) (n : ℕ) → bond_cells * m + bond_cells ≤ length t → number x.second ≡ n → ((b : ℕ) → b < m → end2 t b < n) → Chains keys (with_bond t m x) (m + 1)
  chain_more x n room e below b c y l g z = split (dec_lt c m)
    where
      split : Dec (c < m) → end2 (with_bond t m x) b < end2 (with_bond t m x) c
      split (yes h) = let p = end_before t m x b (omega arith) in let q = end_before t m x c h in omega (arith, w b c y l h z)
      split (no h) =
          let i : c ≡ m = omega arith in
          let p = end_before t m x b (omega arith) in
          let q : end2 (with_bond t m x) c ≡ n = ap (end2 (with_bond t m x)) i ∙ ap (λ (r : Bond). number r.second) (with-bond-row t m x room) ∙ e in
          omega (arith, below b (omega arith))

  -- a bridge more, with its keys
  bridge-more : (u : List ℕ) (x : Bond) → ((k : ℕ) → k < 2 * m → get_or u k 0 ≡ get_or keys k 0) → ((y : Bool) → get_or u (2 * m + pick y 1 0) 0 ≡ 0 → ⊥) → Chains u (with_bond t m x) (m + 1)
  bridge-more u x same some b c y l g z = split (dec_lt c m)
    where
      within : (v : Bool) → c < m → 2 * c + pick v 1 0 < 2 * m
      within true h = omega arith
      within false h = omega arith

      split : Dec (c < m) → end2 (with_bond t m x) b < end2 (with_bond t m x) c
      split (yes h) = let p = end_before t m x b (omega arith) in let q = end_before t m x c h in omega (arith, w b c y l h (sym (same (2 * c + pick y 1 0) (within y h)) ∙ z))
      split (no h) = let i : c ≡ m = omega arith in absurd (some y (ap (λ (j : ℕ). get_or u (2 * j + pick y 1 0) 0) (sym i) ∙ z))

  keyed-more : (p q : ℕ) (x : Bond) → 2 * m + 1 < length keys → Chains (keyed keys m p q) (with_bond t m x) (m + 1)
  keyed-more p q x room = bridge-more (keyed keys m p q) x same some
    where
      first : List ℕ
      first = set keys (2 * m) (p + 1)

      same : (k : ℕ) → k < 2 * m → get_or (keyed keys m p q) k 0 ≡ get_or keys k 0
      same k l = get_or-set_other first (2 * m + 1) k (q + 1) 0 (λ e. omega arith) ∙ get_or-set_other keys (2 * m) k (p + 1) 0 (λ e. omega arith)

      some : (y : Bool) → get_or (keyed keys m p q) (2 * m + pick y 1 0) 0 ≡ 0 → ⊥
      some true e = let z = get_or-set_same first (2 * m + 1) (q + 1) 0 (rw length-set room) in omega arith
      some false e =
          let i : 2 * m + 0 ≡ 2 * m = omega arith in
          let z = ap (λ (j : ℕ). get_or (keyed keys m p q) j 0) i ∙ get_or-set_other first (2 * m + 1) (2 * m) (q + 1) 0 (λ n. omega arith) ∙ get_or-set_same keys (2 * m) (p + 1) 0 (omega arith) in
          omega arith

pub chain-closed : (s : Steering) (t : List ℤ) (r o : ℕ) (x : Bond) → 2 * s.bonds + 1 < length s.keys → Chains s.keys t s.bonds → Chains (keys_after s r o) (with_bond t s.bonds x) (s.bonds + 1)
chain-closed s t r o x room w =
    by-test (λ (y : List ℕ). Chains y (with_bond t s.bonds x) (s.bonds + 1)) (ltb (get_or s.opener r 0 - 1) s.hub.0) _ _
    (λ e. keyed-more s.keys t s.bonds w (get_or s.offset r 0) o x room)
    (λ e. keyed-more s.keys t s.bonds w o (get_or s.offset r 0) x room)
