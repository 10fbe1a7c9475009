-- One law for each way through the code of bridges. Assumes nothing.
use Prim.Native.Nat.{ℕ, ◌+◌, ◌-◌, ◌<◌, ◌≤◌}
use native.Mathlib.Omega.{arith}
use native.Mathlib.Numerals.{add-one}
use mathlib.Core.Path.{◌≡◌, refl, sym, ap, ◌∙◌, subst}
use mathlib.Core.Bool.{Bool, true, false}
use mathlib.Core.List.{List, [], ◌∷◌, ◌++◌}
use lib.ListN.{length, get_or, set}
use lib.Dec.{eqb, ltb}
use borrow.Author.Tests.{eqb-true, eqb-false, lt-ltb, le-ltb}
use Rattle.kinds.specs.Kind.{bond_symbol}
use Rattle.writing_walk.specs.Token.{Bond, eq_bond}
use Rattle.writing_walk.specs.Emit.{Slot, find, release, lowest, insert, close_all, open_all}
use Rattle.writing_walk.proofs.Count.{count}
use Rattle.writing_walk.proofs.Read.{open_of, Within, first-in, close-within}
use Rattle.buffer.specs.Buffer.{BufferAt, Wrote}
use Rattle.buffer.proofs.Laws.{also, as_is, nothing}
use Rattle.writing.specs.Spell.{kind_bytes, bridge_bytes}
use Rattle.writing_bridges.specs.Unused.{many, Mark, Marked}
use Rattle.writing_bridges.specs.Slots.{index_of, Near, Bridged, Slots, closes_from, opens_from, close_bytes, open_bytes, fits, Released, Inserted, Closed, Opened, Ended}
use Rattle.writing_bridges.proofs.Slots.{same_number, lowest-index, slots-insert, find-index, slots-release}
use Rattle.writing_bridges.proofs.Sweep.{sweep-none, sweep-first}

-- the nearest so far, with one number more
pub near-start : {ends keys : List ℕ} {x from k : ℕ} → Near ends keys x from k 0 k
near-start = record { within = omega arith; here = λ h. absurd (omega arith); least = λ i h. absurd (omega arith) }

module _ {ends keys : List ℕ} {x from k i best : ℕ} (l : i < k) (n : Near ends keys x from k i best) where
  more : (r : ℕ) → r ≤ k → (r < k → (get_or ends r 0 ≡ x) × (from ≤ get_or keys r 0))
      → ((j : ℕ) → j < i → get_or ends j 0 ≡ x → from ≤ get_or keys j 0 → (r < k) × (get_or keys r 0 ≤ get_or keys j 0))
      → (get_or ends i 0 ≡ x → from ≤ get_or keys i 0 → (r < k) × (get_or keys r 0 ≤ get_or keys i 0)) → Near ends keys x from k (i + 1) r
  more r w h a b = record { within = w; here = h; least = λ j g p q. go j g p q (eqb j i) refl }
    where
      go : (j : ℕ) → j < i + 1 → get_or ends j 0 ≡ x → from ≤ get_or keys j 0 → (t : Bool) → eqb j i ≡ t → (r < k) × (get_or keys r 0 ≤ get_or keys j 0)
      go j g p q true e =
          let z : j ≡ i = eqb-true j i e in
          subst (λ (y : ℕ). (r < k) × (get_or keys r 0 ≤ get_or keys y 0)) (sym z) (b (subst (λ (y : ℕ). get_or ends y 0 ≡ x) z p) (subst (λ (y : ℕ). from ≤ get_or keys y 0) z q))
      go j g p q false e = let z = eqb-false j i e in a j (omega arith) p q

  pub near-other : (get_or ends i 0 ≡ x → ⊥) → Near ends keys x from k (i + 1) best
  near-other e = more best n.within n.here n.least (λ p q. absurd (e p))

  pub near-low : get_or keys i 0 < from → Near ends keys x from k (i + 1) best
  near-low h = more best n.within n.here n.least (λ p q. absurd (omega arith))

  pub near_new : get_or ends i 0 ≡ x → from ≤ get_or keys i 0 → k ≤ best → Near ends keys x from k (i + 1) i
  near_new e h g = more i (omega arith) (λ _. (e, h)) (λ j m p q. absurd (let w = n.least j m p q in omega arith)) (λ p q. (l, omega arith))

  pub near-keep : best < k → get_or keys best 0 ≤ get_or keys i 0 → Near ends keys x from k (i + 1) best
  near-keep h g = more best n.within n.here n.least (λ p q. (h, g))

  pub near-closer : get_or ends i 0 ≡ x → from ≤ get_or keys i 0 → get_or keys i 0 < get_or keys best 0 → Near ends keys x from k (i + 1) i
  near-closer e h g = more i (omega arith) (λ _. (e, h)) (λ j m p q. (l, (let w = n.least j m p q in omega arith))) (λ p q. (l, omega arith))

-- closings
module _ (los his : List ℕ) (k x y i : ℕ) (near : Near his los x y k k i) where
  closes-none : (f : ℕ → Bond) (n : ℕ) → Bridged f n k los his → k ≤ i → closes_from f n k x y ≡ []
  closes-none f n b h = sweep-none (λ b. b.lo) (λ b. b.hi) f n k x y i his los b.lo b.hi near h (n - y)

  closes-first : (f : ℕ → Bond) (n : ℕ) → Bridged f n k los his → i < k → closes_from f n k x y ≡ f i ∷ closes_from f n k x (get_or los i 0 + 1)
  closes-first f n b h =
      let o = b.ordered i h in
      let s = b.inside i h in
      sweep-first (λ b. b.lo) (λ b. b.hi) f n k x y i his los b.lo b.hi near h (omega arith) (λ j g p q. b.apart j i g h q p)
      ∙ ap (λ (z : ℕ). f i ∷ closes_from f n k x (z + 1)) (b.lo i h)

  pub close-end : (a : List ℕ) (p : BufferAt) → k ≤ i → Closed los his k x y a a p p
  unfolding close_bytes
  close-end a p h = record { told = λ f n t b s w. (let e = closes-none f n b h in (as_is (ap (λ l. close_bytes l t) e) nothing, subst (λ l. Slots f k a (close_all l t)) (sym e) s)) }

  -- a bond that closes is open
  is_open : (f : ℕ → Bond) (n : ℕ) (t : List Slot) → Bridged f n k los his → i < k → Within (closes_from f n k x y) (open_of t) → 0 < count (eq_bond (f i)) (open_of t)
  is_open f n t b h w = first-in (f i) (closes_from f n k x (get_or los i 0 + 1)) (open_of t) (subst (λ l. Within l (open_of t)) (closes-first f n b h) w)

  pub close-next : (a a1 c : List ℕ) (p q s : BufferAt) → i < k → Released i a a1 p q → Closed los his k x (get_or los i 0 + 1) a1 c q s → Closed los his k x y a c p s
  unfolding close_bytes
  close-next a a1 c p q s h r n =
      record {
        told = λ f N t b sl wi.
            let ca = closes-first f N b h in
            let R = closes_from f N k x (get_or los i 0 + 1) in
            let v = r.told f N k los his t b h sl (is_open f N t b h wi) in
            let wi1 : Within R (open_of (release (f i) t)) = close-within (f i) R t (subst (λ l. Within l (open_of t)) ca wi) in
            let m = n.told f N (release (f i) t) b v.1 wi1 in
            (as_is (ap (λ l. close_bytes l t) ca) (also v.0 m.0), subst (λ l. Slots f k c (close_all l t)) (sym ca) m.1);
      }

-- openings
module _ (los his kinds : List ℕ) (k x y i : ℕ) (near : Near los his x y k k i) where
  opens-none : (f : ℕ → Bond) (n : ℕ) → Bridged f n k los his → k ≤ i → opens_from f n k x y ≡ []
  opens-none f n b h = sweep-none (λ b. b.hi) (λ b. b.lo) f n k x y i los his b.hi b.lo near h (n - y)

  opens-first : (f : ℕ → Bond) (n : ℕ) → Bridged f n k los his → i < k → opens_from f n k x y ≡ f i ∷ opens_from f n k x (get_or his i 0 + 1)
  opens-first f n b h =
      sweep-first (λ b. b.hi) (λ b. b.lo) f n k x y i los his b.hi b.lo near h (b.inside i h) (λ j g p q. b.apart j i g h p q)
      ∙ ap (λ (z : ℕ). f i ∷ opens_from f n k x (z + 1)) (b.hi i h)

  pub open-end : (a : List ℕ) (p : BufferAt) → k ≤ i → Opened los his kinds k x y a a true p p
  unfolding open_bytes fits
  open-end a p h =
      record { told = λ f n t b kk s. (let e = opens-none f n b h in (sym (ap (λ l. fits (length a) l t) e), λ _. (as_is (ap (λ l. open_bytes l t) e) nothing, subst (λ l. Slots f k a (open_all l t)) (sym e) s))) }

  pub open_full : (a c : List ℕ) (p q : BufferAt) (few : Bool) (kd : ℕ) → i < k → few ≡ false → Inserted i kd a c few p q → Opened los his kinds k x y a c few p q
  unfolding fits
  open_full a c p q few kd h e n =
      record {
        told = λ f N t b kk s.
            let m = n.told f k t h s in
            let z : ltb (lowest t) (length a) ≡ false = sym m.0 ∙ e in
            (e ∙ sym (ap (λ l. fits (length a) l t) (opens-first f N b h) ∙ rw z), λ w. absurd (let v : ◌≡◌ {A = ℕ} 0 1 = cc in omega arith));
      }

  pub open_next : (a a1 c : List ℕ) (p q s : BufferAt) (one few : Bool) (kd : ℕ) → i < k → one ≡ true → length a1 ≡ length a → kd ≡ get_or kinds i 0 → Inserted i kd a a1 one p q
      → Opened los his kinds k x (get_or his i 0 + 1) a1 c few q s → Opened los his kinds k x y a c few p s
  unfolding open_bytes fits
  open_next a a1 c p q s one few kd h e len ek r n =
      record {
        told = λ f N t b kk sl.
            let ca = opens-first f N b h in
            let v = r.told f k t h sl in
            let z : ltb (lowest t) (length a) ≡ true = sym v.0 ∙ e in
            let m = n.told f N (insert (f i) t) b kk (v.1 e).1 in (
              m.0 ∙ sym (ap (λ l. fits (length a) l t) ca ∙ rw (z, len)),
              λ y. (as_is (ap (λ l. open_bytes l t) ca) (also (as_is (ap (λ (j : ℕ). kind_bytes j ++ bridge_bytes (lowest t)) (kk i h ∙ sym ek)) (v.1 e).0) (m.1 y).0), subst (λ l. Slots f k c (open_all l t)) (sym ca) (m.1 y).1),
            );
      }

-- one bond is closed, or opened
pub released-lost : (i : ℕ) (a : List ℕ) (p : BufferAt) (r : ℕ) → r ≡ index_of (i + 1) a → length a ≤ r → Released i a a p p
released-lost i a p r e g =
    record {
      told = λ f n k los his t b h s o.
          absurd (let q = find-index f k (same_number b) i h s o in let z : r ≡ find (f i) t = e ∙ ap (λ (j : ℕ). index_of j a) (add-one i) ∙ q.0 in let v = q.1 in omega arith);
    }

pub released : (i : ℕ) (a c : List ℕ) (p q : BufferAt) (r : ℕ) → r ≡ index_of (i + 1) a → c ≡ set a r 0 → Wrote (kind_bytes 0 ++ bridge_bytes r) p q → Released i a c p q
unfolding kind_bytes bond_symbol
released i a c p q r e g w =
    record {
      told = λ f n k los his t b h s o.
          let z : r ≡ find (f i) t = e ∙ ap (λ (j : ℕ). index_of j a) (add-one i) ∙ (find-index f k (same_number b) i h s o).0 in
          (as_is (ap bridge_bytes (sym z)) w, subst (λ l. Slots f k l (release (f i) t)) (sym (g ∙ ap (λ (j : ℕ). set a j 0) z)) (slots-release f k (same_number b) i h s o));
    }

pub inserted-full : (i kd : ℕ) (a : List ℕ) (p q : BufferAt) (r : ℕ) → r ≡ index_of 0 a → length a ≤ r → Inserted i kd a a false p q
inserted-full i kd a p q r e g =
    record {
      told = λ f k t h s.
          let z : r ≡ lowest t = e ∙ lowest-index f k s in
          (sym (le-ltb (lowest t) (length a) (omega arith)), λ w. absurd (let v : ◌≡◌ {A = ℕ} 0 1 = cc in omega arith));
    }

pub inserted : (i kd : ℕ) (a c : List ℕ) (p q : BufferAt) (r : ℕ) → r ≡ index_of 0 a → r < length a → c ≡ set a r (i + 1) → Wrote (kind_bytes kd ++ bridge_bytes r) p q → Inserted i kd a c true p q
inserted i kd a c p q r e l g w =
    record {
      told = λ f k t h s.
          let z : r ≡ lowest t = e ∙ lowest-index f k s in (
            sym (lt-ltb (lowest t) (length a) (omega arith)),
            λ y. (as_is (ap (λ (j : ℕ). kind_bytes kd ++ bridge_bytes j) (sym z)) w, subst (λ x. Slots f k x (insert (f i) t)) (sym (g ∙ (λ j. set a (z j) (add-one i j)))) (slots-insert f k i h s (omega arith))),
          );
    }

-- what closes at an atom and then what opens there
pub ended : (los his kinds : List ℕ) (k x : ℕ) (a b c : List ℕ) (few : Bool) (p q r : BufferAt) → length b ≡ length a → Closed los his k x 0 a b p q → Opened los his kinds k x 0 b c few q r → Ended los his kinds k x a c few p r
ended los his kinds k x a b c few p q r len cl op =
    record {
      told = λ f n t br kk sl wi.
          let C = cl.told f n t br sl wi in
          let O = op.told f n (close_all (closes_from f n k x 0) t) br kk C.1 in
          (O.0 ∙ ap (λ (j : ℕ). fits j (opens_from f n k x 0) (close_all (closes_from f n k x 0) t)) len, λ y. (also C.0 (O.1 y).0, (O.1 y).1));
    }

-- no bond with the end x goes on from y
near_none : (ends keys : List ℕ) (x y k : ℕ) → ((i : ℕ) → i < k → get_or ends i 0 ≡ x → y ≤ get_or keys i 0 → ⊥) → Near ends keys x y k k k
near_none ends keys x y k n = record { within = omega arith; here = λ h. absurd (omega arith); least = λ i h e g. absurd (n i h e g) }

module _ (marks los his : List ℕ) (k x : ℕ) (m : Marked marks los his k) where
  -- at an atom that is not marked nothing closes and nothing opens
  unmarked : (ends keys : List ℕ) → get_or marks x 0 ≡ 0 → ((i : ℕ) → i < k → Mark (get_or marks (get_or ends i 0) 0) i) → Near ends keys x 0 k k k
  unmarked ends keys off n =
      near_none ends keys x 0 k (λ i h e g. let y : get_or marks (get_or ends i 0) 0 ≡ 0 = ap (λ (j : ℕ). get_or marks j 0) e ∙ off in let z = (n i h).some in omega arith)

  pub ends-none : (kinds a : List ℕ) (p : BufferAt) → get_or marks x 0 ≡ 0 → Ended los his kinds k x a a true p p
  ends-none kinds a p off =
      ended los his kinds k x a a a true p p p refl (close-end los his k x 0 k (unmarked his los off m.his) a p (omega arith)) (open-end los his kinds k x 0 k (unmarked los his off m.los) a p (omega arith))

  -- at an atom with the mark of one bond that bond closes or opens
  module _ (on : get_or marks x 0 ≡ 0 → ⊥) (one : get_or marks x 0 < many) where
    abbrev I : ℕ
    I = get_or marks x 0 - 1

    pub single-below : get_or marks x 0 - 1 < k
    single-below = let w = (m.single x (omega arith) one).within in omega arith

    is-single : (ends : List ℕ) → ((i : ℕ) → i < k → Mark (get_or marks (get_or ends i 0) 0) i) → (i : ℕ) → i < k → get_or ends i 0 ≡ x → i ≡ I
    is-single ends n i h e =
        let y : get_or marks (get_or ends i 0) 0 ≡ get_or marks x 0 = ap (λ (j : ℕ). get_or marks j 0) e in
        let z = (n i h).only (omega arith) in
        omega arith

    module _ (ends keys : List ℕ) (n : (i : ℕ) → i < k → Mark (get_or marks (get_or ends i 0) 0) i) where
      near-single : get_or ends I 0 ≡ x → Near ends keys x 0 k k I
      near-single e =
          let l = single-below in
          record {
            within = omega arith;
            here = λ h. (e, omega arith);
            least = λ i h q g. (l, (let z : get_or keys i 0 ≡ get_or keys I 0 = ap (λ (j : ℕ). get_or keys j 0) (is-single ends n i h q) in omega arith));
          }

      near-past : Near ends keys x (get_or keys I 0 + 1) k k k
      near-past =
          near_none ends keys x (get_or keys I 0 + 1) k (λ i h q g. let z : get_or keys i 0 ≡ get_or keys I 0 = ap (λ (j : ℕ). get_or keys j 0) (is-single ends n i h q) in omega arith)

      near-not : (get_or ends I 0 ≡ x → ⊥) → Near ends keys x 0 k k k
      near-not e = near_none ends keys x 0 k (λ i h q g. e (subst (λ (j : ℕ). get_or ends j 0 ≡ x) (is-single ends n i h q) q))

    pub ends-closing : (kinds a c : List ℕ) (p q : BufferAt) → length c ≡ length a → get_or his I 0 ≡ x → Released I a c p q → Ended los his kinds k x a c true p q
    ends-closing kinds a c p q len e r =
        ended los his kinds k x a c c true p q q len
        (close-next los his k x 0 I (near-single his los m.his e) a c c p q q single-below r (close-end los his k x (get_or los I 0 + 1) k (near-past his los m.his) c q (omega arith)))
        (record {
          told = λ f n t b kk s.
              let lo = b.lo I single-below in
              let hi = b.hi I single-below in
              let or = b.ordered I single-below in
              (open-end los his kinds k x 0 k (near-not los his m.los (λ g. omega arith)) c q (omega arith)).told f n t b kk s;
        })

    pub ends-opening : (kinds a c : List ℕ) (p q : BufferAt) (few : Bool) (kd : ℕ) → length c ≡ length a → (get_or his I 0 ≡ x → ⊥) → kd ≡ get_or kinds I 0 → Inserted I kd a c few p q → Ended los his kinds k x a c few p q
    ends-opening kinds a c p q few kd len e ek r =
        ended los his kinds k x a a c few p p q refl (close-end los his k x 0 k (near-not his los m.his e) a p (omega arith)) (go few refl)
      where
        near : Near los his x 0 k k I
        near = near-single los his m.los ((m.single x (omega arith) one).low e)

        go : (b : Bool) → few ≡ b → Opened los his kinds k x 0 a c few p q
        go true t =
            subst (λ (b : Bool). Opened los his kinds k x 0 a c b p q) (sym t)
            (open_next los his kinds k x 0 I near a c c p q q few true kd single-below t len ek r (open-end los his kinds k x (get_or his I 0 + 1) k (near-past los his m.los) c q (omega arith)))
        go false t = open_full los his kinds k x 0 I near a c p q few kd single-below t r
